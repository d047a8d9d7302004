-- Ask 5 holds of any calls of which demand 2 holds. Assumes nothing but that opening accepts the section.
use Prim.Native.Nat.{ℕ}
use mathlib.Core.Path.{◌≡◌, ap, ◌∙◌, sym}
use mathlib.Core.List.{List}
use Rattle.spec_c_dumper.specs.rules.Types.{Btf, table_of}
use Rattle.spec_c_dumper.specs.rules.Names.{Naming, naming}
use Rattle.spec_c_dumper.specs.rules.Machine.{Req}
use Rattle.spec_c_dumper.proofs.rules.Refusals.{Passing, type_passing}
use Rattle.spec_c_dumper.specs.names_apart.Naming.{apart, none_shown}
use Rattle.spec_c_dumper.specs.needs.Needs.{WF}
use Rattle.spec_c_dumper.specs.needs.Session.{text_of, no_names}
use Rattle.spec_opening.specs.Causes.{opening_number}
use Rattle.spec_opening.specs.Described.{table_in}
use Rattle.spec_declared_first.specs.Notes.{notes_by}
use Rattle.spec_declared_first.specs.Declared.{NoBuiltin, DeclaredAbove}
use Rattle.spec_declared_first.proofs.Alike.{notes_pieces}
use Rattle.spec_declared_first.proofs.Renamed.{only_mentions}
use Rattle.spec_declared_first.proofs.Kept.{naming_never, apart_never}
use Rattle.spec_declared_first.proofs.Claims.{plain_declared, apart_declared}
use Rattle.proof_calls.proofs.described.Table.{described_wf}
use Rattle.claims.specs.Calls.{Calls, After}
use Rattle.claims.specs.Demands.{Demands, Stated}
use Rattle.claims.specs.Request05_declared_first.{DeclaredFirst, Request05}

module _ {R C : Type 0} (K : Calls R C) (p modes : ℕ) (s : List ℕ) (n : ℕ) (stated : Stated K p modes s n)
    (sound : (c : C) (rs : List Req) → After K p modes s n c rs → opening_number p s n ≡ 0) where
  abbrev D : Btf
  D = table_in p modes s

  by_demand2 : (wf : WF (table_of D)) {U : Type 0} (N : Naming U) (u : U) (c : C) (rs : List Req) → Demands K p modes s n N u c rs → (Passing N → ⊥) → (NoBuiltin D → DeclaredAbove D (notes_by N D u rs)) → DeclaredFirst K p modes s n U N u c rs
  by_demand2 wf N u c rs d never declared = record {
    text = d.demand2.text ∙ ap text_of (sym (notes_pieces N D wf u rs));
    only = λ other ren. only_mentions N other ren (λ space id name v e. absurd (never (type_passing space id name v e))) D;
    declared = declared;
  }

  pub declared_first : Request05 K p modes s n
  declared_first = record {
    plain = λ y off c rs a.
        let wf = described_wf p modes s n y (sound c rs a) in
        by_demand2 wf naming (no_names D) c rs (stated.plain y off c rs a) naming_never (λ nb. plain_declared D nb wf rs);
    names_apart = λ y on c rs a.
        let wf = described_wf p modes s n y (sound c rs a) in
        by_demand2 wf (apart D) (none_shown D) c rs (stated.names_apart y on c rs a) (apart_never D) (λ nb. apart_declared D nb wf rs);
  }
