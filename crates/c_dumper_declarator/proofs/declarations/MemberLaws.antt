-- What each return of the functions for parameters, members, composites and typedefs comes to. Assumes nothing.
use Prim.Native.Nat.{ℕ, suc, ◌+◌, ◌-◌, ◌<◌, ◌≤◌}
use mathlib.Core.Path.{◌≡◌, ap, ap₂, ◌∙◌, sym, subst}
use mathlib.Core.Bool.{Bool, true, false, ◌&&◌}
use mathlib.Core.List.{List, []}
use native.Mathlib.Omega.{arith}
use lib.Dec.{eqb, leb}
use borrow.Author.Tests.{ne_eqb, le-leb, lt-leb}
use Rattle.spec_bytes.specs.text.Text.{ascii, pfx, whole, cut}
use Rattle.spec_bytes.specs.text.Placed.{put_out, put_text, Placed}
use Rattle.spec_c_dumper.specs.rules.Writer.{Said, Writer, put, stop, nothing, ◌⨾◌, said_names}
use Rattle.spec_c_dumper.specs.rules.Types.{Name, Member, Param, Btf as Rules, Typedef}
use Rattle.spec_c_dumper.specs.rules.Names.{tag_space, ident_space, resolve_type_name, builtin}
use Rattle.spec_c_dumper.specs.rules.Layout.{Pad, end_of}
use Rattle.spec_c_dumper.specs.rules.Placing.{tail_pads}
use Rattle.spec_c_dumper.specs.rules.Decl.{deeper, tail_text, decl_tags, emit_decl_tags, no_params, shown_params, emit_param, emit_params, base_word, composite_head, composite_end}
use Rattle.spec_c_dumper.specs.alignment_once.Writers.{given_once, emit_members_once, composite_body_once, composite_def_once, emit_type_decl_once, emit_composite_def_once, emit_typedef_def_once}
use Rattle.spec_c_dumper.proofs.alignment_once.Keeps.{keeps_members}
use Rattle.btf_layout.specs.remembered.Words.{work_keep, forget}
use Rattle.btf_layout.specs.asked.Asked.{ask_in}
use Rattle.btf_layout.proofs.asked.Stays.{steady_body}
use Rattle.btf_layout.proofs.asked.Given.{given_found, given_refused}
use Rattle.c_dumper_padding.specs.placing.Steps.{body_in}
use Rattle.c_dumper_padding.specs.padding.Asking.{pad_said}
use Rattle.spec_c_dumper.specs.rules.Place.{Wrote, out_of, put_said}
use Rattle.spec_c_dumper.proofs.rules.Writing.{put_only, put_nothing, put_then_kept, said_ended}
use Rattle.spec_c_dumper.proofs.rules.Keeps.{Kept, kept_as, keeps_put, keeps_then, keeps_composite_head}
use Rattle.spec_type_table.specs.declared.types.TypeTable.{TypeTable}
use Rattle.spec_type_table.specs.declared.types.BtfType.{BtfType as Record}
use Rattle.spec_type_table.specs.Names.{str_at}
use Rattle.spec_type_table.specs.Records.{section_word, param_at, member_of}
use Rattle.spec_type_table.specs.Table.{from, param_of, rule_member, btf_of}
use Rattle.std.specs.Prelude.{None, Result, Ok, Err, IsErrAnd, IfOk, ⊤}
use Rattle.spec_bytes.proofs.text.TextLaws.{put_past, put_ended, put_cut}
use Rattle.spec_bytes.specs.declared.refusal.Refusal.{Refusal}
use Rattle.spec_bytes.specs.declared.refusal.Refusal.TheVariants.{TooDeep}
use Rattle.c_dumper_declarator.proofs.declarations.DeclLaws.{too_deep}
use Rattle.spec_bytes.specs.Refusals.{refusal_number}
use Rattle.spec_type_table.specs.Cells.{get_field}
use Rattle.c_dumper_name_versions.proofs.names.Resolve.{put_type_name, resolved_type}
use Rattle.c_dumper_bodies.specs.bodies.Pieces.{comma, params_below, param_text, member_tail, member_text, members_below, end_from, no_decl}
use Rattle.c_dumper_declarator.proofs.declarations.Sequences.{then_assoc, nothing_then}
use Rattle.c_dumper_declarator.proofs.declarations.Turns.{params_turn, members_turn, def_none, def_some}
use Rattle.c_dumper_bodies.proofs.bodies.BodyLaws.{also}
use Rattle.c_dumper_declarator.proofs.declarations.Kept.{Begun, put_begun, Seen, seen, keeps_type, keeps_value, keeps_padding, keeps_body, body_seen, then_on, Leads, leads_end, leads_turn, leads_halt}
use Rattle.c_dumper_declarator.proofs.declarations.Keeping.{said_as, N, Q, T, KeptBy, kept_decl, kept_word, kept_param, kept_pads, kept_member}
use mathlib.Core.Logic.{⊎_elim}
use Rattle.std.proofs.lemmas.Bool.{cases_lt}
use Rattle.spec_type_table.specs.declared.types.BtfMember.{BtfMember}
use Rattle.c_dumper_name_versions.specs.declared.names.versions.Name.{Name as Printing}
use Rattle.c_dumper_name_versions.specs.names.Spelling.{name_text}
use Rattle.c_dumper_name_versions.proofs.names.Spellings.{bare_text}
use Rattle.c_dumper_bodies.specs.declared.bodies.bodies.Spot.{Spot}
use Rattle.c_dumper_bodies.proofs.enumerators.Values.{from_more, from_none}

-- a place by what it is
pub placed_as : (p q : Placed) (t w : List ℕ) (o : Wrote (List ℕ) ⊤) → p ≡ q → out_of p t w ≡ o → out_of q t w ≡ o
placed_as p q t w o e h = ap (λ (x : Placed). out_of x t w) (sym e) ∙ h

no_more : (f : ℕ → Param) (k n : ℕ) → k < n → no_params (from f (k + 1) (n - (k + 1))) ≡ leb n (k + 1)
unfolding from
no_more f k n h =
    ⊎_elim
    (λ l. let e : n - (k + 1) ≡ suc (n - (k + 2)) = omega arith in rw (e, lt-leb n (k + 1) l))
    (λ l. let e : n - (k + 1) ≡ 0 = omega arith in rw (e, le-leb n (k + 1) l))
    (cases_lt (k + 1) n)

module _ (b : TypeTable) (s : List ℕ) where
  -- ---- emit_param
  module _ (below lvl vlen pat k : ℕ) (txt : List ℕ) (at : Placed) (w : List ℕ) (x : ℕ) (p : ℕ) (ep : p ≡ param_at pat k) (ex : x ≡ section_word b s (p + 4)) (q : Bool) (eq : q ≡ (leb vlen (k + 1) && eqb x 0))
      (a : Placed) (t₁ : List ℕ) (o₁ : put_out a t₁ ≡ put_text txt at (whole (comma (eqb k 0)))) where
    abbrev declare : ℕ → Name → Writer (List ℕ)
    declare id name = emit_type_decl_once (Q b s (T b s w)) (N b s) (T b s w) below id name lvl

    type_is : x ≡ (param_of b s pat k).type_id
    unfolding param_of
    type_is = ex ∙ ap (λ (j : ℕ). section_word b s (j + 4)) ep

    test_is : (leb vlen (k + 1) && eqb (param_of b s pat k).type_id 0) ≡ q
    test_is = sym (eq ∙ ap (λ (j : ℕ). leb vlen (k + 1) && eqb j 0) type_is)

    pub param_any : (r : Placed) (t₂ : List ℕ) → q ≡ true → put_out r t₂ ≡ put_text t₁ a (whole (ascii "..."))
        → out_of r t₂ w ≡ put_said txt at (param_text declare (eqb k 0) (param_of b s pat k) (leb vlen (k + 1))) w
    unfolding param_text emit_param
    param_any r t₂ h o₂ =
        also txt at _ _ w a t₁ r t₂ w o₁
        (said_as t₁ a (put (ascii "...")) _ w r t₂ w (sym (ap (λ (z : Bool). elim z as (λ _. Writer (List ℕ)) [ true ↦ put (ascii "...") | false ↦ declare (param_of b s pat k).type_id (param_of b s pat k).name ]) (test_is ∙ h)))
        (put_only _ t₁ a _ w r t₂ o₂))

    name_is : (off : ℕ) (nm : Printing) → off ≡ section_word b s p → nm ≡ record { off = off; number = None } → name_text b s nm ≡ (param_of b s pat k).name
    unfolding param_of
    name_is off nm eo en = bare_text b s nm off en ∙ ap (str_at b s) (eo ∙ ap (section_word b s) ep)

    pub param_decl : (off : ℕ) (nm : Printing) (r : Placed) (t₂ w₂ : List ℕ) → q ≡ false → off ≡ section_word b s p → nm ≡ record { off = off; number = None }
        → out_of r t₂ w₂ ≡ put_said t₁ a (declare x (name_text b s nm)) w
        → out_of r t₂ w₂ ≡ put_said txt at (param_text declare (eqb k 0) (param_of b s pat k) (leb vlen (k + 1))) w
    unfolding param_text emit_param
    param_decl off nm r t₂ w₂ h eo en o₂ =
        also txt at _ _ w a t₁ r t₂ w₂ o₁
        (said_as t₁ a _ _ w r t₂ w₂
        (ap₂ declare type_is (name_is off nm eo en)
        ∙ sym (ap (λ (z : Bool). elim z as (λ _. Writer (List ℕ)) [ true ↦ put (ascii "...") | false ↦ declare (param_of b s pat k).type_id (param_of b s pat k).name ]) (test_is ∙ h)))
        o₂)

  pub param_halts : (below lvl vlen pat k : ℕ) (txt : List ℕ) (at : Placed) (w : List ℕ) (d : Refusal) (t₁ : List ℕ) (r : Placed)
      → put_out (Err d) t₁ ≡ put_text txt at (whole (comma (eqb k 0))) → IsErrAnd r (λ e. e ≡ d)
      → out_of r t₁ w ≡ put_said txt at (param_text (λ id name. emit_type_decl_once (Q b s (T b s w)) (N b s) (T b s w) below id name lvl) (eqb k 0) (param_of b s pat k) (leb vlen (k + 1))) w
  unfolding param_text
  param_halts below lvl vlen pat k txt at w d t₁ r o i = also txt at _ _ w (Err d) t₁ r t₁ w o (said_ended _ t₁ r d _ w i)

  -- ---- emit_params: what is left from the k-th on
  module _ (below lvl : ℕ) (f : ℕ → Param) (vlen : ℕ) where
    params_over : ℕ → Rules → Writer (List ℕ)
    params_over k B = emit_params (λ id name. emit_type_decl_once (Q b s B) (N b s) B below id name lvl) (eqb k 0) (from f k (vlen - k)) ⨾ put (ascii ")")

    pub params_left : ℕ → List ℕ → Begun
    params_left k w = (params_over k (T b s w), w)

    more_first : (k : ℕ) → eqb (k + 1) 0 ≡ false
    more_first k = ne_eqb (k + 1) 0 (λ z. omega arith)

    params_is : (k : ℕ) (B : Rules) → k < vlen
        → params_over k B ≡ param_text (λ id name. emit_type_decl_once (Q b s B) (N b s) B below id name lvl) (eqb k 0) (f k) (leb vlen (k + 1)) ⨾ params_over (k + 1) B
    unfolding params_over
    params_is k B h =
        ap (λ (l : List Param). emit_params (λ id name. emit_type_decl_once (Q b s B) (N b s) B below id name lvl) (eqb k 0) l ⨾ put (ascii ")")) (from_more f k vlen h)
        ∙ ap (λ (v : Writer (List ℕ)). v ⨾ put (ascii ")"))
        (params_turn (λ id name. emit_type_decl_once (Q b s B) (N b s) B below id name lvl) (eqb k 0) (f k) (from f (k + 1) (vlen - (k + 1)))
        ∙ ap₂ (λ (z y : Bool). param_text (λ id name. emit_type_decl_once (Q b s B) (N b s) B below id name lvl) (eqb k 0) (f k) z ⨾ emit_params (λ id name. emit_type_decl_once (Q b s B) (N b s) B below id name lvl) y (from f (k + 1) (vlen - (k + 1)))) (no_more f k vlen h) (sym (more_first k)))
        ∙ then_assoc _ _ _

    pub params_again : (t₀ : List ℕ) (at₀ : Placed) (s₀ : Begun) (t : List ℕ) (p : Placed) (k : ℕ) (w : List ℕ) (r : Placed) (t' w' : List ℕ) → k < vlen
        → Leads b s t₀ at₀ s₀ t p (params_left k w)
        → out_of r t' w' ≡ put_said t p (param_text (λ id name. emit_type_decl_once (Q b s (T b s w)) (N b s) (T b s w) below id name lvl) (eqb k 0) (f k) (leb vlen (k + 1))) w
        → Leads b s t₀ at₀ s₀ t' r (params_left (k + 1) w')
    unfolding params_left seen
    params_again t₀ at₀ s₀ t p k w r t' w' h l o =
        leads_turn b s (λ x. params_over (k + 1) x.0) t₀ at₀ s₀ t p _ _ w r t' w' l (ap (λ (v : Writer (List ℕ)). (v, w)) (params_is k (T b s w) h))
        (kept_param b s (T b s w) below lvl (eqb k 0) (f k) (leb vlen (k + 1))) o

    pub params_halt : (t₀ : List ℕ) (at₀ : Placed) (s₀ : Begun) (t : List ℕ) (p : Placed) (k : ℕ) (w : List ℕ) (d : Refusal) (t' w' : List ℕ) (r : Placed) → k < vlen
        → Leads b s t₀ at₀ s₀ t p (params_left k w)
        → out_of (Err d) t' w' ≡ put_said t p (param_text (λ id name. emit_type_decl_once (Q b s (T b s w)) (N b s) (T b s w) below id name lvl) (eqb k 0) (f k) (leb vlen (k + 1))) w
        → IsErrAnd r (λ e. e ≡ d) → out_of r t' w' ≡ put_begun t₀ at₀ s₀
    unfolding params_left
    params_halt t₀ at₀ s₀ t p k w d t' w' r h l o i =
        leads_halt b s t₀ at₀ s₀ t p _ _ _ w d t' w' r l (ap (λ (v : Writer (List ℕ)). (v, w)) (params_is k (T b s w) h))
        (kept_param b s (T b s w) below lvl (eqb k 0) (f k) (leb vlen (k + 1))) o i

    params_none : (k : ℕ) (B : Rules) → vlen ≤ k → params_over k B ≡ put (ascii ")")
    unfolding params_over emit_params
    params_none k B h =
        ap (λ (l : List Param). emit_params (λ id name. emit_type_decl_once (Q b s B) (N b s) B below id name lvl) (eqb k 0) l ⨾ put (ascii ")")) (from_none f k vlen h) ∙ nothing_then _

    -- the parenthesis, the parameters that were left, the other parenthesis
    pub params_end : (t₀ : List ℕ) (at₀ : Placed) (s₀ : Begun) (t : List ℕ) (p : Placed) (k : ℕ) (w : List ℕ) (r : Placed) (t' : List ℕ) → vlen ≤ k
        → Leads b s t₀ at₀ s₀ t p (params_left k w) → put_out r t' ≡ put_text t p (whole (ascii ")")) → out_of r t' w ≡ put_begun t₀ at₀ s₀
    unfolding params_left
    params_end t₀ at₀ s₀ t p k w r t' h l o =
        leads_end b s t₀ at₀ s₀ t p _ r t' w l (said_as t p (put (ascii ")")) _ w r t' w (sym (params_none k (T b s w) h)) (put_only _ t p _ w r t' o))

    -- the opening parenthesis stopped the writing
    pub params_stop : (t : List ℕ) (r : Placed) (c : Refusal) (w : List ℕ) → IsErrAnd r (λ e. e ≡ c) → out_of r t w ≡ put_begun t (Err c) (params_left 0 w)
    unfolding params_left
    params_stop t r c w i = said_ended _ t r c (params_over 0 (T b s w)) w i

    pub params_whole : (txt : List ℕ) (at : Placed) (w : List ℕ) (p : Placed) (t₁ : List ℕ) (r : Placed) (t' w' : List ℕ) (ps : List Param) → from f 0 vlen ≡ shown_params ps
        → put_out p t₁ ≡ put_text txt at (whole (ascii "(")) → out_of r t' w' ≡ put_begun t₁ p (params_left 0 w)
        → out_of r t' w' ≡ put_said txt at (params_below (Q b s (T b s w)) (N b s) (T b s w) below lvl (shown_params ps)) w
    unfolding params_left params_over
    params_whole txt at w p t₁ r t' w' ps e o₁ o₂ =
        let z : vlen - 0 ≡ vlen = omega arith in
        also txt at _ _ w p t₁ r t' w' o₁
        (said_as t₁ p _ _ w r t' w' (ap (λ (l : List Param). emit_params (λ id name. emit_type_decl_once (Q b s (T b s w)) (N b s) (T b s w) below id name lvl) true l ⨾ put (ascii ")")) (ap (from f 0) z ∙ e)) o₂)

  -- ---- emit_member: where the next member starts
  pub offset_ends : (B : Rules) (t : Record) (k : ℕ) (m : BtfMember) (o : ℕ) → m ≡ member_of b s t k
      → o ≡ end_from (end_of B (rule_member b s m)) → o ≡ end_from (end_of B (rule_member b s (member_of b s t k)))
  offset_ends B t k m o em e = e ∙ ap (λ (y : BtfMember). end_from (end_of B (rule_member b s y))) em

  pub member_ends : (B : Rules) (t : Record) (k : ℕ) (m : BtfMember) (r : Result Spot Refusal) → m ≡ member_of b s t k
      → IfOk r (λ x. x.offset ≡ end_from (end_of B (rule_member b s m))) → IfOk r (λ x. x.offset ≡ end_from (end_of B (rule_member b s (member_of b s t k))))
  member_ends B t k m (Ok x) em o = offset_ends B t k m x.offset em o
  member_ends B t k m (Err c) em o = o

  -- what it writes
  module _ (below id lvl : ℕ) (packed : Bool) (k : ℕ) (txt : List ℕ) (spot : Spot) (w : List ℕ) where
    member_of_lem : (m : BtfMember) (nm : Printing) (a : Placed) (t₁ w₁ : List ℕ) (c : Placed) (t₂ : List ℕ) (e : Placed) (t₃ : List ℕ) (f : Placed) (t₄ w₄ : List ℕ) (r : Placed) (t₅ : List ℕ)
        → nm ≡ record { off = m.name_off; number = None }
        → out_of a t₁ w₁ ≡ put_said txt (Ok spot.at) (pad_said b.types (T b s w) spot.offset (rule_member b s m) packed lvl) w
        → put_out c t₂ ≡ put_text t₁ a (whole (ascii "\n")) → put_out e t₃ ≡ put_text t₂ c (whole (pfx lvl))
        → out_of f t₄ w₄ ≡ put_said t₃ e (emit_type_decl_once (Q b s (T b s w₁)) (N b s) (T b s w₁) below m.type_id (name_text b s nm) lvl) w₁
        → out_of r t₅ w₄ ≡ put_said t₄ f (member_tail (T b s w₄) id k (rule_member b s m)) w₄
        → out_of r t₅ w₄ ≡ put_said txt (Ok spot.at) (member_text (Q b s (T b s w)) (N b s) (T b s w) below id lvl packed k spot.offset (rule_member b s m)) w
    unfolding member_text pad_said seen
    member_of_lem m nm a t₁ w₁ c t₂ e t₃ f t₄ w₄ r t₅ en o₁ o₂ o₃ o₄ o₅ =
        then_on b s (λ x. put (ascii "\n") ⨾ put (pfx lvl) ⨾ emit_type_decl_once (Q b s x.0) (N b s) x.0 below m.type_id (str_at b s m.name_off) lvl ⨾ member_tail x.0 id k (rule_member b s m)) txt (Ok spot.at) _ w a t₁ w₁ r t₅ w₄
        (kept_pads b s (T b s w) lvl packed spot.offset (rule_member b s m)) o₁
        (also t₁ a _ _ w₁ c t₂ r t₅ w₄ o₂
        (also t₂ c _ _ w₁ e t₃ r t₅ w₄ o₃
        (then_on b s (λ x. member_tail x.0 id k (rule_member b s m)) t₃ e _ w₁ f t₄ w₄ r t₅ w₄
        (kept_decl b s (T b s w₁) below m.type_id (str_at b s m.name_off) lvl)
        (said_as t₃ e _ _ w₁ f t₄ w₄ (ap (λ (n : Name). emit_type_decl_once (Q b s (T b s w₁)) (N b s) (T b s w₁) below m.type_id n lvl) (bare_text b s nm m.name_off en)) o₄)
        o₅)))

    pub member_said : (t : Record) (m : BtfMember) (nm : Printing) (deep : ℕ) (a : Placed) (t₁ w₁ : List ℕ) (c : Placed) (t₂ : List ℕ) (e : Placed) (t₃ : List ℕ) (f : Placed) (t₄ w₄ : List ℕ) (r : Placed) (t₅ : List ℕ)
        → m ≡ member_of b s t k
        → nm ≡ record { off = m.name_off; number = None }
        → deep ≡ lvl
        → out_of a t₁ w₁ ≡ put_said txt (Ok spot.at) (pad_said b.types (T b s w) spot.offset (rule_member b s m) packed deep) w
        → put_out c t₂ ≡ put_text t₁ a (whole (ascii "\n")) → put_out e t₃ ≡ put_text t₂ c (whole (pfx deep))
        → out_of f t₄ w₄ ≡ put_said t₃ e (emit_type_decl_once (Q b s (T b s w₁)) (N b s) (T b s w₁) below m.type_id (name_text b s nm) deep) w₁
        → out_of r t₅ w₄ ≡ put_said t₄ f (member_tail (T b s w₄) id k (rule_member b s m)) w₄
        → out_of r t₅ w₄ ≡ put_said txt (Ok spot.at) (member_text (Q b s (T b s w)) (N b s) (T b s w) below id lvl packed k spot.offset (rule_member b s (member_of b s t k))) w
    member_said t m nm deep a t₁ w₁ c t₂ e t₃ f t₄ w₄ r t₅ em en ed o₁ o₂ o₃ o₄ o₅ =
        member_of_lem m nm a t₁ w₁ c t₂ e t₃ f t₄ w₄ r t₅ en
        (o₁ ∙ ap (λ (j : ℕ). put_said txt (Ok spot.at) (pad_said b.types (T b s w) spot.offset (rule_member b s m) packed j) w) ed) o₂
        (o₃ ∙ ap (λ (j : ℕ). put_text t₂ c (whole (pfx j))) ed)
        (o₄ ∙ ap (λ (j : ℕ). put_said t₃ e (emit_type_decl_once (Q b s (T b s w₁)) (N b s) (T b s w₁) below m.type_id (name_text b s nm) j) w₁) ed) o₅
        ∙ ap (λ (y : BtfMember). put_said txt (Ok spot.at) (member_text (Q b s (T b s w)) (N b s) (T b s w) below id lvl packed k spot.offset (rule_member b s y)) w) em

  -- ---- emit_members: what is left from the k-th on
  module _ (below id : ℕ) (tail : ℕ → List Pad) (lvl : ℕ) (packed : Bool) (f : ℕ → Member) (vlen : ℕ) where
    pub members_left : ℕ → ℕ → List ℕ → Begun
    members_left k offset w = (members_below (Q b s (T b s w)) (N b s) (T b s w) below id tail lvl packed k offset (from f k (vlen - k)), w)

    members_is : (k offset : ℕ) (B : Rules) → k < vlen
        → members_below (Q b s B) (N b s) B below id tail lvl packed k offset (from f k (vlen - k))
        ≡ member_text (Q b s B) (N b s) B below id lvl packed k offset (f k) ⨾ members_below (Q b s B) (N b s) B below id tail lvl packed (k + 1) (end_from (end_of B (f k))) (from f (k + 1) (vlen - (k + 1)))
    members_is k offset B h = ap (members_below (Q b s B) (N b s) B below id tail lvl packed k offset) (from_more f k vlen h) ∙ members_turn (Q b s B) (N b s) B below id tail lvl packed k offset (f k) (from f (k + 1) (vlen - (k + 1)))

    pub members_again : (t₀ : List ℕ) (at₀ : Placed) (s₀ : Begun) (t : List ℕ) (p : Placed) (offset k : ℕ) (w : List ℕ) (r : Placed) (o : ℕ) (t' w' : List ℕ) → k < vlen
        → Leads b s t₀ at₀ s₀ t p (members_left k offset w)
        → (out_of r t' w' ≡ put_said t p (member_text (Q b s (T b s w)) (N b s) (T b s w) below id lvl packed k offset (f k)) w) × (o ≡ end_from (end_of (T b s w') (f k)))
        → Leads b s t₀ at₀ s₀ t' r (members_left (k + 1) o w')
    unfolding members_left seen
    members_again t₀ at₀ s₀ t p offset k w r o t' w' h l q =
        rw q.1
        (leads_turn b s (λ x. members_below (Q b s x.0) (N b s) x.0 below id tail lvl packed (k + 1) (end_from (end_of x.0 (f k))) (from f (k + 1) (vlen - (k + 1)))) t₀ at₀ s₀ t p _ _ w r t' w' l
        (ap (λ (v : Writer (List ℕ)). (v, w)) (members_is k offset (T b s w) h))
        (kept_member b s (T b s w) below id lvl packed k offset (f k)) q.0)

    pub members_halt : (t₀ : List ℕ) (at₀ : Placed) (s₀ : Begun) (t : List ℕ) (p : Placed) (offset k : ℕ) (w : List ℕ) (d : Refusal) (t' w' : List ℕ) (r : Placed) → k < vlen
        → Leads b s t₀ at₀ s₀ t p (members_left k offset w)
        → out_of (Err d) t' w' ≡ put_said t p (member_text (Q b s (T b s w)) (N b s) (T b s w) below id lvl packed k offset (f k)) w
        → IsErrAnd r (λ e. e ≡ d) → out_of r t' w' ≡ put_begun t₀ at₀ s₀
    unfolding members_left
    members_halt t₀ at₀ s₀ t p offset k w d t' w' r h l o i =
        leads_halt b s t₀ at₀ s₀ t p _ _ _ w d t' w' r l (ap (λ (v : Writer (List ℕ)). (v, w)) (members_is k offset (T b s w) h))
        (kept_member b s (T b s w) below id lvl packed k offset (f k)) o i

    members_none : (k offset : ℕ) (B : Rules) → vlen ≤ k → members_below (Q b s B) (N b s) B below id tail lvl packed k offset (from f k (vlen - k)) ≡ put (tail_text lvl k (tail offset))
    unfolding emit_members_once
    members_none k offset B h = ap (members_below (Q b s B) (N b s) B below id tail lvl packed k offset) (from_none f k vlen h)

    pub members_end : (t₀ : List ℕ) (at₀ : Placed) (s₀ : Begun) (t : List ℕ) (p : Placed) (offset k : ℕ) (w : List ℕ) (deep : ℕ) (r : Placed) (t' : List ℕ) → k ≡ vlen → deep ≡ lvl
        → Leads b s t₀ at₀ s₀ t p (members_left k offset w) → put_out r t' ≡ put_text t p (whole (tail_text deep vlen (tail offset))) → out_of r t' w ≡ put_begun t₀ at₀ s₀
    unfolding members_left
    members_end t₀ at₀ s₀ t p offset k w deep r t' e ed l o =
        let h : vlen ≤ k = omega arith in
        leads_end b s t₀ at₀ s₀ t p _ r t' w l (said_as t p (put (tail_text lvl vlen (tail offset))) _ w r t' w
        (ap (λ (j : ℕ). put {U = List ℕ} (tail_text lvl j (tail offset))) (sym e) ∙ sym (members_none k offset (T b s w) h))
        (put_only _ t p _ w r t' (o ∙ ap (λ (j : ℕ). put_text t p (whole (tail_text j vlen (tail offset)))) ed)))

    pub members_whole : (txt : List ℕ) (at : Placed) (w : List ℕ) (n : ℕ) (r : Placed) (t' w' : List ℕ) → vlen ≡ n → out_of r t' w' ≡ put_begun txt at (members_left 0 0 w)
        → out_of r t' w' ≡ put_said txt at (members_below (Q b s (T b s w)) (N b s) (T b s w) below id tail lvl packed 0 0 (from f 0 n)) w
    unfolding members_left
    members_whole txt at w n r t' w' e o =
        let z : vlen - 0 ≡ n = omega arith in
        said_as txt at _ _ w r t' w' (ap (λ (j : ℕ). members_below (Q b s (T b s w)) (N b s) (T b s w) below id tail lvl packed 0 0 (from f 0 j)) z) o

  -- ---- emit_composite_def
  module _ (txt : List ℕ) (at : ℕ) (w : List ℕ) (left id : ℕ) (is_struct : Bool) (name : Name) (sz : ℕ) (ms : List Member) (lvl : ℕ) (r : Placed) where
    abbrev Defined : List ℕ → List ℕ → Type 0
    Defined t' w' = out_of r t' w' ≡ put_said txt (Ok at) (emit_composite_def_once (Q b s (T b s w)) (N b s) (T b s w) left id is_struct name sz ms lvl) w

    module _ (h : left ≡ 0 → ⊥) where
      def_as : (v : Writer (List ℕ)) (t' w' : List ℕ) → composite_def_once (Q b s (T b s w)) (N b s) (T b s w) (emit_type_decl_once (Q b s (T b s w)) (N b s) (T b s w) (left - 1)) id is_struct name sz ms lvl ≡ v
          → out_of r t' w' ≡ put_said txt (Ok at) v w → Defined t' w'
      def_as v t' w' e o = said_as txt (Ok at) v _ w r t' w' (sym (def_some (Q b s (T b s w)) (N b s) (T b s w) left id is_struct name sz ms lvl h ∙ e)) o

      body_of : builtin name ≡ false
          → composite_def_once (Q b s (T b s w)) (N b s) (T b s w) (emit_type_decl_once (Q b s (T b s w)) (N b s) (T b s w) (left - 1)) id is_struct name sz ms lvl ≡ given_once ((Q b s (T b s w)).body is_struct id sz ms) (composite_body_once (Q b s (T b s w)) (N b s) (T b s w) (emit_type_decl_once (Q b s (T b s w)) (N b s) (T b s w) (left - 1)) id is_struct name sz ms lvl)
      unfolding composite_def_once
      body_of q = rw (q, composite_def_once)

      none_of : builtin name ≡ true → composite_def_once (Q b s (T b s w)) (N b s) (T b s w) (emit_type_decl_once (Q b s (T b s w)) (N b s) (T b s w) (left - 1)) id is_struct name sz ms lvl ≡ nothing
      unfolding composite_def_once
      none_of q = rw (q, composite_def_once)

      pub def_builtin : r ≡ Ok at → builtin name ≡ true → Defined txt w
      def_builtin e q = def_as nothing txt w (none_of q) (ap (λ (j : Placed). out_of j txt w) e ∙ put_nothing _ txt (Ok at) w)

      module _ (q : builtin name ≡ false) (y : Result Bool Refusal) (w₀ : List ℕ) (a : ask_in y w₀ ≡ body_in b.types (T b s w) is_struct id sz ms w) where
        -- what the question comes to, whatever the visits before
        asked : ask_in y w₀ ≡ forget ((Q b s (T b s w)).body is_struct id sz ms w)
        unfolding body_in
        asked = a ∙ sym (steady_body (work_keep b.types (T b s w)) (T b s w) is_struct id sz ms w (get_field w 0 2))

        def_stops : (c : Refusal) → y ≡ Err c → put_out r txt ≡ put_text txt (Ok at) (cut [] (refusal_number c)) → Defined txt w₀
        unfolding ask_in
        def_stops c e o = def_as _ txt w₀ (body_of q) (given_refused txt at ((Q b s (T b s w)).body is_struct id sz ms) _ w w₀ r txt (refusal_number c) (sym (ap (λ (z : Result Bool Refusal). ask_in z w₀) e) ∙ asked) o)

        abbrev body_on : Bool → Seen b s → Writer (List ℕ)
        body_on packed x =
            composite_head (N b s) x.0 no_decl id is_struct name
            ⨾ members_below (Q b s x.0) (N b s) x.0 (left - 1) id (tail_pads b.placing b.ptr_sz is_struct sz) (deeper lvl) packed 0 0 ms
            ⨾ composite_end (N b s) x.0 no_decl id lvl ms packed

        body_put : (packed : Bool) (deep : ℕ) (p : Placed) (t₁ w₁ : List ℕ) (o : Placed) (t₂ w₂ t₃ : List ℕ) → deep ≡ deeper lvl
            → out_of p t₁ w₁ ≡ put_said txt (Ok at) (composite_head (N b s) (T b s w₀) no_decl id is_struct name) w₀
            → out_of o t₂ w₂ ≡ put_said t₁ p (members_below (Q b s (T b s w₁)) (N b s) (T b s w₁) (left - 1) id (tail_pads b.placing b.ptr_sz is_struct sz) deep packed 0 0 ms) w₁
            → out_of r t₃ w₂ ≡ put_said t₂ o (composite_end (N b s) (T b s w₂) no_decl id lvl ms packed) w₂
            → out_of r t₃ w₂ ≡ put_said txt (Ok at) (body_on packed (seen b s w₀)) w₀
        unfolding seen
        body_put packed deep p t₁ w₁ o t₂ w₂ t₃ ed e₁ e₂ e₃ =
            then_on b s (λ x. members_below (Q b s x.0) (N b s) x.0 (left - 1) id (tail_pads b.placing b.ptr_sz is_struct sz) (deeper lvl) packed 0 0 ms ⨾ composite_end (N b s) x.0 no_decl id lvl ms packed) txt (Ok at) _ w₀ p t₁ w₁ r t₃ w₂
            (keeps_composite_head (N b s) (seen b s) (keeps_type b s) (keeps_value b s) (T b s w₀) no_decl (λ i n l. keeps_put (seen b s) []) id is_struct name)
            e₁
            (then_on b s (λ x. composite_end (N b s) x.0 no_decl id lvl ms packed) t₁ p _ w₁ o t₂ w₂ r t₃ w₂
            (keeps_members (Q b s (T b s w₁)) (N b s) (seen b s) (keeps_type b s) (keeps_value b s) (keeps_padding b s (T b s w₁)) (keeps_body b s (T b s w₁)) (T b s w₁) (emit_type_decl_once (Q b s (T b s w₁)) (N b s) (T b s w₁) (left - 1)) (kept_decl b s (T b s w₁) (left - 1)) id (tail_pads b.placing b.ptr_sz is_struct sz) (deeper lvl) packed 0 0 ms)
            (said_as t₁ p _ _ w₁ o t₂ w₂ (ap (λ (j : ℕ). members_below (Q b s (T b s w₁)) (N b s) (T b s w₁) (left - 1) id (tail_pads b.placing b.ptr_sz is_struct sz) j packed 0 0 ms) ed) e₂)
            e₃)

        pub def_body : (packed : Bool) (deep : ℕ) (p : Placed) (t₁ w₁ : List ℕ) (o : Placed) (t₂ w₂ t₃ : List ℕ) → y ≡ Ok packed → deep ≡ deeper lvl
            → out_of p t₁ w₁ ≡ put_said txt (Ok at) (composite_head (N b s) (T b s w₀) no_decl id is_struct name) w₀
            → out_of o t₂ w₂ ≡ put_said t₁ p (members_below (Q b s (T b s w₁)) (N b s) (T b s w₁) (left - 1) id (tail_pads b.placing b.ptr_sz is_struct sz) deep packed 0 0 ms) w₁
            → out_of r t₃ w₂ ≡ put_said t₂ o (composite_end (N b s) (T b s w₂) no_decl id lvl ms packed) w₂
            → Defined t₃ w₂
        unfolding ask_in composite_body_once composite_head composite_end seen btf_of
        def_body packed deep p t₁ w₁ o t₂ w₂ t₃ e ed e₁ e₂ e₃ =
            def_as _ t₃ w₂ (body_of q)
            (given_found txt at ((Q b s (T b s w)).body is_struct id sz ms) _ w w₀ r t₃ packed w₂ (sym (ap (λ (z : Result Bool Refusal). ask_in z w₀) e) ∙ asked)
            (body_put packed deep p t₁ w₁ o t₂ w₂ t₃ ed e₁ e₂ e₃ ∙ ap (λ (x : Seen b s). put_said txt (Ok at) (body_on packed x) w₀) (body_seen b s is_struct id sz ms w y w₀ a)))

  module _ (txt : List ℕ) (at : ℕ) (w : List ℕ) (left id : ℕ) (is_struct : Bool) (name : Name) (sz : ℕ) (ms : List Member) (lvl : ℕ) where
    pub def_zero : left ≡ 0 → Defined txt at w left id is_struct name sz ms lvl (Err TooDeep) txt w
    def_zero e = said_as txt (Ok at) (stop 12) _ w (Err TooDeep) txt w (sym (def_none (Q b s (T b s w)) (N b s) (T b s w) left id is_struct name sz ms lvl e)) (too_deep txt at w)

    pub def_refused : (left ≡ 0 → ⊥) → builtin name ≡ false → (y : Result Bool Refusal) (w₀ : List ℕ) → ask_in y w₀ ≡ body_in b.types (T b s w) is_struct id sz ms w → (c : Refusal) (r : Placed) → y ≡ Err c
        → IsErrAnd r (λ e. e ≡ c) → Defined txt at w left id is_struct name sz ms lvl r txt w₀
    def_refused h q y w₀ a c r e i =
        def_stops txt at w left id is_struct name sz ms lvl r h q y w₀ a c e (put_ended txt r c (whole []) i ∙ sym (put_past txt c (whole [])) ∙ put_cut txt at c)

  -- ---- emit_typedef_def
  module _ (txt : List ℕ) (at : Placed) (w : List ℕ) (id : ℕ) (name : Name) (t : ℕ) (a : Name) (w₁ : List ℕ) (e : put a w₁ ≡ resolve_type_name (N b s) tag_space id name put w) where
    kept_resolve : (n : Name) → KeptBy b s (resolve_type_name (N b s) ident_space id n put)
    unfolding base_word
    kept_resolve n = kept_word b s (T b s w) 0 [] 0 id (Typedef n 0)

    seen_after : seen b s w₁ ≡ seen b s w
    unfolding said_names put
    seen_after = ap (λ (x : Said (List ℕ)). seen b s (said_names x)) (resolved_type b tag_space ident_space id name a w w₁ put e) ∙ (kept_resolve name w).0

    abbrev line : Rules → Name → Writer (List ℕ)
    line B n = put (ascii "typedef ") ⨾ emit_type_decl_once (Q b s B) (N b s) B 512 t n 0

    seen_line : Kept (seen b s) w (resolve_type_name (N b s) ident_space id name (line (T b s w)) w)
    seen_line =
        subst (λ (x : Said (List ℕ)). Kept (seen b s) w x) (resolved_type b tag_space ident_space id name a w w₁ (line (T b s w)) e)
        (kept_as (seen b s) w w₁ seen_after (line (T b s w) a w₁) (keeps_then (seen b s) _ _ (keeps_put (seen b s) _) (kept_decl b s (T b s w) 512 t a 0) w₁))

    table_after : T b s w₁ ≡ T b s w
    unfolding seen
    table_after = ap (λ (x : Seen b s). x.0) seen_after

    pub typedef_put : (p : Placed) (t₁ : List ℕ) (c : Placed) (t₂ w₂ : List ℕ) (r : Placed) (t₃ : List ℕ)
        → put_out p t₁ ≡ put_text txt at (whole (ascii "typedef "))
        → out_of c t₂ w₂ ≡ put_said t₁ p (emit_type_decl_once (Q b s (T b s w₁)) (N b s) (T b s w₁) 512 t a 0) w₁
        → put_out r t₃ ≡ put_text t₂ c (whole (decl_tags (T b s w₂) 4294967295 ((T b s w₂).decl_tags id)))
        → out_of r t₃ w₂ ≡ put_said txt at (emit_typedef_def_once (Q b s (T b s w)) (N b s) (T b s w) id name t) w
    unfolding emit_typedef_def_once seen
    typedef_put p t₁ c t₂ w₂ r t₃ o₁ o₂ o₃ =
        put_then_kept _ (seen b s) (λ x. emit_decl_tags x.0 id 4294967295) txt at _ w c t₂ w₂ r t₃ w₂ seen_line
        (put_type_name b tag_space ident_space id name a w w₁ (line (T b s w)) txt at c t₂ w₂ e
        (also txt at _ _ w₁ p t₁ c t₂ w₂ o₁ (said_as t₁ p _ _ w₁ c t₂ w₂ (ap (λ (B : Rules). emit_type_decl_once (Q b s B) (N b s) B 512 t a 0) table_after) o₂)))
        (put_only _ t₂ c _ w₂ r t₃ o₃)
