-- What no naming and no question changes, no emitter by the remembering way changes. Assumes nothing.
use Prim.Native.Nat.{ℕ, zero, suc, ◌+◌}
use mathlib.Core.Path.{◌≡◌}
use mathlib.Core.Bool.{Bool, true, false}
use mathlib.Core.List.{List, [], ◌∷◌}
use lib.ListN.{length}
use Rattle.spec_c_dumper.specs.rules.Writer.{Ask, got, no, Writer, given}
use Rattle.spec_c_dumper.specs.rules.Types.{Name, is_empty, Member, BtfType, Void, Int, Ptr, Array, Composite, Enum, Enum64, Fwd, Typedef, Mod, Func, Var, Datasec, FuncProto, Float, DeclTag, TypeTag, Btf}
use Rattle.spec_c_dumper.specs.rules.Layout.{Pad, end_of}
use Rattle.spec_c_dumper.specs.rules.Placing.{tail_pads}
use Rattle.spec_c_dumper.specs.rules.Names.{Space, ident_space, Naming, spelled, resolve_type_name, builtin}
use Rattle.spec_c_dumper.specs.rules.Decl.{Entry, deeper, chain_of, enum_value, enum64_value}
use Rattle.spec_c_dumper.specs.rules.Emit.{shown}
use Rattle.spec_c_dumper.proofs.rules.Keeps.{Kept, Keeps, kept_as, keeps_put, keeps_stop, keeps_then, keeps_resolving, keeps_chain_loop, keeps_composite_head, keeps_composite_end, keeps_emit_enum_def, keeps_emit_fwd_def, keeps_emit_composite_fwd}
use Rattle.spec_c_dumper.specs.alignment_once.Once.{Once, found, refused, memory_after}
use Rattle.spec_c_dumper.specs.alignment_once.Writers.{Asks, answered, given_once, emit_members_once, composite_body_once, composite_def_once, emit_type_decl_once, emit_type_chain_once, emit_composite_def_once, emit_typedef_def_once, definition_once, forward_once}

module _ {U X : Type 0} (P : U → X) where
  pub keeps_asked : {A : Type 0} (ask : U → Once U A) (f : A → Writer U) → ((u : U) → P (memory_after (ask u)) ≡ P u) → ((a : A) → Keeps P (f a)) → Keeps P (given_once ask f)
  unfolding given_once answered memory_after
  keeps_asked {A} ask f h on u = by (ask u) (h u)
    where
      by : (q : Once U A) → P (memory_after q) ≡ P u → Kept P u (answered q f u)
      by (found a v k) e = kept_as P u v e (f a v) (on a v)
      by (refused c v k) e = keeps_stop P c u

  keeps_given : {A : Type 0} (x : Ask A) (f : A → Writer U) → ((a : A) → Keeps P (f a)) → Keeps P (given x f)
  unfolding given
  keeps_given (got a) f h = h a
  keeps_given (no c) f h = keeps_stop P c

  keeps_if : (b : Bool) (v w : Writer U) → Keeps P v → Keeps P w → Keeps P (elim b [ true ↦ v | false ↦ w ])
  keeps_if true v w h k = h
  keeps_if false v w h k = k

module _ {U X : Type 0} (Q : Asks U) (N : Naming U) (P : U → X)
    (keeps_type : (space : Space) (id : ℕ) (name : Name) (u : U) → P (N.type_version space id name u).names ≡ P u)
    (keeps_value : (id i : ℕ) (name : Name) (u : U) → P (N.value_version id i name u).names ≡ P u)
    (keeps_pads : (offset : ℕ) (x : Member) (packed : Bool) (u : U) → P (memory_after (Q.padding offset x packed u)) ≡ P u)
    (keeps_body : (is_struct : Bool) (id sz : ℕ) (ms : List Member) (u : U) → P (memory_after (Q.body is_struct id sz ms u)) ≡ P u) (B : Btf) where
  module _ (d : ℕ → Name → ℕ → Writer U) (hd : (id : ℕ) (n : Name) (l : ℕ) → Keeps P (d id n l)) (id : ℕ) where
    pub keeps_members : (tail : ℕ → List Pad) (lvl : ℕ) (packed : Bool) (i offset : ℕ) (ms : List Member) → Keeps P (emit_members_once Q N B d id tail lvl packed i offset ms)
    unfolding emit_members_once
    keeps_members tail lvl packed i offset [] = keeps_put P _
    keeps_members tail lvl packed i offset (m ∷ ms) =
        keeps_then P _ _ (keeps_asked P (Q.padding offset m packed) _ (keeps_pads offset m packed) (λ ps. keeps_put P _))
        (keeps_then P _ _ (keeps_put P _) (keeps_then P _ _ (keeps_put P _) (keeps_then P _ _ (hd m.type_id m.name lvl) (keeps_then P _ _ (keeps_put P _)
        (keeps_given P (end_of B m) _ (λ end. keeps_then P _ _ (keeps_put P _) (keeps_then P _ _ (keeps_put P _) (keeps_members tail lvl packed (i + 1) end ms))))))))

    keeps_def : (is_struct : Bool) (name : Name) (sz : ℕ) (ms : List Member) (lvl : ℕ) → Keeps P (composite_def_once Q N B d id is_struct name sz ms lvl)
    unfolding composite_def_once composite_body_once
    keeps_def is_struct name sz ms lvl =
        keeps_if P (builtin name) _ _ (keeps_put P [])
        (keeps_asked P (Q.body is_struct id sz ms) _ (keeps_body is_struct id sz ms) (λ packed.
        keeps_then P _ _ (keeps_composite_head N P keeps_type keeps_value B d hd id is_struct name)
        (keeps_then P _ _ (keeps_members (tail_pads B.placing B.ptr_sz is_struct sz) (deeper lvl) packed 0 0 ms) (keeps_composite_end N P keeps_type keeps_value B d hd id lvl ms packed))))

  mutual
    unfolding emit_type_decl_once emit_type_chain_once emit_composite_def_once

    pub keeps_decl : (left id : ℕ) (fname : Name) (lvl : ℕ) → Keeps P (emit_type_decl_once Q N B left id fname lvl)
    keeps_decl zero id fname lvl = keeps_stop P 12
    keeps_decl (suc left) id fname lvl = keeps_given P (chain_of 512 B id []) _ (λ c. keeps_chain left c fname lvl)

    pub keeps_chain : (left : ℕ) (c : List Entry) (fname : Name) (lvl : ℕ) → Keeps P (emit_type_chain_once Q N B left c fname lvl)
    keeps_chain zero c fname lvl = keeps_stop P 12
    keeps_chain (suc left) c fname lvl =
        keeps_chain_loop N P keeps_type keeps_value B (λ id n l. emit_type_decl_once Q N B left id n l) (λ id n l. keeps_decl left id n l) (λ d n l. emit_type_chain_once Q N B left d n l) (λ d n l. keeps_chain left d n l)
        (λ id s n z ms l. emit_composite_def_once Q N B left id s n z ms l) (λ id s n z ms l. keeps_composite left id s n z ms l) fname lvl (length c) true c

    pub keeps_composite : (left id : ℕ) (is_struct : Bool) (name : Name) (sz : ℕ) (ms : List Member) (lvl : ℕ) → Keeps P (emit_composite_def_once Q N B left id is_struct name sz ms lvl)
    keeps_composite zero id is_struct name sz ms lvl = keeps_stop P 12
    keeps_composite (suc left) id is_struct name sz ms lvl = keeps_def (λ t n l. emit_type_decl_once Q N B left t n l) (λ t n l. keeps_decl left t n l) id is_struct name sz ms lvl

  keeps_name : (space : Space) (id : ℕ) (name : Name) (k : Name → Writer U) → ((n : Name) → Keeps P (k n)) → Keeps P (resolve_type_name N space id name k)
  unfolding resolve_type_name
  keeps_name space id name k h = keeps_if P (is_empty name) _ _ (h name) (keeps_resolving P (N.type_version space id name) (keeps_type space id name) (λ v. k (spelled name v)) (λ v. h (spelled name v)))

  pub keeps_typedef : (id : ℕ) (name : Name) (t : ℕ) → Keeps P (emit_typedef_def_once Q N B id name t)
  unfolding emit_typedef_def_once
  keeps_typedef id name t = keeps_then P _ _ (keeps_name ident_space id name _ (λ n. keeps_then P _ _ (keeps_put P _) (keeps_decl 512 t n 0))) (keeps_put P _)

  pub keeps_definition : (id : ℕ) (t : BtfType) → Keeps P (definition_once Q N B id t)
  unfolding definition_once
  keeps_definition id Void = keeps_put P _
  keeps_definition id (Int m b) = keeps_put P _
  keeps_definition id (Ptr t) = keeps_put P _
  keeps_definition id (Array t k) = keeps_put P _
  keeps_definition id (Composite s m z ms) = keeps_then P _ _ (keeps_composite 512 id s m z ms 0) (keeps_put P _)
  keeps_definition id (Enum s m z vs) = keeps_then P _ _ (keeps_emit_enum_def N P keeps_type keeps_value B (enum_value s) id m vs 0) (keeps_put P _)
  keeps_definition id (Enum64 s m z vs) = keeps_then P _ _ (keeps_emit_enum_def N P keeps_type keeps_value B (enum64_value s) id m vs 0) (keeps_put P _)
  keeps_definition id (Fwd u m) = keeps_then P _ _ (keeps_emit_fwd_def N P keeps_type keeps_value B id u m) (keeps_put P _)
  keeps_definition id (Typedef m t) = keeps_put P _
  keeps_definition id (Mod q t) = keeps_put P _
  keeps_definition id (Func m) = keeps_put P _
  keeps_definition id (Var m) = keeps_put P _
  keeps_definition id (Datasec m) = keeps_put P _
  keeps_definition id (FuncProto r ps) = keeps_put P _
  keeps_definition id (Float m z) = keeps_put P _
  keeps_definition id (DeclTag a m t k) = keeps_put P _
  keeps_definition id (TypeTag a m t) = keeps_put P _

  keeps_shown : (name : Name) (w : Writer U) → Keeps P w → Keeps P (shown N B name w)
  unfolding shown
  keeps_shown name w h = keeps_if P (builtin name) _ _ (keeps_put P []) (keeps_then P _ _ h (keeps_put P _))

  pub keeps_forward : (id : ℕ) (t : BtfType) → Keeps P (forward_once Q N B id t)
  unfolding forward_once
  keeps_forward id Void = keeps_put P _
  keeps_forward id (Int m b) = keeps_put P _
  keeps_forward id (Ptr t) = keeps_put P _
  keeps_forward id (Array t k) = keeps_put P _
  keeps_forward id (Composite s m z ms) = keeps_shown m _ (keeps_emit_composite_fwd N P keeps_type keeps_value B id s m)
  keeps_forward id (Enum s m z vs) = keeps_put P _
  keeps_forward id (Enum64 s m z vs) = keeps_put P _
  keeps_forward id (Fwd u m) = keeps_put P _
  keeps_forward id (Typedef m t) = keeps_shown m _ (keeps_typedef id m t)
  keeps_forward id (Mod q t) = keeps_put P _
  keeps_forward id (Func m) = keeps_put P _
  keeps_forward id (Var m) = keeps_put P _
  keeps_forward id (Datasec m) = keeps_put P _
  keeps_forward id (FuncProto r ps) = keeps_put P _
  keeps_forward id (Float m z) = keeps_put P _
  keeps_forward id (DeclTag a m t k) = keeps_put P _
  keeps_forward id (TypeTag a m t) = keeps_put P _
