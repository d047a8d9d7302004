-- What refuses a line by the remembering way: 12, 15, 16 and 18, where no other number refuses a question and no name passes. Assumes nothing.
use Prim.Native.Nat.{ℕ, zero, suc, ◌+◌}
use mathlib.Core.Path.{◌≡◌, refl}
use mathlib.Core.Bool.{Bool, true, false}
use mathlib.Core.List.{List, [], ◌∷◌}
use mathlib.Core.Logic.{inl}
use lib.ListN.{length}
use Rattle.spec_c_dumper.specs.rules.Writer.{Ask, Writer, said_text, ◌⨾◌, put, given}
use Rattle.spec_c_dumper.specs.rules.Types.{Name, is_empty, Member, BtfType, Void, Int, Ptr, Array, Composite, Enum, Enum64, Fwd, Typedef, Mod, Func, Var, Datasec, FuncProto, Float, DeclTag, TypeTag, Btf}
use Rattle.spec_c_dumper.specs.rules.Layout.{Pad, end_of}
use Rattle.spec_c_dumper.specs.rules.Placing.{tail_pads}
use Rattle.spec_c_dumper.specs.rules.Names.{Space, ident_space, Naming, resolving, spelled, resolve_type_name, builtin}
use Rattle.spec_c_dumper.specs.rules.Decl.{Entry, deeper, chain_of, enum_value, enum64_value}
use Rattle.spec_c_dumper.specs.rules.Emit.{shown}
use Rattle.spec_c_dumper.proofs.rules.Closed.{Code, Asks as Answers, gets, refuses, Closed, asks_end, asks_chain, r_chain_loop, r_composite_head, r_composite_end, r_emit_enum_def, r_emit_fwd_def, r_emit_composite_fwd}
use Rattle.spec_c_dumper.proofs.rules.Keeps.{any_name, any_value, values_fit, type_fits}
use Rattle.spec_c_dumper.proofs.rules.Refusals.{Told, Passing, Tells, tells_closed}
use Rattle.spec_c_dumper.specs.alignment_once.Once.{Once, found, refused}
use Rattle.spec_c_dumper.specs.alignment_once.Writers.{Asks, answered, given_once, emit_members_once, composite_body_once, composite_def_once, emit_type_decl_once, emit_type_chain_once, emit_composite_def_once, emit_typedef_def_once, definition_once, forward_once}
use Rattle.btf_layout.proofs.refusals.Questions.{Coded}

module _ {U : Type 0} (Q : Asks U) (N : Naming U) (never : Passing N → ⊥)
    (coded_pads : (offset : ℕ) (x : Member) (packed : Bool) (u : U) → Coded (Q.padding offset x packed u))
    (coded_body : (is_struct : Bool) (id sz : ℕ) (ms : List Member) (u : U) → Coded (Q.body is_struct id sz ms u)) (B : Btf) where
  abbrev S : Writer U → Writer U → Type 0
  S v w = Tells Code v

  C : Closed N N any_name any_value S
  C = tells_closed N Code (λ c q. q) (λ p. absurd (never p))

  tput : (a : List ℕ) → Tells {U = U} Code (put a)
  tput a = C.c_put a

  tthen : (v w : Writer U) → Tells Code v → Tells Code w → Tells Code (v ⨾ w)
  tthen v w hv hw = C.c_then v w v w hv hw

  tasked : {A : Type 0} (ask : U → Once U A) (f : A → Writer U) → ((u : U) → Coded (ask u)) → ((a : A) → Tells Code (f a)) → Tells Code (given_once ask f)
  unfolding given_once answered
  tasked {A} ask f h on u = by (ask u) (h u)
    where
      by : (q : Once U A) → Coded q → Told Code (said_text (answered q f u))
      by (found a v k) e = on a v
      by (refused c v k) e = C.c_stop c e u

  tgiven : {A : Type 0} (x : Ask A) (f : A → Writer U) → Answers x → ((a : A) → Tells Code (f a)) → Tells Code (given x f)
  unfolding given
  tgiven _ f (gets a) h = h a
  tgiven _ f (refuses c q) h = C.c_stop c q

  tif : (b : Bool) (v w : Writer U) → Tells Code v → Tells Code w → Tells {U = U} Code (elim b [ true ↦ v | false ↦ w ])
  tif true v w h k = h
  tif false v w h k = k

  module _ (d : ℕ → Name → ℕ → Writer U) (hd : (id : ℕ) (n : Name) (l : ℕ) → Tells Code (d id n l)) (id : ℕ) where
    pub tells_members : (tail : ℕ → List Pad) (lvl : ℕ) (packed : Bool) (i offset : ℕ) (ms : List Member) → Tells Code (emit_members_once Q N B d id tail lvl packed i offset ms)
    unfolding emit_members_once
    tells_members tail lvl packed i offset [] = tput _
    tells_members tail lvl packed i offset (m ∷ ms) =
        tthen _ _ (tasked (Q.padding offset m packed) _ (coded_pads offset m packed) (λ ps. tput _))
        (tthen _ _ (tput _) (tthen _ _ (tput _) (tthen _ _ (hd m.type_id m.name lvl) (tthen _ _ (tput _)
        (tgiven (end_of B m) _ (asks_end B m) (λ end. tthen _ _ (tput _) (tthen _ _ (tput _) (tells_members tail lvl packed (i + 1) end ms))))))))

    tells_def : (is_struct : Bool) (name : Name) (sz : ℕ) (ms : List Member) (lvl : ℕ) → Tells Code (composite_def_once Q N B d id is_struct name sz ms lvl)
    unfolding composite_def_once composite_body_once
    tells_def is_struct name sz ms lvl =
        tif (builtin name) _ _ (tput [])
        (tasked (Q.body is_struct id sz ms) _ (coded_body is_struct id sz ms) (λ packed.
        tthen _ _ (r_composite_head N N any_name any_value S C B {d₁ = d} {d₂ = d} hd id is_struct name tt)
        (tthen _ _ (tells_members (tail_pads B.placing B.ptr_sz is_struct sz) (deeper lvl) packed 0 0 ms) (r_composite_end N N any_name any_value S C B {d₁ = d} {d₂ = d} hd id lvl ms packed))))

  mutual
    unfolding emit_type_decl_once emit_type_chain_once emit_composite_def_once

    pub tells_decl : (left id : ℕ) (fname : Name) (lvl : ℕ) → Tells Code (emit_type_decl_once Q N B left id fname lvl)
    tells_decl zero id fname lvl = C.c_stop 12 (inl refl)
    tells_decl (suc left) id fname lvl = tgiven (chain_of 512 B id []) _ (asks_chain B 512 id []) (λ c. tells_chain left c fname lvl)

    pub tells_chain : (left : ℕ) (c : List Entry) (fname : Name) (lvl : ℕ) → Tells Code (emit_type_chain_once Q N B left c fname lvl)
    tells_chain zero c fname lvl = C.c_stop 12 (inl refl)
    tells_chain (suc left) c fname lvl =
        r_chain_loop N N any_name any_value S C B {d₁ = λ id n l. emit_type_decl_once Q N B left id n l} {d₂ = λ id n l. emit_type_decl_once Q N B left id n l} (λ id n l. tells_decl left id n l)
        {c₁ = λ d n l. emit_type_chain_once Q N B left d n l} {c₂ = λ d n l. emit_type_chain_once Q N B left d n l} (λ d n l. tells_chain left d n l)
        {f₁ = λ id s n z ms l. emit_composite_def_once Q N B left id s n z ms l} {f₂ = λ id s n z ms l. emit_composite_def_once Q N B left id s n z ms l} (λ id s n z ms l fit. tells_composite left id s n z ms l)
        fname lvl (λ id. type_fits id (B.type_by_id id)) (length c) true c

    pub tells_composite : (left id : ℕ) (is_struct : Bool) (name : Name) (sz : ℕ) (ms : List Member) (lvl : ℕ) → Tells Code (emit_composite_def_once Q N B left id is_struct name sz ms lvl)
    tells_composite zero id is_struct name sz ms lvl = C.c_stop 12 (inl refl)
    tells_composite (suc left) id is_struct name sz ms lvl = tells_def (λ t n l. emit_type_decl_once Q N B left t n l) (λ t n l. tells_decl left t n l) id is_struct name sz ms lvl

  tells_name : (space : Space) (id : ℕ) (name : Name) (k : Name → Writer U) → ((n : Name) → Tells Code (k n)) → Tells Code (resolve_type_name N space id name k)
  unfolding resolve_type_name
  tells_name space id name k h = go (is_empty name) refl
    where
      go : (b : Bool) → is_empty name ≡ b → Tells {U = U} Code (elim b [ true ↦ k name | false ↦ resolving (N.type_version space id name) (λ v. k (spelled name v)) ])
      go true e = h name
      go false e = C.c_type space id name tt e (λ v. k (spelled name v)) (λ v. k (spelled name v)) (λ v. h (spelled name v))

  pub tells_typedef : (id : ℕ) (name : Name) (t : ℕ) → Tells Code (emit_typedef_def_once Q N B id name t)
  unfolding emit_typedef_def_once
  tells_typedef id name t = tthen _ _ (tells_name ident_space id name _ (λ n. tthen _ _ (tput _) (tells_decl 512 t n 0))) (tput _)

  pub tells_definition : (id : ℕ) (t : BtfType) → Tells Code (definition_once Q N B id t)
  unfolding definition_once
  tells_definition id Void = tput _
  tells_definition id (Int m b) = tput _
  tells_definition id (Ptr t) = tput _
  tells_definition id (Array t k) = tput _
  tells_definition id (Composite s m z ms) = tthen _ _ (tells_composite 512 id s m z ms 0) (tput _)
  tells_definition id (Enum s m z vs) = tthen _ _ (r_emit_enum_def N N any_name any_value S C B (enum_value s) id m vs 0 tt (values_fit id 0 vs)) (tput _)
  tells_definition id (Enum64 s m z vs) = tthen _ _ (r_emit_enum_def N N any_name any_value S C B (enum64_value s) id m vs 0 tt (values_fit id 0 vs)) (tput _)
  tells_definition id (Fwd u m) = tthen _ _ (r_emit_fwd_def N N any_name any_value S C B id u m tt) (tput _)
  tells_definition id (Typedef m t) = tput _
  tells_definition id (Mod q t) = tput _
  tells_definition id (Func m) = tput _
  tells_definition id (Var m) = tput _
  tells_definition id (Datasec m) = tput _
  tells_definition id (FuncProto r ps) = tput _
  tells_definition id (Float m z) = tput _
  tells_definition id (DeclTag a m t k) = tput _
  tells_definition id (TypeTag a m t) = tput _

  tells_shown : (name : Name) (w : Writer U) → Tells Code w → Tells Code (shown N B name w)
  unfolding shown
  tells_shown name w h = tif (builtin name) _ _ (tput []) (tthen _ _ h (tput _))

  pub tells_forward : (id : ℕ) (t : BtfType) → Tells Code (forward_once Q N B id t)
  unfolding forward_once
  tells_forward id Void = tput _
  tells_forward id (Int m b) = tput _
  tells_forward id (Ptr t) = tput _
  tells_forward id (Array t k) = tput _
  tells_forward id (Composite s m z ms) = tells_shown m _ (r_emit_composite_fwd N N any_name any_value S C B id s m tt)
  tells_forward id (Enum s m z vs) = tput _
  tells_forward id (Enum64 s m z vs) = tput _
  tells_forward id (Fwd u m) = tput _
  tells_forward id (Typedef m t) = tells_shown m _ (tells_typedef id m t)
  tells_forward id (Mod q t) = tput _
  tells_forward id (Func m) = tput _
  tells_forward id (Var m) = tput _
  tells_forward id (Datasec m) = tput _
  tells_forward id (FuncProto r ps) = tput _
  tells_forward id (Float m z) = tput _
  tells_forward id (DeclTag a m t k) = tput _
  tells_forward id (TypeTag a m t) = tput _
