-- Two memories side by side: a relation that the parts of an emitter keep, and the questions to both memories, all emitters by the remembering way keep.
-- Assumes nothing.
use Prim.Native.Nat.{ℕ, zero, suc, ◌+◌}
use mathlib.Core.Path.{◌≡◌, refl}
use mathlib.Core.Bool.{Bool, true, false}
use mathlib.Core.List.{List, [], ◌∷◌}
use mathlib.Core.Logic.{inl}
use lib.ListN.{length}
use Rattle.spec_c_dumper.specs.rules.Writer.{Writer, ◌⨾◌, put}
use Rattle.spec_c_dumper.specs.rules.Types.{Name, is_empty, Member, BtfType, Void, Int, Ptr, Array, Composite, Enum, Enum64, Fwd, Typedef, Mod, Func, Var, Datasec, FuncProto, Float, DeclTag, TypeTag, Btf}
use Rattle.spec_c_dumper.specs.rules.Layout.{Pad, end_of}
use Rattle.spec_c_dumper.specs.rules.Placing.{tail_pads}
use Rattle.spec_c_dumper.specs.rules.Names.{Space, tag_space, ident_space, Naming, resolving, spelled, resolve_type_name, builtin}
use Rattle.spec_c_dumper.specs.rules.Decl.{deeper, Entry, chain_of, enum_value, enum64_value}
use Rattle.spec_c_dumper.specs.rules.Emit.{shown}
use Rattle.spec_c_dumper.proofs.rules.Closed.{TypeFits, Closed, asks_end, asks_chain, r_put, r_if, r_given, r_emit_composite_fwd, r_emit_fwd_def, r_emit_enum_def, r_composite_head, r_composite_end, r_chain_loop}
use Rattle.spec_c_dumper.specs.alignment_once.Writers.{Asks, given_once, emit_members_once, composite_body_once, composite_def_once, emit_type_decl_once, emit_type_chain_once, emit_composite_def_once, emit_typedef_def_once, definition_once, forward_once}

module _ {U W : Type 0} (Q₁ : Asks U) (Q₂ : Asks W) (N₁ : Naming U) (N₂ : Naming W) (Fits : Space → ℕ → Name → Type 0) (FitsValue : ℕ → ℕ → Name → Type 0) (S : Writer U → Writer W → Type 0)
    (C : Closed N₁ N₂ Fits FitsValue S) (B : Btf) (fits : (id : ℕ) → TypeFits Fits FitsValue id (B.type_by_id id))
    (on_body : (s : Bool) (id sz : ℕ) (ms : List Member) (f : Bool → Writer U) (g : Bool → Writer W) → ((p : Bool) → S (f p) (g p)) → S (given_once (Q₁.body s id sz ms) f) (given_once (Q₂.body s id sz ms) g))
    (on_pads : (offset : ℕ) (x : Member) (packed : Bool) (f : List Pad → Writer U) (g : List Pad → Writer W) → ((p : List Pad) → S (f p) (g p)) → S (given_once (Q₁.padding offset x packed) f) (given_once (Q₂.padding offset x packed) g)) where
  cput : (a : List ℕ) → S (put a) (put a)
  cput a = r_put N₁ N₂ Fits FitsValue S C a

  cthen : {v₁ w₁ : Writer U} {v₂ w₂ : Writer W} → S v₁ v₂ → S w₁ w₂ → S (v₁ ⨾ w₁) (v₂ ⨾ w₂)
  cthen {v₁} {w₁} {v₂} {w₂} h k = C.c_then v₁ w₁ v₂ w₂ h k

  ctype : {k₁ : Name → Writer U} {k₂ : Name → Writer W} → (space : Space) (id : ℕ) (name : Name) → Fits space id name → ((n : Name) → S (k₁ n) (k₂ n)) → S (resolve_type_name N₁ space id name k₁) (resolve_type_name N₂ space id name k₂)
  unfolding resolve_type_name
  ctype {k₁} {k₂} space id name fit h = go (is_empty name) refl
    where
      go : (b : Bool) → is_empty name ≡ b
          → S (elim b [ true ↦ k₁ name | false ↦ resolving (N₁.type_version space id name) (λ v. k₁ (spelled name v)) ]) (elim b [ true ↦ k₂ name | false ↦ resolving (N₂.type_version space id name) (λ v. k₂ (spelled name v)) ])
      go true e = h name
      go false e = C.c_type space id name fit e (λ v. k₁ (spelled name v)) (λ v. k₂ (spelled name v)) (λ v. h (spelled name v))

  -- the body of a composite
  module _ {d₁ : ℕ → Name → ℕ → Writer U} {d₂ : ℕ → Name → ℕ → Writer W} (hd : (id : ℕ) (m : Name) (l : ℕ) → S (d₁ id m l) (d₂ id m l)) (id : ℕ) where
    both_members : (tail : ℕ → List Pad) (lvl : ℕ) (packed : Bool) (i offset : ℕ) (ms : List Member)
        → S (emit_members_once Q₁ N₁ B d₁ id tail lvl packed i offset ms) (emit_members_once Q₂ N₂ B d₂ id tail lvl packed i offset ms)
    unfolding emit_members_once
    both_members tail lvl packed i offset [] = cput _
    both_members tail lvl packed i offset (m ∷ ms) =
        cthen (on_pads offset m packed (λ ps. put _) (λ ps. put _) (λ ps. cput _))
        (cthen (cput _) (cthen (cput _) (cthen (hd m.type_id m.name lvl) (cthen (cput _)
        (r_given N₁ N₂ Fits FitsValue S C (end_of B m) (asks_end B m) (λ end. cthen (cput _) (cthen (cput _) (both_members tail lvl packed (i + 1) end ms))))))))

    both_def : (s : Bool) (name : Name) (sz : ℕ) (ms : List Member) → Fits tag_space id name → (lvl : ℕ) → S (composite_def_once Q₁ N₁ B d₁ id s name sz ms lvl) (composite_def_once Q₂ N₂ B d₂ id s name sz ms lvl)
    unfolding composite_def_once composite_body_once
    both_def s name sz ms fit lvl =
        r_if N₁ N₂ Fits FitsValue S C (builtin name) (cput [])
        (on_body s id sz ms (λ packed. composite_body_once Q₁ N₁ B d₁ id s name sz ms lvl packed) (λ packed. composite_body_once Q₂ N₂ B d₂ id s name sz ms lvl packed) (λ packed.
        cthen (r_composite_head N₁ N₂ Fits FitsValue S C B {d₁ = d₁} {d₂ = d₂} hd id s name fit)
        (cthen (both_members (tail_pads B.placing B.ptr_sz s sz) (deeper lvl) packed 0 0 ms)
        (r_composite_end N₁ N₂ Fits FitsValue S C B {d₁ = d₁} {d₂ = d₂} hd id lvl ms packed))))

  mutual
    unfolding emit_type_decl_once emit_type_chain_once emit_composite_def_once

    both_type_decl : (left id : ℕ) (fname : Name) (lvl : ℕ) → S (emit_type_decl_once Q₁ N₁ B left id fname lvl) (emit_type_decl_once Q₂ N₂ B left id fname lvl)
    both_type_decl zero id fname lvl = C.c_stop 12 (inl refl)
    both_type_decl (suc left) id fname lvl = r_given N₁ N₂ Fits FitsValue S C (chain_of 512 B id []) (asks_chain B 512 id []) (λ c. both_type_chain left c fname lvl)

    both_type_chain : (left : ℕ) (c : List Entry) (fname : Name) (lvl : ℕ) → S (emit_type_chain_once Q₁ N₁ B left c fname lvl) (emit_type_chain_once Q₂ N₂ B left c fname lvl)
    both_type_chain zero c fname lvl = C.c_stop 12 (inl refl)
    both_type_chain (suc left) c fname lvl =
        r_chain_loop N₁ N₂ Fits FitsValue S C B
        {d₁ = λ id m l. emit_type_decl_once Q₁ N₁ B left id m l} {d₂ = λ id m l. emit_type_decl_once Q₂ N₂ B left id m l} (λ id m l. both_type_decl left id m l)
        {c₁ = λ d m l. emit_type_chain_once Q₁ N₁ B left d m l} {c₂ = λ d m l. emit_type_chain_once Q₂ N₂ B left d m l} (λ d m l. both_type_chain left d m l)
        {f₁ = λ id s m z ms l. emit_composite_def_once Q₁ N₁ B left id s m z ms l} {f₂ = λ id s m z ms l. emit_composite_def_once Q₂ N₂ B left id s m z ms l} (λ id s m z ms l fit. both_composite_def left id s m z ms fit l)
        fname lvl fits (length c) true c

    both_composite_def : (left id : ℕ) (s : Bool) (name : Name) (sz : ℕ) (ms : List Member) → Fits tag_space id name → (lvl : ℕ) → S (emit_composite_def_once Q₁ N₁ B left id s name sz ms lvl) (emit_composite_def_once Q₂ N₂ B left id s name sz ms lvl)
    both_composite_def zero id s name sz ms fit lvl = C.c_stop 12 (inl refl)
    both_composite_def (suc left) id s name sz ms fit lvl =
        both_def {d₁ = λ t m l. emit_type_decl_once Q₁ N₁ B left t m l} {d₂ = λ t m l. emit_type_decl_once Q₂ N₂ B left t m l} (λ t m l. both_type_decl left t m l) id s name sz ms fit lvl

  both_typedef : (id : ℕ) (name : Name) (t : ℕ) → Fits ident_space id name → S (emit_typedef_def_once Q₁ N₁ B id name t) (emit_typedef_def_once Q₂ N₂ B id name t)
  unfolding emit_typedef_def_once
  both_typedef id name t fit = cthen (ctype ident_space id name fit (λ m. cthen (cput _) (both_type_decl 512 t m 0))) (cput _)

  pub both_definition : (id : ℕ) (t : BtfType) → TypeFits Fits FitsValue id t → S (definition_once Q₁ N₁ B id t) (definition_once Q₂ N₂ B id t)
  unfolding definition_once
  both_definition id Void fit = cput _
  both_definition id (Int m b) fit = cput _
  both_definition id (Ptr t) fit = cput _
  both_definition id (Array t k) fit = cput _
  both_definition id (Composite s m z ms) fit = cthen (both_composite_def 512 id s m z ms fit 0) (cput _)
  both_definition id (Enum s m z vs) fit = cthen (r_emit_enum_def N₁ N₂ Fits FitsValue S C B (enum_value s) id m vs 0 fit.0 fit.1) (cput _)
  both_definition id (Enum64 s m z vs) fit = cthen (r_emit_enum_def N₁ N₂ Fits FitsValue S C B (enum64_value s) id m vs 0 fit.0 fit.1) (cput _)
  both_definition id (Fwd u m) fit = cthen (r_emit_fwd_def N₁ N₂ Fits FitsValue S C B id u m fit) (cput _)
  both_definition id (Typedef m t) fit = cput _
  both_definition id (Mod q t) fit = cput _
  both_definition id (Func m) fit = cput _
  both_definition id (Var m) fit = cput _
  both_definition id (Datasec m) fit = cput _
  both_definition id (FuncProto r ps) fit = cput _
  both_definition id (Float m z) fit = cput _
  both_definition id (DeclTag a m t k) fit = cput _
  both_definition id (TypeTag a m t) fit = cput _

  both_shown : {w₁ : Writer U} {w₂ : Writer W} → (name : Name) → S w₁ w₂ → S (shown N₁ B name w₁) (shown N₂ B name w₂)
  unfolding shown
  both_shown name h = r_if N₁ N₂ Fits FitsValue S C (builtin name) (cput []) (cthen h (cput _))

  pub both_forward : (id : ℕ) (t : BtfType) → TypeFits Fits FitsValue id t → S (forward_once Q₁ N₁ B id t) (forward_once Q₂ N₂ B id t)
  unfolding forward_once
  both_forward id Void fit = cput _
  both_forward id (Int m b) fit = cput _
  both_forward id (Ptr t) fit = cput _
  both_forward id (Array t k) fit = cput _
  both_forward id (Composite s m z ms) fit = both_shown m (r_emit_composite_fwd N₁ N₂ Fits FitsValue S C B id s m fit)
  both_forward id (Enum s m z vs) fit = cput _
  both_forward id (Enum64 s m z vs) fit = cput _
  both_forward id (Fwd u m) fit = cput _
  both_forward id (Typedef m t) fit = both_shown m (both_typedef id m t fit)
  both_forward id (Mod q t) fit = cput _
  both_forward id (Func m) fit = cput _
  both_forward id (Var m) fit = cput _
  both_forward id (Datasec m) fit = cput _
  both_forward id (FuncProto r ps) fit = cput _
  both_forward id (Float m z) fit = cput _
  both_forward id (DeclTag a m t k) fit = cput _
  both_forward id (TypeTag a m t) fit = cput _
