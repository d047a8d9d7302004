-- The names that a line asks for are the table's: a type's own, in its own space. Assumes nothing.
use Prim.Native.Nat.{ℕ, zero, suc, ◌+◌, ◌<◌}
use native.Mathlib.Omega.{arith}
use native.Mathlib.Decide.{ℕ_discrete}
use mathlib.Core.Path.{◌≡◌, refl, sym, ap, subst}
use mathlib.Core.List.Memᴰ
use mathlib.Core.List.{List, [], ◌∷◌, ◌++◌, Memᴰ}
use mathlib.Core.Logic.{⊎_elim}
use Rattle.std.proofs.lemmas.Bool.{cases_lt}
use Rattle.spec_c_dumper.specs.rules.Types.{Name, Enumerator, BtfType, Void, Int, Ptr, Array, Composite, Enum, Enum64, Fwd, Typedef, Mod, Func, Var, Datasec, FuncProto, Float, DeclTag, TypeTag, Btf, name_of}
use Rattle.spec_c_dumper.specs.rules.Names.{Space, tag_space, ident_space}
use Rattle.spec_c_dumper.specs.names_apart.Naming.{value_names, names_in, names_to, table_names}
use Rattle.spec_c_dumper.specs.names_apart.Apart.{Ends}
use Rattle.spec_c_dumper.proofs.rules.Closed.{ValuesFit, TypeFits}
use Rattle.spec_c_dumper.proofs.rules.Keeps.{any_value}
use Rattle.proof_two_headers.specs.Spellings.{space_of}

abbrev pub Own : Btf → Space → ℕ → Name → Type 0
Own B space id name = (space ≡ space_of (B.type_by_id id)) × (name ≡ name_of (B.type_by_id id))

values_own : (Fits : Space → ℕ → Name → Type 0) (id i : ℕ) (vs : List Enumerator) → ValuesFit Fits any_value id i vs
values_own Fits id i [] = tt
values_own Fits id i (x ∷ vs) = (tt, values_own Fits id (i + 1) vs)

module _ (B : Btf) (id : ℕ) where
  type_own : (t : BtfType) → t ≡ B.type_by_id id → TypeFits (Own B) any_value id t
  type_own Void e = tt
  type_own (Int n b) e = tt
  type_own (Ptr t) e = tt
  type_own (Array t k) e = tt
  type_own (Composite s n z ms) e = (ap space_of e, ap name_of e)
  type_own (Enum s n z vs) e = ((ap space_of e, ap name_of e), values_own (Own B) id 0 vs)
  type_own (Enum64 s n z vs) e = ((ap space_of e, ap name_of e), values_own (Own B) id 0 vs)
  type_own (Fwd u n) e = (ap space_of e, ap name_of e)
  type_own (Typedef n t) e = (ap space_of e, ap name_of e)
  type_own (Mod q t) e = tt
  type_own (Func n) e = tt
  type_own (Var n) e = tt
  type_own (Datasec n) e = tt
  type_own (FuncProto r ps) e = tt
  type_own (Float n z) e = tt
  type_own (DeclTag a n t k) e = tt
  type_own (TypeTag a n t) e = tt

  pub table_own : TypeFits (Own B) any_value id (B.type_by_id id)
  table_own = type_own (B.type_by_id id) refl

-- ---- each is counted among the names of the table, if that ends

module _ (B : Btf) where
  abbrev pub Listed : Space → ℕ → Name → Type 0
  Listed space id name = Memᴰ name (table_names B space)

  abbrev pub ListedValue : ℕ → ℕ → Name → Type 0
  ListedValue id i name = Memᴰ name (table_names B ident_space)

  to_table : (space : Space) (x : Name) (id k : ℕ) → id < k → Memᴰ x (names_in space (B.type_by_id id)) → Memᴰ x (names_to B space k)
  unfolding names_to
  to_table space x id zero l m = absurd (omega arith)
  to_table space x id (suc k) l m = go (ℕ_discrete id k) (λ h. to_table space x id k h m)
    where
      go : Dec (id ≡ k) → (id < k → Memᴰ x (names_to B space k)) → Memᴰ x (names_in space (B.type_by_id k) ++ names_to B space k)
      go (yes e) f = Memᴰ.append_left (names_to B space k) (subst (λ (j : ℕ). Memᴰ x (names_in space (B.type_by_id j))) e m)
      go (no n) f = Memᴰ.append_right (names_in space (B.type_by_id k)) (f (omega arith))

  values_listed : (id i : ℕ) (vs : List Enumerator) → ((x : Name) → Memᴰ x (value_names vs) → Memᴰ x (table_names B ident_space)) → ValuesFit Listed ListedValue id i vs
  values_listed id i [] h = tt
  values_listed id i (v ∷ vs) h = (h v.name (Memᴰ.head refl), values_listed id (i + 1) vs (λ x m. h x (Memᴰ.tail m)))

  type_listed : (id : ℕ) (t : BtfType) → ((space : Space) (x : Name) → Memᴰ x (names_in space t) → Memᴰ x (table_names B space)) → TypeFits Listed ListedValue id t
  type_listed id Void h = tt
  type_listed id (Int n b) h = tt
  type_listed id (Ptr t) h = tt
  type_listed id (Array t k) h = tt
  type_listed id (Composite s n z ms) h = h tag_space n (Memᴰ.head refl)
  type_listed id (Enum s n z vs) h = (h tag_space n (Memᴰ.head refl), values_listed id 0 vs (h ident_space))
  type_listed id (Enum64 s n z vs) h = (h tag_space n (Memᴰ.head refl), values_listed id 0 vs (h ident_space))
  type_listed id (Fwd u n) h = h tag_space n (Memᴰ.head refl)
  type_listed id (Typedef n t) h = h ident_space n (Memᴰ.head refl)
  type_listed id (Mod q t) h = tt
  type_listed id (Func n) h = tt
  type_listed id (Var n) h = tt
  type_listed id (Datasec n) h = tt
  type_listed id (FuncProto r ps) h = tt
  type_listed id (Float n z) h = tt
  type_listed id (DeclTag a n t k) h = tt
  type_listed id (TypeTag a n t) h = tt

  pub table_listed : Ends B → (id : ℕ) → TypeFits Listed ListedValue id (B.type_by_id id)
  table_listed ends id = ⊎_elim
      (λ l. type_listed id (B.type_by_id id) (λ space x m. to_table space x id B.type_cnt l m))
      (λ l. subst (λ (t : BtfType). TypeFits Listed ListedValue id t) (sym (ends id l)) tt)
      (cases_lt id B.type_cnt)
