-- A type whose stored ids and names are replaced is the same type to the rules, where names that it mentions are the same names. Assumes nothing.
use Prim.Native.Nat.{ℕ, ◌+◌, ◌*◌}
use mathlib.Core.Path.{◌≡◌, refl, ap₂, subst}
use mathlib.Core.Bool.{true, false}
use mathlib.Core.List.{List, [], ◌∷◌, Memᴰ}
use Rattle.spec_linux_btf.specs.Documentation.{Member, member, Enumerator, enumerator, Param, param, Enumerator64, enumerator64, int, ptr, array, struct, union, enum, fwd, typedef, volatile, const, restrict, func, func_proto, var, datasec, float, decl_tag, type_tag, enum64, Described, described}
use Rattle.spec_c_dumper.specs.rules.Types as R
use Rattle.spec_c_dumper.specs.rules.Types.{Name, BtfType, Int, Composite, Enum, Enum64, Fwd, Typedef, Func, Var, Datasec, Float, DeclTag, TypeTag}
use Rattle.spec_type_table.specs.declared.types.TypeTable.{TypeTable}
use Rattle.spec_type_table.specs.Names.{str_at}
use Rattle.spec_type_table.specs.Documented.{is_set, kept_members, kept_params, kept_values, kept_values64, kept}
use Rattle.spec_cut.specs.section.Kept.{member_ids, param_ids, followed_ids}
use Rattle.spec_cut.specs.section.Renumbered.{new_members, new_params, new_values, new_values64, renamed}
use Rattle.spec_cut.specs.section.Strings.{member_names, param_names, value_names, value64_names, mentions}
use Rattle.spec_cut.specs.section.Stands as S

module _ (b : TypeTable) (s : List ℕ) (b' : TypeTable) (s' : List ℕ) (i o : ℕ → ℕ) (J : ℕ → ℕ → Type 0) where
  -- the names at these offsets are the same
  abbrev pub SameNames : List ℕ → Type 0
  SameNames ns = (n : ℕ) → Memᴰ n ns → str_at b s n ≡ str_at b' s' (o n)

  -- these ids have their numbers
  abbrev pub Numbered : List ℕ → Type 0
  Numbered xs = (x : ℕ) → Memᴰ x xs → J x (i x)

  members_renamed : (ms : List Member) → SameNames (member_names ms) → Numbered (member_ids ms) → S.SameMembers J (kept_members b.strs s ms) (kept_members b'.strs s' (new_members i o ms))
  members_renamed [] hn hi = S.no_members
  members_renamed (member n t offset size ∷ ms) hn hi =
      subst
      (λ (k : Name). S.SameMembers J (kept_members b.strs s (member n t offset size ∷ ms)) (record { name = k; type_id = i t; bit_offset = offset; bit_size = size } ∷ kept_members b'.strs s' (new_members i o ms)))
      (hn n (Memᴰ.head refl))
      (S.member (str_at b s n) t (i t) offset size (hi t (Memᴰ.head refl)) (members_renamed ms (λ k e. hn k (Memᴰ.tail e)) (λ k e. hi k (Memᴰ.tail e))))

  params_renamed : (ps : List Param) → SameNames (param_names ps) → Numbered (param_ids ps) → S.SameParams J (kept_params b.strs s ps) (kept_params b'.strs s' (new_params i o ps))
  params_renamed [] hn hi = S.no_params
  params_renamed (param n t ∷ ps) hn hi =
      subst
      (λ (k : Name). S.SameParams J (kept_params b.strs s (param n t ∷ ps)) (record { name = k; type_id = i t } ∷ kept_params b'.strs s' (new_params i o ps)))
      (hn n (Memᴰ.head refl))
      (S.param (str_at b s n) t (i t) (hi t (Memᴰ.head refl)) (params_renamed ps (λ k e. hn k (Memᴰ.tail e)) (λ k e. hi k (Memᴰ.tail e))))

  values_renamed : (vs : List Enumerator) → SameNames (value_names vs) → kept_values b.strs s vs ≡ kept_values b'.strs s' (new_values i o vs)
  values_renamed [] hn = refl
  values_renamed (enumerator n v ∷ vs) hn =
      ap₂ (λ (k : Name) (l : List R.Enumerator). record { name = k; value = v } ∷ l) (hn n (Memᴰ.head refl)) (values_renamed vs (λ k e. hn k (Memᴰ.tail e)))

  values64_renamed : (vs : List Enumerator64) → SameNames (value64_names vs) → kept_values64 b.strs s vs ≡ kept_values64 b'.strs s' (new_values64 i o vs)
  values64_renamed [] hn = refl
  values64_renamed (enumerator64 n lo hi ∷ vs) hn =
      ap₂ (λ (k : Name) (l : List R.Enumerator). record { name = k; value = hi * 4294967296 + lo } ∷ l) (hn n (Memᴰ.head refl)) (values64_renamed vs (λ k e. hn k (Memᴰ.tail e)))

  by_name : (F : Name → BtfType) (n : ℕ) (t : BtfType) → str_at b s n ≡ str_at b' s' (o n) → S.SameType J t (F (str_at b s n)) → S.SameType J t (F (str_at b' s' (o n)))
  by_name F n t e h = subst (λ (k : Name). S.SameType J t (F k)) e h

  pub type_renamed : (t : Described) → SameNames (mentions t) → Numbered (followed_ids t) → S.SameType J (kept b.strs s t) (kept b'.strs s' (renamed i o t))
  unfolding kept renamed mentions
  type_renamed (described n f z (int v a c d e g)) hn hi = by_name (λ k. Int k a) n _ (hn n (Memᴰ.head refl)) (S.int _ a)
  type_renamed (described n f z (ptr v)) hn hi = S.ptr z (i z) (hi z (Memᴰ.head refl))
  type_renamed (described n f z (array v t x k)) hn hi = S.array t (i t) k (hi t (Memᴰ.head refl))
  type_renamed (described n f z (struct ms)) hn hi =
      by_name (λ k. Composite true k z (kept_members b'.strs s' (new_members i o ms))) n _ (hn n (Memᴰ.head refl)) (S.composite true _ z _ _ (members_renamed ms (λ k e. hn k (Memᴰ.tail e)) hi))
  type_renamed (described n f z (union ms)) hn hi =
      by_name (λ k. Composite false k z (kept_members b'.strs s' (new_members i o ms))) n _ (hn n (Memᴰ.head refl)) (S.composite false _ z _ _ (members_renamed ms (λ k e. hn k (Memᴰ.tail e)) hi))
  type_renamed (described n f z (enum vs)) hn hi =
      by_name (λ k. Enum (is_set f) k z (kept_values b'.strs s' (new_values i o vs))) n _ (hn n (Memᴰ.head refl))
      (subst (λ (l : List R.Enumerator). S.SameType J (Enum (is_set f) (str_at b s n) z (kept_values b.strs s vs)) (Enum (is_set f) (str_at b s n) z l)) (values_renamed vs (λ k e. hn k (Memᴰ.tail e))) (S.enum (is_set f) _ z _))
  type_renamed (described n f z (fwd v)) hn hi = by_name (λ k. Fwd (is_set f) k) n _ (hn n (Memᴰ.head refl)) (S.fwd (is_set f) _)
  type_renamed (described n f z (typedef v)) hn hi = by_name (λ k. Typedef k (i z)) n _ (hn n (Memᴰ.head refl)) (S.typedef _ z (i z) (hi z (Memᴰ.head refl)))
  type_renamed (described n f z (volatile v)) hn hi = S.qualified R.volatile z (i z) (hi z (Memᴰ.head refl))
  type_renamed (described n f z (const v)) hn hi = S.qualified R.const z (i z) (hi z (Memᴰ.head refl))
  type_renamed (described n f z (restrict v)) hn hi = S.qualified R.restrict z (i z) (hi z (Memᴰ.head refl))
  type_renamed (described n f z (func v)) hn hi = by_name Func n _ (hn n (Memᴰ.head refl)) (S.func _)
  type_renamed (described n f z (func_proto ps)) hn hi =
      S.proto z (i z) _ _ (hi z (Memᴰ.head refl)) (params_renamed ps (λ k e. hn k (Memᴰ.tail e)) (λ k e. hi k (Memᴰ.tail e)))
  type_renamed (described n f z (var v l)) hn hi = by_name Var n _ (hn n (Memᴰ.head refl)) (S.var _)
  type_renamed (described n f z (datasec ss)) hn hi = by_name Datasec n _ (hn n (Memᴰ.head refl)) (S.datasec _)
  type_renamed (described n f z (float v)) hn hi = by_name (λ k. Float k z) n _ (hn n (Memᴰ.head refl)) (S.float _ z)
  type_renamed (described n f z (decl_tag v c)) hn hi = by_name (λ k. DeclTag (is_set f) k (i z) c) n _ (hn n (Memᴰ.head refl)) (S.decl_tag (is_set f) _ z (i z) c)
  type_renamed (described n f z (type_tag v)) hn hi = by_name (λ k. TypeTag (is_set f) k (i z)) n _ (hn n (Memᴰ.head refl)) (S.type_tag (is_set f) _ z (i z) (hi z (Memᴰ.head refl)))
  type_renamed (described n f z (enum64 vs)) hn hi =
      by_name (λ k. Enum64 (is_set f) k z (kept_values64 b'.strs s' (new_values64 i o vs))) n _ (hn n (Memᴰ.head refl))
      (subst (λ (l : List R.Enumerator). S.SameType J (Enum64 (is_set f) (str_at b s n) z (kept_values64 b.strs s vs)) (Enum64 (is_set f) (str_at b s n) z l)) (values64_renamed vs (λ k e. hn k (Memᴰ.tail e))) (S.enum64 (is_set f) _ z _))
