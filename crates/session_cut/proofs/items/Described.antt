-- A described type, renamed, in bytes, and the names that it mentions, word by word. Assumes nothing.
use Prim.Native.Nat.{ℕ, suc}
use mathlib.Core.Path.{◌≡◌, refl, ap}
use mathlib.Core.Bool.{Bool}
use mathlib.Core.List.{List, [], ◌∷◌, ◌++◌}
use lib.ListN.{length}
use Rattle.spec_linux_btf.specs.Documentation.{in_bytes, pack, btf_info, put_each, put_member, put_enumerator, put_param, put_secinfo, put_enumerator64, offset_word, Member, member, Enumerator, enumerator, Param, param, Secinfo, secinfo, Enumerator64, enumerator64, int, ptr, array, struct, union, enum, fwd, typedef, volatile, const, restrict, func, func_proto, var, datasec, float, decl_tag, type_tag, enum64, Described, described, encode}
use Rattle.spec_cut.specs.section.Renumbered.{new_members, new_params, new_values, new_values64, new_secinfos, renamed}
use Rattle.spec_cut.specs.section.Strings.{member_names, param_names, value_names, value64_names, mentions}
use Rattle.session_cut.specs.items.Items.{Item, act, flat, name_item, member_items, value_items, param_items, secinfo_items, value64_items, items}

module _ (big : Bool) (i o : ℕ → ℕ) where
  -- a word in bytes
  abbrev pub put : Item → List ℕ
  put x = in_bytes big 4 (act i o x)

  members_length : (ms : List Member) → length (new_members i o ms) ≡ length ms
  members_length [] = refl
  members_length (member n t bit size ∷ ms) = ap suc (members_length ms)

  params_length : (ms : List Param) → length (new_params i o ms) ≡ length ms
  params_length [] = refl
  params_length (param n t ∷ ms) = ap suc (params_length ms)

  values_length : (ms : List Enumerator) → length (new_values i o ms) ≡ length ms
  values_length [] = refl
  values_length (enumerator n t ∷ ms) = ap suc (values_length ms)

  values64_length : (ms : List Enumerator64) → length (new_values64 i o ms) ≡ length ms
  values64_length [] = refl
  values64_length (enumerator64 n lo hi ∷ ms) = ap suc (values64_length ms)

  secinfos_length : (ms : List Secinfo) → length (new_secinfos i o ms) ≡ length ms
  secinfos_length [] = refl
  secinfos_length (secinfo t a z ∷ ms) = ap suc (secinfos_length ms)

  members_put : (f : ℕ) (ms : List Member) → put_each (put_member big f) (new_members i o ms) ≡ flat put (member_items f ms)
  members_put f [] = refl
  members_put f (member n t bit size ∷ ms) = ap (λ (l : List ℕ). in_bytes big 4 (o n) ++ (in_bytes big 4 (i t) ++ (in_bytes big 4 (offset_word f bit size) ++ l))) (members_put f ms)

  params_put : (ms : List Param) → put_each (put_param big) (new_params i o ms) ≡ flat put (param_items ms)
  params_put [] = refl
  params_put (param n t ∷ ms) = ap (λ (l : List ℕ). in_bytes big 4 (o n) ++ (in_bytes big 4 (i t) ++ l)) (params_put ms)

  values_put : (ms : List Enumerator) → put_each (put_enumerator big) (new_values i o ms) ≡ flat put (value_items ms)
  values_put [] = refl
  values_put (enumerator n v ∷ ms) = ap (λ (l : List ℕ). in_bytes big 4 (o n) ++ (in_bytes big 4 v ++ l)) (values_put ms)

  values64_put : (ms : List Enumerator64) → put_each (put_enumerator64 big) (new_values64 i o ms) ≡ flat put (value64_items ms)
  values64_put [] = refl
  values64_put (enumerator64 n lo hi ∷ ms) = ap (λ (l : List ℕ). in_bytes big 4 (o n) ++ (in_bytes big 4 lo ++ (in_bytes big 4 hi ++ l))) (values64_put ms)

  secinfos_put : (ms : List Secinfo) → put_each (put_secinfo big) (new_secinfos i o ms) ≡ flat put (secinfo_items ms)
  secinfos_put [] = refl
  secinfos_put (secinfo t a z ∷ ms) = ap (λ (l : List ℕ). in_bytes big 4 (i t) ++ (in_bytes big 4 a ++ (in_bytes big 4 z ++ l))) (secinfos_put ms)

  -- a record whose entries are counted by info.vlen
  counted : (n k f z v v' : ℕ) (l l' : List ℕ) → v ≡ v' → l ≡ l'
      → in_bytes big 4 n ++ (in_bytes big 4 (pack btf_info (v ∷ k ∷ f ∷ [])) ++ (in_bytes big 4 z ++ l)) ≡ in_bytes big 4 n ++ (in_bytes big 4 (pack btf_info (v' ∷ k ∷ f ∷ [])) ++ (in_bytes big 4 z ++ l'))
  counted n k f z v v' l l' e q = λ j. in_bytes big 4 n ++ (in_bytes big 4 (pack btf_info (e j ∷ k ∷ f ∷ [])) ++ (in_bytes big 4 z ++ q j))

  pub encode_items : (t : Described) → encode big (renamed i o t) ≡ flat put (items t)
  unfolding encode renamed items
  encode_items (described n f z (int v a b c d e)) = refl
  encode_items (described n f z (ptr v)) = refl
  encode_items (described n f z (array v t x k)) = refl
  encode_items (described n f z (struct ms)) = counted (o n) 4 f z _ _ _ _ (members_length ms) (members_put f ms)
  encode_items (described n f z (union ms)) = counted (o n) 5 f z _ _ _ _ (members_length ms) (members_put f ms)
  encode_items (described n f z (enum es)) = counted (o n) 6 f z _ _ _ _ (values_length es) (values_put es)
  encode_items (described n f z (fwd v)) = refl
  encode_items (described n f z (typedef v)) = refl
  encode_items (described n f z (volatile v)) = refl
  encode_items (described n f z (const v)) = refl
  encode_items (described n f z (restrict v)) = refl
  encode_items (described n f z (func v)) = refl
  encode_items (described n f z (func_proto ps)) = counted (o n) 13 f (i z) _ _ _ _ (params_length ps) (params_put ps)
  encode_items (described n f z (var v l)) = refl
  encode_items (described n f z (datasec ss)) = counted (o n) 15 f z _ _ _ _ (secinfos_length ss) (secinfos_put ss)
  encode_items (described n f z (float v)) = refl
  encode_items (described n f z (decl_tag v c)) = refl
  encode_items (described n f z (type_tag v)) = refl
  encode_items (described n f z (enum64 es)) = counted (o n) 19 f z _ _ _ _ (values64_length es) (values64_put es)

-- ---- the names

member_names_lem : (f : ℕ) (ms : List Member) → member_names ms ≡ flat name_item (member_items f ms)
member_names_lem f [] = refl
member_names_lem f (member n t bit size ∷ ms) = ap (λ (l : List ℕ). n ∷ l) (member_names_lem f ms)

param_names_lem : (ms : List Param) → param_names ms ≡ flat name_item (param_items ms)
param_names_lem [] = refl
param_names_lem (param n t ∷ ms) = ap (λ (l : List ℕ). n ∷ l) (param_names_lem ms)

value_names_lem : (ms : List Enumerator) → value_names ms ≡ flat name_item (value_items ms)
value_names_lem [] = refl
value_names_lem (enumerator n v ∷ ms) = ap (λ (l : List ℕ). n ∷ l) (value_names_lem ms)

value64_names_lem : (ms : List Enumerator64) → value64_names ms ≡ flat name_item (value64_items ms)
value64_names_lem [] = refl
value64_names_lem (enumerator64 n lo hi ∷ ms) = ap (λ (l : List ℕ). n ∷ l) (value64_names_lem ms)

secinfo_names : (ms : List Secinfo) → [] ≡ flat name_item (secinfo_items ms)
secinfo_names [] = refl
secinfo_names (secinfo t a z ∷ ms) = secinfo_names ms

pub mentions_items : (t : Described) → mentions t ≡ flat name_item (items t)
unfolding mentions items
mentions_items (described n f z (int v a b c d e)) = refl
mentions_items (described n f z (ptr v)) = refl
mentions_items (described n f z (array v t x k)) = refl
mentions_items (described n f z (struct ms)) = ap (λ (l : List ℕ). n ∷ l) (member_names_lem f ms)
mentions_items (described n f z (union ms)) = ap (λ (l : List ℕ). n ∷ l) (member_names_lem f ms)
mentions_items (described n f z (enum es)) = ap (λ (l : List ℕ). n ∷ l) (value_names_lem es)
mentions_items (described n f z (fwd v)) = refl
mentions_items (described n f z (typedef v)) = refl
mentions_items (described n f z (volatile v)) = refl
mentions_items (described n f z (const v)) = refl
mentions_items (described n f z (restrict v)) = refl
mentions_items (described n f z (func v)) = refl
mentions_items (described n f z (func_proto ps)) = ap (λ (l : List ℕ). n ∷ l) (param_names_lem ps)
mentions_items (described n f z (var v l)) = refl
mentions_items (described n f z (datasec ss)) = ap (λ (l : List ℕ). n ∷ l) (secinfo_names ss)
mentions_items (described n f z (float v)) = refl
mentions_items (described n f z (decl_tag v c)) = refl
mentions_items (described n f z (type_tag v)) = refl
mentions_items (described n f z (enum64 es)) = ap (λ (l : List ℕ). n ∷ l) (value64_names_lem es)
