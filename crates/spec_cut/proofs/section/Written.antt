-- The new section is read back as the new types and strings: no cause 2 to 5 of opening holds of it. Assumes nothing.
use Prim.Native.Nat.{ℕ, suc, ◌^◌, ◌<◌, ◌≤◌}
use native.Mathlib.Omega.{arith}
use mathlib.Core.Path.{◌≡◌, refl, ◌∙◌, ap, subst}
use mathlib.Core.Bool.{Bool, true, false}
use mathlib.Core.List.Memᴰ
use mathlib.Core.List.{List, [], ◌∷◌, Memᴰ}
use lib.ListN.{length, get_or}
use Rattle.spec_linux_btf.specs.Documentation.{Member, member, Enumerator, enumerator, Param, param, Secinfo, secinfo, Enumerator64, enumerator64, int, ptr, array, struct, union, enum, fwd, typedef, volatile, const, restrict, func, func_proto, var, datasec, float, decl_tag, type_tag, enum64, Described, described, btf_info, FitRanges, Every, FitMember, FitEnumerator, FitParam, FitSecinfo, FitEnumerator64, Fits, NamedMember, NamedEnumerator, NamedParam, NamedEnumerator64, Named, Allowed, encode_all}
use Rattle.spec_linux_btf.specs.Reading.{decode_all}
use Rattle.spec_linux_btf.specs.Section.{is_big_endian, type_area, string_area, header_sound, types_sound}
use Rattle.spec_linux_btf.proofs.Section.{section_order, section_strings, section_header, section_sound, section_read}
use Rattle.spec_linux_btf.proofs.Area.{allowed_fits}
use Rattle.spec_type_table.specs.Names.{name_at}
use Rattle.spec_cut.specs.section.Renumbered.{new_id, kept_types, new_members, new_params, new_values, new_values64, new_secinfos, renamed, renamed_all}
use Rattle.spec_cut.specs.section.Strings.{member_names, param_names, value_names, value64_names, mentions, all_mentions, first_names}
use Rattle.spec_cut.specs.section.Section.{types_of, old_types, new_names, new_offset, new_types, new_strings, cut_section}
use Rattle.spec_cut.proofs.section.Numbers.{kept_le, new_le, kept_length, renamed_length}
use Rattle.spec_cut.proofs.section.Names.{all_has, place_below}

-- i: no number above the old; o: the names that are mentioned stand below sl, itself below 2^32
module _ (i o : ℕ → ℕ) (sl : ℕ) (small : sl ≤ 4294967296) (low : (x : ℕ) → i x ≤ x) where
  abbrev Placed : List ℕ → Type 0
  Placed ns = (n : ℕ) → Memᴰ n ns → o n < sl

  num : (x : ℕ) → x < 2 ^ 32 → i x < 2 ^ 32
  num x h = omega (arith, low x, h)

  off : (n : ℕ) → o n < sl → o n < 2 ^ 32
  off n h = omega (arith, small, h)

  members_length : (ms : List Member) → length ms ≡ length (new_members i o ms)
  members_length [] = refl
  members_length (member n t bit size ∷ ms) = ap suc (members_length ms)

  params_length : (ms : List Param) → length ms ≡ length (new_params i o ms)
  params_length [] = refl
  params_length (param n t ∷ ms) = ap suc (params_length ms)

  values_length : (ms : List Enumerator) → length ms ≡ length (new_values i o ms)
  values_length [] = refl
  values_length (enumerator n t ∷ ms) = ap suc (values_length ms)

  values64_length : (ms : List Enumerator64) → length ms ≡ length (new_values64 i o ms)
  values64_length [] = refl
  values64_length (enumerator64 n lo hi ∷ ms) = ap suc (values64_length ms)

  secinfos_length : (ms : List Secinfo) → length ms ≡ length (new_secinfos i o ms)
  secinfos_length [] = refl
  secinfos_length (secinfo t a z ∷ ms) = ap suc (secinfos_length ms)

  members_fit : (f : ℕ) (ms : List Member) → Placed (member_names ms) → Every (FitMember f) ms → Every (FitMember f) (new_members i o ms)
  members_fit f [] p h = tt
  members_fit f (member n t bit size ∷ ms) p h = ((off n (p n (Memᴰ.head refl)), num t h.0.1, h.0.2), members_fit f ms (λ k e. p k (Memᴰ.tail e)) h.1)

  params_fit : (ms : List Param) → Placed (param_names ms) → Every FitParam ms → Every FitParam (new_params i o ms)
  params_fit [] p h = tt
  params_fit (param n t ∷ ms) p h = ((off n (p n (Memᴰ.head refl)), (num t h.0.1.0, tt)), params_fit ms (λ k e. p k (Memᴰ.tail e)) h.1)

  values_fit : (ms : List Enumerator) → Placed (value_names ms) → Every FitEnumerator ms → Every FitEnumerator (new_values i o ms)
  values_fit [] p h = tt
  values_fit (enumerator n v ∷ ms) p h = ((off n (p n (Memᴰ.head refl)), (h.0.1.0, tt)), values_fit ms (λ k e. p k (Memᴰ.tail e)) h.1)

  values64_fit : (ms : List Enumerator64) → Placed (value64_names ms) → Every FitEnumerator64 ms → Every FitEnumerator64 (new_values64 i o ms)
  values64_fit [] p h = tt
  values64_fit (enumerator64 n lo hi ∷ ms) p h = ((off n (p n (Memᴰ.head refl)), (h.0.1.0, (h.0.1.1.0, tt))), values64_fit ms (λ k e. p k (Memᴰ.tail e)) h.1)

  secinfos_fit : (ms : List Secinfo) → Every FitSecinfo ms → Every FitSecinfo (new_secinfos i o ms)
  secinfos_fit [] h = tt
  secinfos_fit (secinfo t a z ∷ ms) h = ((num t h.0.0, (h.0.1.0, (h.0.1.1.0, tt))), secinfos_fit ms h.1)

  info : (k f : ℕ) (v v' : ℕ) → v ≡ v' → FitRanges btf_info (v ∷ k ∷ f ∷ []) → FitRanges btf_info (v' ∷ k ∷ f ∷ [])
  info k f v v' e h = subst (λ (w : ℕ). FitRanges btf_info (w ∷ k ∷ f ∷ [])) e h

  pub renamed_fits : (t : Described) → Placed (mentions t) → Fits t → Fits (renamed i o t)
  unfolding renamed mentions
  renamed_fits (described n f z (int v a b c d e)) p h = (off n (p n (Memᴰ.head refl)), h.1, h.2, h.3)
  renamed_fits (described n f z (ptr v)) p h = (off n (p n (Memᴰ.head refl)), num z h.1, h.2, h.3)
  renamed_fits (described n f z (array v t x k)) p h = (off n (p n (Memᴰ.head refl)), h.1, h.2, (num t h.3.0, (num x h.3.1.0, (h.3.1.1.0, tt))))
  renamed_fits (described n f z (struct ms)) p h =
      (off n (p n (Memᴰ.head refl)), h.1, info 4 f _ _ (members_length ms) h.2, members_fit f ms (λ k e. p k (Memᴰ.tail e)) h.3)
  renamed_fits (described n f z (union ms)) p h =
      (off n (p n (Memᴰ.head refl)), h.1, info 5 f _ _ (members_length ms) h.2, members_fit f ms (λ k e. p k (Memᴰ.tail e)) h.3)
  renamed_fits (described n f z (enum es)) p h =
      (off n (p n (Memᴰ.head refl)), h.1, info 6 f _ _ (values_length es) h.2, values_fit es (λ k e. p k (Memᴰ.tail e)) h.3)
  renamed_fits (described n f z (fwd v)) p h = (off n (p n (Memᴰ.head refl)), h.1, h.2, h.3)
  renamed_fits (described n f z (typedef v)) p h = (off n (p n (Memᴰ.head refl)), num z h.1, h.2, h.3)
  renamed_fits (described n f z (volatile v)) p h = (off n (p n (Memᴰ.head refl)), num z h.1, h.2, h.3)
  renamed_fits (described n f z (const v)) p h = (off n (p n (Memᴰ.head refl)), num z h.1, h.2, h.3)
  renamed_fits (described n f z (restrict v)) p h = (off n (p n (Memᴰ.head refl)), num z h.1, h.2, h.3)
  renamed_fits (described n f z (func v)) p h = (off n (p n (Memᴰ.head refl)), num z h.1, h.2, h.3)
  renamed_fits (described n f z (func_proto ps)) p h =
      (off n (p n (Memᴰ.head refl)), num z h.1, info 13 f _ _ (params_length ps) h.2, params_fit ps (λ k e. p k (Memᴰ.tail e)) h.3)
  renamed_fits (described n f z (var v l)) p h = (off n (p n (Memᴰ.head refl)), num z h.1, h.2, h.3)
  renamed_fits (described n f z (datasec ss)) p h = (off n (p n (Memᴰ.head refl)), h.1, info 15 f _ _ (secinfos_length ss) h.2, secinfos_fit ss h.3)
  renamed_fits (described n f z (float v)) p h = (off n (p n (Memᴰ.head refl)), h.1, h.2, h.3)
  renamed_fits (described n f z (decl_tag v c)) p h = (off n (p n (Memᴰ.head refl)), num z h.1, h.2, h.3)
  renamed_fits (described n f z (type_tag v)) p h = (off n (p n (Memᴰ.head refl)), num z h.1, h.2, h.3)
  renamed_fits (described n f z (enum64 es)) p h =
      (off n (p n (Memᴰ.head refl)), h.1, info 19 f _ _ (values64_length es) h.2, values64_fit es (λ k e. p k (Memᴰ.tail e)) h.3)

  members_named : (ms : List Member) → Placed (member_names ms) → Every (NamedMember sl) (new_members i o ms)
  members_named [] p = tt
  members_named (member n t bit size ∷ ms) p = (p n (Memᴰ.head refl), members_named ms (λ k e. p k (Memᴰ.tail e)))

  params_named : (ms : List Param) → Placed (param_names ms) → Every (NamedParam sl) (new_params i o ms)
  params_named [] p = tt
  params_named (param n t ∷ ms) p = (p n (Memᴰ.head refl), params_named ms (λ k e. p k (Memᴰ.tail e)))

  values_named : (ms : List Enumerator) → Placed (value_names ms) → Every (NamedEnumerator sl) (new_values i o ms)
  values_named [] p = tt
  values_named (enumerator n v ∷ ms) p = (p n (Memᴰ.head refl), values_named ms (λ k e. p k (Memᴰ.tail e)))

  values64_named : (ms : List Enumerator64) → Placed (value64_names ms) → Every (NamedEnumerator64 sl) (new_values64 i o ms)
  values64_named [] p = tt
  values64_named (enumerator64 n lo hi ∷ ms) p = (p n (Memᴰ.head refl), values64_named ms (λ k e. p k (Memᴰ.tail e)))

  pub renamed_named : (t : Described) → Placed (mentions t) → Named sl (renamed i o t)
  unfolding renamed mentions
  renamed_named (described n f z (int v a b c d e)) p = (p n (Memᴰ.head refl), tt)
  renamed_named (described n f z (ptr v)) p = (p n (Memᴰ.head refl), tt)
  renamed_named (described n f z (array v t x k)) p = (p n (Memᴰ.head refl), tt)
  renamed_named (described n f z (struct ms)) p = (p n (Memᴰ.head refl), members_named ms (λ k e. p k (Memᴰ.tail e)))
  renamed_named (described n f z (union ms)) p = (p n (Memᴰ.head refl), members_named ms (λ k e. p k (Memᴰ.tail e)))
  renamed_named (described n f z (enum es)) p = (p n (Memᴰ.head refl), values_named es (λ k e. p k (Memᴰ.tail e)))
  renamed_named (described n f z (fwd v)) p = (p n (Memᴰ.head refl), tt)
  renamed_named (described n f z (typedef v)) p = (p n (Memᴰ.head refl), tt)
  renamed_named (described n f z (volatile v)) p = (p n (Memᴰ.head refl), tt)
  renamed_named (described n f z (const v)) p = (p n (Memᴰ.head refl), tt)
  renamed_named (described n f z (restrict v)) p = (p n (Memᴰ.head refl), tt)
  renamed_named (described n f z (func v)) p = (p n (Memᴰ.head refl), tt)
  renamed_named (described n f z (func_proto ps)) p = (p n (Memᴰ.head refl), params_named ps (λ k e. p k (Memᴰ.tail e)))
  renamed_named (described n f z (var v l)) p = (p n (Memᴰ.head refl), tt)
  renamed_named (described n f z (datasec ss)) p = (p n (Memᴰ.head refl), tt)
  renamed_named (described n f z (float v)) p = (p n (Memᴰ.head refl), tt)
  renamed_named (described n f z (decl_tag v c)) p = (p n (Memᴰ.head refl), tt)
  renamed_named (described n f z (type_tag v)) p = (p n (Memᴰ.head refl), tt)
  renamed_named (described n f z (enum64 es)) p = (p n (Memᴰ.head refl), values64_named es (λ k e. p k (Memᴰ.tail e)))

-- ---- all of them

pub every_kept : (P : Described → Type 0) (m : ℕ → Bool) (x : ℕ) (ts : List Described) → Every P ts → Every P (kept_types m x ts)
unfolding kept_types
every_kept P m x [] h = tt
every_kept P m x (t ∷ ts) h = go (m x) (every_kept P m (suc x) ts h.1)
  where
    go : (c : Bool) → Every P (kept_types m (suc x) ts) → Every P (elim c [ true ↦ t ∷ kept_types m (suc x) ts | false ↦ kept_types m (suc x) ts ])
    go true r = (h.0, r)
    go false r = r

all_allowed : (i o : ℕ → ℕ) (sl : ℕ) → sl ≤ 4294967296 → ((x : ℕ) → i x ≤ x) → (ts : List Described) → ((n : ℕ) → Memᴰ n (all_mentions ts) → o n < sl) → Every Fits ts → Every (Allowed sl) (renamed_all i o ts)
unfolding all_mentions
all_allowed i o sl small low [] p h = tt
all_allowed i o sl small low (t ∷ ts) p h = (
  (renamed_fits i o sl small low t (λ n k. p n (Memᴰ.append_left (all_mentions ts) k)) h.0, renamed_named i o sl small low t (λ n k. p n (Memᴰ.append_left (all_mentions ts) k))),
  all_allowed i o sl small low ts (λ n k. p n (Memᴰ.append_right (mentions t) k)) h.1,
)

-- The new section, not over 16,777,216 bytes in its areas, of a section whose types fit: its header and types pass causes 3 and 5, and it is read as the
-- new types and the new strings, in the old order of bytes.
module _ (m : ℕ → Bool) (s : List ℕ) (flags : get_or s 3 0 < 256) (fit : Every Fits (types_of s)) (few : length (types_of s) ≤ 262144)
    (types_short : length (encode_all (is_big_endian s) (new_types m s)) ≤ 16777216) (strings_short : length (new_strings m s) ≤ 16777216) where
  allowed : Every (Allowed (length (new_strings m s))) (new_types m s)
  allowed =
      all_allowed (new_id m) (new_offset m s) (length (new_strings m s)) (omega (arith, strings_short)) (new_le m) (old_types m s)
      (λ n k. place_below (new_names m s) (name_at (string_area s) n) (all_has (string_area s) (all_mentions (old_types m s)) first_names n k)) (every_kept Fits m 1 (types_of s) fit)

  new_few : length (new_types m s) ≤ 262144
  new_few = omega (arith, few, renamed_length (new_id m) (new_offset m s) (old_types m s), kept_length m (types_of s), kept_le m (length (types_of s)))

  tl : length (encode_all (is_big_endian s) (new_types m s)) < 4294967296
  tl = omega (arith, types_short)

  sl : length (new_strings m s) < 4294967296
  sl = omega (arith, strings_short)

  pub same_order : is_big_endian (cut_section m s) ≡ is_big_endian s
  unfolding cut_section
  same_order = section_order (is_big_endian s) (get_or s 3 0) (new_types m s) (new_strings m s) flags tl sl

  pub read_types : decode_all (is_big_endian s) (type_area (cut_section m s)) ≡ new_types m s
  unfolding cut_section
  read_types = section_read (is_big_endian s) (get_or s 3 0) (new_types m s) (new_strings m s) flags tl sl (allowed_fits (length (new_strings m s)) (new_types m s) allowed) new_few

  pub read_strings : string_area (cut_section m s) ≡ new_strings m s
  unfolding cut_section
  read_strings = section_strings (is_big_endian s) (get_or s 3 0) (new_types m s) (new_strings m s) flags tl sl

  pub no_cause_3 : header_sound (cut_section m s) ≡ true
  unfolding cut_section
  no_cause_3 = section_header (is_big_endian s) (get_or s 3 0) (new_types m s) (new_strings m s) flags tl sl

  pub no_cause_5 : types_sound (cut_section m s) ≡ true
  unfolding cut_section
  no_cause_5 = section_sound (is_big_endian s) (get_or s 3 0) (new_types m s) (new_strings m s) flags tl sl allowed new_few

  -- the types of the new section are the kept ones, renamed
  pub types_read : types_of (cut_section m s) ≡ new_types m s
  types_read = ap (λ (big : Bool). decode_all big (type_area (cut_section m s))) same_order ∙ read_types
