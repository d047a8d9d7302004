-- Names in a section that opening accepted stand in its string area. Assumes nothing.
use Prim.Native.Nat.{ℕ, ◌+◌, ◌<◌, ◌≤◌}
use native.Mathlib.Omega.{arith}
use mathlib.Core.Path.{◌≡◌, refl, sym, ◌∙◌, ap}
use mathlib.Core.Bool.{true, ◌||◌}
use mathlib.Core.List.Memᴰ
use mathlib.Core.List.{List, [], ◌∷◌, ◌++◌, Memᴰ}
use lib.ListN.{length, get_or, drop, take-append-drop, length-drop}
use lib.Seq.{length-take-le, drop-drop}
use lib.Dec.{leb, eqb}
use borrow.Author.Tests.{leb-true, eqb-true, lt-ltb}
use Rattle.std.specs.Cmp.{first_so, second_so}
use Rattle.spec_linux_btf.specs.Documentation.{Member, member, Enumerator, enumerator, Param, param, Enumerator64, enumerator64, int, ptr, array, struct, union, enum, fwd, typedef, volatile, const, restrict, func, func_proto, var, datasec, float, decl_tag, type_tag, enum64, Described, described, Every, Named, Allowed, NamedMember, NamedParam, NamedEnumerator, NamedEnumerator64}
use Rattle.spec_linux_btf.specs.Section.{is_big_endian, little_endian, hdr_len_of, type_len_of, str_off_of, str_len_of, types_at, strings_at, string_area, header_sound, strings_sound, last_of}
use Rattle.spec_type_table.specs.Names.{up_to_zero, name_at, str_at}
use Rattle.btf_open_causes.specs.header.Header as header
use Rattle.btf_open_causes.proofs.header.Headers.{read4, read16}
use Rattle.spec_cut.specs.section.Strings.{member_names, param_names, value_names, value64_names, mentions, all_mentions}
use Rattle.spec_cut.proofs.section.Names.{area_name}

-- ---- the names that a type mentions lie inside

module _ (sl : ℕ) where
  abbrev Below : List ℕ → Type 0
  Below ns = (n : ℕ) → Memᴰ n ns → n < sl

  and_then : (x : ℕ) (ns : List ℕ) → x < sl → Below ns → Below (x ∷ ns)
  and_then x ns h r n (Memᴰ.head e) = omega (arith, h, e)
  and_then x ns h r n (Memᴰ.tail k) = r n k

  nothing : Below []
  nothing n k = absurd (Memᴰ.not-nil k)

  members_below : (ms : List Member) → Every (NamedMember sl) ms → Below (member_names ms)
  members_below [] h = nothing
  members_below (member n t bit size ∷ ms) h = and_then n (member_names ms) h.0 (members_below ms h.1)

  params_below : (ps : List Param) → Every (NamedParam sl) ps → Below (param_names ps)
  params_below [] h = nothing
  params_below (param n t ∷ ps) h = and_then n (param_names ps) h.0 (params_below ps h.1)

  values_below : (vs : List Enumerator) → Every (NamedEnumerator sl) vs → Below (value_names vs)
  values_below [] h = nothing
  values_below (enumerator n v ∷ vs) h = and_then n (value_names vs) h.0 (values_below vs h.1)

  values64_below : (vs : List Enumerator64) → Every (NamedEnumerator64 sl) vs → Below (value64_names vs)
  values64_below [] h = nothing
  values64_below (enumerator64 n lo hi ∷ vs) h = and_then n (value64_names vs) h.0 (values64_below vs h.1)

  mentions_below : (t : Described) → Named sl t → Below (mentions t)
  unfolding mentions
  mentions_below (described n f z (int v a b c d e)) h = and_then n [] h.0 nothing
  mentions_below (described n f z (ptr v)) h = and_then n [] h.0 nothing
  mentions_below (described n f z (array v t i k)) h = and_then n [] h.0 nothing
  mentions_below (described n f z (struct ms)) h = and_then n (member_names ms) h.0 (members_below ms h.1)
  mentions_below (described n f z (union ms)) h = and_then n (member_names ms) h.0 (members_below ms h.1)
  mentions_below (described n f z (enum es)) h = and_then n (value_names es) h.0 (values_below es h.1)
  mentions_below (described n f z (fwd v)) h = and_then n [] h.0 nothing
  mentions_below (described n f z (typedef v)) h = and_then n [] h.0 nothing
  mentions_below (described n f z (volatile v)) h = and_then n [] h.0 nothing
  mentions_below (described n f z (const v)) h = and_then n [] h.0 nothing
  mentions_below (described n f z (restrict v)) h = and_then n [] h.0 nothing
  mentions_below (described n f z (func v)) h = and_then n [] h.0 nothing
  mentions_below (described n f z (func_proto ps)) h = and_then n (param_names ps) h.0 (params_below ps h.1)
  mentions_below (described n f z (var v l)) h = and_then n [] h.0 nothing
  mentions_below (described n f z (datasec ss)) h = and_then n [] h.0 nothing
  mentions_below (described n f z (float v)) h = and_then n [] h.0 nothing
  mentions_below (described n f z (decl_tag v c)) h = and_then n [] h.0 nothing
  mentions_below (described n f z (type_tag v)) h = and_then n [] h.0 nothing
  mentions_below (described n f z (enum64 es)) h = and_then n (value64_names es) h.0 (values64_below es h.1)

  both_below : (xs ys : List ℕ) → Below xs → Below ys → Below (xs ++ ys)
  both_below [] ys a b = b
  both_below (x ∷ xs) ys a b = and_then x (xs ++ ys) (a x (Memᴰ.head refl)) (both_below xs ys (λ n k. a n (Memᴰ.tail k)) b)

  pub all_below : (ts : List Described) → Every (Allowed sl) ts → Below (all_mentions ts)
  unfolding all_mentions
  all_below [] h = nothing
  all_below (t ∷ ts) h = both_below (mentions t) (all_mentions ts) (mentions_below t h.0.1) (all_below ts h.1)

-- ---- the string area

pub area_ends : (a : List ℕ) → strings_sound a ≡ true → last_of 1 a ≡ 0
unfolding strings_sound
area_ends a h =
    let h1 = second_so (leb 1 (length a)) _ h in
    let h2 = second_so (eqb (get_or a 0 1) 0) _ h1 in
    eqb-true (last_of 1 a) 0 (first_so (eqb (last_of 1 a) 0) _ h2)

module _ (s : List ℕ) (h : header_sound s ≡ true) where
  long : 24 ≤ length s
  unfolding header_sound
  long = leb-true 24 (length s) (first_so (leb 24 (length s)) _ h)

  strings_fit : strings_at s + str_len_of s ≤ length s
  unfolding header_sound
  strings_fit =
      let h1 = second_so (leb 24 (length s)) _ h in
      let h2 = second_so (is_big_endian s || little_endian s) _ h1 in
      let h3 = second_so (eqb (get_or s 2 0) 1) _ h2 in
      let h4 = second_so (leb 24 (hdr_len_of s)) _ h3 in
      let h5 = second_so (leb (hdr_len_of s) (length s)) _ h4 in
      leb-true (strings_at s + str_len_of s) (length s) (second_so (leb (types_at s + type_len_of s) (length s)) _ h5)

  pub area_length : length (string_area s) ≡ str_len_of s
  unfolding string_area
  area_length = length-take-le (str_len_of s) (drop (strings_at s) s) (omega (arith, strings_fit, length-drop (strings_at s) s))

  module _ (short : length s ≤ 16777216) (pointer modes types : ℕ) where
    place_is : (header.btf_of s pointer modes types).strs ≡ strings_at s
    unfolding header.btf_of header.strings_at
    place_is =
        let e4 = read4 s long in
        let e16 = read16 s long in
        rw (e4, e16, lt-ltb (hdr_len_of s + str_off_of s) 4294967296 (omega (arith, strings_fit, short)))

    -- a name in the string area is the name in the section
    pub name_in_area : strings_sound (string_area s) ≡ true → (n : ℕ) → n < length (string_area s) → str_at (header.btf_of s pointer modes types) s n ≡ name_at (string_area s) n
    unfolding name_at string_area
    name_in_area ok n l =
        ap (λ (k : ℕ). up_to_zero (drop (k + n) s)) place_is
        ∙ ap up_to_zero (sym (drop-drop n (strings_at s) s))
        ∙ ap (λ (a : List ℕ). up_to_zero (drop n a)) (sym (take-append-drop (str_len_of s) (drop (strings_at s) s)))
        ∙ area_name (string_area s) (drop (str_len_of s) (drop (strings_at s) s)) n l (area_ends (string_area s) ok)
