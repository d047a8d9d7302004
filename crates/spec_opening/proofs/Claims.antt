-- What the definitions say, for a reader: the nine causes in document 01's terms, the number, and what success leaves. Every statement is about
-- specs/ alone; the proofs are cited. Assumes nothing.
use Prim.Native.Nat.{ℕ, zero, suc, ◌+◌, ◌*◌, ◌<◌, ◌≤◌}
use mathlib.Core.Path.{◌≡◌, refl, ap, ◌∙◌, sym}
use mathlib.Core.Bool.{Bool, true, false, true≢false, not, ◌&&◌, ◌||◌}
use mathlib.Core.List.{List, [], ◌∷◌}
use mathlib.Core.Logic.{◌↔◌, ◌⊎◌, inl, inr}
use native.Mathlib.Omega.{arith}
use lib.ListN.{length, get_or, replicate}
use lib.Dec.{eqb, leb}
use borrow.Author.Tests.{lt-ltb, ltb-true, ne_eqb, eqb-true, eqb-false, eq-eqb, le-leb, leb-true, not-false}
use Rattle.std.specs.Prelude.{Result, Ok, Err}
use Rattle.std.proofs.lemmas.Bool.{and_parts, or_cases}
use Rattle.spec_bytes.specs.declared.refusal.Refusal.{Refusal as Cause}
use Rattle.spec_bytes.specs.Refusals.{refusal_number}
use Rattle.btf_open_causes.specs.declared.records.Counts.{Counts}
use Rattle.spec_linux_btf.specs.Documentation.{Every, Allowed, Described, encode_all}
use Rattle.spec_linux_btf.specs.Reading.{Bytes}
use Rattle.spec_linux_btf.specs.Section.{is_big_endian, little_endian, hdr_len_of, types_at, type_len_of, strings_at, str_len_of, type_area, string_area, header_sound, all_ascii, last_of, strings_sound, types_sound}
use Rattle.spec_linux_btf.proofs.Claims.{sound_iff}
use Rattle.btf_open_causes.specs.references.References.{BadReference}
use Rattle.btf_open_causes.specs.prototypes.Prototypes.{ProtoInside}
use Rattle.btf_open_causes.specs.loops.Loops.{TypeLoop}
use Rattle.btf_open_causes.proofs.references.BadIds.{bad_reference}
use Rattle.btf_open_causes.proofs.prototypes.Held.{any_leads_lem}
use Rattle.btf_open_causes.proofs.loops.TypeLoops.{type_loop}
use Rattle.spec_opening.specs.Table.{types_of, enumerators_of, index_of}
use Rattle.spec_opening.specs.Causes.{cause1, cause2, cause3, cause4, cause5, cause6, cause7, cause8, cause9, table_of, causes, opening_number}
use Rattle.spec_opening.specs.Opened.{Outcome, refused, opened, open_out, work_of, opening_of}
use Rattle.spec_opening.proofs.Order as order
use Rattle.spec_opening.proofs.Opens.{opens_refused, opens_sound}

-- the number: 0 if and only if no cause holds; k + 1 if and only if cause k + 1 holds and none before it
pub sound_none : (pointer : ℕ) (s : List ℕ) (work : ℕ) → (opening_number pointer s work ≡ 0) ↔ order.NoneHolds (causes pointer s work)
sound_none = order.sound_none

pub refused_first : (pointer : ℕ) (s : List ℕ) (work k : ℕ) → (opening_number pointer s work ≡ suc k) ↔ order.FirstHolds (causes pointer s work) k
refused_first = order.refused_first

-- 1: neither 4 nor 8
pub cause_1 : (pointer : ℕ) → (cause1 pointer ≡ true) ↔ ((pointer ≡ 4 → ⊥) × (pointer ≡ 8 → ⊥))
unfolding cause1
cause_1 pointer = (go (eqb pointer 4) refl (eqb pointer 8) refl, λ h. rw (ne_eqb pointer 4 h.0, ne_eqb pointer 8 h.1))
  where
    go : (t : Bool) → eqb pointer 4 ≡ t → (u : Bool) → eqb pointer 8 ≡ u → (not t && not u) ≡ true → (pointer ≡ 4 → ⊥) × (pointer ≡ 8 → ⊥)
    go true e u f h = absurd (true≢false (sym h))
    go false e true f h = absurd (true≢false (sym h))
    go false e false f h = (eqb-false pointer 4 e, eqb-false pointer 8 f)

-- 2
pub cause_2 : (s : List ℕ) → (cause2 s ≡ true) ↔ (16777216 < length s)
unfolding cause2
cause_2 s = (ltb-true 16777216 (length s), lt-ltb 16777216 (length s))

-- 3
pub record HeaderIs (s : List ℕ) : Type 0 where
  pub long : 24 ≤ length s
  pub magic : (is_big_endian s ≡ true) ⊎ (little_endian s ≡ true)
  pub version : get_or s 2 0 ≡ 1
  pub header_long : 24 ≤ hdr_len_of s
  pub header_inside : hdr_len_of s ≤ length s
  pub types_inside : types_at s + type_len_of s ≤ length s
  pub strings_inside : strings_at s + str_len_of s ≤ length s

one_of : (a b : Bool) → (a ≡ true) ⊎ (b ≡ true) → (a || b) ≡ true
one_of true b h = refl
one_of false b (inl e) = absurd (true≢false (sym e))
one_of false b (inr e) = e

pub cause_3 : (s : List ℕ) → (cause3 s ≡ false) ↔ HeaderIs s
unfolding cause3 header_sound
cause_3 s = (λ h. reads (not-false (header_sound s) h), λ h. ap not (writes h))
  where
    reads : header_sound s ≡ true → HeaderIs s
    reads h =
        let a = and_parts (leb 24 (length s)) _ h in
        let b = and_parts (is_big_endian s || little_endian s) _ a.1 in
        let c = and_parts (eqb (get_or s 2 0) 1) _ b.1 in
        let d = and_parts (leb 24 (hdr_len_of s)) _ c.1 in
        let e = and_parts (leb (hdr_len_of s) (length s)) _ d.1 in
        let f = and_parts (leb (types_at s + type_len_of s) (length s)) _ e.1 in
        record {
          long = leb-true 24 (length s) a.0;
          magic = or_cases (is_big_endian s) (little_endian s) b.0;
          version = eqb-true (get_or s 2 0) 1 c.0;
          header_long = leb-true 24 (hdr_len_of s) d.0;
          header_inside = leb-true (hdr_len_of s) (length s) e.0;
          types_inside = leb-true (types_at s + type_len_of s) (length s) f.0;
          strings_inside = leb-true (strings_at s + str_len_of s) (length s) f.1;
        }

    writes : HeaderIs s → header_sound s ≡ true
    writes h =
        rw
        (le-leb 24 (length s) h.long, one_of (is_big_endian s) (little_endian s) h.magic, eq-eqb (get_or s 2 0) 1 h.version, le-leb 24 (hdr_len_of s) h.header_long, le-leb (hdr_len_of s) (length s) h.header_inside, le-leb (types_at s + type_len_of s) (length s) h.types_inside, le-leb (strings_at s + str_len_of s) (length s) h.strings_inside)
        refl

-- 4
pub record StringsAre (a : List ℕ) : Type 0 where
  pub some : 1 ≤ length a
  pub first : get_or a 0 1 ≡ 0
  pub last : last_of 1 a ≡ 0
  pub ascii : (i : ℕ) → get_or a i 0 ≤ 127

ascii_each : (a : List ℕ) → all_ascii a ≡ true → (i : ℕ) → get_or a i 0 ≤ 127
ascii_each [] h i = omega arith
ascii_each (x ∷ a) h zero = leb-true x 127 (and_parts (leb x 127) (all_ascii a) h).0
ascii_each (x ∷ a) h (suc i) = ascii_each a (and_parts (leb x 127) (all_ascii a) h).1 i

each_ascii : (a : List ℕ) → ((i : ℕ) → get_or a i 0 ≤ 127) → all_ascii a ≡ true
each_ascii [] h = refl
each_ascii (x ∷ a) h = rw (le-leb x 127 (h zero), each_ascii a (λ i. h (suc i))) refl

pub cause_4 : (s : List ℕ) → (cause4 s ≡ false) ↔ StringsAre (string_area s)
unfolding cause4 strings_sound
cause_4 s = (λ h. reads (string_area s) (not-false (strings_sound (string_area s)) h), λ h. ap not (writes (string_area s) h))
  where
    reads : (a : List ℕ) → strings_sound a ≡ true → StringsAre a
    reads a h =
        let b = and_parts (leb 1 (length a)) _ h in
        let c = and_parts (eqb (get_or a 0 1) 0) _ b.1 in
        let d = and_parts (eqb (last_of 1 a) 0) _ c.1 in
        record { some = leb-true 1 (length a) b.0; first = eqb-true (get_or a 0 1) 0 c.0; last = eqb-true (last_of 1 a) 0 d.0; ascii = ascii_each a d.1 }

    writes : (a : List ℕ) → StringsAre a → strings_sound a ≡ true
    writes a h = rw (le-leb 1 (length a) h.some, eq-eqb (get_or a 0 1) 0 h.first, eq-eqb (last_of 1 a) 0 h.last, each_ascii a h.ascii) refl

-- 5: the type area is not the layout of at most 262,144 types whose numbers fit and whose names lie in the string area
pub cause_5 : (s : List ℕ) → Bytes (type_area s)
    → (cause5 s ≡ false) ↔ ((ts : List Described) × Every (Allowed (str_len_of s)) ts × (length ts ≤ 262144) × (encode_all (is_big_endian s) ts ≡ type_area s))
unfolding cause5 types_sound
cause_5 s y = (λ h. (sound_iff (is_big_endian s) (str_len_of s) (type_area s) y).0 (not-false (types_sound s) h), λ h. rw ((sound_iff (is_big_endian s) (str_len_of s) (type_area s) y).1 h))

-- 6, 7, 8: over the index of the section, whose entries are the places and kinds of its records (Index: followed-place, followed-kind)
module _ (pointer : ℕ) (s : List ℕ) where
  pub cause_6 : (cause6 pointer s ≡ true) ↔ BadReference (table_of pointer s) s (index_of s)
  unfolding cause6
  cause_6 = bad_reference (table_of pointer s) s (index_of s)

  pub cause_7 : (cause7 pointer s ≡ true) ↔ ProtoInside (table_of pointer s) s (index_of s)
  unfolding cause7
  cause_7 = any_leads_lem (table_of pointer s) s (index_of s)

  pub cause_8 : (cause8 pointer s ≡ true) ↔ TypeLoop (table_of pointer s) s (index_of s)
  unfolding cause8
  cause_8 = type_loop (table_of pointer s) s (index_of s)

-- 9
pub cause_9 : (s : List ℕ) (work : ℕ) → (cause9 s work ≡ true) ↔ (work < 4 * (16 * types_of s + 8 * enumerators_of s + 4096))
unfolding cause9
cause_9 s work = (ltb-true work (4 * (16 * types_of s + 8 * enumerators_of s + 4096)), lt-ltb work (4 * (16 * types_of s + 8 * enumerators_of s + 4096)))

-- ---- what an answer of `open` says, from its contract alone
abbrev is_opened : Outcome → Bool
is_opened (refused n w t) = false
is_opened (opened c e w t) = true

abbrev number_in : Outcome → ℕ
number_in (refused n w t) = n
number_in (opened c e w t) = 0

abbrev types_in : Outcome → ℕ
types_in (refused n w t) = 0
types_in (opened c e w t) = c

abbrev enumerators_in : Outcome → ℕ
enumerators_in (refused n w t) = 0
enumerators_in (opened c e w t) = e

abbrev work_in : Outcome → List ℕ
work_in (refused n w t) = w
work_in (opened c e w t) = w

abbrev text_in : Outcome → List ℕ
text_in (refused n w t) = t
text_in (opened c e w t) = t

-- success: no cause holds, the counts are the section's, the work is `work_of`, the text is zero
pub record Success (pointer modes : ℕ) (s w t : List ℕ) (types enumerators : ℕ) (w' t' : List ℕ) : Type 0 where
  pub number : opening_number pointer s (length w) ≡ 0
  pub types_is : types ≡ types_of s
  pub enumerators_is : enumerators ≡ enumerators_of s
  pub work_is : w' ≡ work_of pointer modes s (length w)
  pub text_is : t' ≡ replicate (length t) 0

-- a refusal: the number is that of the first cause that holds; work and text are as they were
pub record Refusal (pointer : ℕ) (s w t : List ℕ) (n : ℕ) (w' t' : List ℕ) : Type 0 where
  pub number : opening_number pointer s (length w) ≡ n
  pub some : n ≡ 0 → ⊥
  pub work_is : w' ≡ w
  pub text_is : t' ≡ t

module _ (pointer modes : ℕ) (s w t : List ℕ) where
  abbrev num : ℕ
  num = opening_number pointer s (length w)

  module _ (r : Result Counts Cause) (w' t' : List ℕ) (contract : open_out r w' t' ≡ opening_of pointer modes s w t) where
    pub opened_says : (n : Counts) → r ≡ Ok n → Success pointer modes s w t n.types n.enumerators w' t'
    unfolding open_out
    opened_says n f = go (eqb num 0) refl
      where
        out : opened n.types n.enumerators w' t' ≡ opening_of pointer modes s w t
        out = sym (ap (λ (q : Result Counts Cause). open_out q w' t') f) ∙ contract

        go : (q : Bool) → eqb num 0 ≡ q → Success pointer modes s w t n.types n.enumerators w' t'
        go true g =
            let is = out ∙ opens_sound pointer modes s w t g in
            record {
              number = eqb-true num 0 g;
              types_is = ap types_in is;
              enumerators_is = ap enumerators_in is;
              work_is = ap work_in is;
              text_is = ap text_in is;
            }
        go false g = absurd (true≢false (ap is_opened (out ∙ opens_refused pointer modes s w t g)))

    pub refused_says : (c : Cause) → r ≡ Err c → Refusal pointer s w t (refusal_number c) w' t'
    unfolding open_out
    refused_says c f = go (eqb num 0) refl
      where
        out : refused (refusal_number c) w' t' ≡ opening_of pointer modes s w t
        out = sym (ap (λ (q : Result Counts Cause). open_out q w' t') f) ∙ contract

        go : (q : Bool) → eqb num 0 ≡ q → Refusal pointer s w t (refusal_number c) w' t'
        go true g = absurd (true≢false (sym (ap is_opened (out ∙ opens_sound pointer modes s w t g))))
        go false g =
            let is = out ∙ opens_refused pointer modes s w t g in
            record {
              number = sym (ap number_in is);
              some = λ z. eqb-false num 0 g (sym (ap number_in is) ∙ z);
              work_is = ap work_in is;
              text_is = ap text_in is;
            }
