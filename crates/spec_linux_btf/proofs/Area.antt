-- A whole type area: (a) reading what was laid out gives it back; (b) what passes the tests is the layout of exactly one list of types. Assumes nothing.
use Prim.Native.Nat.{ℕ, zero, suc, zero-le, suc-le-suc, ◌+◌, ◌<◌, ◌≤◌}
use mathlib.Core.Path.{◌≡◌, refl, ap, ◌∙◌, sym}
use mathlib.Core.Bool.{Bool, true, ◌&&◌}
use mathlib.Core.List.{List, [], ◌∷◌, ◌++◌, map}
use mathlib.Core.Logic.{⊎_elim, ◌↔◌}
use native.Mathlib.Omega.{arith}
use lib.ListN.{length, drop, length-drop, length-append, drop_of_length-le}
use lib.Seq.{drop-drop, drop-append_seam}
use lib.Dec.{leb}
use borrow.Author.Tests.{lt-ltb, le-ltb, le-leb, lt-leb, leb-true}
use Rattle.std.proofs.lemmas.Bool.{cases_lt}
use Rattle.std.specs.Cmp.{first_so, second_so}
use Rattle.spec_linux_btf.specs.Documentation.{Every, Described, encode, encode_all, starts, Fits, Allowed}
use Rattle.spec_linux_btf.specs.Reading.{Bytes, size_at, decode, sound, named, passes, places, type_at, decode_all, layout_sound}
use Rattle.spec_linux_btf.proofs.Words.{bytes_drop}
use Rattle.spec_linux_btf.proofs.Types.{type_again, type_size, type_sound, type_twelve, Sound, sound_parts, type_back, type_fits, type_names, names_type}

pub leb_same : (a b c d : ℕ) → (a ≤ b → c ≤ d) → (c ≤ d → a ≤ b) → leb a b ≡ leb c d
leb_same a b c d f g = ⊎_elim (λ l. lt-leb a b l ∙ sym (lt-leb c d (no' l))) (λ l. le-leb a b l ∙ sym (le-leb c d (f l))) (cases_lt b a)
  where
    no' : b < a → d < c
    no' l = ⊎_elim (λ m. m) (λ m. absurd (omega (arith, g m))) (cases_lt d c)

-- one step of the walk
module _ (big : Bool) (sl n : ℕ) (b : List ℕ) (p : ℕ) where
  pub passes_in : p < length b → passes big sl (suc n) b p ≡ (sound big (drop p b) && (named big sl (drop p b) && passes big sl n b (p + size_at big (drop p b))))
  unfolding passes
  passes_in h = rw (lt-ltb p (length b) h, passes)

  pub passes_out : length b ≤ p → passes big sl (suc n) b p ≡ true
  unfolding passes
  passes_out h = rw (le-ltb p (length b) h, passes)

  pub places_in : p < length b → places big (suc n) b p ≡ p ∷ places big n b (p + size_at big (drop p b))
  unfolding places
  places_in h = rw (lt-ltb p (length b) h, places)

  pub places_out : length b ≤ p → places big (suc n) b p ≡ []
  unfolding places
  places_out h = rw (le-ltb p (length b) h, places)

passes_none : (big : Bool) (sl : ℕ) (b : List ℕ) (p : ℕ) → length b ≤ p → passes big sl zero b p ≡ true
unfolding passes
passes_none big sl b p h = le-leb (length b) p h

pub none_passes : (big : Bool) (sl : ℕ) (b : List ℕ) (p : ℕ) → passes big sl zero b p ≡ true → length b ≤ p
unfolding passes
none_passes big sl b p h = leb-true (length b) p h

pub places_none : (big : Bool) (b : List ℕ) (p : ℕ) → places big zero b p ≡ []
unfolding places
places_none big b p = refl

-- (a)
none_left : (b : List ℕ) (p : ℕ) → drop p b ≡ [] → length b ≤ p
none_left b p e = omega (arith, length-drop p b, ap length e)

-- what is known where a type's bytes begin
record Begun (big : Bool) (b : List ℕ) (p : ℕ) (t : Described) (ts : List Described) : Type 0 where
  inside : p < length b
  size : size_at big (drop p b) ≡ length (encode big t)
  is_sound : sound big (drop p b) ≡ true
  itself : type_at big b p ≡ t
  next : drop (p + size_at big (drop p b)) b ≡ encode_all big ts
  ends : p + size_at big (drop p b) ≤ length b

begun : (big : Bool) (b : List ℕ) (p : ℕ) (t : Described) (ts : List Described) → Fits t → drop p b ≡ encode big t ++ encode_all big ts → Begun big b p t ts
begun big b p t ts f e =
    let twelve : 12 ≤ length (encode big t) = type_twelve big t [] f in
    let whole : length (drop p b) ≡ length (encode big t) + length (encode_all big ts) = ap length e ∙ length-append (encode big t) (encode_all big ts) in
    let z : size_at big (drop p b) ≡ length (encode big t) = ap (size_at big) e ∙ type_size big t (encode_all big ts) f in
    record {
      inside = omega (arith, length-drop p b);
      size = z;
      is_sound = ap (sound big) e ∙ type_sound big t (encode_all big ts) f;
      itself = ap (decode big) e ∙ type_again big t (encode_all big ts) f;
      next = rw (z, ← drop-drop (length (encode big t)) p b, e) (drop-append_seam (encode big t) (encode_all big ts));
      ends = omega (arith, length-drop p b);
    }

-- it is read as it was laid out ..
pub record Again (big : Bool) (n : ℕ) (b : List ℕ) (p : ℕ) (ts : List Described) : Type 0 where
  pub at : places big n b p ≡ starts big p ts
  pub read : map (type_at big b) (places big n b p) ≡ ts

pub area_again : (big : Bool) (n : ℕ) (b : List ℕ) (p : ℕ) (ts : List Described) → Every Fits ts → length ts ≤ n → drop p b ≡ encode_all big ts → Again big n b p ts
unfolding encode_all starts
area_again big zero b p [] f l e = record { at = places_none big b p; read = ap (map (type_at big b)) (places_none big b p) }
area_again big zero b p (t ∷ ts) f l e = absurd (omega arith)
area_again big (suc n) b p [] f l e =
    let o : places big (suc n) b p ≡ [] = places_out big 0 n b p (none_left b p e) in
    record { at = o; read = ap (map (type_at big b)) o }
area_again big (suc n) b p (t ∷ ts) f l e =
    let g : Begun big b p t ts = begun big b p t ts f.0 e in
    let o : places big (suc n) b p ≡ p ∷ places big n b (p + size_at big (drop p b)) = places_in big 0 n b p g.inside in
    let ih : Again big n b (p + size_at big (drop p b)) ts = area_again big n b (p + size_at big (drop p b)) ts f.1 (omega arith) g.next in
    record { at = o ∙ rw (ih.at, g.size); read = ap (map (type_at big b)) o ∙ (λ i. g.itself i ∷ ih.read i) }

-- .. and passes the tests
pub area_passes : (big : Bool) (sl n : ℕ) (b : List ℕ) (p : ℕ) (ts : List Described) → Every (Allowed sl) ts → length ts ≤ n → drop p b ≡ encode_all big ts → passes big sl n b p ≡ true
unfolding encode_all
area_passes big sl zero b p [] f l e = passes_none big sl b p (none_left b p e)
area_passes big sl zero b p (t ∷ ts) f l e = absurd (omega arith)
area_passes big sl (suc n) b p [] f l e = passes_out big sl n b p (none_left b p e)
area_passes big sl (suc n) b p (t ∷ ts) f l e =
    let g : Begun big b p t ts = begun big b p t ts f.0.0 e in
    let m : named big sl (drop p b) ≡ true = names_type big sl (drop p b) (rw g.itself f.0.1) in
    let ih : passes big sl n b (p + size_at big (drop p b)) ≡ true = area_passes big sl n b (p + size_at big (drop p b)) ts f.1 (omega arith) g.next in
    passes_in big sl n b p g.inside ∙ rw (g.is_sound, m, ih)

-- (b)
pub record Back (big : Bool) (sl n : ℕ) (b : List ℕ) (p : ℕ) (ts : List Described) : Type 0 where
  pub laid : encode_all big ts ≡ drop p b
  pub fit : Every (Allowed sl) ts
  pub few : length ts ≤ n

ended : (big : Bool) (sl n : ℕ) (b : List ℕ) (p : ℕ) → places big n b p ≡ [] → length b ≤ p → Back big sl n b p (map (type_at big b) (places big n b p))
unfolding encode_all
ended big sl n b p e h = rw e (record { laid = sym (drop_of_length-le b h); fit = tt; few = omega arith })

pub area_back : (big : Bool) (sl n : ℕ) (b : List ℕ) (p : ℕ) → Bytes b → p ≤ length b → passes big sl n b p ≡ true → Back big sl n b p (map (type_at big b) (places big n b p))
unfolding encode_all
area_back big sl zero b p y q h = ended big sl zero b p (places_none big b p) (none_passes big sl b p h)
area_back big sl (suc n) b p y q h = ⊎_elim (λ l. more (area_back big sl n b (p + size_at big (drop p b)) y) l) (λ l. ended big sl (suc n) b p (places_out big sl n b p l) l) (cases_lt p (length b))
  where
    more : (p + size_at big (drop p b) ≤ length b → passes big sl n b (p + size_at big (drop p b)) ≡ true → Back big sl n b (p + size_at big (drop p b)) (map (type_at big b) (places big n b (p + size_at big (drop p b)))))
        → p < length b → Back big sl (suc n) b p (map (type_at big b) (places big (suc n) b p))
    more rec l =
        let both : (sound big (drop p b) && (named big sl (drop p b) && passes big sl n b (p + size_at big (drop p b)))) ≡ true = sym (passes_in big sl n b p l) ∙ h in
        let s : Sound big (drop p b) = sound_parts big (drop p b) (first_so (sound big (drop p b)) _ both) in
        let two = second_so (sound big (drop p b)) _ both in
        let ih = rec (omega (arith, s.rest, length-drop p b)) (second_so (named big sl (drop p b)) _ two) in
        let z : Bytes (drop p b) = bytes_drop b p y in
        let j : encode big (type_at big b p) ++ drop (size_at big (drop p b)) (drop p b) ≡ drop p b = type_back big (drop p b) z s in
        rw (places_in big sl n b p l)
        (record {
          laid = ap (λ (r : List ℕ). encode big (type_at big b p) ++ r) (ih.laid ∙ sym (drop-drop (size_at big (drop p b)) p b)) ∙ j;
          fit = ((type_fits big (drop p b) z s, type_names big sl (drop p b) (first_so (named big sl (drop p b)) _ two)), ih.fit);
          few = suc-le-suc ih.few;
        })

-- each record that is met lies inside the area and is sound
pub record Met (big : Bool) (b : List ℕ) (q : ℕ) : Type 0 where
  pub lies : q + size_at big (drop q b) ≤ length b
  pub is_sound' : Sound big (drop q b)

pub area_met : (big : Bool) (sl n : ℕ) (b : List ℕ) (p : ℕ) → p ≤ length b → passes big sl n b p ≡ true → Every (Met big b) (places big n b p)
area_met big sl zero b p q h = rw (places_none big b p) tt
area_met big sl (suc n) b p q h = ⊎_elim (λ l. more (area_met big sl n b (p + size_at big (drop p b))) l) (λ l. rw (places_out big sl n b p l) tt) (cases_lt p (length b))
  where
    more : (p + size_at big (drop p b) ≤ length b → passes big sl n b (p + size_at big (drop p b)) ≡ true → Every (Met big b) (places big n b (p + size_at big (drop p b))))
        → p < length b → Every (Met big b) (places big (suc n) b p)
    more rec l =
        let both : (sound big (drop p b) && (named big sl (drop p b) && passes big sl n b (p + size_at big (drop p b)))) ≡ true = sym (passes_in big sl n b p l) ∙ h in
        let s : Sound big (drop p b) = sound_parts big (drop p b) (first_so (sound big (drop p b)) _ both) in
        let two = second_so (sound big (drop p b)) _ both in
        let e : p + size_at big (drop p b) ≤ length b = omega (arith, s.rest, length-drop p b) in
        rw (places_in big sl n b p l)
        (record { lies = e; is_sound' = s }, rec e (second_so (named big sl (drop p b)) _ two))

---------------------------------------------------------------------------------------------------------------------------------------
-- The theorems of a type section (in `Claims` with the page's sentences)

pub allowed_fits : (sl : ℕ) (ts : List Described) → Every (Allowed sl) ts → Every Fits ts
allowed_fits sl [] f = tt
allowed_fits sl (t ∷ ts) f = (f.0.0, allowed_fits sl ts f.1)

-- (a) The bytes of a list of types are read as that list, each type at its place ..
pub layout_read : (big : Bool) (ts : List Described) → Every Fits ts → length ts ≤ 262144
    → (places big 262144 (encode_all big ts) 0 ≡ starts big 0 ts) × (decode_all big (encode_all big ts) ≡ ts)
unfolding decode_all
layout_read big ts f l =
    let a : Again big 262144 (encode_all big ts) 0 ts = area_again big 262144 (encode_all big ts) 0 ts f l refl in
    (a.at, a.read)

-- .. and pass the tests of cause 5
pub layout_passes : (big : Bool) (sl : ℕ) (ts : List Described) → Every (Allowed sl) ts → length ts ≤ 262144 → layout_sound big sl (encode_all big ts) ≡ true
unfolding layout_sound
layout_passes big sl ts f l = area_passes big sl 262144 (encode_all big ts) 0 ts f l refl

-- (b) Bytes that pass are the bytes of the list of types that is read in them ..
pub read_layout : (big : Bool) (sl : ℕ) (b : List ℕ) → Bytes b → layout_sound big sl b ≡ true
    → (encode_all big (decode_all big b) ≡ b) × Every (Allowed sl) (decode_all big b) × (length (decode_all big b) ≤ 262144)
unfolding layout_sound decode_all
read_layout big sl b y h =
    let a : Back big sl 262144 b 0 (map (type_at big b) (places big 262144 b 0)) = area_back big sl 262144 b 0 y zero-le h in
    (a.laid, a.fit, a.few)

-- .. and of no other
pub layout_once : (big : Bool) (ts us : List Described) → Every Fits ts → Every Fits us → encode_all big ts ≡ encode_all big us → ts ≡ us
layout_once big ts us f g e =
    let n : ℕ = length ts + length us in
    sym (area_again big n (encode_all big us) 0 ts f (omega arith) (sym e)).read ∙ (area_again big n (encode_all big us) 0 us g (omega arith) refl).read

pub only_read : (big : Bool) (sl : ℕ) (b : List ℕ) → Bytes b → layout_sound big sl b ≡ true → (ts : List Described) → Every Fits ts → encode_all big ts ≡ b → ts ≡ decode_all big b
only_read big sl b y h ts f e =
    let r = read_layout big sl b y h in
    layout_once big ts (decode_all big b) f (allowed_fits sl (decode_all big b) r.1) (e ∙ sym r.0)

-- Both together: the tests of cause 5 pass exactly at the bytes of at most 262144 allowed types
pub sound_iff : (big : Bool) (sl : ℕ) (b : List ℕ) → Bytes b
    → (layout_sound big sl b ≡ true) ↔ ((ts : List Described) × Every (Allowed sl) ts × (length ts ≤ 262144) × (encode_all big ts ≡ b))
sound_iff big sl b y = (there, here)
  where
    there : layout_sound big sl b ≡ true → (ts : List Described) × Every (Allowed sl) ts × (length ts ≤ 262144) × (encode_all big ts ≡ b)
    there h =
        let r = read_layout big sl b y h in
        (decode_all big b, r.1, r.2, r.0)

    here : (ts : List Described) × Every (Allowed sl) ts × (length ts ≤ 262144) × (encode_all big ts ≡ b) → layout_sound big sl b ≡ true
    here w = rw w.3 at (layout_passes big sl w.0 w.1 w.2)
