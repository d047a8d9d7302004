-- Ask 3 holds. Assumes nothing.
use Prim.Native.Nat.{ℕ, ◌+◌, ◌-◌, ◌*◌, ◌/◌, ◌%◌, ◌<◌, ◌≤◌}
use mathlib.Core.Path.{◌≡◌, refl, ap, sym, subst, ◌∙◌}
use mathlib.Core.Bool.{Bool, true, false, ◌&&◌, true≢false}
use mathlib.Core.List.{List, [], ◌∷◌}
use mathlib.Core.Logic.{◌⊎◌, inl, inr, ⊎_elim, ◌↔◌}
use native.Mathlib.Omega.{arith}
use lib.Dec.{eqb, leb}
use borrow.Author.Tests.{eqb-true, eqb-false, eq-eqb, ne_eqb, leb-true, leb-false, le-leb, lt-leb}
use Rattle.std.specs.Cmp.{first_so, second_so}
use Rattle.std.proofs.lemmas.Bool.{and_cases, and_left, and_right}
use Rattle.spec_c_dumper.specs.rules.Writer.{Ask, got, no, checked}
use Rattle.spec_c_dumper.specs.rules.Types.{Member, Btf}
use Rattle.spec_c_dumper.specs.rules.Layout.{get_size_of, is_struct_packed, end_of, long, int, short, char, Pad, suits, placed_pad}
use Rattle.spec_c_dumper.specs.rules.Placing.{round_up, same_unit, field_size, field_fits, start_fits, member_fits, Extent, reached, with_member, extent_of, no_extent, union_align, size_fits, measured, body_packed}
use Rattle.spec_c_dumper.proofs.rules.Placed.{laid_out, own_alignment, same_gaps}
use Rattle.spec_c_dumper.proofs.rules.Asking.{no_got, then_got, then_is}
use Rattle.c_dumper_declarator.proofs.declarations.Lines.{lines_written}
use Rattle.claims.specs.Request03_placing.{IsUnit, long_64, int_32, short_16, char_8, char_4, char_2, char_1, Widest, Misplaced, early, off_byte, wide, crosses, moved, later, WrongSize, below, other, Request03}

module _ (ptr_sz start gap : ℕ) where
  -- a unit of w bits that the test takes
  fine : (w : ℕ) → suits start gap w ≡ true → (start % w ≡ 0) × (w ≤ gap)
  unfolding suits
  fine w e = (eqb-true (start % w) 0 (first_so (eqb (start % w) 0) (leb w gap) e), leb-true w gap (second_so (eqb (start % w) 0) (leb w gap) e))

  -- one that it does not take
  unfit : (w : ℕ) → suits start gap w ≡ false → start % w ≡ 0 → w ≤ gap → ⊥
  unfolding suits
  unfit w e m f = true≢false (sym (λ i. eq-eqb (start % w) 0 m i && le-leb w gap f i) ∙ e)

  unfit_long : (eqb ptr_sz 8 && suits start gap 64) ≡ false → ptr_sz ≡ 8 → start % 64 ≡ 0 → 64 ≤ gap → ⊥
  unfit_long e z m f = go (suits start gap 64) refl
    where
      go : (b : Bool) → suits start gap 64 ≡ b → ⊥
      go true q = true≢false (sym (λ i. eq-eqb ptr_sz 8 z i && q i) ∙ e)
      go false q = unfit 64 q m f

  -- no unit that suits is wider than w, where each of the wider ones does not suit
  record NoneOver (w : ℕ) : Type 0 where
    of_64 : ptr_sz ≡ 8 → start % 64 ≡ 0 → 64 ≤ gap → 64 ≤ w
    of_32 : start % 32 ≡ 0 → 32 ≤ gap → 32 ≤ w
    of_16 : start % 16 ≡ 0 → 16 ≤ gap → 16 ≤ w
    of_8 : start % 8 ≡ 0 → 8 ≤ gap → 8 ≤ w
    of_4 : start % 4 ≡ 0 → 4 ≤ gap → 4 ≤ w
    of_2 : start % 2 ≡ 0 → 2 ≤ gap → 2 ≤ w
    of_1 : 1 ≤ w

  at_most : (w : ℕ) → NoneOver w → (q : Pad) → IsUnit ptr_sz q → start % q.width ≡ 0 → q.width ≤ gap → q.width ≤ w
  at_most w n _ (long_64 z) m f = n.of_64 z m f
  at_most w n _ int_32 m f = n.of_32 m f
  at_most w n _ short_16 m f = n.of_16 m f
  at_most w n _ char_8 m f = n.of_8 m f
  at_most w n _ char_4 m f = n.of_4 m f
  at_most w n _ char_2 m f = n.of_2 m f
  at_most w n _ char_1 m f = n.of_1

  widest_by : (p : Pad) → IsUnit ptr_sz p → (start % p.width ≡ 0) × (p.width ≤ gap) → NoneOver p.width → Widest ptr_sz start gap p
  widest_by p u s n = record {
    suits = record { is_unit = u; multiple = s.0; fits = s.1 };
    widest = λ q t. at_most p.width n q t.is_unit t.multiple t.fits;
  }

  abbrev W : Pad → Type 0
  W = Widest ptr_sz start gap

  abbrev P : (b c d e f h : Bool) → Pad
  P b c d e f h =
      elim b as (λ _. Pad) [
        | true ↦ record { unit = long; width = 64 }
        | false ↦ elim c as (λ _. Pad) [
          | true ↦ record { unit = int; width = 32 }
          | false ↦ elim d as (λ _. Pad) [
            | true ↦ record { unit = short; width = 16 }
            | false ↦ elim e as (λ _. Pad) [
              | true ↦ record { unit = char; width = 8 }
              | false ↦ elim f as (λ _. Pad) [
                | true ↦ record { unit = char; width = 4 }
                | false ↦ elim h as (λ _. Pad) [ true ↦ record { unit = char; width = 2 } | false ↦ record { unit = char; width = 1 } ]
              ]
            ]
          ]
        ]
      ]

  abbrev s : ℕ → Bool
  s w = suits start gap w

  widest_pad : 0 < gap → Widest ptr_sz start gap (placed_pad ptr_sz start gap)
  unfolding placed_pad
  widest_pad g = by_64 (eqb ptr_sz 8 && suits start gap 64) refl
    where
      by_2 : (eqb ptr_sz 8 && s 64) ≡ false → s 32 ≡ false → s 16 ≡ false → s 8 ≡ false → s 4 ≡ false → (h : Bool) → s 2 ≡ h → W (P false false false false false h)
      by_2 a b c d e true f = widest_by _ char_2 (fine 2 f) (record {
        of_64 = λ z m l. absurd (unfit_long a z m l);
        of_32 = λ m l. absurd (unfit 32 b m l);
        of_16 = λ m l. absurd (unfit 16 c m l);
        of_8 = λ m l. absurd (unfit 8 d m l);
        of_4 = λ m l. absurd (unfit 4 e m l);
        of_2 = λ m l. omega arith;
        of_1 = omega arith;
      })
      by_2 a b c d e false f = widest_by _ char_1 (omega arith, omega (arith, g)) (record {
        of_64 = λ z m l. absurd (unfit_long a z m l);
        of_32 = λ m l. absurd (unfit 32 b m l);
        of_16 = λ m l. absurd (unfit 16 c m l);
        of_8 = λ m l. absurd (unfit 8 d m l);
        of_4 = λ m l. absurd (unfit 4 e m l);
        of_2 = λ m l. absurd (unfit 2 f m l);
        of_1 = omega arith;
      })

      by_4 : (eqb ptr_sz 8 && s 64) ≡ false → s 32 ≡ false → s 16 ≡ false → s 8 ≡ false → (f : Bool) → s 4 ≡ f → W (P false false false false f (s 2))
      by_4 a b c d true e = widest_by _ char_4 (fine 4 e) (record {
        of_64 = λ z m l. absurd (unfit_long a z m l);
        of_32 = λ m l. absurd (unfit 32 b m l);
        of_16 = λ m l. absurd (unfit 16 c m l);
        of_8 = λ m l. absurd (unfit 8 d m l);
        of_4 = λ m l. omega arith;
        of_2 = λ m l. omega arith;
        of_1 = omega arith;
      })
      by_4 a b c d false e = by_2 a b c d e (s 2) refl

      by_8 : (eqb ptr_sz 8 && s 64) ≡ false → s 32 ≡ false → s 16 ≡ false → (e : Bool) → s 8 ≡ e → W (P false false false e (s 4) (s 2))
      by_8 a b c true d = widest_by _ char_8 (fine 8 d) (record {
        of_64 = λ z m l. absurd (unfit_long a z m l);
        of_32 = λ m l. absurd (unfit 32 b m l);
        of_16 = λ m l. absurd (unfit 16 c m l);
        of_8 = λ m l. omega arith;
        of_4 = λ m l. omega arith;
        of_2 = λ m l. omega arith;
        of_1 = omega arith;
      })
      by_8 a b c false d = by_4 a b c d (s 4) refl

      by_16 : (eqb ptr_sz 8 && s 64) ≡ false → s 32 ≡ false → (d : Bool) → s 16 ≡ d → W (P false false d (s 8) (s 4) (s 2))
      by_16 a b true c = widest_by _ short_16 (fine 16 c) (record {
        of_64 = λ z m l. absurd (unfit_long a z m l);
        of_32 = λ m l. absurd (unfit 32 b m l);
        of_16 = λ m l. omega arith;
        of_8 = λ m l. omega arith;
        of_4 = λ m l. omega arith;
        of_2 = λ m l. omega arith;
        of_1 = omega arith;
      })
      by_16 a b false c = by_8 a b c (s 8) refl

      by_32 : (eqb ptr_sz 8 && s 64) ≡ false → (c : Bool) → s 32 ≡ c → W (P false c (s 16) (s 8) (s 4) (s 2))
      by_32 a true b = widest_by _ int_32 (fine 32 b) (record {
        of_64 = λ z m l. absurd (unfit_long a z m l);
        of_32 = λ m l. omega arith;
        of_16 = λ m l. omega arith;
        of_8 = λ m l. omega arith;
        of_4 = λ m l. omega arith;
        of_2 = λ m l. omega arith;
        of_1 = omega arith;
      })
      by_32 a false b = by_16 a b (s 16) refl

      by_64 : (b : Bool) → (eqb ptr_sz 8 && s 64) ≡ b → W (P b (s 32) (s 16) (s 8) (s 4) (s 2))
      by_64 true a = widest_by _ (long_64 (eqb-true ptr_sz 8 (first_so (eqb ptr_sz 8) (s 64) a))) (fine 64 (second_so (eqb ptr_sz 8) (s 64) a)) (record {
        of_64 = λ z m l. omega arith;
        of_32 = λ m l. omega arith;
        of_16 = λ m l. omega arith;
        of_8 = λ m l. omega arith;
        of_4 = λ m l. omega arith;
        of_2 = λ m l. omega arith;
        of_1 = omega arith;
      })
      by_64 false a = by_32 a (s 32) refl

-- ---- 18

module _ (B : Btf) (is_struct packed : Bool) where
  abbrev M : ℕ → List Member → Type 0
  M = Misplaced B is_struct packed

  -- a bit field's own size is that of its type
  field_size_lem : (m : Member) (size : ℕ) → (m.bit_size ≡ 0 → ⊥) → field_size B m ≡ got size → get_size_of 512 B m.type_id ≡ got size
  unfolding field_size
  field_size_lem m size f e = ap (λ (b : Bool). elim b as (λ _. Ask ℕ) [ true ↦ got 0 | false ↦ get_size_of 512 B m.type_id ]) (sym (ne_eqb m.bit_size 0 f)) ∙ e

  same_size : (m : Member) (size size' : ℕ) → (m.bit_size ≡ 0 → ⊥) → field_size B m ≡ got size → get_size_of 512 B m.type_id ≡ got size' → size ≡ size'
  same_size m size size' f e g = let z : got size ≡ got size' = sym (field_size_lem m size f e) ∙ g in cc

  -- one member
  start_bad : (last : ℕ) (m : Member) (ms : List Member) → start_fits is_struct last m.bit_offset ≡ false → M last (m ∷ ms)
  unfolding start_fits
  start_bad last m ms e = go is_struct refl e
    where
      go : (b : Bool) → is_struct ≡ b → elim b as (λ _. Bool) [ true ↦ leb last m.bit_offset | false ↦ eqb m.bit_offset 0 ] ≡ false → M last (m ∷ ms)
      go true q f = early last m ms q (leb-false last m.bit_offset f)
      go false q f = moved last m ms q (eqb-false m.bit_offset 0 f)

  field_bad : (last : ℕ) (m : Member) (ms : List Member) (size : ℕ) → field_size B m ≡ got size → (m.bit_size ≡ 0 → ⊥) → field_fits packed size m.bit_offset m.bit_size ≡ false → M last (m ∷ ms)
  unfolding field_fits same_unit
  field_bad last m ms size e f g = ⊎_elim
      (λ q. wide last m ms size f (field_size_lem m size f e) (leb-false m.bit_size (8 * size) q))
      (λ q. go packed refl q)
      (and_cases (leb m.bit_size (8 * size)) _ g)
    where
      go : (b : Bool) → packed ≡ b → elim b as (λ _. Bool) [ true ↦ true | false ↦ eqb (m.bit_offset / (8 * size)) ((m.bit_offset + m.bit_size - 1) / (8 * size)) ] ≡ false → M last (m ∷ ms)
      go true q r = absurd (true≢false r)
      go false q r = crosses last m ms size q f (field_size_lem m size f e) (eqb-false (m.bit_offset / (8 * size)) ((m.bit_offset + m.bit_size - 1) / (8 * size)) r)

  member_bad : (last : ℕ) (m : Member) (ms : List Member) (size : ℕ) → field_size B m ≡ got size → member_fits is_struct packed last size m.bit_offset m.bit_size ≡ false → M last (m ∷ ms)
  unfolding member_fits
  member_bad last m ms size e g = ⊎_elim (start_bad last m ms) (λ q. go (eqb m.bit_size 0) refl q) (and_cases (start_fits is_struct last m.bit_offset) _ g)
    where
      go : (b : Bool) → eqb m.bit_size 0 ≡ b → elim b as (λ _. Bool) [ true ↦ eqb (m.bit_offset % 8) 0 | false ↦ field_fits packed size m.bit_offset m.bit_size ] ≡ false → M last (m ∷ ms)
      go true q r = off_byte last m ms (eqb-true m.bit_size 0 q) (eqb-false (m.bit_offset % 8) 0 r)
      go false q r = field_bad last m ms size e (eqb-false m.bit_size 0 q) r

  -- ---- the members
  abbrev after : Extent → Member → ℕ → ℕ → Extent
  after y m size end = with_member is_struct packed y size end m.bit_offset m.bit_size

  bad_members : (ms : List Member) (y x : Extent) → extent_of B is_struct packed y ms ≡ got x → x.fits ≡ false → (y.fits ≡ false) ⊎ M y.last ms
  unfolding extent_of with_member
  bad_members [] y x e f = inl (let z : y ≡ x = cc in ap (λ (k : Extent). k.fits) z ∙ f)
  bad_members (m ∷ ms) y x e f =
      let p = then_got _ _ _ e in
      let q = then_got _ _ _ p.rest in
      ⊎_elim
      (λ r. ⊎_elim (λ k. inl k) (λ k. inr (member_bad y.last m ms p.value p.first k)) (and_cases y.fits _ r))
      (λ r. inr (later y.last m ms q.value q.first r))
      (bad_members ms (after y m p.value q.value) x q.rest f)

  -- one that is bad stays so
  stays_bad : (ms : List Member) (y x : Extent) → extent_of B is_struct packed y ms ≡ got x → y.fits ≡ false → x.fits ≡ false
  unfolding extent_of with_member
  stays_bad [] y x e f = let z : y ≡ x = cc in ap (λ (k : Extent). k.fits) (sym z) ∙ f
  stays_bad (m ∷ ms) y x e f =
      let p = then_got _ _ _ e in
      let q = then_got _ _ _ p.rest in
      stays_bad ms (after y m p.value q.value) x q.rest (and_left y.fits _ f)

  bad_start : (last : ℕ) (m : Member) → start_fits is_struct last m.bit_offset ≡ false → (size : ℕ) → member_fits is_struct packed last size m.bit_offset m.bit_size ≡ false
  unfolding member_fits
  bad_start last m f size = and_left (start_fits is_struct last m.bit_offset) _ f

  bad_plain : (last : ℕ) (m : Member) → m.bit_size ≡ 0 → (m.bit_offset % 8 ≡ 0 → ⊥) → (size : ℕ) → member_fits is_struct packed last size m.bit_offset m.bit_size ≡ false
  unfolding member_fits
  bad_plain last m z f size =
      and_right (start_fits is_struct last m.bit_offset) _
      (ap (λ (b : Bool). elim b as (λ _. Bool) [ true ↦ eqb (m.bit_offset % 8) 0 | false ↦ field_fits packed size m.bit_offset m.bit_size ]) (eq-eqb m.bit_size 0 z) ∙ ne_eqb (m.bit_offset % 8) 0 f)

  bad_field : (last : ℕ) (m : Member) (size : ℕ) → (m.bit_size ≡ 0 → ⊥) → field_fits packed size m.bit_offset m.bit_size ≡ false → member_fits is_struct packed last size m.bit_offset m.bit_size ≡ false
  unfolding member_fits
  bad_field last m size z f =
      and_right (start_fits is_struct last m.bit_offset) _
      (ap (λ (b : Bool). elim b as (λ _. Bool) [ true ↦ eqb (m.bit_offset % 8) 0 | false ↦ field_fits packed size m.bit_offset m.bit_size ]) (ne_eqb m.bit_size 0 z) ∙ f)

  wide_field : (m : Member) (size : ℕ) → 8 * size < m.bit_size → field_fits packed size m.bit_offset m.bit_size ≡ false
  unfolding field_fits
  wide_field m size l = and_left (leb m.bit_size (8 * size)) _ (lt-leb m.bit_size (8 * size) l)

  crossing_field : (m : Member) (size : ℕ) → packed ≡ false → (m.bit_offset / (8 * size) ≡ (m.bit_offset + m.bit_size - 1) / (8 * size) → ⊥) → field_fits packed size m.bit_offset m.bit_size ≡ false
  unfolding field_fits same_unit
  crossing_field m size p l =
      and_right (leb m.bit_size (8 * size)) _
      (ap (λ (b : Bool). elim b as (λ _. Bool) [ true ↦ true | false ↦ eqb (m.bit_offset / (8 * size)) ((m.bit_offset + m.bit_size - 1) / (8 * size)) ]) p ∙ ne_eqb (m.bit_offset / (8 * size)) ((m.bit_offset + m.bit_size - 1) / (8 * size)) l)

  -- no members, nothing bad
  abbrev SomeMember : List Member → Type 0
  SomeMember [] = ⊥
  SomeMember (m ∷ ms) = Unit {0}

  some_member : {last : ℕ} {ms : List Member} → M last ms → SomeMember ms
  some_member (early _ _ _ _ _) = tt
  some_member (off_byte _ _ _ _ _) = tt
  some_member (wide _ _ _ _ _ _ _) = tt
  some_member (crosses _ _ _ _ _ _ _ _) = tt
  some_member (moved _ _ _ _ _) = tt
  some_member (later _ _ _ _ _ _) = tt

  -- what is bad of the first member
  first_bad : (last : ℕ) (m : Member) (ms : List Member) (size : ℕ) → field_size B m ≡ got size → (end : ℕ) → end_of B m ≡ got end → M last (m ∷ ms) → (member_fits is_struct packed last size m.bit_offset m.bit_size ≡ false) ⊎ M (reached is_struct last end) ms
  unfolding start_fits
  first_bad last m ms size e end g (early _ _ _ q l) =
      inl (bad_start last m (ap (λ (b : Bool). elim b as (λ _. Bool) [ true ↦ leb last m.bit_offset | false ↦ eqb m.bit_offset 0 ]) q ∙ lt-leb last m.bit_offset l) size)
  first_bad last m ms size e end g (off_byte _ _ _ z f) = inl (bad_plain last m z f size)
  first_bad last m ms size e end g (wide _ _ _ size' z q l) =
      inl (bad_field last m size z (wide_field m size (subst (λ (k : ℕ). 8 * k < m.bit_size) (sym (same_size m size size' z e q)) l)))
  first_bad last m ms size e end g (crosses _ _ _ size' p z q l) =
      inl (bad_field last m size z (crossing_field m size p (subst (λ (k : ℕ). m.bit_offset / (8 * k) ≡ (m.bit_offset + m.bit_size - 1) / (8 * k) → ⊥) (sym (same_size m size size' z e q)) l)))
  first_bad last m ms size e end g (moved _ _ _ q f) =
      inl (bad_start last m (ap (λ (b : Bool). elim b as (λ _. Bool) [ true ↦ leb last m.bit_offset | false ↦ eqb m.bit_offset 0 ]) q ∙ ne_eqb m.bit_offset 0 f) size)
  first_bad last m ms size e end g (later _ _ _ end' q r) = inr (subst (λ (k : ℕ). M (reached is_struct last k) ms) (let z : got end' ≡ got end = sym q ∙ g in cc) r)

  members_bad : (ms : List Member) (y x : Extent) → extent_of B is_struct packed y ms ≡ got x → M y.last ms → x.fits ≡ false
  unfolding extent_of with_member
  members_bad [] y x e r = absurd (some_member r)
  members_bad (m ∷ ms) y x e r =
      let p = then_got _ _ _ e in
      let q = then_got _ _ _ p.rest in
      ⊎_elim
      (λ k. stays_bad ms (after y m p.value q.value) x q.rest (and_right y.fits _ k))
      (λ k. members_bad ms (after y m p.value q.value) x q.rest k)
      (first_bad y.last m ms p.value p.first q.value q.first r)

-- ---- the size
size_bad : (a last bits : ℕ) (is_struct : Bool) → size_fits is_struct a last bits ≡ false → WrongSize a last bits is_struct
unfolding size_fits
size_bad a last bits true e = below (leb-false last bits e)
size_bad a last bits false e = other (eqb-false bits (round_up last (8 * a)) e)

bad_size : (a last bits : ℕ) {is_struct : Bool} → WrongSize a last bits is_struct → size_fits is_struct a last bits ≡ false
unfolding size_fits
bad_size a last bits (below l) = lt-leb last bits l
bad_size a last bits (other f) = ne_eqb bits (round_up last (8 * a)) f

-- ---- the number
eighteen : (B : Btf) → B.placing ≡ true → (is_struct : Bool) (sz : ℕ) (ms : List Member) (a : ℕ) (packed : Bool) (x : Extent) (bits : ℕ) → union_align B is_struct ms ≡ got a → is_struct_packed B is_struct sz ms ≡ got packed
    → extent_of B is_struct packed no_extent ms ≡ got x → checked (8 * sz) ≡ got bits → (body_packed B is_struct sz ms ≡ no 18) ↔ (Misplaced B is_struct packed 0 ms ⊎ WrongSize a x.last bits is_struct)
unfolding body_packed measured
eighteen B placing is_struct sz ms a packed x bits ea ep ex eb = (there, back)
  where
    judge : Bool → Ask Bool
    judge t = elim t as (λ _. Ask Bool) [ true ↦ got packed | false ↦ no 18 ]

    is : body_packed B is_struct sz ms ≡ judge (x.fits && size_fits is_struct a x.last bits)
    is =
        ap (λ (t : Bool). elim t as (λ _. Ask Bool) [ true ↦ measured B is_struct sz ms | false ↦ is_struct_packed B is_struct sz ms ]) placing
        ∙ then_is _ _ a ea ∙ then_is _ _ packed ep ∙ then_is _ _ x ex ∙ then_is _ _ bits eb

    refused : (t : Bool) → judge t ≡ no 18 → t ≡ false
    refused true e = absurd (no_got 18 packed (sym e))
    refused false e = refl

    there : body_packed B is_struct sz ms ≡ no 18 → Misplaced B is_struct packed 0 ms ⊎ WrongSize a x.last bits is_struct
    there e = ⊎_elim
        (λ q. ⊎_elim (λ k. absurd (true≢false k)) (λ k. inl k) (bad_members B is_struct packed ms no_extent x ex q))
        (λ q. inr (size_bad a x.last bits is_struct q))
        (and_cases x.fits _ (refused _ (sym is ∙ e)))

    back : Misplaced B is_struct packed 0 ms ⊎ WrongSize a x.last bits is_struct → body_packed B is_struct sz ms ≡ no 18
    back (inl r) = is ∙ ap judge (and_left x.fits _ (members_bad B is_struct packed ms no_extent x ex r))
    back (inr r) = is ∙ ap judge (and_right x.fits _ (bad_size a x.last bits r))

pub placing : Request03
placing = record {
  pads = widest_pad;
  same_gaps = same_gaps;
  eighteen = eighteen;
  laid_out = λ B mode own. laid_out B mode own;
  aligned = λ B is_struct sz ms a e named. own_alignment B is_struct sz ms a e named;
  printed = λ N B decl id lvl tail packed offset m ms ls e. lines_written B decl id lvl N tail packed offset m ms ls e;
  printed_apart = λ N B decl id lvl tail packed offset m ms ls e. lines_written B decl id lvl N tail packed offset m ms ls e;
}
