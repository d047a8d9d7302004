-- In placing mode the printed lines of a body that is not refused are laid out as the table says. Assumes nothing.
use Prim.Native.Nat.{ℕ, zero, suc, ◌+◌, ◌-◌, ◌*◌, ◌/◌, ◌%◌, ◌≤◌, ◌<◌}
use native.Mathlib.Nat.{div-eq_of_lt-le, div-add-mod', mul-mod_left, mul_left_comm, add-mul, one-mul}
use mathlib.Core.Path.{◌≡◌, refl, ap, ap₂, ◌∙◌, sym, subst}
use mathlib.Core.Bool.{Bool, true, false, not, ◌&&◌, true≢false}
use mathlib.Core.Logic.{⊎_elim}
use mathlib.Core.List.{List, [], ◌∷◌, nil≢cons}
use native.Mathlib.Omega.{arith}
use lib.Dec.{eqb, ltb, leb}
use borrow.Author.Tests.{eqb-true, eqb-false, ltb-true, leb-true, eq-eqb, le-leb, lt-leb}
use Rattle.std.proofs.lemmas.Bool.{cases_lt}
use Rattle.std.specs.Cmp.{first_so, second_so}
use Rattle.spec_c_dumper.specs.rules.Writer.{Ask, got, no, ask_then, checked, misplaced}
use Rattle.spec_c_dumper.specs.rules.Types.{Member, Btf}
use Rattle.spec_c_dumper.specs.rules.Layout.{larger, get_size_of, align_members, get_align_of, off_align, members_packed, is_struct_packed, PadUnit, long, int, short, char, Pad, pads_of, gap_pads, suits, placed_pad, placed_pads, placed_gap, pads_before, bit_padding, end_of}
use Rattle.spec_c_dumper.specs.rules.Placing.{round_up, same_unit, field_size, field_fits, start_fits, member_fits, Extent, reached, with_member, extent_of, no_extent, union_align, size_fits, measured, body_packed, tail_pads}
use Rattle.spec_c_dumper.specs.rules.SystemV.{Line, pad, field, pad_lines, body_lines, unit_bits, bit_field_at, line_at, line_bits, struct_places, struct_end, union_places, union_end, whole_bits, raises, lines_align, all_raise, found_or_zero, table_size, table_align, body_align, bit_offsets, as_union, places_of, bits_of, LaidOut}
use Rattle.spec_c_dumper.proofs.rules.Deeper.{align_one_more}
use Rattle.spec_c_dumper.proofs.rules.Asking.{no_got, then_got, then_is, choose, checked_got}
use Rattle.spec_c_dumper.proofs.alignment_once.Right.{first_below}

-- ---- tests and answers

-- ---- rounding up

round_to : (n t k : ℕ) → 0 < k → t % k ≡ 0 → n ≤ t → t < n + k → round_up n k ≡ t
unfolding round_up
round_to n t k p z l h =
    let w : t / k * k + t % k ≡ t = div-add-mod' t k in
    let v : t / k * k ≡ t = omega arith in
    let q : (n + (k - 1)) / k ≡ t / k = div-eq_of_lt-le k (omega arith) (let d : (t / k + 1) * k ≡ t / k * k + 1 * k = add-mul (t / k) 1 k in let o : 1 * k ≡ k = one-mul k in omega arith) in
    ap (λ (x : ℕ). x * k) q ∙ v

-- ---- pads: each stays where it starts, and they fill their gap

field_in : (unit w from : ℕ) → same_unit unit from w ≡ true → bit_field_at unit w from ≡ from
unfolding bit_field_at
field_in unit w from e = ap (λ (b : Bool). elim b as (λ _. ℕ) [ true ↦ from | false ↦ round_up from unit ]) e

own_field : (packed : Bool) (unit w n off : ℕ) → (elim packed as (λ _. Bool) [ true ↦ true | false ↦ same_unit unit off w ]) ≡ true → n ≡ off
    → (elim packed as (λ _. ℕ) [ true ↦ n | false ↦ bit_field_at unit w n ]) ≡ off
own_field true unit w n off e q = q
own_field false unit w n off e q = ap (bit_field_at unit w) q ∙ field_in unit w off e

always : (packed b : Bool) → b ≡ true → (elim packed as (λ _. Bool) [ true ↦ true | false ↦ b ]) ≡ true
always true b e = refl
always false b e = e

module _ (size align : ℕ → ℕ) (packed : Bool) where
  stay : (u : PadUnit) (w start : ℕ) → start / unit_bits u ≡ (start + w - 1) / unit_bits u → line_at size align packed start (pad (record { unit = u; width = w })) ≡ start
  unfolding line_at same_unit
  stay u w start e = own_field packed (unit_bits u) w start start (always packed _ (eq-eqb (start / unit_bits u) ((start + w - 1) / unit_bits u) e)) refl

  pub record Stays (start gap : ℕ) (p : Pad) : Type 0 where
    pub some : 0 < p.width
    pub within : p.width ≤ gap
    pub stays : line_at size align packed start (pad p) ≡ start

  suit : (u : PadUnit) (w start gap : ℕ) → suits start gap w ≡ true → 0 < w → (start % w ≡ 0 → start / unit_bits u ≡ (start + w - 1) / unit_bits u)
      → Stays start gap (record { unit = u; width = w })
  unfolding suits
  suit u w start gap e p f = record {
    some = p;
    within = leb-true w gap (second_so (eqb (start % w) 0) (leb w gap) e);
    stays = stay u w start (f (eqb-true (start % w) 0 (first_so (eqb (start % w) 0) (leb w gap) e)));
  }

  pub pad_stays : (ptr_sz start gap : ℕ) → 0 < gap → Stays start gap (placed_pad ptr_sz start gap)
  unfolding placed_pad unit_bits
  pad_stays ptr_sz start gap g =
      choose (Stays start gap) (eqb ptr_sz 8 && suits start gap 64) _ _ (λ e. suit long 64 start gap (second_so (eqb ptr_sz 8) (suits start gap 64) e) (omega arith) (λ z. omega arith))
      (λ _. choose (Stays start gap) (suits start gap 32) _ _ (λ e. suit int 32 start gap e (omega arith) (λ z. omega arith))
      (λ _. choose (Stays start gap) (suits start gap 16) _ _ (λ e. suit short 16 start gap e (omega arith) (λ z. omega arith))
      (λ _. choose (Stays start gap) (suits start gap 8) _ _ (λ e. suit char 8 start gap e (omega arith) (λ z. omega arith))
      (λ _. choose (Stays start gap) (suits start gap 4) _ _ (λ e. suit char 4 start gap e (omega arith) (λ z. omega arith))
      (λ _. choose (Stays start gap) (suits start gap 2) _ _ (λ e. suit char 2 start gap e (omega arith) (λ z. omega arith))
      (λ _. record { some = omega arith; within = omega arith; stays = stay char 1 start (omega arith) }))))))

  pub run_places : (most ptr_sz start gap : ℕ) → gap ≤ most → (ls : List Line)
      → struct_places size align packed start (pad_lines (placed_pads most ptr_sz start gap) ls) ≡ struct_places size align packed (start + gap) ls
  unfolding placed_pads pad_lines struct_places line_bits
  run_places zero ptr_sz start gap h ls = ap (λ (x : ℕ). struct_places size align packed x ls) (omega arith)
  run_places (suc most) ptr_sz start gap h ls =
      choose (λ (ps : List Pad). struct_places size align packed start (pad_lines ps ls) ≡ struct_places size align packed (start + gap) ls) (eqb gap 0) _ _
      (λ e. let z : gap ≡ 0 = eqb-true gap 0 e in ap (λ (x : ℕ). struct_places size align packed x ls) (omega arith))
      (λ e.
      let n : gap ≡ 0 → ⊥ = eqb-false gap 0 e in
      let q : Stays start gap (placed_pad ptr_sz start gap) = pad_stays ptr_sz start gap (omega arith) in
      let w = (placed_pad ptr_sz start gap).width in
      ap (λ (x : ℕ). struct_places size align packed (x + w) (pad_lines (placed_pads most ptr_sz (start + w) (gap - w)) ls)) q.stays
      ∙ run_places most ptr_sz (start + w) (gap - w) (omega arith) ls
      ∙ ap (λ (x : ℕ). struct_places size align packed x ls) (omega arith))

  pub run_end : (most ptr_sz start gap : ℕ) → gap ≤ most → (ls : List Line)
      → struct_end size align packed start (pad_lines (placed_pads most ptr_sz start gap) ls) ≡ struct_end size align packed (start + gap) ls
  unfolding placed_pads pad_lines struct_end line_bits
  run_end zero ptr_sz start gap h ls = ap (λ (x : ℕ). struct_end size align packed x ls) (omega arith)
  run_end (suc most) ptr_sz start gap h ls =
      choose (λ (ps : List Pad). struct_end size align packed start (pad_lines ps ls) ≡ struct_end size align packed (start + gap) ls) (eqb gap 0) _ _
      (λ e. let z : gap ≡ 0 = eqb-true gap 0 e in ap (λ (x : ℕ). struct_end size align packed x ls) (omega arith))
      (λ e.
      let n : gap ≡ 0 → ⊥ = eqb-false gap 0 e in
      let q : Stays start gap (placed_pad ptr_sz start gap) = pad_stays ptr_sz start gap (omega arith) in
      let w = (placed_pad ptr_sz start gap).width in
      ap (λ (x : ℕ). struct_end size align packed (x + w) (pad_lines (placed_pads most ptr_sz (start + w) (gap - w)) ls)) q.stays
      ∙ run_end most ptr_sz (start + w) (gap - w) (omega arith) ls
      ∙ ap (λ (x : ℕ). struct_end size align packed x ls) (omega arith))

-- ---- a member

module _ (B : Btf) (packed : Bool) where
  abbrev at : ℕ → Line → ℕ
  at = line_at (table_size B) (table_align B) packed

  abbrev bits : Line → ℕ
  bits = line_bits (table_size B) (table_align B) packed

  end_is : (m : Member) (end : ℕ) → end_of B m ≡ got end → m.bit_offset + bits (field m) ≡ end
  unfolding end_of line_bits table_size found_or_zero
  end_is m end = go (eqb m.bit_size 0)
    where
      go : (b : Bool) → (elim b as (λ _. Ask ℕ) [ true ↦ ask_then (get_size_of 512 B m.type_id) (λ s. ask_then (checked (8 * s)) (λ bits. checked (m.bit_offset + bits))) | false ↦ checked (m.bit_offset + m.bit_size) ]) ≡ got end
          → m.bit_offset + (elim b as (λ _. ℕ) [ true ↦ 8 * found_or_zero (get_size_of 512 B m.type_id) | false ↦ m.bit_size ]) ≡ end
      go true e =
          let p = then_got _ _ _ e in
          let q = then_got _ _ _ p.rest in
          let s : found_or_zero (get_size_of 512 B m.type_id) ≡ p.value = ap found_or_zero p.first in
          let u : 8 * p.value ≡ q.value = checked_got _ _ q.first in
          let v : m.bit_offset + q.value ≡ end = checked_got _ _ q.rest in
          omega arith
      go false e = checked_got _ _ e

  -- the alignment that a gap before a member is tested by
  record Eff (m : Member) : Type 0 where
    a : ℕ
    asked : (elim packed as (λ _. Ask ℕ) [ true ↦ got 1 | false ↦ get_align_of 512 B m.type_id ]) ≡ got a
    is : (elim packed as (λ _. ℕ) [ true ↦ 1 | false ↦ table_align B m.type_id ]) ≡ a
    on : m.bit_size ≡ 0 → (0 < a) × (m.bit_offset % (a * 8) ≡ 0)

  -- a member that fits sits at its own offset, from the end before it or from behind its pads
  own : (m : Member) (n last s : ℕ) (f : Eff m) → field_size B m ≡ got s → member_fits true packed last s m.bit_offset m.bit_size ≡ true → n ≤ m.bit_offset
      → (m.bit_size ≡ 0 → m.bit_offset < n + f.a * 8) → ((m.bit_size ≡ 0 → ⊥) → n ≡ m.bit_offset) → at n (field m) ≡ m.bit_offset
  unfolding line_at member_fits field_fits field_size table_size found_or_zero
  own m n last s f es em l near same = go (eqb m.bit_size 0) refl es (second_so (start_fits true last m.bit_offset) (elim (eqb m.bit_size 0) as (λ _. Bool) [ true ↦ eqb (m.bit_offset % 8) 0 | false ↦ leb m.bit_size (8 * s) && (elim packed as (λ _. Bool) [ true ↦ true | false ↦ same_unit (8 * s) m.bit_offset m.bit_size ]) ]) em)
    where
      go : (b : Bool) → eqb m.bit_size 0 ≡ b → (elim b as (λ _. Ask ℕ) [ true ↦ got 0 | false ↦ get_size_of 512 B m.type_id ]) ≡ got s
          → (elim b as (λ _. Bool) [ true ↦ eqb (m.bit_offset % 8) 0 | false ↦ leb m.bit_size (8 * s) && (elim packed as (λ _. Bool) [ true ↦ true | false ↦ same_unit (8 * s) m.bit_offset m.bit_size ]) ]) ≡ true
          → (elim b as (λ _. ℕ) [
            | true ↦ round_up n ((elim packed as (λ _. ℕ) [ true ↦ 1 | false ↦ table_align B m.type_id ]) * 8)
            | false ↦ elim packed as (λ _. ℕ) [ true ↦ n | false ↦ bit_field_at (8 * found_or_zero (get_size_of 512 B m.type_id)) m.bit_size n ]
          ]) ≡ m.bit_offset
      go true z gs fs =
          let o = f.on (eqb-true m.bit_size 0 z) in
          let p : 0 < f.a = o.0 in
          let h : m.bit_offset < n + f.a * 8 = near (eqb-true m.bit_size 0 z) in
          ap (λ (x : ℕ). round_up n (x * 8)) f.is ∙ round_to n m.bit_offset (f.a * 8) (omega arith) o.1 l h
      go false z gs fs =
          ap (λ (x : ℕ). elim packed as (λ _. ℕ) [ true ↦ n | false ↦ bit_field_at (8 * x) m.bit_size n ]) (ap found_or_zero gs)
          ∙ own_field packed (8 * s) m.bit_size n m.bit_offset (second_so (leb m.bit_size (8 * s)) (elim packed as (λ _. Bool) [ true ↦ true | false ↦ same_unit (8 * s) m.bit_offset m.bit_size ]) fs) (same (eqb-false m.bit_size 0 z))

  -- ---- the lines of a struct from a member on

  record Laid (sz last : ℕ) (ms : List Member) : Type 0 where
    lines : List Line
    written : body_lines B (tail_pads B.placing B.ptr_sz true sz) packed last ms ≡ got lines
    offsets : struct_places (table_size B) (table_align B) packed last lines ≡ bit_offsets ms
    end : struct_end (table_size B) (table_align B) packed last lines ≡ 8 * sz

  -- the pads of a member and the member, whatever comes after
  record Run (last : ℕ) (m : Member) (next : ℕ) : Type 0 where
    ps : List Pad
    padded : bit_padding B last m packed ≡ got ps
    run_offsets : (ls : List Line)
        → struct_places (table_size B) (table_align B) packed last (pad_lines ps (field m ∷ ls)) ≡ m.bit_offset ∷ struct_places (table_size B) (table_align B) packed next ls
    run_ends : (ls : List Line) → struct_end (table_size B) (table_align B) packed last (pad_lines ps (field m ∷ ls)) ≡ struct_end (table_size B) (table_align B) packed next ls

  lay : (sz last : ℕ) (m : Member) (ms : List Member) (next : ℕ) → end_of B m ≡ got next → Run last m next → Laid sz next ms → Laid sz last (m ∷ ms)
  unfolding body_lines bit_offsets
  lay sz last m ms next e r l = record {
    lines = pad_lines r.ps (field m ∷ l.lines);
    written = then_is _ _ r.ps r.padded ∙ then_is _ _ next e ∙ then_is _ _ l.lines l.written;
    offsets = r.run_offsets l.lines ∙ ap (λ (x : List ℕ). m.bit_offset ∷ x) l.offsets;
    end = r.run_ends l.lines ∙ l.end;
  }

  -- the member itself, from n on
  one_offset : (m : Member) (n next : ℕ) (ls : List Line) → at n (field m) ≡ m.bit_offset → m.bit_offset + bits (field m) ≡ next
      → struct_places (table_size B) (table_align B) packed n (field m ∷ ls) ≡ m.bit_offset ∷ struct_places (table_size B) (table_align B) packed next ls
  unfolding struct_places
  one_offset m n next ls h e =
      ap (λ (x : ℕ). x ∷ struct_places (table_size B) (table_align B) packed (x + bits (field m)) ls) h ∙ ap (λ (x : ℕ). m.bit_offset ∷ struct_places (table_size B) (table_align B) packed x ls) e

  one_end : (m : Member) (n next : ℕ) (ls : List Line) → at n (field m) ≡ m.bit_offset → m.bit_offset + bits (field m) ≡ next
      → struct_end (table_size B) (table_align B) packed n (field m ∷ ls) ≡ struct_end (table_size B) (table_align B) packed next ls
  unfolding struct_end
  one_end m n next ls h e =
      ap (λ (x : ℕ). struct_end (table_size B) (table_align B) packed (x + bits (field m)) ls) h ∙ ap (λ (x : ℕ). struct_end (table_size B) (table_align B) packed x ls) e

  module _ (placing : B.placing ≡ true) (m : Member) (last s next : ℕ) (f : Eff m) (es : field_size B m ≡ got s) (em : member_fits true packed last s m.bit_offset m.bit_size ≡ true) (ee : end_of B m ≡ got next) where
    starts : last ≤ m.bit_offset
    unfolding member_fits start_fits
    starts = leb-true last m.bit_offset (first_so (leb last m.bit_offset) (elim (eqb m.bit_size 0) as (λ _. Bool) [ true ↦ eqb (m.bit_offset % 8) 0 | false ↦ field_fits packed s m.bit_offset m.bit_size ]) em)

    -- without pads: there is no gap, or one shorter than the alignment
    bare : bit_padding B last m packed ≡ got [] → (m.bit_size ≡ 0 → m.bit_offset < last + f.a * 8) → ((m.bit_size ≡ 0 → ⊥) → last ≡ m.bit_offset) → Run last m next
    unfolding pad_lines
    bare e near same =
        let h : at last (field m) ≡ m.bit_offset = own m last last s f es em starts near same in
        record { ps = []; padded = e; run_offsets = λ ls. one_offset m last next ls h (end_is m next ee); run_ends = λ ls. one_end m last next ls h (end_is m next ee) }

    -- with pads, which fill the gap
    filled : last ≤ m.bit_offset → bit_padding B last m packed ≡ got (placed_pads (m.bit_offset - last) B.ptr_sz last (m.bit_offset - last)) → Run last m next
    filled l e =
        let o : last + (m.bit_offset - last) ≡ m.bit_offset = omega arith in
        let i : (m.bit_offset - last) ≤ (m.bit_offset - last) = omega arith in
        let h : at m.bit_offset (field m) ≡ m.bit_offset = own m m.bit_offset last s f es em (omega arith) (λ z. let p : 0 < f.a = (f.on z).0 in omega arith) (λ z. refl) in
        record {
          ps = placed_pads (m.bit_offset - last) B.ptr_sz last (m.bit_offset - last);
          padded = e;
          run_offsets = λ ls.
              run_places (table_size B) (table_align B) packed (m.bit_offset - last) B.ptr_sz last (m.bit_offset - last) i (field m ∷ ls)
              ∙ ap (λ (x : ℕ). struct_places (table_size B) (table_align B) packed x (field m ∷ ls)) o
              ∙ one_offset m m.bit_offset next ls h (end_is m next ee);
          run_ends = λ ls.
              run_end (table_size B) (table_align B) packed (m.bit_offset - last) B.ptr_sz last (m.bit_offset - last) i (field m ∷ ls)
              ∙ ap (λ (x : ℕ). struct_end (table_size B) (table_align B) packed x (field m ∷ ls)) o
              ∙ one_end m m.bit_offset next ls h (end_is m next ee);
        }

    no_gap : m.bit_offset ≤ last → bit_padding B last m packed ≡ got []
    unfolding bit_padding
    no_gap l = rw (le-leb m.bit_offset last l, bit_padding)

    a_gap : last < m.bit_offset → bit_padding B last m packed ≡ got (pads_before B.placing B.ptr_sz last m.bit_size (m.bit_offset - last) f.a)
    unfolding bit_padding
    a_gap l = rw (lt-leb m.bit_offset last l, bit_padding) (then_is _ _ f.a f.asked)

    gap_is : pads_before B.placing B.ptr_sz last m.bit_size (m.bit_offset - last) f.a ≡ placed_gap B.ptr_sz last m.bit_size (m.bit_offset - last) f.a
    unfolding pads_before
    gap_is = rw placing

    run : Run last m next
    unfolding placed_gap
    run = ⊎_elim
        (λ l. go l (eqb m.bit_size 0 && ltb (m.bit_offset - last) (f.a * 8)) refl (a_gap l ∙ ap got gap_is))
        (λ l. bare (no_gap l) (λ z. let p : 0 < f.a = (f.on z).0 in let q = starts in omega arith) (λ z. let q = starts in omega arith))
        (cases_lt last m.bit_offset)
      where
        go : last < m.bit_offset → (b : Bool) → (eqb m.bit_size 0 && ltb (m.bit_offset - last) (f.a * 8)) ≡ b
            → bit_padding B last m packed ≡ got (elim b as (λ _. List Pad) [ true ↦ [] | false ↦ placed_pads (m.bit_offset - last) B.ptr_sz last (m.bit_offset - last) ]) → Run last m next
        go l true t e =
            let z : m.bit_size ≡ 0 = eqb-true m.bit_size 0 (first_so (eqb m.bit_size 0) (ltb (m.bit_offset - last) (f.a * 8)) t) in
            let h : m.bit_offset - last < f.a * 8 = ltb-true (m.bit_offset - last) (f.a * 8) (second_so (eqb m.bit_size 0) (ltb (m.bit_offset - last) (f.a * 8)) t) in
            bare e (λ y. omega arith) (λ n. absurd (n z))
        go l false t e = filled (omega arith) e

-- ---- what the packed test and the measuring tell of the members

-- what is found to fit at the end was so all along
fits_before : (B : Btf) (is_struct packed : Bool) (y : Extent) (ms : List Member) (x : Extent) → extent_of B is_struct packed y ms ≡ got x → x.fits ≡ true → y.fits ≡ true
unfolding extent_of with_member
fits_before B is_struct packed y [] x e h = let q : y ≡ x = cc in ap (λ (z : Extent). z.fits) q ∙ h
fits_before B is_struct packed y (m ∷ ms) x e h =
    let p = then_got _ _ _ e in
    let q = then_got _ _ _ p.rest in
    first_so y.fits (member_fits is_struct packed y.last p.value m.bit_offset m.bit_size)
    (fits_before B is_struct packed (with_member is_struct packed y p.value q.value m.bit_offset m.bit_size) ms x q.rest h)

-- so the next member fits
fits_now : (B : Btf) (is_struct packed : Bool) (y : Extent) (m : Member) (ms : List Member) (s end : ℕ) (x : Extent)
    → extent_of B is_struct packed (with_member is_struct packed y s end m.bit_offset m.bit_size) ms ≡ got x → x.fits ≡ true → member_fits is_struct packed y.last s m.bit_offset m.bit_size ≡ true
unfolding with_member
fits_now B is_struct packed y m ms s end x e h =
    second_so y.fits (member_fits is_struct packed y.last s m.bit_offset m.bit_size) (fits_before B is_struct packed (with_member is_struct packed y s end m.bit_offset m.bit_size) ms x e h)

-- the members of a struct that is not packed: each has an alignment, and a plain one is on it
data Aligned (B : Btf) : List Member → Type 0 where
  none : Aligned B []
  more : (m : Member) (ms : List Member) (a : ℕ) → get_align_of 512 B m.type_id ≡ got a → (m.bit_size ≡ 0 → (0 < a) × (m.bit_offset % (a * 8) ≡ 0)) → Aligned B ms → Aligned B (m ∷ ms)

got_true_false : got true ≡ got false → ⊥
got_true_false e = let z : true ≡ false = cc in true≢false z

module _ (B : Btf) where
  off_none : (a off : ℕ) (rest : Ask Bool) → off_align a off rest ≡ got false → ((0 < a) × (off % (a * 8) ≡ 0)) × (rest ≡ got false)
  unfolding off_align
  off_none a off rest =
      choose (λ (z : Ask Bool). z ≡ got false → ((0 < a) × (off % (a * 8) ≡ 0)) × (rest ≡ got false)) (eqb a 0) _ _
      (λ t e. absurd (no_got _ _ e))
      (λ t. choose (λ (z : Ask Bool). z ≡ got false → ((0 < a) × (off % (a * 8) ≡ 0)) × (rest ≡ got false)) (eqb (off % (a * 8)) 0) _ _
      (λ o e. let n : a ≡ 0 → ⊥ = eqb-false a 0 t in ((omega arith, eqb-true (off % (a * 8)) 0 o), e))
      (λ o e. absurd (got_true_false e)))

  aligned : (x : ℕ) (ms : List Member) (A : ℕ) → align_members (get_align_of 511 B) x ms ≡ got A → members_packed B ms ≡ got false → Aligned B ms
  unfolding align_members members_packed
  aligned x [] A e f = none
  aligned x (m ∷ ms) A e f =
      let p = then_got _ _ _ e in
      let g : get_align_of 512 B m.type_id ≡ got p.value = align_one_more B 511 m.type_id p.value p.first in
      go p.value g (aligned (larger x p.value) ms A p.rest) (eqb m.bit_size 0) refl f
    where
      go : (a : ℕ) → get_align_of 512 B m.type_id ≡ got a → (members_packed B ms ≡ got false → Aligned B ms) → (b : Bool) → eqb m.bit_size 0 ≡ b
          → (elim b as (λ _. Ask Bool) [ true ↦ ask_then (get_align_of 512 B m.type_id) (λ a. off_align a m.bit_offset (members_packed B ms)) | false ↦ members_packed B ms ]) ≡ got false → Aligned B (m ∷ ms)
      go a g rec true z f =
          let o = off_none a m.bit_offset (members_packed B ms) (sym (then_is _ _ a g) ∙ f) in
          more m ms a g (λ y. o.0) (rec o.1)
      go a g rec false z f = more m ms a g (λ y. absurd (eqb-false m.bit_size 0 z y)) (rec f)

  -- a struct: its members if it is not packed, and its size a multiple of its alignment
  record Tested (sz : ℕ) (ms : List Member) (packed : Bool) : Type 0 where
    A : ℕ
    whole : align_members (get_align_of 511 B) 1 ms ≡ got A
    divides : packed ≡ false → sz % A ≡ 0
    members : packed ≡ false → Aligned B ms

  tested : (sz : ℕ) (ms : List Member) (packed : Bool) → is_struct_packed B true sz ms ≡ got packed → Tested sz ms packed
  unfolding is_struct_packed
  tested sz ms packed e =
      let p = then_got _ _ _ e in
      record {
        A = p.value;
        whole = p.first;
        divides = λ z. choose (λ (y : Ask Bool). y ≡ got packed → sz % p.value ≡ 0) (eqb (sz % p.value) 0) _ _ (λ t f. eqb-true (sz % p.value) 0 t) (λ t f. absurd (got_true_false (f ∙ ap got z))) p.rest;
        members = λ z. choose (λ (y : Ask Bool). y ≡ got packed → Aligned B ms) (eqb (sz % p.value) 0) _ _
            (λ t f. aligned 1 ms p.value p.first (f ∙ ap got z)) (λ t f. absurd (got_true_false (f ∙ ap got z))) p.rest;
      }

module _ (B : Btf) (placing : B.placing ≡ true) where
  -- the alignment of a gap, from the packed test or in a packed struct from the byte that a plain member is on
  eff : (packed : Bool) (last s : ℕ) (m : Member) (ms : List Member) → (packed ≡ false → Aligned B (m ∷ ms)) → member_fits true packed last s m.bit_offset m.bit_size ≡ true → Eff B packed m
  unfolding member_fits table_align found_or_zero
  eff true last s m ms h em = record {
    a = 1;
    asked = refl;
    is = refl;
    on = λ z. (
      omega arith,
      choose (λ (y : Bool). y ≡ true → m.bit_offset % 8 ≡ 0) (eqb m.bit_size 0) _ _ (λ t f. eqb-true (m.bit_offset % 8) 0 f) (λ t f. absurd (eqb-false m.bit_size 0 t z))
          (second_so (start_fits true last m.bit_offset) (elim (eqb m.bit_size 0) as (λ _. Bool) [ true ↦ eqb (m.bit_offset % 8) 0 | false ↦ field_fits true s m.bit_offset m.bit_size ]) em),
    );
  }
  eff false last s m ms h em = go (h refl)
    where
      go : Aligned B (m ∷ ms) → Eff B false m
      go (more _ _ a g on rest) = record { a = a; asked = g; is = ap found_or_zero g; on = on }

  later : (packed : Bool) (m : Member) (ms : List Member) → (packed ≡ false → Aligned B (m ∷ ms)) → packed ≡ false → Aligned B ms
  later packed m ms h z = go (h z)
    where
      go : Aligned B (m ∷ ms) → Aligned B ms
      go (more _ _ a g on rest) = rest

  tail_is : (sz last : ℕ) → tail_pads B.placing B.ptr_sz true sz last ≡ placed_pads (8 * sz - last) B.ptr_sz last (8 * sz - last)
  unfolding tail_pads
  tail_is sz last = rw placing

  struct_last : (packed : Bool) (y : Extent) (size end bit_offset bit_size : ℕ) → (with_member true packed y size end bit_offset bit_size).last ≡ end
  unfolding with_member reached
  struct_last packed y size end bit_offset bit_size = refl

  struct_lines : (packed : Bool) (sz : ℕ) (y : Extent) (ms : List Member) (x : Extent) → extent_of B true packed y ms ≡ got x → x.fits ≡ true → x.last ≤ 8 * sz
      → (packed ≡ false → Aligned B ms) → Laid B packed sz y.last ms
  unfolding extent_of body_lines bit_offsets struct_places struct_end
  struct_lines packed sz y [] x e h l al =
      let q : y ≡ x = cc in
      let r : y.last ≡ x.last = ap (λ (z : Extent). z.last) q in
      let i : (8 * sz - y.last) ≤ (8 * sz - y.last) = omega arith in
      record {
        lines = pad_lines (placed_pads (8 * sz - y.last) B.ptr_sz y.last (8 * sz - y.last)) [];
        written = ap (λ (ps : List Pad). got (pad_lines ps [])) (tail_is sz y.last);
        offsets = run_places (table_size B) (table_align B) packed (8 * sz - y.last) B.ptr_sz y.last (8 * sz - y.last) i [];
        end = run_end (table_size B) (table_align B) packed (8 * sz - y.last) B.ptr_sz y.last (8 * sz - y.last) i [] ∙ (omega arith);
      }
  struct_lines packed sz y (m ∷ ms) x e h l al =
      let p = then_got _ _ _ e in
      let q = then_got _ _ _ p.rest in
      let em : member_fits true packed y.last p.value m.bit_offset m.bit_size ≡ true = fits_now B true packed y m ms p.value q.value x q.rest h in
      let w : Laid B packed sz (with_member true packed y p.value q.value m.bit_offset m.bit_size).last ms
      = struct_lines packed sz (with_member true packed y p.value q.value m.bit_offset m.bit_size) ms x q.rest h l (later packed m ms al) in
      lay B packed sz y.last m ms q.value q.first
      (run B packed placing m y.last p.value q.value (eff packed y.last p.value m ms al em) p.first em q.first)
      (subst (λ (n : ℕ). Laid B packed sz n ms) (struct_last packed y p.value q.value m.bit_offset m.bit_size) w)

-- ---- a whole

align_some : (f : ℕ → Ask ℕ) (x : ℕ) (ms : List Member) (A : ℕ) → align_members f x ms ≡ got A → x ≤ A
unfolding align_members
align_some f x [] A e = let q : x ≡ A = cc in omega arith
align_some f x (m ∷ ms) A e =
    let p = then_got _ _ _ e in
    let h : larger x p.value ≤ A = align_some f (larger x p.value) ms A p.rest in
    omega (arith, first_below x p.value)

whole_multiple : (sz A : ℕ) → 0 < A → sz % A ≡ 0 → round_up (8 * sz) (8 * A) ≡ 8 * sz
whole_multiple sz A p z =
    let w : sz / A * A + sz % A ≡ sz = div-add-mod' sz A in
    let v : sz / A * A ≡ sz = omega arith in
    let u : 8 * sz ≡ sz / A * (8 * A) = sym (mul_left_comm (sz / A) 8 A ∙ ap (λ (x : ℕ). 8 * x) v) in
    round_to (8 * sz) (8 * sz) (8 * A) (omega arith) (ap (λ (x : ℕ). x % (8 * A)) u ∙ mul-mod_left (sz / A) (8 * A)) (omega arith) (omega arith)

-- what is measured and not refused
record Measured (B : Btf) (is_struct : Bool) (sz : ℕ) (ms : List Member) (packed : Bool) : Type 0 where
  a : ℕ
  x : Extent
  aligned_by : union_align B is_struct ms ≡ got a
  packs : is_struct_packed B is_struct sz ms ≡ got packed
  extends : extent_of B is_struct packed no_extent ms ≡ got x
  fit : x.fits ≡ true
  sized : size_fits is_struct a x.last (8 * sz) ≡ true

measured_got : (B : Btf) (is_struct : Bool) (sz : ℕ) (ms : List Member) (packed : Bool) → measured B is_struct sz ms ≡ got packed → Measured B is_struct sz ms packed
unfolding measured
measured_got B is_struct sz ms packed e =
    let p = then_got _ _ _ e in
    let q = then_got _ _ _ p.rest in
    let r = then_got _ _ _ q.rest in
    let s = then_got _ _ _ r.rest in
    let t = test (r.value.fits && size_fits is_struct p.value r.value.last s.value) q.value s.rest in
    record {
      a = p.value;
      x = r.value;
      aligned_by = p.first;
      packs = q.first ∙ ap got t.1;
      extends = ap (λ (b : Bool). extent_of B is_struct b no_extent ms) (sym t.1) ∙ r.first;
      fit = first_so r.value.fits (size_fits is_struct p.value r.value.last s.value) t.0;
      sized = ap (size_fits is_struct p.value r.value.last) (checked_got _ _ s.first) ∙ second_so r.value.fits (size_fits is_struct p.value r.value.last s.value) t.0;
    }
  where
    test : (b was : Bool) → (elim b as (λ _. Ask Bool) [ true ↦ got was | false ↦ no misplaced ]) ≡ got packed → (b ≡ true) × (was ≡ packed)
    test true was f = let q : was ≡ packed = cc in (refl, q)
    test false was f = absurd (no_got _ _ f)

module _ (B : Btf) (placing : B.placing ≡ true) (sz : ℕ) (ms : List Member) where
  struct_whole : (packed : Bool) → Tested B sz ms packed → round_up (8 * sz) (8 * body_align B packed ms) ≡ 8 * sz
  unfolding body_align found_or_zero
  struct_whole true t = whole_multiple sz 1 (omega arith) (omega arith)
  struct_whole false t =
      let p : 1 ≤ t.A = align_some (get_align_of 511 B) 1 ms t.A t.whole in
      ap (λ (y : Ask ℕ). round_up (8 * sz) (8 * found_or_zero y)) t.whole ∙ whole_multiple sz t.A (omega arith) (t.divides refl)

  struct_laid : (packed : Bool) → Measured B true sz ms packed → LaidOut B true sz ms packed
  unfolding places_of bits_of as_union whole_bits size_fits
  struct_laid packed k =
      let t = tested B sz ms packed k.packs in
      let l = struct_lines B placing packed sz no_extent ms k.x k.extends k.fit (leb-true k.x.last (8 * sz) k.sized) t.members in
      record {
        lines = l.lines;
        printed = l.written;
        offsets = l.offsets;
        size = ap (λ (y : ℕ). round_up y (8 * body_align B packed ms)) l.end ∙ struct_whole packed t;
      }

  -- ---- a union: all members at bit 0, no pads

  record UnionLaid (offset last : ℕ) (left : List Member) (end : ℕ) : Type 0 where
    lines : List Line
    written : body_lines B (tail_pads B.placing B.ptr_sz false sz) false offset left ≡ got lines
    offsets : union_places (table_size B) (table_align B) false lines ≡ bit_offsets left
    ends : union_end (table_size B) (table_align B) false last lines ≡ end

  no_tail : (offset : ℕ) → tail_pads B.placing B.ptr_sz false sz offset ≡ []
  unfolding tail_pads
  no_tail offset = rw placing

  at_zero : (last s : ℕ) (m : Member) → member_fits false false last s m.bit_offset m.bit_size ≡ true → m.bit_offset ≡ 0
  unfolding member_fits start_fits
  at_zero last s m e = eqb-true m.bit_offset 0 (first_so (eqb m.bit_offset 0) (elim (eqb m.bit_size 0) as (λ _. Bool) [ true ↦ eqb (m.bit_offset % 8) 0 | false ↦ field_fits false s m.bit_offset m.bit_size ]) e)

  no_pad : (offset : ℕ) (m : Member) → m.bit_offset ≡ 0 → bit_padding B offset m false ≡ got []
  unfolding bit_padding
  no_pad offset m z = let l : m.bit_offset ≤ offset = omega arith in rw (le-leb m.bit_offset offset l, bit_padding)

  union_last : (y : Extent) (size end bit_offset bit_size : ℕ) → (with_member false false y size end bit_offset bit_size).last ≡ larger y.last end
  unfolding with_member reached
  union_last y size end bit_offset bit_size = refl

  union_lines : (offset : ℕ) (y : Extent) (left : List Member) (x : Extent) → extent_of B false false y left ≡ got x → x.fits ≡ true → UnionLaid offset y.last left x.last
  unfolding extent_of body_lines bit_offsets union_places union_end pad_lines
  union_lines offset y [] x e h =
      let q : y ≡ x = cc in
      record { lines = []; written = ap (λ (ps : List Pad). got (pad_lines ps [])) (no_tail offset); offsets = refl; ends = ap (λ (z : Extent). z.last) q }
  union_lines offset y (m ∷ left) x e h =
      let p = then_got _ _ _ e in
      let q = then_got _ _ _ p.rest in
      let z : m.bit_offset ≡ 0 = at_zero y.last p.value m (fits_now B false false y m left p.value q.value x q.rest h) in
      let w : m.bit_offset + line_bits (table_size B) (table_align B) false (field m) ≡ q.value = end_is B false m q.value q.first in
      let v : line_bits (table_size B) (table_align B) false (field m) ≡ q.value = omega arith in
      let r = union_lines q.value (with_member false false y p.value q.value m.bit_offset m.bit_size) left x q.rest h in
      record {
        lines = field m ∷ r.lines;
        written = then_is _ _ [] (no_pad offset m z) ∙ then_is _ _ q.value q.first ∙ then_is _ _ r.lines r.written;
        offsets = ap₂ (λ (n : ℕ) (ns : List ℕ). n ∷ ns) (sym z) r.offsets;
        ends =
            ap (λ (n : ℕ). union_end (table_size B) (table_align B) false (larger y.last n) r.lines) v
            ∙ ap (λ (n : ℕ). union_end (table_size B) (table_align B) false n r.lines) (sym (union_last y p.value q.value m.bit_offset m.bit_size))
            ∙ r.ends;
      }

  union_laid : (packed : Bool) → B.union_as_struct ≡ false → Measured B false sz ms packed → LaidOut B false sz ms packed
  unfolding places_of bits_of as_union whole_bits size_fits is_struct_packed union_align body_align found_or_zero
  union_laid packed own k = go packed (let q : false ≡ packed = cc in sym q) k
    where
      go : (packed : Bool) → packed ≡ false → Measured B false sz ms packed → LaidOut B false sz ms packed
      go true e k = absurd (true≢false e)
      go false e k =
          let l = union_lines 0 no_extent ms k.x k.extends k.fit in
          let z : 8 * sz ≡ round_up k.x.last (8 * k.a) = eqb-true (8 * sz) (round_up k.x.last (8 * k.a)) k.sized in
          record {
            lines = l.lines;
            printed = l.written;
            offsets = ap (λ (b : Bool). elim (not b) as (λ _. List ℕ) [ true ↦ union_places (table_size B) (table_align B) false l.lines | false ↦ struct_places (table_size B) (table_align B) false 0 l.lines ]) own ∙ l.offsets;
            size =
                ap (λ (b : Bool). round_up (elim (not b) as (λ _. ℕ) [ true ↦ union_end (table_size B) (table_align B) false 0 l.lines | false ↦ struct_end (table_size B) (table_align B) false 0 l.lines ]) (8 * found_or_zero (align_members (get_align_of 511 B) 1 ms))) own
                ∙ ap₂ (λ (y : ℕ) (w : Ask ℕ). round_up y (8 * found_or_zero w)) l.ends k.aligned_by
                ∙ sym z;
          }

-- "Without `union_as_struct`, laid out .. by the x86-64 System V rules for structs and bit fields, with the table's sizes and, in structs
-- not packed, alignments, every member then sits at its table offset and the whole has its table size." Of every table, body and pointer
-- size; what is refused (18 among it) is not printed.
module _ (B : Btf) (placing : B.placing ≡ true) (own : B.union_as_struct ≡ false) where
  pub laid_out : (is_struct : Bool) (sz : ℕ) (ms : List Member) (packed : Bool) → body_packed B is_struct sz ms ≡ got packed → LaidOut B is_struct sz ms packed
  unfolding body_packed
  laid_out is_struct sz ms packed e = go is_struct (measured_got B is_struct sz ms packed (ap (λ (b : Bool). elim b as (λ _. Ask Bool) [ true ↦ measured B is_struct sz ms | false ↦ is_struct_packed B is_struct sz ms ]) (sym placing) ∙ e))
    where
      go : (is_struct : Bool) → Measured B is_struct sz ms packed → LaidOut B is_struct sz ms packed
      go true k = struct_laid B placing sz ms packed k
      go false k = union_laid B placing sz ms packed own k

-- ---- the alignment that the ABI finds from the lines is that of the table, where no bit field is without a name: the pads raise none

pads_raise_none : (align : ℕ → ℕ) (a : ℕ) (ps : List Pad) (ls : List Line) → lines_align align a (pad_lines ps ls) ≡ lines_align align a ls
unfolding pad_lines lines_align
pads_raise_none align a [] ls = refl
pads_raise_none align a (p ∷ ps) ls = pads_raise_none align a ps ls

module _ (B : Btf) (tail : ℕ → List Pad) (packed : Bool) where
  lines_align_lem : (offset : ℕ) (ms : List Member) (x : ℕ) (ls : List Line) (A : ℕ) → body_lines B tail packed offset ms ≡ got ls → align_members (get_align_of 511 B) x ms ≡ got A → all_raise ms ≡ true
      → lines_align (table_align B) x ls ≡ A
  unfolding body_lines align_members all_raise lines_align table_align found_or_zero
  lines_align_lem offset [] x ls A e f h =
      let q : pad_lines (tail offset) [] ≡ ls = cc in
      let w : x ≡ A = cc in
      ap (lines_align (table_align B) x) (sym q) ∙ pads_raise_none (table_align B) x (tail offset) [] ∙ w
  lines_align_lem offset (m ∷ ms) x ls A e f h =
      let p = then_got _ _ _ e in
      let q = then_got _ _ _ p.rest in
      let r = then_got _ _ _ q.rest in
      let w : pad_lines p.value (field m ∷ r.value) ≡ ls = let k = r.rest in cc in
      let g = then_got _ _ _ f in
      let y : table_align B m.type_id ≡ g.value = ap found_or_zero (align_one_more B 511 m.type_id g.value g.first) in
      ap (lines_align (table_align B) x) (sym w)
      ∙ pads_raise_none (table_align B) x p.value (field m ∷ r.value)
      ∙ ap (λ (b : Bool). lines_align (table_align B) (elim b as (λ _. ℕ) [ true ↦ larger x (table_align B m.type_id) | false ↦ x ]) r.value) (first_so (raises m) (all_raise ms) h)
      ∙ ap (λ (z : ℕ). lines_align (table_align B) (larger x z) r.value) y
      ∙ lines_align_lem q.value ms (larger x g.value) r.value A r.first g.rest (second_so (raises m) (all_raise ms) h)

-- so the whole has its table size by the alignment of its lines too
module _ (B : Btf) (is_struct : Bool) (sz : ℕ) (ms : List Member) (A : ℕ) (e : align_members (get_align_of 511 B) 1 ms ≡ got A) (named : all_raise ms ≡ true) where
  pub own_alignment : (l : LaidOut B is_struct sz ms false) → lines_align (table_align B) 1 l.lines ≡ body_align B false ms
  unfolding body_align found_or_zero
  own_alignment l = lines_align_lem B (tail_pads B.placing B.ptr_sz is_struct sz) false 0 ms 1 l.lines A l.printed e named ∙ sym (ap found_or_zero e)

-- ---- which gaps are padded

no_placed : (most ptr_sz start gap : ℕ) → gap ≡ 0 → placed_pads most ptr_sz start gap ≡ []
unfolding placed_pads
no_placed zero ptr_sz start gap z = refl
no_placed (suc most) ptr_sz start gap z = rw (z, placed_pads)

no_old : (most ptr_sz gap : ℕ) → gap ≡ 0 → pads_of most ptr_sz gap ≡ []
unfolding pads_of
no_old zero ptr_sz gap z = refl
no_old (suc most) ptr_sz gap z = rw (z, pads_of)

placed_none : (most ptr_sz start gap : ℕ) → gap ≤ most → placed_pads most ptr_sz start gap ≡ [] → gap ≡ 0
unfolding placed_pads
placed_none zero ptr_sz start gap h = λ e. omega arith
placed_none (suc most) ptr_sz start gap h = choose (λ (ps : List Pad). ps ≡ [] → gap ≡ 0) (eqb gap 0) _ _ (λ t e. eqb-true gap 0 t) (λ t e. absurd (nil≢cons (sym e)))

old_none : (most ptr_sz gap : ℕ) → gap ≤ most → pads_of most ptr_sz gap ≡ [] → gap ≡ 0
unfolding pads_of
old_none zero ptr_sz gap h = λ e. omega arith
old_none (suc most) ptr_sz gap h = choose (λ (ps : List Pad). ps ≡ [] → gap ≡ 0) (eqb gap 0) _ _ (λ t e. eqb-true gap 0 t) (λ t e. absurd (nil≢cons (sym e)))

abbrev Bare : List Pad → Type 0
Bare ps = ps ≡ []

-- "Which gaps before members are padded is as in the old mode."
pub same_gaps : (ptr_sz start bit_size gap a : ℕ) → (Bare (gap_pads ptr_sz bit_size gap a) → Bare (placed_gap ptr_sz start bit_size gap a)) × (Bare (placed_gap ptr_sz start bit_size gap a) → Bare (gap_pads ptr_sz bit_size gap a))
unfolding gap_pads placed_gap
same_gaps ptr_sz start bit_size gap a = go (eqb bit_size 0 && ltb gap (a * 8))
  where
    go : (b : Bool)
        → (Bare (elim b [ true ↦ [] | false ↦ pads_of gap ptr_sz gap ]) → Bare (elim b [ true ↦ [] | false ↦ placed_pads gap ptr_sz start gap ]))
        × (Bare (elim b [ true ↦ [] | false ↦ placed_pads gap ptr_sz start gap ]) → Bare (elim b [ true ↦ [] | false ↦ pads_of gap ptr_sz gap ]))
    go true = ((λ e. refl), (λ e. refl))
    go false = ((λ e. no_placed gap ptr_sz start gap (old_none gap ptr_sz gap (omega arith) e)), (λ e. no_old gap ptr_sz gap (placed_none gap ptr_sz start gap (omega arith) e)))
