-- Placing mode: what each return of the code comes to. Assumes nothing.
use Prim.Native.Nat.{ℕ, zero, suc, ◌+◌, ◌-◌, ◌*◌, ◌<◌, ◌≤◌}
use mathlib.Core.Path.{◌≡◌, refl, ap, ap₂, ◌∙◌, sym}
use mathlib.Core.Bool.{Bool, true, false, ◌&&◌}
use mathlib.Core.List.{List, [], ◌∷◌, ◌++◌}
use native.Mathlib.Omega.{arith}
use lib.Dec.{eqb, ltb}
use borrow.Author.Tests.{lt-ltb, le-ltb, ne_eqb}
use Rattle.std.proofs.Math.Bool.{and-false}
use Rattle.spec_bytes.specs.text.Text.{whole, ascii}
use Rattle.spec_bytes.specs.text.Placed.{Placed, put_out, put_text}
use Rattle.spec_bytes.proofs.text.TextLaws.{put_seq, put_same, put_empty}
use Rattle.spec_c_dumper.specs.rules.Layout.{Pad, pad_of, pads_of, placed_pad, placed_pads, placed_gap, gap_pads, pads_before}
use Rattle.spec_c_dumper.specs.rules.Placing.{tail_pads}
use Rattle.spec_c_dumper.specs.rules.Decl.{pads, own_line, tail_text}
use Rattle.spec_c_dumper.proofs.rules.Placed.{pad_stays}
use Rattle.spec_c_dumper.proofs.alignment_once.Right.{same_or}
use Rattle.c_dumper_padding.specs.declared.units.Pad.{Pad as Code}
use Rattle.c_dumper_padding.specs.units.Units.{pad_is, pad_by, pads_by}
use Rattle.c_dumper_padding.specs.pads.Texts.{pad_line, lone_line}
use Rattle.c_dumper_padding.proofs.units.Widths.{pad_within, pads_next, pads_none}
use Rattle.c_dumper_padding.proofs.pads.Laws.{Goes}

-- ---- put_placed_pads
module _ (p : ℕ) where
  none_left : (n start gap : ℕ) → gap ≡ 0 → placed_pads n p start gap ≡ []
  unfolding placed_pads
  none_left zero start gap z = refl
  none_left (suc n) start gap z = rw (z, placed_pads)

  one_more : (n start gap : ℕ) → (gap ≡ 0 → ⊥) → placed_pads (suc n) p start gap ≡ placed_pad p start gap ∷ placed_pads n p (start + (placed_pad p start gap).width) (gap - (placed_pad p start gap).width)
  unfolding placed_pads
  one_more n start gap z = rw (ne_eqb gap 0 z, placed_pads)

  within : (start gap : ℕ) → 1 ≤ gap → (1 ≤ (placed_pad p start gap).width) × ((placed_pad p start gap).width ≤ gap)
  within start gap l = let q = pad_stays (λ x. 0) (λ x. 0) true p start gap l in (q.some, q.within)

  enough : (n m start gap : ℕ) → gap ≤ n → gap ≤ m → placed_pads n p start gap ≡ placed_pads m p start gap
  enough zero m start gap ln lm = let z : gap ≡ 0 = omega arith in none_left zero start gap z ∙ sym (none_left m start gap z)
  enough (suc n) zero start gap ln lm = let z : gap ≡ 0 = omega arith in none_left (suc n) start gap z ∙ sym (none_left zero start gap z)
  enough (suc n) (suc m) start gap ln lm =
      same_or gap 0
      (λ z. none_left (suc n) start gap z ∙ sym (none_left (suc m) start gap z))
      (λ z.
      let l : 1 ≤ gap = omega arith in
      let w = within start gap l in
      one_more n start gap z
      ∙ ap (λ (ps : List Pad). placed_pad p start gap ∷ ps) (enough n m (start + (placed_pad p start gap).width) (gap - (placed_pad p start gap).width) (omega (arith, w.0)) (omega (arith, w.0)))
      ∙ sym (one_more m start gap z))

  placed_next : (start gap : ℕ) → 1 ≤ gap
      → placed_pads gap p start gap ≡ placed_pad p start gap ∷ placed_pads (gap - (placed_pad p start gap).width) p (start + (placed_pad p start gap).width) (gap - (placed_pad p start gap).width)
  placed_next start gap l =
      let e : gap ≡ suc (gap - 1) = omega arith in
      let z : gap ≡ 0 → ⊥ = omega arith in
      let w = within start gap l in
      ap (λ (n : ℕ). placed_pads n p start gap) e
      ∙ one_more (gap - 1) start gap z
      ∙ ap (λ (ps : List Pad). placed_pad p start gap ∷ ps)
      (enough (gap - 1) (gap - (placed_pad p start gap).width) (start + (placed_pad p start gap).width) (gap - (placed_pad p start gap).width) (omega (arith, w.0)) (omega arith))

-- ---- put_pads, in either mode
module _ (placing : Bool) (p start gap : ℕ) where
  by_none : gap ≡ 0 → pads_by placing p start gap ≡ []
  unfolding pads_by
  by_none z = go placing
    where
      go : (q : Bool) → (elim q as (λ _. List Pad) [ true ↦ placed_pads gap p start gap | false ↦ pads_of gap p gap ]) ≡ []
      go true = none_left p gap start gap z
      go false = pads_none p gap z

  by_within : 1 ≤ gap → (1 ≤ (pad_by placing p start gap).width) × ((pad_by placing p start gap).width ≤ gap)
  unfolding pad_by
  by_within l = go placing
    where
      go : (q : Bool) → (1 ≤ (elim q as (λ _. Pad) [ true ↦ placed_pad p start gap | false ↦ pad_of p gap ]).width) × ((elim q as (λ _. Pad) [ true ↦ placed_pad p start gap | false ↦ pad_of p gap ]).width ≤ gap)
      go true = within p start gap l
      go false = pad_within p gap l

  by_next : 1 ≤ gap → pads_by placing p start gap ≡ pad_by placing p start gap ∷ pads_by placing p (start + (pad_by placing p start gap).width) (gap - (pad_by placing p start gap).width)
  unfolding pads_by pad_by
  by_next l = go placing refl
    where
      go : (q : Bool) → placing ≡ q → pads_by placing p start gap ≡ pad_by placing p start gap ∷ pads_by placing p (start + (pad_by placing p start gap).width) (gap - (pad_by placing p start gap).width)
      go true e = rw e (placed_next p start gap l)
      go false e = rw e (pads_next p gap l)

module _ (t₀ : List ℕ) (at : Placed) (a₀ : List ℕ) (placing : Bool) (ptr_sz lvl s end : ℕ) (p : Placed) (t : List ℕ) (go : Goes t₀ at a₀ t p (pads lvl (pads_by placing ptr_sz s (end - s)))) where
  pub pads_end : end ≤ s → put_out p t ≡ put_text t₀ at (whole a₀)
  unfolding Goes pads
  pads_end h =
      let z : end - s ≡ 0 = omega arith in
      go p t (put_same t p [] (pads lvl (pads_by placing ptr_sz s (end - s))) p t (sym (ap (pads lvl) (by_none placing ptr_sz s (end - s) z))) (put_empty t p))

  module _ (x : Code) (l : s < end) (ex : pad_is x ≡ pad_by placing ptr_sz s (end - s)) where
    same_width : x.width ≡ (pad_by placing ptr_sz s (end - s)).width
    unfolding pad_is
    same_width = ap (λ (y : Pad). y.width) ex

    pad_fits : (1 ≤ (pad_by placing ptr_sz s (end - s)).width) × ((pad_by placing ptr_sz s (end - s)).width ≤ end - s)
    pad_fits = by_within placing ptr_sz s (end - s) (omega arith)

    pub pads_fit : s + x.width ≤ end
    pads_fit = omega (arith, pad_fits.1, same_width)

    pub pads_some : end - (s + x.width) < end - s
    pads_some = omega (arith, pad_fits.0, pad_fits.1, same_width)

    pub pads_more : (q : Placed) (u : List ℕ) → put_out q u ≡ put_text t p (whole (pad_line lvl (pad_is x)))
        → Goes t₀ at a₀ u q (pads lvl (pads_by placing ptr_sz (s + x.width) (end - (s + x.width))))
    unfolding Goes pads pad_line
    pads_more q u e r v f =
        go r v (put_same t p _ _ r v text (put_seq t p (pad_line lvl (pad_is x)) (pads lvl (pads_by placing ptr_sz (s + x.width) (end - (s + x.width)))) q u r v e f))
      where
        left : end - (s + x.width) ≡ end - s - (pad_by placing ptr_sz s (end - s)).width
        left = omega (arith, same_width)

        text : pad_line lvl (pad_is x) ++ pads lvl (pads_by placing ptr_sz (s + x.width) (end - (s + x.width))) ≡ pads lvl (pads_by placing ptr_sz s (end - s))
        text =
            ap₂ (λ (n m : ℕ). pad_line lvl (pad_is x) ++ pads lvl (pads_by placing ptr_sz (s + m) n)) left same_width
            ∙ ap (λ (y : Pad). pad_line lvl y ++ pads lvl (pads_by placing ptr_sz (s + (pad_by placing ptr_sz s (end - s)).width) (end - s - (pad_by placing ptr_sz s (end - s)).width))) ex
            ∙ sym (ap (pads lvl) (by_next placing ptr_sz s (end - s) (omega arith)))

-- ---- put_gap
module _ (placing : Bool) (ptr_sz start bit_size gap a : ℕ) where
  natural : Bool → List Pad → List Pad
  natural q ps = elim q [ true ↦ [] | false ↦ ps ]

  gap_is : pads_before placing ptr_sz start bit_size gap a ≡ natural (eqb bit_size 0 && ltb gap (a * 8)) (pads_by placing ptr_sz start gap)
  unfolding pads_before placed_gap gap_pads pads_by natural
  gap_is = go placing refl
    where
      go : (q : Bool) → placing ≡ q → pads_before placing ptr_sz start bit_size gap a ≡ natural (eqb bit_size 0 && ltb gap (a * 8)) (pads_by placing ptr_sz start gap)
      go true e = rw e
      go false e = rw e

  module _ (lvl : ℕ) (t : List ℕ) (at : Placed) where
    pub gap_natural : bit_size ≡ 0 → gap < a * 8 → put_out at t ≡ put_text t at (whole (pads lvl (pads_before placing ptr_sz start bit_size gap a)))
    unfolding pads natural
    gap_natural z h =
        let q : (eqb bit_size 0 && ltb gap (a * 8)) ≡ true = rw (z, lt-ltb gap (a * 8) h) in
        put_empty t at ∙ ap (λ (ps : List Pad). put_text t at (whole (pads lvl ps))) (sym (gap_is ∙ ap (λ (x : Bool). natural x (pads_by placing ptr_sz start gap)) q))

    module _ (from end : ℕ) (r : Placed) (u : List ℕ) (ef : from ≡ start) (ee : end ≡ from + gap) (e : put_out r u ≡ put_text t at (whole (pads lvl (pads_by placing ptr_sz from (end - from))))) where
      put_all : (eqb bit_size 0 && ltb gap (a * 8)) ≡ false → put_out r u ≡ put_text t at (whole (pads lvl (pads_before placing ptr_sz start bit_size gap a)))
      unfolding natural
      put_all q =
          let d : end - from ≡ gap = omega arith in
          e
          ∙ ap₂ (λ (n m : ℕ). put_text t at (whole (pads lvl (pads_by placing ptr_sz m n)))) d ef
          ∙ ap (λ (ps : List Pad). put_text t at (whole (pads lvl ps))) (sym (gap_is ∙ ap (λ (x : Bool). natural x (pads_by placing ptr_sz start gap)) q))

      pub gap_bits : (bit_size ≡ 0 → ⊥) → put_out r u ≡ put_text t at (whole (pads lvl (pads_before placing ptr_sz start bit_size gap a)))
      gap_bits n = put_all (rw (ne_eqb bit_size 0 n))

      pub gap_wide : a * 8 ≤ gap → put_out r u ≡ put_text t at (whole (pads lvl (pads_before placing ptr_sz start bit_size gap a)))
      gap_wide h = put_all (rw (le-ltb gap (a * 8) h) (and-false (eqb bit_size 0)))

-- ---- put_own_line, emit_tail_padding
pub lone_none : (i : ℕ) → (i ≡ 0 → ⊥) → [] ≡ lone_line i
unfolding lone_line
lone_none i n = rw (ne_eqb i 0 n, lone_line)

pub lone_line_lem : (i : ℕ) → i ≡ 0 → ascii "\n" ≡ lone_line i
unfolding lone_line
lone_line_lem i z = rw z

module _ (placing : Bool) (ptr_sz : ℕ) (is_struct : Bool) (sz offset lvl i : ℕ) where
  no_pads : tail_pads placing ptr_sz is_struct sz offset ≡ [] → [] ≡ tail_text lvl i (tail_pads placing ptr_sz is_struct sz offset)
  unfolding tail_text pads own_line
  no_pads e = rw e

  pub tail_old : placing ≡ false → [] ≡ tail_text lvl i (tail_pads placing ptr_sz is_struct sz offset)
  unfolding tail_pads
  tail_old e = no_pads (rw e)

  pub tail_union : is_struct ≡ false → [] ≡ tail_text lvl i (tail_pads placing ptr_sz is_struct sz offset)
  unfolding tail_pads
  tail_union e = no_pads (rw (e, tail_pads, and-false placing))

  module _ (ep : placing ≡ true) (es : is_struct ≡ true) where
    tail_is : tail_pads placing ptr_sz is_struct sz offset ≡ placed_pads (8 * sz - offset) ptr_sz offset (8 * sz - offset)
    unfolding tail_pads
    tail_is = rw (ep, es)

    pub tail_full : sz * 8 ≤ offset → [] ≡ tail_text lvl i (tail_pads placing ptr_sz is_struct sz offset)
    tail_full h = let z : 8 * sz - offset ≡ 0 = omega arith in no_pads (tail_is ∙ none_left ptr_sz (8 * sz - offset) offset (8 * sz - offset) z)

    tail_lines : offset < 8 * sz → pads lvl (placed_pads (8 * sz - offset) ptr_sz offset (8 * sz - offset)) ++ lone_line i ≡ tail_text lvl i (tail_pads placing ptr_sz is_struct sz offset)
    unfolding tail_text own_line lone_line
    tail_lines h =
        let e = placed_next ptr_sz offset (8 * sz - offset) (omega arith) in
        ap (λ (ps : List Pad). pads lvl (placed_pads (8 * sz - offset) ptr_sz offset (8 * sz - offset)) ++ own_line i ps) (sym e)
        ∙ ap (tail_text lvl i) (sym tail_is)

    pub tail_put : (t : List ℕ) (at q : Placed) (u : List ℕ) (r : Placed) (v : List ℕ) (end : ℕ) → end ≡ sz * 8 → offset < end
        → put_out q u ≡ put_text t at (whole (pads lvl (pads_by placing ptr_sz offset (end - offset)))) → put_out r v ≡ put_text u q (whole (lone_line i))
        → put_out r v ≡ put_text t at (whole (tail_text lvl i (tail_pads placing ptr_sz is_struct sz offset)))
    unfolding pads_by
    tail_put t at q u r v end ee h e f =
        let d : end ≡ 8 * sz = omega arith in
        put_same t at _ _ r v (ap (λ (n : ℕ). pads lvl (placed_pads (n - offset) ptr_sz offset (n - offset)) ++ lone_line i) d ∙ tail_lines (omega arith))
        (put_seq t at (pads lvl (placed_pads (end - offset) ptr_sz offset (end - offset))) (lone_line i) q u r v (rw ep at e) f)
