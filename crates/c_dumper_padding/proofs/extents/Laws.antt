-- What each return of the code comes to. Assumes nothing.
use Prim.Native.Nat.{ℕ, zero, suc, ◌+◌, ◌-◌, ◌*◌, ◌/◌, ◌%◌, ◌<◌, ◌≤◌}
use mathlib.Core.Path.{◌≡◌, refl, ap, ap₂, ◌∙◌, sym}
use mathlib.Core.Bool.{Bool, true, false, ◌&&◌}
use mathlib.Core.List.{List, [], ◌∷◌, map}
use native.Mathlib.Omega.{arith}
use native.Mathlib.Nat.{div-zero, mul-zero}
use lib.Dec.{eqb, leb}
use borrow.Author.Tests.{le-leb, lt-leb, eq-eqb, ne_eqb, lt-ltb, le-ltb}
use Rattle.std.specs.Prelude.{◌^◌, max, Option, Some, None, SomeIff, Result, Ok, Err}
use Rattle.std.specs.Int.{div_ceil}
use Rattle.std.specs.Option.{ok_or, option_eq}
use Rattle.std.proofs.lemmas.Nat.{div-mul-add}
use Rattle.std.proofs.lemmas.Grind.{div_ceil_times}
use Rattle.std.specs.List.{range_with_len}
use Rattle.base_bytes.proofs.TryFolds.{ResultTurn}
use Rattle.btf_layout.proofs.remembered.Laws.{max_larger}
use Rattle.spec_bytes.specs.declared.refusal.Refusal.{Refusal}
use Rattle.spec_bytes.specs.declared.refusal.Refusal.TheVariants.{Overflow, Misplaced}
use Rattle.spec_c_dumper.specs.rules.Writer.{Ask, got, no, ask_then, checked, misplaced}
use Rattle.spec_c_dumper.specs.rules.Types.{Member, Btf as Rules}
use Rattle.spec_c_dumper.specs.rules.Layout.{get_size_of, end_of}
use Rattle.spec_c_dumper.specs.rules.Placing.{round_up, same_unit, field_size, field_fits, start_fits, member_fits, Extent, reached, with_member, extent_of, size_fits}
use Rattle.spec_type_table.specs.declared.types.TypeTable.{TypeTable}
use Rattle.spec_type_table.specs.declared.types.BtfType.{BtfType as Record}
use Rattle.spec_type_table.specs.declared.types.BtfMember.{BtfMember}
use Rattle.spec_type_table.specs.Records.{vlen_of, member_of}
use Rattle.spec_type_table.specs.Table.{from, rule_member, members_of, btf_of}
use Rattle.btf_layout.specs.size.Answers.{ask_of}
use Rattle.c_dumper_padding.specs.declared.extents.Extent.{Extent as Code}
use Rattle.c_dumper_padding.specs.extents.Steps.{extent_is, extents_of, with_extent, one_member, judged}

abbrev Extents : Type 0
Extents = Result Code Refusal

abbrev Answer : Type 0
Answer = Result ℕ Refusal

-- ---- round_up
module _ (n a : ℕ) where
  pub round_none : a ≡ 0 → 0 ≡ round_up n (8 * a)
  unfolding round_up
  round_none z = let e : 8 * a ≡ 0 = omega arith in sym (ap (λ (k : ℕ). (n + (k - 1)) / k * k) e ∙ mul-zero ((n + (0 - 1)) / 0))

  pub round_some : (a ≡ 0 → ⊥) → (r : ℕ) → r ≡ div_ceil n (a * 8) → r * (a * 8) ≡ round_up n (8 * a)
  unfolding round_up
  round_some z r er = ap (λ (q : ℕ). q * (a * 8)) (er ∙ sym quotient) ∙ ap (λ (k : ℕ). (n + (k - 1)) / k * k) same
    where
      q : ℕ
      q = div_ceil n (a * 8)

      same : a * 8 ≡ 8 * a
      same = omega arith

      near : (n ≤ q * (a * 8)) × (q * (a * 8) < n + a * 8)
      near = div_ceil_times n (a * 8) (omega (arith, z))

      rest : ℕ
      rest = n + (a * 8 - 1) - q * (a * 8)

      parts : n + (a * 8 - 1) ≡ q * (a * 8) + rest
      parts = omega (arith, near)

      quotient : (n + (a * 8 - 1)) / (a * 8) ≡ q
      quotient = ap (λ (x : ℕ). x / (a * 8)) parts ∙ div-mul-add q (a * 8) rest (omega (arith, near))

-- ---- same_unit
module _ (size start width : ℕ) where
  pub unit_none : size * 8 ≡ 0 → true ≡ same_unit (8 * size) start width
  unfolding same_unit
  unit_none z =
      let e : 8 * size ≡ 0 = omega arith in
      sym (ap (λ (u : ℕ). eqb (start / u) ((start + width - 1) / u)) e ∙ eq-eqb (start / 0) ((start + width - 1) / 0) (div-zero start ∙ sym (div-zero (start + width - 1))))

  unit_some : eqb (start / (size * 8)) ((start + width - 1) / (size * 8)) ≡ same_unit (8 * size) start width
  unfolding same_unit
  unit_some = let e : size * 8 ≡ 8 * size = omega arith in ap (λ (u : ℕ). eqb (start / u) ((start + width - 1) / u)) e

  pub unit_tested : (x y : Option ℕ) (l : ℕ) (r : Bool) → l ≡ start + width - 1 → SomeIff x (0 < size * 8) (start / (size * 8)) → SomeIff y (0 < size * 8) (l / (size * 8))
      → r ≡ option_eq eqb x y → r ≡ same_unit (8 * size) start width
  unit_tested None None l r el ex ey er = er ∙ unit_none (omega (arith, ex))
  unit_tested None (Some y) l r el ex ey er = absurd (ex ey.0)
  unit_tested (Some x) None l r el ex ey er = absurd (ey ex.0)
  unit_tested (Some x) (Some y) l r el ex ey er = er ∙ ap₂ eqb ex.1 (ey.1 ∙ ap (λ (k : ℕ). k / (size * 8)) el) ∙ unit_some

-- ---- field_fits
module _ (p : Bool) (size off w : ℕ) where
  pub field_wide : size * 8 < w → false ≡ field_fits p size off w
  unfolding field_fits
  field_wide h = let l : 8 * size < w = omega arith in rw (lt-leb w (8 * size) l)

  module _ (h : w ≤ size * 8) where
    within : leb w (8 * size) ≡ true
    within = le-leb w (8 * size) (omega arith)

    pub field_packed : p ≡ true → true ≡ field_fits p size off w
    unfolding field_fits
    field_packed e = rw (within, e)

    pub field_unit : p ≡ false → (r : Bool) → r ≡ same_unit (8 * size) off w → r ≡ field_fits p size off w
    unfolding field_fits
    field_unit e r er = er ∙ rw (within, e)

-- ---- start_fits
module _ (s : Bool) (last start : ℕ) where
  pub start_struct : s ≡ true → leb last start ≡ start_fits s last start
  unfolding start_fits
  start_struct e = rw e

  pub start_union : s ≡ false → eqb start 0 ≡ start_fits s last start
  unfolding start_fits
  start_union e = rw e

-- ---- member_fits
module _ (s p : Bool) (last size off w : ℕ) (q : Bool) (eq : q ≡ start_fits s last off) where
  pub member_before : q ≡ false → false ≡ member_fits s p last size off w
  unfolding member_fits
  member_before f = let e : start_fits s last off ≡ false = sym eq ∙ f in rw e

  module _ (t : q ≡ true) where
    pub member_plain : w ≡ 0 → eqb (off % 8) 0 ≡ member_fits s p last size off w
    unfolding member_fits
    member_plain z = let e : start_fits s last off ≡ true = sym eq ∙ t in rw (e, z)

    pub member_field : (w ≡ 0 → ⊥) → (r : Bool) → r ≡ field_fits p size off w → r ≡ member_fits s p last size off w
    unfolding member_fits
    member_field n r er = let e : start_fits s last off ≡ true = sym eq ∙ t in er ∙ rw (e, ne_eqb w 0 n)

-- ---- field_size
module _ (b : TypeTable) (s w : List ℕ) (m : BtfMember) where
  pub size_plain : m.bit_size ≡ 0 → ask_of (Ok 0) ≡ field_size (btf_of b s w) (rule_member b s m)
  unfolding ask_of field_size
  size_plain z = rw z

  pub size_field : (m.bit_size ≡ 0 → ⊥) → (r : Answer) → ask_of r ≡ get_size_of 512 (btf_of b s w) m.type_id → ask_of r ≡ field_size (btf_of b s w) (rule_member b s m)
  unfolding field_size
  size_field n r er = er ∙ rw (ne_eqb m.bit_size 0 n, field_size)

-- ---- reached
module _ (s : Bool) (last end : ℕ) where
  pub reached_struct : s ≡ true → end ≡ reached s last end
  unfolding reached
  reached_struct e = rw e

  pub reached_union : s ≡ false → (r : ℕ) → r ≡ max last end → r ≡ reached s last end
  unfolding reached
  reached_union e r er = er ∙ max_larger last end ∙ rw e

-- ---- with_member
module _ (s p : Bool) (x : Code) (size end off w last : ℕ) (el : last ≡ reached s x.last end) where
  pub with_misfit : x.fits ≡ false → extent_is (record { last = last; fits = x.fits }) ≡ with_extent s p x size end off w
  unfolding extent_is with_extent with_member
  with_misfit e = let q : x.fits ≡ (x.fits && member_fits s p x.last size off w) = e ∙ rw e in λ i. record { last = el i; fits = q i }

  pub with_fit : x.fits ≡ true → (f : Bool) → f ≡ member_fits s p x.last size off w → extent_is (record { last = last; fits = f }) ≡ with_extent s p x size end off w
  unfolding extent_is with_extent with_member
  with_fit e f ef = let q : f ≡ (x.fits && member_fits s p x.last size off w) = ef ∙ rw e in λ i. record { last = el i; fits = q i }

-- ---- next_member
module _ (B : Rules) (s p : Bool) (x : Code) (m : Member) where
  pub next_none : (r : Answer) (c : Refusal) → ask_of r ≡ field_size B m → r ≡ Err c → extents_of (Err c) ≡ one_member B s p x m
  unfolding extents_of one_member ask_of ask_then
  next_none r c er e = ap (λ (y : Ask ℕ). ask_then y (λ size. ask_then (end_of B m) (λ end. got (with_extent s p x size end m.bit_offset m.bit_size)))) (sym (ap ask_of e) ∙ er)

  module _ (r : Answer) (size : ℕ) (er : ask_of r ≡ field_size B m) (e : r ≡ Ok size) where
    sized : one_member B s p x m ≡ ask_then (end_of B m) (λ end. got (with_extent s p x size end m.bit_offset m.bit_size))
    unfolding one_member ask_of ask_then
    sized = ap (λ (y : Ask ℕ). ask_then y (λ size. ask_then (end_of B m) (λ end. got (with_extent s p x size end m.bit_offset m.bit_size)))) (sym er ∙ ap ask_of e)

    pub next_endless : (q : Answer) (c : Refusal) → ask_of q ≡ end_of B m → q ≡ Err c → extents_of (Err c) ≡ one_member B s p x m
    unfolding extents_of ask_of ask_then
    next_endless q c eq f = ap (λ (y : Ask ℕ). ask_then y (λ end. got (with_extent s p x size end m.bit_offset m.bit_size))) (sym (ap ask_of f) ∙ eq) ∙ sym sized

    pub next_got : (q : Answer) (end : ℕ) → ask_of q ≡ end_of B m → q ≡ Ok end → (y : Code) → extent_is y ≡ with_extent s p x size end m.bit_offset m.bit_size → extents_of (Ok y) ≡ one_member B s p x m
    unfolding extents_of ask_of ask_then
    next_got q end eq f y ey = ap got ey ∙ ap (λ (z : Ask ℕ). ask_then z (λ end. got (with_extent s p x size end m.bit_offset m.bit_size))) (sym (ap ask_of f) ∙ eq) ∙ sym sized

-- ---- extent_of: what members make of x
module _ (B : Rules) (b : TypeTable) (s : List ℕ) (is p : Bool) where
  abbrev pub Measures : Code → List BtfMember → Extents → Type 0
  Measures x ms r = extents_of r ≡ extent_of B is p (extent_is x) (map (rule_member b s) ms)

  pub extent_end : (x : Code) → Measures x [] (Ok x)
  unfolding extents_of extent_of
  extent_end x = refl

  then_then : {A C D E : Type 0} (x : Ask A) (y : A → Ask C) (f : A → C → D) (g : D → Ask E) → ask_then x (λ a. ask_then (y a) (λ c. g (f a c))) ≡ ask_then (ask_then x (λ a. ask_then (y a) (λ c. got (f a c)))) g
  unfolding ask_then
  then_then (no c) y f g = refl
  then_then (got a) y f g = go (y a)
    where
      go : (z : Ask _) → ask_then z (λ c. g (f a c)) ≡ ask_then (ask_then z (λ c. got (f a c))) g
      go (got c) = refl
      go (no c) = refl

  module _ (x : Code) (m : BtfMember) (w : Extents) (ew : extents_of w ≡ one_member B is p x (rule_member b s m)) where
    extent_step : (ms : List BtfMember) → extent_of B is p (extent_is x) (map (rule_member b s) (m ∷ ms)) ≡ ask_then (extents_of w) (λ y. extent_of B is p y (map (rule_member b s) ms))
    unfolding extent_of one_member with_extent
    extent_step ms =
        then_then (field_size B (rule_member b s m)) (λ size. end_of B (rule_member b s m)) (λ size end. with_member is p (extent_is x) size end (rule_member b s m).bit_offset (rule_member b s m).bit_size)
        (λ y. extent_of B is p y (map (rule_member b s) ms)) ∙ ap (λ (y : Ask Extent). ask_then y (λ y. extent_of B is p y (map (rule_member b s) ms))) (sym ew)

  pub extent_more : (x : Code) (m : BtfMember) (w : Extents) → extents_of w ≡ one_member B is p x (rule_member b s m) → ResultTurn (λ (m : BtfMember). m) Measures x m w
  unfolding ask_then extents_of
  extent_more x m (Ok y) e = λ ms r i. i ∙ sym (extent_step x m (Ok y) e ms)
  extent_more x m (Err c) e = λ ms. sym (extent_step x m (Err c) e ms)

  pub read_members : (t : Record) → map (rule_member b s) (map (member_of b s t) (range_with_len 0 (vlen_of t.info))) ≡ members_of b s t
  unfolding from
  read_members t = go 0 (vlen_of t.info)
    where
      go : (k n : ℕ) → map (rule_member b s) (map (member_of b s t) (range_with_len k n)) ≡ from (λ i. rule_member b s (member_of b s t i)) k n
      go k zero = refl
      go k (suc n) = ap (λ ms. rule_member b s (member_of b s t k) ∷ ms) (go (k + 1) n)

-- ---- size_fits
module _ (is : Bool) (a last bits : ℕ) where
  pub size_struct : is ≡ true → leb last bits ≡ size_fits is a last bits
  unfolding size_fits
  size_struct e = rw e

  pub size_union : is ≡ false → (r : ℕ) → r ≡ round_up last (8 * a) → eqb bits r ≡ size_fits is a last bits
  unfolding size_fits
  size_union e r er = ap (eqb bits) er ∙ rw e

-- ---- judged
pub in_bits : (n : ℕ) (o : Option ℕ) → SomeIff o (n * 8 < 2 ^ 32) (n * 8) → (r : Answer) → r ≡ ok_or o Overflow → (bits : ℕ) → r ≡ Ok bits → (n * 8 < 4294967296) × (bits ≡ n * 8)
in_bits n (Some y) h r e bits g = (h.0, let q : ◌≡◌ {A = Answer} (Ok bits) (Ok y) = sym g ∙ e in (cc) ∙ h.1)
in_bits n None h r e bits g = let q : ◌≡◌ {A = Answer} (Ok bits) (Err Overflow) = sym g ∙ e in cc

pub past_bits : (n : ℕ) (o : Option ℕ) → SomeIff o (n * 8 < 2 ^ 32) (n * 8) → (r : Answer) → r ≡ ok_or o Overflow → (c : Refusal) → r ≡ Err c → (4294967296 ≤ n * 8) × (c ≡ Overflow)
past_bits n (Some y) h r e c g = let q : ◌≡◌ {A = Answer} (Err c) (Ok y) = sym g ∙ e in cc
past_bits n None h r e c g = let q : ◌≡◌ {A = Answer} (Err c) (Err Overflow) = sym g ∙ e in (omega (arith, h), cc)

module _ (is : Bool) (sz a : ℕ) (p : Bool) (x : Code) where
  large : 4294967296 ≤ sz * 8 → checked (8 * sz) ≡ no 16
  unfolding checked
  large h = let l : 4294967296 ≤ 8 * sz = omega arith in rw (le-ltb (8 * sz) 4294967296 l, checked)

  small : sz * 8 < 4294967296 → checked (8 * sz) ≡ got (8 * sz)
  unfolding checked
  small h = let l : 8 * sz < 4294967296 = omega arith in rw (lt-ltb (8 * sz) 4294967296 l, checked)

  pub judged_large : 4294967296 ≤ sz * 8 → ask_of {A = Bool} (Err Overflow) ≡ judged is sz a p (extent_is x)
  unfolding ask_of judged ask_then
  judged_large h = sym (ap (λ (y : Ask ℕ). ask_then y (λ bits. elim ((extent_is x).fits && size_fits is a (extent_is x).last bits) as (λ _. Ask Bool) [ true ↦ got p | false ↦ no misplaced ])) (large h))

  module _ (h : sz * 8 < 4294967296) where
    sized_so : judged is sz a p (extent_is x) ≡ (elim (x.fits && size_fits is a x.last (sz * 8)) [ true ↦ got p | false ↦ no misplaced ])
    unfolding judged ask_then extent_is
    sized_so =
        let e : 8 * sz ≡ sz * 8 = omega arith in
        ap (λ (y : Ask ℕ). ask_then y (λ bits. elim (x.fits && size_fits is a x.last bits) as (λ _. Ask Bool) [ true ↦ got p | false ↦ no misplaced ])) (small h)
        ∙ ap (λ (bits : ℕ). elim (x.fits && size_fits is a x.last bits) as (λ _. Ask Bool) [ true ↦ got p | false ↦ no misplaced ]) e

    pub judged_misfit : x.fits ≡ false → ask_of {A = Bool} (Err Misplaced) ≡ judged is sz a p (extent_is x)
    unfolding ask_of
    judged_misfit e = rw (sized_so, e)

    module _ (t : x.fits ≡ true) (q : Bool) (eq : q ≡ size_fits is a x.last (sz * 8)) where
      pub judged_sound : q ≡ true → ask_of (Ok p) ≡ judged is sz a p (extent_is x)
      unfolding ask_of
      judged_sound e = let f : size_fits is a x.last (sz * 8) ≡ true = sym eq ∙ e in rw (sized_so, t, f)

      pub judged_size : q ≡ false → ask_of {A = Bool} (Err Misplaced) ≡ judged is sz a p (extent_is x)
      unfolding ask_of
      judged_size e = let f : size_fits is a x.last (sz * 8) ≡ false = sym eq ∙ e in rw (sized_so, t, f)
