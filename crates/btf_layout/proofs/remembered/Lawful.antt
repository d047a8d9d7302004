-- The words of the work are a lawful memory, and what get_align_of finds fits a word. Assumes nothing.
use Prim.Native.Nat.{ℕ, zero, suc, ◌+◌, ◌*◌, ◌/◌, ◌%◌, ◌<◌, ◌≤◌}
use native.Mathlib.Omega.{arith}
use mathlib.Core.Path.{◌≡◌, refl, ap, ◌∙◌, sym, subst}
use mathlib.Core.Bool.{Bool, true, false}
use mathlib.Core.List.{List, [], ◌∷◌}
use mathlib.Core.Logic.{◌⊎◌, inl, inr, ⊎_elim}
use lib.ListN.{length}
use lib.Dec.{ltb, leb, eqb}
use borrow.Author.Tests.{lt-ltb, le-leb, lt-leb, ne_eqb}
use Rattle.std.proofs.lemmas.Bool.{cases_lt}
use Rattle.spec_bytes.proofs.words.Laws.{put_out, put_length, get_put_same, get_put_other}
use Rattle.spec_c_dumper.specs.rules.Writer.{Ask, got, no, ask_then}
use Rattle.spec_c_dumper.specs.rules.Types.{Member, BtfType, Void, Int, Ptr, Array, Composite, Enum, Enum64, Fwd, Typedef, Mod, Func, Var, Datasec, FuncProto, Float, DeclTag, TypeTag, Btf as Rules}
use Rattle.spec_c_dumper.specs.rules.Layout.{larger, smaller, octets, align_members, align_of, get_align_of}
use Rattle.spec_type_table.specs.Cells.{get_field, put_field}
use Rattle.spec_type_table.proofs.Frame.{field_other}
use Rattle.spec_c_dumper.specs.alignment_once.Once.{Remembered, known, Keep, Lawful, Tells, member_count}
use Rattle.spec_c_dumper.proofs.alignment_once.Right.{both_below, within_got, same_or}
use Rattle.spec_c_dumper.proofs.rules.Asking.{no_got}
use Rattle.btf_layout.specs.remembered.Words.{seen_word, decoded, coded, with_visits, remembered, work_keep}
use Rattle.btf_layout.proofs.remembered.Laws.{coded_fits, coded_wide, coded_high, remember_none, remember_past, remember_here}

-- a word of each type
abbrev pub HoldsTypes : ℕ → List ℕ → Type 0
HoldsTypes types w = types * 16 ≤ length w / 4

-- what a word holds
abbrev pub FitsWord : Remembered → Type 0
FitsWord s = (s.align ≤ 15) × (1 ≤ s.height) × (s.height ≤ 268435454)

-- ---- one word
module _ (s : Remembered) where
  pub coded_is : FitsWord s → coded s ≡ s.height * 16 + s.align
  coded_is f = sym (coded_fits s f.0 f.2)

  -- a word that is not 0 says what was coded
  pub decoded_back : (coded s ≡ 0 → ⊥) → decoded (coded s) ≡ known s
  unfolding decoded
  decoded_back n =
      ⊎_elim
      (λ l. absurd (n (sym (coded_wide s l))))
      (λ l. ⊎_elim
      (λ h. absurd (n (sym (coded_high s l h))))
      (λ h. let e : s.height * 16 + s.align ≡ coded s = coded_fits s l h in
      let a : coded s % 16 ≡ s.align = omega arith in
      let b : coded s / 16 ≡ s.height = omega arith in
      rw (ne_eqb (coded s) 0 n, decoded) (λ i. known (record { align = a i; height = b i })))
      (cases_lt 268435454 s.height))
      (cases_lt 15 s.align)

module _ (n id : ℕ) (w : List ℕ) where
  counted_field : get_field (with_visits n w) id 15 ≡ get_field w id 15
  unfolding with_visits
  counted_field = field_other w 0 2 _ id 15 (omega arith) (omega arith) (λ e. omega arith)

  counted_length : length (with_visits n w) ≡ length w
  unfolding with_visits
  counted_length = put_length w (0 * 16 + 2) _

pub remembered_length : (types id v n : ℕ) (w : List ℕ) → length (remembered types id v n w) ≡ length w
unfolding remembered
remembered_length types id v n w = by (eqb v 0) (leb types id)
  where
    by : (p q : Bool) → length {A = ℕ} (elim p as (λ (x : Bool). List ℕ) [ true ↦ w | false ↦ elim q as (λ (x : Bool). List ℕ) [ true ↦ w | false ↦ put_field (with_visits n w) id 15 v ] ]) ≡ length w
    by true q = refl
    by false true = refl
    by false false = put_length (with_visits n w) (id * 16 + 15) v ∙ counted_length n id w

module _ (types : ℕ) (B : Rules) where
  abbrev K : Keep (List ℕ)
  K = work_keep types B

  seen_is : (w : List ℕ) (id : ℕ) → id < types → seen_word types w id ≡ get_field w id 15
  unfolding seen_word
  seen_is w id l = rw (lt-ltb id types l, seen_word)

  module _ (id : ℕ) (s : Remembered) (w : List ℕ) where
    abbrev n : ℕ
    n = member_count (B.type_by_id id)

    abbrev u : List ℕ
    u = remembered types id (coded s) n w

    u_is : (coded s ≡ 0 → ⊥) → id < types → u ≡ put_field (with_visits n w) id 15 (coded s)
    u_is nz l = sym (remember_here types id (coded s) n w nz l (with_visits n w) (put_field (with_visits n w) id 15 (coded s)) refl refl)

    in_room : (coded s ≡ 0 → ⊥) → id < types → id * 16 + 15 < length w / 4 → decoded (seen_word types u id) ≡ known s
    in_room nz l r =
        let q : id * 16 + 15 < length (with_visits n w) / 4 = subst (λ (x : ℕ). id * 16 + 15 < x / 4) (sym (counted_length n id w)) r in
        ap decoded (seen_is u id l ∙ ap (λ (x : List ℕ). get_field x id 15) (u_is nz l) ∙ get_put_same (with_visits n w) (id * 16 + 15) (coded s) q) ∙ decoded_back s nz

    work_kept : (decoded (seen_word types u id) ≡ known s) ⊎ (decoded (seen_word types u id) ≡ decoded (seen_word types w id))
    work_kept =
        same_or (coded s) 0
        (λ z. inr (ap (λ (x : List ℕ). decoded (seen_word types x id)) (sym (remember_none types id (coded s) n w z))))
        (λ nz. ⊎_elim
        (λ l. ⊎_elim
        (λ r. inl (in_room nz l r))
        (λ r. inr (
        let q : length (with_visits n w) / 4 ≤ id * 16 + 15 = subst (λ (x : ℕ). x / 4 ≤ id * 16 + 15) (sym (counted_length n id w)) r in
        ap decoded (seen_is u id l ∙ ap (λ (x : List ℕ). get_field x id 15) (u_is nz l ∙ put_out (with_visits n w) (id * 16 + 15) (coded s) q) ∙ counted_field n id w ∙ sym (seen_is w id l))))
        (cases_lt (id * 16 + 15) (length w / 4)))
        (λ l. inr (ap (λ (x : List ℕ). decoded (seen_word types x id)) (sym (remember_past types id (coded s) n w nz l))))
        (cases_lt id types))

    work_other : (d : ℕ) → (d ≡ id → ⊥) → seen_word types u d ≡ seen_word types w d
    unfolding seen_word remembered
    work_other d ne = ap (λ (x : ℕ). elim (ltb d types) as (λ (b : Bool). ℕ) [ true ↦ x | false ↦ 0 ]) (by (eqb (coded s) 0) (leb types id))
      where
        by : (p q : Bool) → get_field (elim p as (λ (x : Bool). List ℕ) [ true ↦ w | false ↦ elim q as (λ (x : Bool). List ℕ) [ true ↦ w | false ↦ put_field (with_visits n w) id 15 (coded s) ] ]) d 15 ≡ get_field w d 15
        by true q = refl
        by false true = refl
        by false false = get_put_other (with_visits n w) (id * 16 + 15) (d * 16 + 15) (coded s) (λ e. ne (omega arith)) ∙ counted_field n d w

    work_same : FitsWord s → HoldsTypes types w → id < types → decoded (seen_word types u id) ≡ known s
    work_same f g l = in_room (λ z. omega (arith, coded_is s f, f.1)) l (omega arith)

  pub work_lawful : Lawful K types (HoldsTypes types) FitsWord
  unfolding work_keep
  work_lawful = record {
    kept = work_kept;
    other = λ id s w d ne. ap decoded (work_other id s w d ne);
    same = λ id s w f g l. work_same id s w f g l;
    good = λ id s w g. subst (λ (x : ℕ). types * 16 ≤ x / 4) (sym (remembered_length types id (coded s) (member_count (B.type_by_id id)) w)) g;
  }

-- ---- what is found fits: no alignment is more than a pointer's, or 1
module _ (B : Rules) (small : B.ptr_sz ≤ 15) where
  abbrev Small : Ask ℕ → Type 0
  Small (got a) = a ≤ 15
  Small (no c) = Unit {0}

  smaller_below : (x : ℕ) → smaller B.ptr_sz x ≤ 15
  unfolding smaller
  smaller_below x = ⊎_elim (λ l. rw (lt-leb B.ptr_sz x l, smaller) (omega arith)) (λ l. rw (le-leb B.ptr_sz x l, smaller) small) (cases_lt x B.ptr_sz)

  module _ (f : ℕ → Ask ℕ) (h : (x : ℕ) → Small (f x)) where
    members_small : (ms : List Member) (a : ℕ) → a ≤ 15 → Small (align_members f a ms)
    unfolding align_members ask_then
    members_small [] a l = l
    members_small (m ∷ ms) a l = go (λ b. members_small ms (larger a b)) (f m.type_id) (h m.type_id)
      where
        go : ((b : ℕ) → larger a b ≤ 15 → Small (align_members f (larger a b) ms)) → (x : Ask ℕ) → Small x → Small (ask_then x (λ b. align_members f (larger a b) ms))
        go on (got b) q = on b (both_below a b 15 l q)
        go on (no c) q = tt

    type_small : (t : BtfType) → Small (align_of B f t)
    unfolding align_of
    type_small Void = omega arith
    type_small (Int n b) = smaller_below (octets b)
    type_small (Ptr t) = small
    type_small (Array t k) = h t
    type_small (Composite s n z ms) = members_small ms 1 (omega arith)
    type_small (Enum s n z vs) = smaller_below z
    type_small (Enum64 s n z vs) = smaller_below z
    type_small (Fwd u n) = omega arith
    type_small (Typedef n t) = h t
    type_small (Mod q t) = h t
    type_small (Func n) = omega arith
    type_small (Var n) = omega arith
    type_small (Datasec n) = omega arith
    type_small (FuncProto r ps) = omega arith
    type_small (Float n z) = smaller_below z
    type_small (DeclTag a n t k) = omega arith
    type_small (TypeTag a n t) = h t

  align_small : (n id : ℕ) → Small (get_align_of n B id)
  unfolding get_align_of
  align_small zero id = tt
  align_small (suc n) id = type_small (get_align_of n B) (align_small n) (B.type_by_id id)

  no_calls : (id : ℕ) → get_align_of 0 B id ≡ no 12
  unfolding get_align_of
  no_calls id = refl

  pub tells_fits : (id : ℕ) (s : Remembered) → Tells B id s → s.height ≤ 512 → FitsWord s
  tells_fits id s t l = (
    subst Small (t s.height ∙ within_got s s.height (omega arith)) (align_small s.height id),
    ⊎_elim (λ h. let z : s.height ≤ 0 = omega arith in absurd (no_got 12 s.align (sym (no_calls id) ∙ t 0 ∙ within_got s 0 z))) (λ h. h) (cases_lt s.height 1),
    omega arith,
  )
