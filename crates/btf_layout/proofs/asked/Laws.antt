-- What each return of the code comes to. Assumes nothing.
use Prim.Native.Nat.{ℕ, suc, ◌+◌, ◌-◌, ◌*◌, ◌%◌, ◌<◌, ◌≤◌}
use native.Mathlib.Omega.{arith}
use Rattle.std.proofs.lemmas.Bool.{false≢true}
use mathlib.Core.Path.{◌≡◌, refl, ap, ◌∙◌, sym, subst}
use mathlib.Core.Bool.{Bool, true, false, not}
use mathlib.Core.List.{List}
use lib.Dec.{eqb}
use borrow.Author.Tests.{ne_eqb, not-true, not-false}
use Rattle.spec_c_dumper.specs.rules.Writer.{Ask, got}
use Rattle.spec_c_dumper.specs.rules.Types.{Member, Btf as Rules}
use Rattle.spec_type_table.specs.declared.types.TypeTable.{TypeTable}
use Rattle.spec_type_table.specs.declared.types.BtfType.{BtfType as Record}
use Rattle.spec_type_table.specs.declared.types.BtfMember.{BtfMember}
use Rattle.spec_type_table.specs.Records.{vlen_of, member_of}
use Rattle.spec_type_table.specs.Table.{from, rule_member, members_of, btf_of}
use Rattle.std.specs.Prelude.{Result, Ok, Err}
use Rattle.spec_bytes.specs.declared.refusal.Refusal.{Refusal}
use Rattle.spec_bytes.specs.declared.refusal.Refusal.TheVariants.{AlignmentZero}
use Rattle.btf_layout.specs.size.Answers.{ask_of}
use Rattle.spec_c_dumper.specs.alignment_once.Once.{Remembered, Keep, Once, found, Asking, once_then, align_once, alignment_once}
use Rattle.spec_c_dumper.specs.alignment_once.Steps.{plainly, members_packed_once, packed_once, gap_align_once, union_align_once}
use Rattle.btf_layout.specs.declared.remembered.Seen.{Seen as SeenCode}
use Rattle.btf_layout.specs.remembered.Words.{work_keep, once_of, forget, once_with}
use Rattle.btf_layout.proofs.remembered.Turns.{next, then_next}
use Rattle.btf_layout.proofs.remembered.Keeps.{table_keeps}
use Rattle.btf_layout.specs.asked.Asked.{ask_in, off_by, off_once, align_in, gap_in, union_in, off_in, members_in, packed_at}
use Rattle.btf_layout.proofs.asked.Stays.{Steady, steady_plainly, steady_members, steady_tested, off_then, members_turn, Stays, stays_forget, stays_alignment, stays_union, stays_off, stays_packed}

abbrev Answer : Type 0
Answer = Result SeenCode Refusal

abbrev Code : Type 0
Code = Result ℕ Refusal

abbrev Packed : Type 0
Packed = Result Bool Refusal

abbrev align_seen : Remembered → Asking (List ℕ) ℕ
align_seen s m k = found s.align m k

steady_align : (s : Remembered) → Steady (align_seen s)
unfolding forget
steady_align s m k = refl

pub plain_packed : (u : List ℕ) (q : Packed) → forget (plainly (ask_of q) u 0) ≡ ask_in q u
unfolding ask_of plainly forget ask_in
plain_packed u (Ok p) = refl
plain_packed u (Err c) = refl

module _ (types : ℕ) (B : Rules) where
  abbrev K : Keep (List ℕ)
  K = work_keep types B

  -- ---- alignment
  module _ (id : ℕ) (w : List ℕ) (r : Answer) (u : List ℕ) (er : once_of r u ≡ once_with types B 512 id w) where
    aligned : align_in types B id w ≡ next align_seen (once_of r u)
    unfolding align_in alignment_once once_with
    aligned = then_next align_seen steady_align (align_once K 512 B id w 0) ∙ ap (next align_seen) (sym er)

    pub align_found : (s : SeenCode) → r ≡ Ok s → ask_in (Ok s.align) u ≡ align_in types B id w
    unfolding ask_in once_of next forget
    align_found s e = sym (aligned ∙ ap (λ (x : Answer). next align_seen (once_of x u)) e)

    pub align_no : (c : Refusal) → r ≡ Err c → ask_in {A = ℕ} (Err c) u ≡ align_in types B id w
    unfolding ask_in once_of next
    align_no c e = sym (aligned ∙ ap (λ (x : Answer). next align_seen (once_of x u)) e)

  -- ---- gap_align, union_align
  pub gap_packed : (p : Bool) (id : ℕ) (w : List ℕ) → p ≡ true → ask_in (Ok 1) w ≡ gap_in types B p id w
  unfolding ask_in gap_in gap_align_once forget
  gap_packed p id w e = rw e

  pub gap_asked : (p : Bool) (id : ℕ) (w : List ℕ) → p ≡ false → (r : Code) (u : List ℕ) → ask_in r u ≡ align_in types B id w → ask_in r u ≡ gap_in types B p id w
  unfolding gap_in gap_align_once align_in
  gap_asked p id w e r u er = er ∙ rw e

  pub union_struct : (y is : Bool) (id : ℕ) (w : List ℕ) → y ≡ is → y ≡ true → ask_in (Ok 1) w ≡ union_in types B is id w
  unfolding ask_in union_in union_align_once forget
  union_struct y is id w q e = let f : is ≡ true = sym q ∙ e in rw f

  pub union_asked : (y is : Bool) (id : ℕ) (w : List ℕ) → y ≡ is → y ≡ false → (r : Code) (u : List ℕ) → ask_in r u ≡ align_in types B id w → ask_in r u ≡ union_in types B is id w
  unfolding union_in union_align_once align_in
  union_asked y is id w q e r u er = let f : is ≡ false = sym q ∙ e in er ∙ rw f

  -- ---- member_off
  module _ (x : Member) (w : List ℕ) where
    pub off_bits : (x.bit_size ≡ 0 → ⊥) → ask_in (Ok false) w ≡ off_in types B x w
    unfolding ask_in off_in off_once forget
    off_bits n = rw (ne_eqb x.bit_size 0 n, off_once)

    module _ (z : x.bit_size ≡ 0) (r : Code) (u : List ℕ) (er : ask_in r u ≡ align_in types B x.type_id w) where
      off_asked : off_in types B x w ≡ next (λ (a : ℕ). plainly {M = List ℕ} (off_by a x.bit_offset)) (ask_in r u)
      unfolding off_in off_once align_in
      off_asked =
          ap (λ (n : ℕ). forget {M = List ℕ} {A = Bool} (elim (eqb n 0) as (λ (q : Bool). Once (List ℕ) Bool) [ true ↦ once_then (alignment_once K 512 B x.type_id w 0) (λ a. plainly (off_by a x.bit_offset)) | false ↦ found false w 0 ])) z
          ∙ then_next (λ a. plainly (off_by a x.bit_offset)) (λ a. steady_plainly (off_by a x.bit_offset)) (alignment_once K 512 B x.type_id w 0)
          ∙ ap (next (λ (a : ℕ). plainly {M = List ℕ} (off_by a x.bit_offset))) (sym er)

      pub off_got : (a : ℕ) → r ≡ Ok a → (q : Packed) → ask_of q ≡ off_by a x.bit_offset → ask_in q u ≡ off_in types B x w
      unfolding ask_in next
      off_got a e q eq =
          sym (off_asked ∙ ap (λ (y : Code). next (λ (a : ℕ). plainly {M = List ℕ} (off_by a x.bit_offset)) (ask_in y u)) e ∙ ap (λ (y : Ask Bool). forget (plainly {M = List ℕ} y u 0)) (sym eq) ∙ plain_packed u q)

      pub off_no : (c : Refusal) → r ≡ Err c → ask_in {A = Bool} (Err c) u ≡ off_in types B x w
      unfolding ask_in next
      off_no c e = sym (off_asked ∙ ap (λ (y : Code). next (λ (a : ℕ). plainly {M = List ℕ} (off_by a x.bit_offset)) (ask_in y u)) e)

  -- ---- is_packed
  module _ (y is : Bool) (q : y ≡ is) (id sz : ℕ) (ms : List Member) (w : List ℕ) where
    pub packed_union : not y ≡ true → ask_in (Ok false) w ≡ packed_at types B is id sz ms w
    unfolding ask_in packed_at packed_once forget
    packed_union e = let f : is ≡ false = sym q ∙ not-true y e in rw f

    module _ (e : not y ≡ false) (r : Code) (u : List ℕ) (er : ask_in r u ≡ align_in types B id w) where
      abbrev tested : ℕ → Asking (List ℕ) Bool
      tested a m k = elim (eqb (sz % a) 0) [ true ↦ members_packed_once K B ms m k | false ↦ found true m k ]

      packed_asked : packed_at types B is id sz ms w ≡ next tested (ask_in r u)
      unfolding packed_at packed_once align_in
      packed_asked =
          let f : is ≡ true = sym q ∙ not-false y e in
          ap (λ (p : Bool). forget {M = List ℕ} {A = Bool} (elim p as (λ (q : Bool). Once (List ℕ) Bool) [ false ↦ found false w 0 | true ↦ once_then (alignment_once K 512 B id w 0) tested ])) f
          ∙ then_next tested (λ a. steady_tested K B sz a ms) (alignment_once K 512 B id w 0)
          ∙ ap (next tested) (sym er)

      pub packed_no : (c : Refusal) → r ≡ Err c → ask_in {A = Bool} (Err c) u ≡ packed_at types B is id sz ms w
      unfolding ask_in next
      packed_no c g = sym (packed_asked ∙ ap (λ (x : Code). next tested (ask_in x u)) g)

      module _ (a : ℕ) (g : r ≡ Ok a) (p : Bool) (ep : p ≡ eqb (sz % a) 0) where
        packed_got : packed_at types B is id sz ms w ≡ forget {M = List ℕ} {A = Bool} (elim p as (λ (q : Bool). Once (List ℕ) Bool) [ true ↦ members_packed_once K B ms u 0 | false ↦ found true u 0 ])
        unfolding ask_in next
        packed_got =
            packed_asked ∙ ap (λ (x : Code). next tested (ask_in x u)) g
            ∙ ap (λ (z : Bool). forget {M = List ℕ} {A = Bool} (elim z as (λ (q : Bool). Once (List ℕ) Bool) [ true ↦ members_packed_once K B ms u 0 | false ↦ found true u 0 ])) (sym ep)

        pub packed_off : p ≡ false → ask_in (Ok true) u ≡ packed_at types B is id sz ms w
        unfolding ask_in forget
        packed_off f = sym (packed_got ∙ ap (λ (z : Bool). forget {M = List ℕ} {A = Bool} (elim z as (λ (q : Bool). Once (List ℕ) Bool) [ true ↦ members_packed_once K B ms u 0 | false ↦ found true u 0 ])) f)

        pub packed_members : p ≡ true → (C : Rules) → C ≡ B → (x : Packed) (u' : List ℕ) → ask_in x u' ≡ members_in types C ms u → ask_in x u' ≡ packed_at types B is id sz ms w
        unfolding members_in
        packed_members f C e_c x u' ex =
            ex ∙ ap (λ (D : Rules). members_in types D ms u) e_c
            ∙ sym (packed_got ∙ ap (λ (z : Bool). forget {M = List ℕ} {A = Bool} (elim z as (λ (q : Bool). Once (List ℕ) Bool) [ true ↦ members_packed_once K B ms u 0 | false ↦ found true u 0 ])) f)

-- ---- off_by, is_multiple
module _ (a o : ℕ) where
  pub by_none : a ≡ 0 → ask_of {A = Bool} (Err AlignmentZero) ≡ off_by a o
  unfolding ask_of off_by
  by_none e = rw e

  pub by_some : (a ≡ 0 → ⊥) → (x y : ℕ) → x ≡ o → y ≡ a → ask_of (Ok (not (eqb (x % (y * 8)) 0))) ≡ off_by a o
  unfolding ask_of off_by
  by_some n x y ex ey = ap (λ (z : ℕ). got (not (eqb (z % (y * 8)) 0))) ex ∙ ap (λ (z : ℕ). got (not (eqb (o % (z * 8)) 0))) ey ∙ rw (ne_eqb a 0 n, off_by)

pub is_multiple : (n : Bool) (x : ℕ) → (n ≡ true → x ≡ 0) × (x ≡ 0 → n ≡ true) → n ≡ eqb x 0
is_multiple true x h = rw (h.0 refl)
is_multiple false x h = sym (ne_eqb x 0 (λ e. absurd (false≢true (h.1 e))))

-- ---- the table stays
module _ (b : TypeTable) (s : List ℕ) where
  told_ask : (w : List ℕ) (r : Code) (u : List ℕ) → Stays (btf_of b s) w (ask_in r u) → btf_of b s u ≡ btf_of b s w
  unfolding ask_in
  told_ask w (Ok a) u h = h
  told_ask w (Err c) u h = h

  told_packed : (w : List ℕ) (r : Packed) (u : List ℕ) → Stays (btf_of b s) w (ask_in r u) → btf_of b s u ≡ btf_of b s w
  unfolding ask_in
  told_packed w (Ok p) u h = h
  told_packed w (Err c) u h = h

  abbrev Kept : List ℕ → Keep (List ℕ)
  Kept w = work_keep b.types (btf_of b s w)

  pub table_asked : (id : ℕ) (w : List ℕ) (r : Code) (u : List ℕ) → ask_in r u ≡ align_in b.types (btf_of b s w) id w → btf_of b s u ≡ btf_of b s w
  unfolding align_in
  table_asked id w r u e = told_ask w r u (subst (Stays (btf_of b s) w) (sym e) (stays_forget (btf_of b s) w _ (stays_alignment (btf_of b s) (Kept w) (btf_of b s w) (table_keeps b s b.types (btf_of b s w)) 512 id w 0)))

  pub table_union : (is : Bool) (id : ℕ) (w : List ℕ) (r : Code) (u : List ℕ) → ask_in r u ≡ union_in b.types (btf_of b s w) is id w → btf_of b s u ≡ btf_of b s w
  unfolding union_in
  table_union is id w r u e = told_ask w r u (subst (Stays (btf_of b s) w) (sym e) (stays_forget (btf_of b s) w _ (stays_union (btf_of b s) (Kept w) (btf_of b s w) (table_keeps b s b.types (btf_of b s w)) is id w 0)))

  pub table_off : (x : Member) (w : List ℕ) (r : Packed) (u : List ℕ) → ask_in r u ≡ off_in b.types (btf_of b s w) x w → btf_of b s u ≡ btf_of b s w
  unfolding off_in
  table_off x w r u e = told_packed w r u (subst (Stays (btf_of b s) w) (sym e) (stays_forget (btf_of b s) w _ (stays_off (btf_of b s) (Kept w) (btf_of b s w) (table_keeps b s b.types (btf_of b s w)) x w 0)))

  pub table_packed : (is : Bool) (id sz : ℕ) (ms : List Member) (w : List ℕ) (r : Packed) (u : List ℕ) → ask_in r u ≡ packed_at b.types (btf_of b s w) is id sz ms w → btf_of b s u ≡ btf_of b s w
  unfolding packed_at
  table_packed is id sz ms w r u e = told_packed w r u (subst (Stays (btf_of b s) w) (sym e) (stays_forget (btf_of b s) w _ (stays_packed (btf_of b s) (Kept w) (btf_of b s w) (table_keeps b s b.types (btf_of b s w)) is id sz ms w 0)))

-- ---- the loop of members_packed
module _ (types : ℕ) (B : Rules) (b : TypeTable) (s : List ℕ) (t : Record) where
  -- what the members from k on say
  pub members_rest : ℕ → List ℕ → Once (List ℕ) Bool
  members_rest k w = members_in types B (from (λ i. rule_member b s (member_of b s t i)) k (vlen_of t.info - k)) w

  pub rest_start : (w : List ℕ) → members_in types B (members_of b s t) w ≡ members_rest 0 w
  unfolding members_rest
  rest_start w = let z : vlen_of t.info ≡ vlen_of t.info - 0 = omega arith in ap (λ (n : ℕ). members_in types B (from (λ i. rule_member b s (member_of b s t i)) 0 n) w) z

  module _ (k n : ℕ) (w : List ℕ) (m : BtfMember) (q : Packed) (u : List ℕ) (en : n ≡ vlen_of t.info) (l : k < n) (em : m ≡ member_of b s t k) (C : Rules) (e_c : C ≡ B) (eq : ask_in q u ≡ off_in types C (rule_member b s m) w) where
    abbrev after : List Member
    after = from (λ i. rule_member b s (member_of b s t i)) (k + 1) (vlen_of t.info - (k + 1))

    abbrev goes : Bool → Asking (List ℕ) Bool
    goes = off_then (work_keep types B) B after

    steady_goes : (off : Bool) → Steady (goes off)
    unfolding forget
    steady_goes true m k = refl
    steady_goes false m k = steady_members (work_keep types B) B after m k

    rest_step : members_rest k w ≡ next goes (ask_in q u)
    unfolding members_rest members_in from off_in
    rest_step =
        let z : vlen_of t.info - k ≡ suc (vlen_of t.info - (k + 1)) = omega arith in
        ap (λ (j : ℕ). members_in types B (from (λ i. rule_member b s (member_of b s t i)) k j) w) z
        ∙ ap forget (members_turn (work_keep types B) B (rule_member b s (member_of b s t k)) after w 0)
        ∙ then_next goes steady_goes (off_once (work_keep types B) B (rule_member b s (member_of b s t k)) w 0)
        ∙ ap (λ (y : BtfMember). next goes (off_in types B (rule_member b s y) w)) (sym em)
        ∙ ap (λ (D : Rules). next goes (off_in types D (rule_member b s m) w)) (sym e_c)
        ∙ ap (next goes) (sym eq)

    pub rest_no : (T : Once (List ℕ) Bool) (c : Refusal) → T ≡ members_rest k w → q ≡ Err c → ask_in {A = Bool} (Err c) u ≡ T
    unfolding ask_in next
    rest_no T c i g = sym (i ∙ rest_step ∙ ap (λ (y : Packed). next goes (ask_in y u)) g)

    rest_is : (off p : Bool) → q ≡ Ok off → off ≡ p → members_rest k w ≡ forget (goes p u 0)
    unfolding ask_in next
    rest_is off p g e = rest_step ∙ ap (λ (y : Packed). next goes (ask_in y u)) g ∙ ap (λ (y : Bool). forget (goes y u 0)) e

    pub rest_off : (T : Once (List ℕ) Bool) (off : Bool) → T ≡ members_rest k w → q ≡ Ok off → off ≡ true → ask_in (Ok true) u ≡ T
    unfolding ask_in forget
    rest_off T off i g e = sym (i ∙ rest_is off true g e)

    pub rest_more : (T : Once (List ℕ) Bool) (off : Bool) → T ≡ members_rest k w → q ≡ Ok off → off ≡ false → T ≡ members_rest (k + 1) u
    unfolding members_rest members_in
    rest_more T off i g e = i ∙ rest_is off false g e

  pub rest_end : (T : Once (List ℕ) Bool) (k n : ℕ) (w : List ℕ) → T ≡ members_rest k w → n ≡ vlen_of t.info → n ≤ k → ask_in (Ok false) w ≡ T
  unfolding members_rest members_in from members_packed_once ask_in forget
  rest_end T k n w i en l =
      let z : vlen_of t.info - k ≡ 0 = omega arith in
      sym (i ∙ ap (λ (n : ℕ). members_in types B (from (λ i. rule_member b s (member_of b s t i)) k n) w) z)
