-- The types and members of a section that opening accepts are fewer than 2^32: a member takes 12 bytes. Assumes nothing.
use Prim.Native.Nat.{ℕ, zero, suc, ◌+◌, ◌-◌, ◌*◌, ◌<◌, ◌≤◌}
use native.Mathlib.Omega.{arith}
use mathlib.Core.Path.{◌≡◌, refl, ap, ◌∙◌, sym, subst}
use mathlib.Core.Bool.{true}
use mathlib.Core.List.{List}
use mathlib.Core.Logic.{⊎_elim}
use borrow.Author.Tests.{lt-leb, ne_eqb}
use Rattle.std.proofs.lemmas.Bool.{cases_lt}
use Rattle.std.specs.Cmp.{first_so, second_so}
use Rattle.spec_c_dumper.specs.rules.Types.{Btf as Rules}
use Rattle.spec_type_table.specs.declared.types.TypeTable.{TypeTable}
use Rattle.spec_type_table.specs.declared.types.BtfType.{BtfType as Record}
use Rattle.spec_type_table.specs.Records.{section_word, kind_of, vlen_of, member_of, record_at, void_record, record_by_id}
use Rattle.spec_type_table.specs.Cells.{get_field}
use Rattle.spec_type_table.specs.Table.{rule_member, type_of, btf_of}
use Rattle.spec_type_table.proofs.KindLaws.{by_kind}
use Rattle.spec_type_table.proofs.Laws.{length_from}
use Rattle.spec_linux_btf.specs.Reading.{kind, extra}
use Rattle.spec_linux_btf.specs.Places.{kind_p, vlen_p, size_p, sound_p, named_p, passes_p, place_from}
use Rattle.spec_linux_btf.specs.Section.{types_at, type_len_of, str_len_of}
use Rattle.spec_linux_btf.proofs.SectionFields.{from_next, area_inside}
use Rattle.btf_open_causes.specs.records.Pass.{count_p}
use Rattle.btf_open_causes.proofs.records.Pass.{count_in, count_end, passes_in, ends_in}
use Rattle.spec_opening.specs.Table.{types_of, record_place}
use Rattle.spec_opening.specs.Opened.{work_of}
use Rattle.spec_opening.specs.Causes.{opening_number}
use Rattle.spec_opening.proofs.Sections.{pass_decides, pass_count, place_is}
use Rattle.spec_opening.proofs.Index.{types_few}
use Rattle.spec_opening.proofs.ReadBack.{header_ok, types_ok, section_short, order_ok, place_back}
use Rattle.proof_demands.specs.demands.Table.{header_of, opened_table}
use Rattle.proof_demands.proofs.demands.Described.{count_is}
use Rattle.spec_c_dumper.specs.alignment_once.Once.{member_count, members_to}

members_small : (b : TypeTable) (s : List ℕ) (t : Record) → member_count (type_of b s t) * 12 ≤ extra (kind (kind_of t.info)) (vlen_of t.info)
unfolding type_of member_count kind
members_small b s t =
    by_kind (λ k. k ≡ kind_of t.info → member_count (type_of b s t) * 12 ≤ extra (kind (kind_of t.info)) (vlen_of t.info))
    (λ e. rw (sym e) (omega arith))
    (λ e. rw (sym e) (omega arith))
    (λ e. rw (sym e) (omega arith))
    (λ e. rw (sym e) (omega arith))
    (λ e. rw (sym e) (omega (arith, length_from (λ i. rule_member b s (member_of b s t i)) 0 (vlen_of t.info))))
    (λ e. rw (sym e) (omega (arith, length_from (λ i. rule_member b s (member_of b s t i)) 0 (vlen_of t.info))))
    (λ e. rw (sym e) (omega arith))
    (λ e. rw (sym e) (omega arith))
    (λ e. rw (sym e) (omega arith))
    (λ e. rw (sym e) (omega arith))
    (λ e. rw (sym e) (omega arith))
    (λ e. rw (sym e) (omega arith))
    (λ e. rw (sym e) (omega arith))
    (λ e. rw (sym e) (omega arith))
    (λ e. rw (sym e) (omega arith))
    (λ e. rw (sym e) (omega arith))
    (λ e. rw (sym e) (omega arith))
    (λ e. rw (sym e) (omega arith))
    (λ e. rw (sym e) (omega arith))
    (λ e. rw (sym e) (omega arith))
    (λ k l e. let q : kind_of t.info ≡ (suc (suc (suc (suc (suc (suc (suc (suc (suc (suc (suc (suc (suc (suc (suc (suc (suc (suc (suc (suc (kind_of t.info - 20))))))))))))))))))))) = omega arith in rw q (omega arith))
    (kind_of t.info) refl

-- the place after the last record is in the area
place_end : (w : ℕ → ℕ) (sl n end p : ℕ) → passes_p sl n w end p ≡ true → p ≤ end → place_from w p (count_p w n end p) ≤ end
unfolding count_p place_from
place_end w sl zero end p h l = l
place_end w sl (suc n) end p h l =
    ⊎_elim
    (λ m.
    let both = sym (passes_in w sl end p n m) ∙ h in
    let ends : p + size_p w p ≤ end = ends_in w sl end p (first_so (sound_p w end p) _ both) in
    subst (λ (c : ℕ). place_from w p c ≤ end) (sym (count_in w 0 end p n m))
    (subst (λ (q : ℕ). q ≤ end) (from_next w p (count_p w n end (p + size_p w p))) (place_end w sl n end (p + size_p w p) (second_so (named_p sl w p) _ (second_so (sound_p w end p) _ both)) ends)))
    (λ m. subst (λ (c : ℕ). place_from w p c ≤ end) (sym (count_end w 0 end p m (suc n))) l)
    (cases_lt p end)

module _ (p modes : ℕ) (s : List ℕ) (n : ℕ) (ok : opening_number p s n ≡ 0) where
  abbrev b : TypeTable
  b = header_of p modes s

  abbrev B : Rules
  B = opened_table p modes s n

  abbrev w : List ℕ
  w = work_of p modes s n

  abbrev reads : ℕ → ℕ
  reads = section_word b s

  record_size : (at : ℕ) → member_count (type_of b s (record_at b s at)) * 12 + 12 ≤ size_p reads at
  unfolding size_p kind_p vlen_p record_at
  record_size at = omega (arith, members_small b s (record_at b s at))

  pub types_are : B.type_cnt ≡ b.types
  unfolding btf_of
  types_are = refl

  record_in : (u : List ℕ) (id : ℕ) → (id ≡ 0 → ⊥) → id < b.types → record_by_id b s u id ≡ record_at b s (get_field u id 0)
  unfolding record_by_id
  record_in u id ne h = rw (ne_eqb id 0 ne, record_by_id, lt-leb b.types id h)

  type_at : (i : ℕ) → suc i < B.type_cnt → B.type_by_id (suc i) ≡ type_of b s (record_at b s (place_from reads (types_at s) i))
  unfolding btf_of
  type_at i l =
      let z : suc i - 1 ≡ i = omega arith in
      let ne : suc i ≡ 0 → ⊥ = λ e. omega arith in
      let h : suc i < b.types = subst (λ (k : ℕ). suc i < k) types_are l in
      let t : suc i < types_of s = subst (λ (k : ℕ). suc i < k) (count_is p modes s n ok) l in
      let g : get_field w (suc i) 0 ≡ place_from reads (types_at s) i = place_back p modes s n ok (suc i) (omega arith) t ∙ ap (record_place s) z ∙ sym (place_is b s (order_ok p modes s n ok) i) in
      ap (type_of b s) (record_in w (suc i) ne h ∙ ap (record_at b s) g)

  void_none : member_count (B.type_by_id 0) ≡ 0
  unfolding btf_of record_by_id void_record type_of member_count
  void_none = refl

  members_before : (i : ℕ) → i < B.type_cnt → members_to B (suc i) * 12 + types_at s ≤ place_from reads (types_at s) i
  unfolding members_to place_from
  members_before zero l = omega (arith, void_none)
  members_before (suc i) l = omega (arith, members_before i (omega arith), ap member_count (type_at i l), record_size (place_from reads (types_at s) i))

  pub few : B.type_cnt + members_to B B.type_cnt < 4294967296
  few =
      let c = count_p reads 262144 (types_at s + type_len_of s) (types_at s) in
      let e : B.type_cnt ≡ suc (count_p reads 262144 (types_at s + type_len_of s) (types_at s)) = count_is p modes s n ok ∙ sym (pass_count b s (order_ok p modes s n ok) (header_ok p modes s n ok) (types_ok p modes s n ok)) in
      subst (λ (k : ℕ). k + members_to B k < 4294967296) (sym e) (omega (
        arith,
        e,
        count_is p modes s n ok,
        types_few s (header_ok p modes s n ok) (types_ok p modes s n ok),
        members_before c (omega (arith, e)),
        place_end reads (str_len_of s) 262144 (types_at s + type_len_of s) (types_at s) (pass_decides b s (order_ok p modes s n ok) (header_ok p modes s n ok) ∙ types_ok p modes s n ok) (omega arith),
        area_inside s (header_ok p modes s n ok),
        section_short p modes s n ok,
      ))
