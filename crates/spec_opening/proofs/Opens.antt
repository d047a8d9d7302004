-- examine and open: a law for each return. Assumes nothing.
use Prim.Native.Nat.{ℕ, zero, suc, ◌+◌, ◌*◌, ◌<◌, ◌≤◌}
use mathlib.Core.Path.{◌≡◌, refl, ap, ◌∙◌, sym}
use mathlib.Core.Bool.{Bool, true, false, true≢false, not}
use mathlib.Core.List.{List, [], ◌∷◌, ◌++◌}
use native.Mathlib.Omega.{arith}
use lib.ListN.{length, replicate}
use lib.Dec.{leb, eqb}
use borrow.Author.Tests.{lt-ltb, le-ltb, ne_eqb, ltb-false, not-true, not-false, leb-true}
use Rattle.spec_type_table.specs.declared.types.TypeTable.{TypeTable}
use Rattle.spec_type_table.specs.Records.{section_word}
use Rattle.spec_linux_btf.specs.Places.{passes_p}
use Rattle.spec_linux_btf.specs.Section.{is_big_endian, word_of, hdr_len_of, type_off_of, type_len_of, str_len_of, header_sound, types_sound}
use Rattle.spec_linux_btf.proofs.SectionFields.{area_inside}
use Rattle.btf_open_causes.specs.references.References.{has_bad_reference}
use Rattle.btf_open_causes.specs.prototypes.Prototypes.{any_leads}
use Rattle.btf_open_causes.specs.loops.Graph.{has_loop}
use Rattle.btf_open_causes.specs.loops.Loops.{graph_of}
use Rattle.std.specs.Prelude.{Option, Some, None, ok_or, Result, Ok, Err}
use Rattle.std.specs.Cmp.{first_so}
use Rattle.spec_bytes.specs.declared.refusal.Refusal.{Refusal}
use Rattle.spec_bytes.specs.declared.refusal.Refusal.TheVariants.{PointerSize, SectionTooLong, BadHeader, BadStrings, BadRecord, BadReference, PrototypeHeld, Loop, WorkShort, NoSuchId, SessionClosed, TooDeep, Cycle, NamelessTypedef, AlignmentZero, Overflow, TextFull, Misplaced, NoDeclaration, NoField, CeilingPassed, OutputShort}
use Rattle.spec_bytes.specs.Refusals.{refusal_number}
use Rattle.btf_open_causes.specs.declared.records.Counts.{Counts}
use Rattle.btf_open_causes.specs.header.Header.{btf_of}
use Rattle.btf_open_causes.specs.records.Pass.{count_p, enums_p, index_p, Scan, unsound, found, scan_out, scan_p, scan_section}
use Rattle.spec_opening.specs.Table.{described_in, types_of, enumerators_of, empty_index, index_for, index_of}
use Rattle.spec_opening.specs.Causes.{cause1, cause2, cause3, cause4, cause5, cause6, cause7, cause8, cause9, table_of, next, first_of, two_to_six, opening_number}
use Rattle.btf_open_names.specs.filled_work.Left.{filled}
use Rattle.btf_open_names.specs.filled_work.Takers.{takers_in}
use Rattle.spec_opening.specs.Opened.{refused, opened, open_out, work_of, opening_of, Examined, refused_by, sound_with, examine_out, examined, indexed}
use Rattle.btf_open_causes.proofs.header.Headers.{read4, read8, read12, read20, order_is}
use Rattle.spec_opening.proofs.Sections.{pass_decides, pass_count, pass_enums, pass_index}
use Rattle.spec_opening.proofs.Order.{NoneHolds, next_zero, first_none, first_stays}

-- ---- the pass, of a section with a sound header
abbrev passed_by : Bool → List ℕ → Scan
passed_by true s = found (types_of s) (enumerators_of s) (index_of s)
passed_by false s = unsound

abbrev passed : List ℕ → Scan
passed s = passed_by (types_sound s) s

module _ (w : ℕ → ℕ) (sl from end : ℕ) (start : List ℕ) where
  scan_yes : passes_p sl 262144 w end from ≡ true
      → scan_p w sl from end start ≡ found (suc (count_p w 262144 end from)) (enums_p w 262144 end from) (index_p w from start (count_p w 262144 end from))
  unfolding scan_p
  scan_yes e = rw (e, scan_p)

  scan_no : passes_p sl 262144 w end from ≡ false → scan_p w sl from end start ≡ unsound
  unfolding scan_p
  scan_no e = rw (e, scan_p)

module _ (b : TypeTable) (s : List ℕ) (o : b.big_endian ≡ is_big_endian s) (h : header_sound s ≡ true) (l : length s ≤ 16777216) where
  long : 24 ≤ length s
  unfolding header_sound
  long = leb-true 24 (length s) (first_so (leb 24 (length s)) _ h)

  count_index : types_sound s ≡ true → index_p (section_word b s) (hdr_len_of s + type_off_of s) empty_index (count_p (section_word b s) 262144 (hdr_len_of s + type_off_of s + type_len_of s) (hdr_len_of s + type_off_of s)) ≡ index_of s
  unfolding index_of types_of
  count_index t =
      let n : count_p (section_word b s) 262144 (hdr_len_of s + type_off_of s + type_len_of s) (hdr_len_of s + type_off_of s) ≡ length (described_in s) = suc_same (pass_count b s o h t) in
      pass_index b s o (count_p (section_word b s) 262144 (hdr_len_of s + type_off_of s + type_len_of s) (hdr_len_of s + type_off_of s)) ∙ ap (index_for s) n
    where
      suc_same : {m n : ℕ} → suc m ≡ suc n → m ≡ n
      suc_same e = omega arith

  pub pass_is : scan_p (section_word b s) (str_len_of s) (hdr_len_of s + type_off_of s) (hdr_len_of s + type_off_of s + type_len_of s) empty_index ≡ passed s
  pass_is = go (types_sound s) refl
    where
      go : (t : Bool) → types_sound s ≡ t → scan_p (section_word b s) (str_len_of s) (hdr_len_of s + type_off_of s) (hdr_len_of s + type_off_of s + type_len_of s) empty_index ≡ passed s
      go true t =
          scan_yes (section_word b s) (str_len_of s) (hdr_len_of s + type_off_of s) (hdr_len_of s + type_off_of s + type_len_of s) empty_index (pass_decides b s o h ∙ t)
          ∙ (λ i. found (pass_count b s o h t i) (pass_enums b s o h t i) (count_index t i))
          ∙ ap (λ (q : Bool). passed_by q s) (sym t)
      go false t =
          scan_no (section_word b s) (str_len_of s) (hdr_len_of s + type_off_of s) (hdr_len_of s + type_off_of s + type_len_of s) empty_index (pass_decides b s o h ∙ t)
          ∙ ap (λ (q : Bool). passed_by q s) (sym t)

  pub section_is : scan_section b s empty_index ≡ passed s
  unfolding scan_section
  section_is =
      let e4 : word_of s 4 ≡ hdr_len_of s = read4 s long in
      let e8 : word_of s 8 ≡ type_off_of s = read8 s long in
      let e12 : word_of s 12 ≡ type_len_of s = read12 s long in
      let e20 : word_of s 20 ≡ str_len_of s = read20 s long in
      rw (le-ltb 16777216 (word_of s 4 + word_of s 8 + word_of s 12) (omega (arith, area_inside s h)), scan_section)
      ((λ i. scan_p (section_word b s) (e20 i) (e4 i + e8 i) (e4 i + e8 i + e12 i) empty_index) ∙ pass_is)

-- what a Scan says
abbrev is_found : Scan → Bool
is_found unsound = false
is_found (found t e i) = true

abbrev types_in : Scan → ℕ
types_in unsound = 0
types_in (found t e i) = t

abbrev enums_in : Scan → ℕ
enums_in unsound = 0
enums_in (found t e i) = e

abbrev index_in : Scan → List ℕ
index_in unsound = []
index_in (found t e i) = i

-- what an Examined says
abbrev is_refused : Examined → Bool
is_refused (refused_by n) = true
is_refused (sound_with t e i) = false

abbrev number_in : Examined → ℕ
number_in (refused_by n) = n
number_in (sound_with t e i) = 0

abbrev types_with : Examined → ℕ
types_with (refused_by n) = 0
types_with (sound_with t e i) = t

abbrev enums_with : Examined → ℕ
enums_with (refused_by n) = 0
enums_with (sound_with t e i) = e

abbrev index_with : Examined → List ℕ
index_with (refused_by n) = []
index_with (sound_with t e i) = i

-- a refusal has a number
pub some_number : (r : Refusal) → refusal_number r ≡ 0 → ⊥
some_number PointerSize e = omega arith
some_number SectionTooLong e = omega arith
some_number BadHeader e = omega arith
some_number BadStrings e = omega arith
some_number BadRecord e = omega arith
some_number BadReference e = omega arith
some_number PrototypeHeld e = omega arith
some_number Loop e = omega arith
some_number WorkShort e = omega arith
some_number NoSuchId e = omega arith
some_number SessionClosed e = omega arith
some_number TooDeep e = omega arith
some_number Cycle e = omega arith
some_number NamelessTypedef e = omega arith
some_number AlignmentZero e = omega arith
some_number Overflow e = omega arith
some_number TextFull e = omega arith
some_number Misplaced e = omega arith
some_number NoDeclaration e = omega arith
some_number NoField e = omega arith
some_number CeilingPassed e = omega arith
some_number OutputShort e = omega arith

-- ---- index_records
-- what `ok_or` and the `?` after it say of the pass
pub scan_none : (m : Option Counts) (r : Result Counts Refusal) (e : Refusal) → r ≡ ok_or m BadRecord → r ≡ Err e → (m ≡ None) × (e ≡ BadRecord)
scan_none None r e h g = (refl, cc)
scan_none (Some n) r e h g = cc

pub scan_some : (m : Option Counts) (r : Result Counts Refusal) (n : Counts) → r ≡ ok_or m BadRecord → r ≡ Ok n → m ≡ Some n
scan_some None r n h g = cc
scan_some (Some k) r n h g = cc

module _ (p : ℕ) (s : List ℕ) where
  refuse_index : (n : ℕ) → first_of (two_to_six p s) ≡ suc n → refused_by (suc (suc n)) ≡ indexed p s
  unfolding indexed
  refuse_index n e =
      let f : eqb (first_of (two_to_six p s)) 0 ≡ false = ap (λ (m : ℕ). eqb m 0) e ∙ ne_eqb (suc n) 0 (λ z. absurd (omega arith)) in
      rw (f, indexed) (ap (λ (m : ℕ). refused_by (next m)) (sym e))

  allow_index : first_of (two_to_six p s) ≡ 0 → indexed p s ≡ sound_with (types_of s) (enumerators_of s) (index_of s)
  unfolding indexed
  allow_index e =
      let f : eqb (first_of (two_to_six p s)) 0 ≡ true = ap (λ (m : ℕ). eqb m 0) e in
      rw (f, indexed)

  abbrev first_three : List Bool
  first_three = cause2 s ∷ cause3 s ∷ cause4 s ∷ []

  module _ (c : ℕ) (ec : c ≡ next (first_of first_three)) where
    early : (n : ℕ) → first_of first_three ≡ n → (c ≡ 0 → ⊥) → refused_by c ≡ indexed p s
    early zero e z = absurd (z (ec ∙ ap next e))
    early (suc n) e z =
        ap refused_by (ec ∙ ap next e)
        ∙ refuse_index n (first_stays first_three (cause5 s ∷ cause6 p s ∷ []) (λ f. absurd (omega (arith, e, f))) ∙ e)

    pub index_early : (c ≡ 0 → ⊥) → refused_by c ≡ indexed p s
    index_early z = early (first_of first_three) refl z

    module _ (z : c ≡ 0) where
      falses : NoneHolds first_three
      falses = first_none first_three (next_zero (first_of first_three) (sym ec ∙ z))

      sound_header : header_sound s ≡ true
      unfolding cause3
      sound_header = not-false (header_sound s) falses.1.0

      short : length s ≤ 16777216
      unfolding cause2
      short = ltb-false 16777216 (length s) falses.0

      module _ (b : TypeTable) (eb0 : b ≡ btf_of s p 0 0) (r : Option Counts) (start start' : List ℕ) (e0 : start ≡ empty_index) (es : scan_out r start' ≡ scan_section b s start) where
        out_is : scan_out r start' ≡ passed s
        out_is = es ∙ ap (scan_section b s) e0 ∙ section_is b s (ap (λ x. x.big_endian) eb0 ∙ order_is s p 0 0) sound_header short

        pub index_5 : r ≡ None → refused_by 5 ≡ indexed p s
        unfolding cause5 scan_out first_of
        index_5 f = refuse_index 3 (rw (falses.0, falses.1.0, falses.1.1.0, go (types_sound s) refl))
          where
            go : (t : Bool) → types_sound s ≡ t → cause5 s ≡ true
            go true t = absurd (true≢false (sym (ap is_found (sym (ap (λ (o : Option Counts). scan_out o start') f) ∙ out_is ∙ ap (λ (q : Bool). passed_by q s) t))))
            go false t = rw t

        module _ (counts : Counts) (f : r ≡ Some counts) where
          found_is : found counts.types counts.enumerators start' ≡ passed s
          unfolding scan_out
          found_is = sym (ap (λ (o : Option Counts). scan_out o start') f) ∙ out_is

          types_sound_lem : types_sound s ≡ true
          types_sound_lem = go (types_sound s) refl
            where
              go : (t : Bool) → types_sound s ≡ t → types_sound s ≡ true
              go true t = t
              go false t = absurd (true≢false (ap is_found (found_is ∙ ap (λ (q : Bool). passed_by q s) t)))

          exact : found counts.types counts.enumerators start' ≡ found (types_of s) (enumerators_of s) (index_of s)
          exact = found_is ∙ ap (λ (q : Bool). passed_by q s) types_sound_lem

          e5 : cause5 s ≡ false
          unfolding cause5
          e5 = rw types_sound_lem

          module _ (b1 : TypeTable) (eb : b1 ≡ btf_of s p 0 counts.types) (u : Bool) (eu : u ≡ has_bad_reference b1 s start') where
            e6 : cause6 p s ≡ u
            unfolding cause6 table_of
            e6 =
                let t : b1 ≡ btf_of s p 0 (types_of s) = eb ∙ ap (btf_of s p 0) (ap types_in exact) in
                sym (eu ∙ (λ i. has_bad_reference (t i) s (ap index_in exact i)))

            pub index_6 : u ≡ true → refused_by 6 ≡ indexed p s
            unfolding first_of
            index_6 y = refuse_index 4 (rw (falses.0, falses.1.0, falses.1.1.0, e5, e6 ∙ y))

            pub index_0 : u ≡ false → sound_with counts.types counts.enumerators start' ≡ indexed p s
            unfolding first_of
            index_0 y =
                ap (λ (x : Scan). sound_with (types_in x) (enums_in x) (index_in x)) exact
                ∙ sym (allow_index (rw (falses.0, falses.1.0, falses.1.1.0, e5, e6 ∙ y)))

-- ---- examine
module _ (p : ℕ) (s : List ℕ) (wl : ℕ) where
  refuse : (n : ℕ) → opening_number p s wl ≡ suc n → refused_by (suc n) ≡ examined p s wl
  unfolding examined
  refuse n e =
      let f : eqb (opening_number p s wl) 0 ≡ false = ap (λ (m : ℕ). eqb m 0) e ∙ ne_eqb (suc n) 0 (λ z. absurd (omega arith)) in
      rw (f, examined) (ap refused_by (sym e))

  allow : opening_number p s wl ≡ 0 → sound_with (types_of s) (enumerators_of s) (index_of s) ≡ examined p s wl
  unfolding examined
  allow e =
      let f : eqb (opening_number p s wl) 0 ≡ true = ap (λ (m : ℕ). eqb m 0) e in
      rw (f, examined)

  module _ (t : Bool) (et : t ≡ not (cause1 p)) where
    pub examine_1 : t ≡ false → refused_by 1 ≡ examined p s wl
    unfolding opening_number first_of
    examine_1 f = refuse 0 (rw (not-false (cause1 p) (sym et ∙ f)))

    module _ (y1 : t ≡ true) (r : Result Counts Refusal) (start : List ℕ) (er : examine_out r start ≡ indexed p s) where
      e1 : cause1 p ≡ false
      e1 = not-true (cause1 p) (sym et ∙ y1)

      abbrev last_three : List Bool
      last_three = cause7 p s ∷ cause8 p s ∷ cause9 s wl ∷ []

      number_is : opening_number p s wl ≡ next (first_of (two_to_six p s ++ last_three))
      unfolding opening_number first_of
      number_is = rw e1

      pub examine_2_to_6 : (c : Refusal) → r ≡ Err c → examine_out (Err c) start ≡ examined p s wl
      unfolding examine_out
      examine_2_to_6 c e = go (first_of (two_to_six p s)) refl
        where
          is : refused_by (refusal_number c) ≡ indexed p s
          is = sym (ap (λ (q : Result Counts Refusal). examine_out q start) e) ∙ er

          go : (n : ℕ) → first_of (two_to_six p s) ≡ n → refused_by (refusal_number c) ≡ examined p s wl
          go zero f = absurd (true≢false (ap is_refused (is ∙ allow_index p s f)))
          go (suc n) f =
              is ∙ sym (refuse_index p s n f)
              ∙ refuse (suc n) (number_is ∙ ap next (first_stays (two_to_six p s) last_three (λ g. absurd (omega (arith, f, g))) ∙ f))

      module _ (counts : Counts) (e : r ≡ Ok counts) where
        is : sound_with counts.types counts.enumerators start ≡ indexed p s
        unfolding examine_out
        is = sym (ap (λ (q : Result Counts Refusal). examine_out q start) e) ∙ er

        none_of : first_of (two_to_six p s) ≡ 0
        none_of = go (first_of (two_to_six p s)) refl
          where
            go : (n : ℕ) → first_of (two_to_six p s) ≡ n → first_of (two_to_six p s) ≡ 0
            go zero f = f
            go (suc n) f = absurd (true≢false (sym (ap is_refused (is ∙ sym (refuse_index p s n f)))))

        none : NoneHolds (two_to_six p s)
        none = first_none (two_to_six p s) none_of

        exact_with : sound_with counts.types counts.enumerators start ≡ sound_with (types_of s) (enumerators_of s) (index_of s)
        exact_with = is ∙ allow_index p s none_of

        number_last : opening_number p s wl ≡ next (next (next (next (next (next (first_of last_three))))))
        unfolding first_of
        number_last = number_is ∙ rw (none.0, none.1.0, none.1.1.0, none.1.1.1.0, none.1.1.1.1.0)

        module _ (b : TypeTable) (eb : b ≡ btf_of s p 0 counts.types) where
          table_is : b ≡ table_of p s
          unfolding table_of
          table_is = eb ∙ ap (btf_of s p 0) (ap types_with exact_with)

          module _ (q : Bool) (eq : q ≡ any_leads b s start) where
            e7 : cause7 p s ≡ q
            unfolding cause7
            e7 = sym (eq ∙ (λ i. any_leads (table_is i) s (ap index_with exact_with i)))

            pub examine_7 : q ≡ true → refused_by 7 ≡ examined p s wl
            unfolding first_of
            examine_7 f = refuse 6 (number_last ∙ rw (e7 ∙ f))

            module _ (y7 : q ≡ false) (l : Bool) (el : l ≡ has_loop (graph_of b s start)) where
              e8 : cause8 p s ≡ l
              unfolding cause8
              e8 = sym (el ∙ (λ i. has_loop (graph_of (table_is i) s (ap index_with exact_with i))))

              pub examine_8 : l ≡ true → refused_by 8 ≡ examined p s wl
              unfolding first_of
              examine_8 f = refuse 7 (number_last ∙ rw (e7 ∙ y7, e8 ∙ f))

              module _ (y8 : l ≡ false) (n : ℕ) (en : n ≡ 4 * (16 * counts.types + 8 * counts.enumerators + 4096)) where
                size_is : n ≡ 4 * (16 * types_of s + 8 * enumerators_of s + 4096)
                size_is = en ∙ ap (λ (x : Examined). 4 * (16 * types_with x + 8 * enums_with x + 4096)) exact_with

                pub examine_9 : wl < n → refused_by 9 ≡ examined p s wl
                unfolding first_of cause9
                examine_9 h =
                    let e9 : cause9 s wl ≡ true = lt-ltb wl (4 * (16 * types_of s + 8 * enumerators_of s + 4096)) (omega (arith, size_is)) in
                    refuse 8 (number_last ∙ rw (e7 ∙ y7, e8 ∙ y8, e9))

                pub examine_0 : n ≤ wl → sound_with counts.types counts.enumerators start ≡ examined p s wl
                unfolding first_of cause9
                examine_0 h =
                    let e9 : cause9 s wl ≡ false = le-ltb wl (4 * (16 * types_of s + 8 * enumerators_of s + 4096)) (omega (arith, size_is)) in
                    exact_with ∙ allow (number_last ∙ rw (e7 ∙ y7, e8 ∙ y8, e9))

-- the answers of both
pub says_refused : (r : Refusal) (start : List ℕ) (q : Examined) → refused_by (refusal_number r) ≡ q → examine_out (Err r) start ≡ q
unfolding examine_out
says_refused r start q e = e

pub says_sound : (counts : Counts) (start : List ℕ) (q : Examined) → sound_with counts.types counts.enumerators start ≡ q → examine_out (Ok counts) start ≡ q
unfolding examine_out
says_sound counts start q e = e

-- ---- open
module _ (p modes : ℕ) (s w t : List ℕ) where
  abbrev num : ℕ
  num = opening_number p s (length w)

  is_refused_lem : eqb num 0 ≡ false → examined p s (length w) ≡ refused_by num
  unfolding examined
  is_refused_lem e = rw (e, examined)

  is_sound_lem : eqb num 0 ≡ true → examined p s (length w) ≡ sound_with (types_of s) (enumerators_of s) (index_of s)
  unfolding examined
  is_sound_lem e = rw (e, examined)

  pub opens_refused : eqb num 0 ≡ false → opening_of p modes s w t ≡ refused num w t
  unfolding opening_of
  opens_refused e = rw (e, opening_of)

  pub opens_sound : eqb num 0 ≡ true → opening_of p modes s w t ≡ opened (types_of s) (enumerators_of s) (work_of p modes s (length w)) (replicate (length t) 0)
  unfolding opening_of
  opens_sound e = rw (e, opening_of)

  module _ (r : Result Counts Refusal) (start : List ℕ) (er : examine_out r start ≡ examined p s (length w)) where
    pub open_refused : (c : Refusal) → r ≡ Err c → open_out (Err c) w t ≡ opening_of p modes s w t
    unfolding open_out examine_out
    open_refused c e = go (eqb num 0) refl
      where
        is : refused_by (refusal_number c) ≡ examined p s (length w)
        is = sym (ap (λ (q : Result Counts Refusal). examine_out q start) e) ∙ er

        go : (q : Bool) → eqb num 0 ≡ q → open_out (Err c) w t ≡ opening_of p modes s w t
        go true f = absurd (true≢false (ap is_refused (is ∙ is_sound_lem f)))
        go false f = ap (λ (n : ℕ). refused n w t) (ap number_in (is ∙ is_refused_lem f)) ∙ sym (opens_refused f)

    pub open_sound : (counts : Counts) → r ≡ Ok counts → (t' : List ℕ) → t' ≡ replicate (length t) 0 → (w' : List ℕ) → w' ≡ replicate (length w) 0 → (b : TypeTable) → b ≡ btf_of s p modes counts.types
        → (w'' : List ℕ) → w'' ≡ filled b s start counts.enumerators w' → (w''' : List ℕ) → w''' ≡ takers_in modes b counts.enumerators s w'' → open_out (Ok counts) w''' t' ≡ opening_of p modes s w t
    unfolding open_out examine_out work_of
    open_sound counts e t' et w' ew b eb w'' ef w''' el = go (eqb num 0) refl
      where
        is : sound_with counts.types counts.enumerators start ≡ examined p s (length w)
        is = sym (ap (λ (q : Result Counts Refusal). examine_out q start) e) ∙ er

        go : (q : Bool) → eqb num 0 ≡ q → open_out (Ok counts) w''' t' ≡ opening_of p modes s w t
        go true f =
            let n_is : counts.types ≡ types_of s = ap types_with (is ∙ is_sound_lem f) in
            let m_is : counts.enumerators ≡ enumerators_of s = ap enums_with (is ∙ is_sound_lem f) in
            let i_is : start ≡ index_of s = ap index_with (is ∙ is_sound_lem f) in
            let b_is : b ≡ btf_of s p modes (types_of s) = eb ∙ ap (btf_of s p modes) n_is in
            let w_is : w'' ≡ filled (btf_of s p modes (types_of s)) s (index_of s) (enumerators_of s) (replicate (length w) 0) = ef ∙ (λ i. filled (b_is i) s (i_is i) (m_is i) (ew i)) in
            let l_is : w''' ≡ work_of p modes s (length w) = el ∙ (λ i. takers_in modes (b_is i) (m_is i) s (w_is i)) in
            (λ i. opened (n_is i) (m_is i) (l_is i) (et i)) ∙ sym (opens_sound f)
        go false f = absurd (true≢false (sym (ap is_refused (is ∙ is_refused_lem f))))
