-- What the code reads of a record is the type that the Linux documentation describes there. Assumes nothing.
use Prim.Native.Nat.{ℕ, zero, suc, ◌+◌, ◌-◌, ◌*◌, ◌/◌, ◌%◌, ◌<◌, ◌≤◌}
use mathlib.Core.Path.{◌≡◌, refl, ap, ap₂, ◌∙◌, sym}
use mathlib.Core.Bool.{Bool, true, false, false≢true}
use mathlib.Core.List.{List, ◌∷◌}
use mathlib.Core.Logic.{⊎_elim}
use native.Mathlib.Omega.{arith}
use native.Mathlib.Numerals.{add-one}
use lib.Dec.{leb}
use lib.ListN.{length, get_or, get_or-eq_default}
use borrow.Author.Tests.{le-leb, lt-leb}
use Rattle.std.proofs.lemmas.Bool.{cases_lt}
use Rattle.std.specs.Cmp.{first_so, second_so}
use Rattle.spec_bytes.specs.words.Words.{word_in}
use Rattle.spec_linux_btf.specs.Documentation.{Described}
use Rattle.spec_linux_btf.specs.Reading.{Bytes, decode_all, Kind, none, kind_table, kind, shape, known}
use Rattle.spec_linux_btf.specs.Places.{member_p, param_p, enumerator_p, enumerator64_p, tabulate, type_p, place_from, kind_p, sound_p}
use Rattle.spec_linux_btf.specs.Section.{is_big_endian, word_of, types_at, type_len_of, type_area, header_sound, types_sound}
use Rattle.spec_linux_btf.proofs.Fields as F
use Rattle.spec_linux_btf.proofs.Claims as Claims
use Rattle.spec_c_dumper.specs.rules.Types.{Array, Composite, Enum, Enum64, Fwd, FuncProto, DeclTag, TypeTag}
use Rattle.spec_type_table.specs.declared.types.TypeTable.{TypeTable}
use Rattle.spec_type_table.specs.declared.types.BtfType.{BtfType as Record}
use Rattle.spec_type_table.specs.Names.{str_at}
use Rattle.spec_type_table.specs.Records.{section_word, record_at, member_of, kind_of, flag_of}
use Rattle.spec_type_table.specs.Table.{from, rule_member, param_of, value_of, value64_of, type_of}
use Rattle.spec_type_table.specs.Documented.{is_set, kept_members, kept_params, kept_values, kept_values64, kept}
use Rattle.spec_type_table.proofs.KindLaws as K

-- kind_flag is bit 31 of info
flag_is : (info : ℕ) → flag_of info ≡ is_set (info / 2147483648)
flag_is info = ⊎_elim clear set (cases_lt info 2147483648)
  where
    set : 2147483648 ≤ info → flag_of info ≡ is_set (info / 2147483648)
    set l =
        let e : info / 2147483648 ≡ suc (info / 2147483648 - 1) = omega arith in
        le-leb 2147483648 info l ∙ ap is_set (sym e)

    clear : info < 2147483648 → flag_of info ≡ is_set (info / 2147483648)
    clear l = let e : info / 2147483648 ≡ 0 = omega arith in lt-leb 2147483648 info l ∙ ap is_set (sym e)

module _ (b : TypeTable) (s : List ℕ) (p : ℕ) where
  abbrev w : ℕ → ℕ
  w = section_word b s

  abbrev info : ℕ
  info = section_word b s (p + 4)

  -- member k, with kind_flag and without
  member_is : (flag : ℕ) → is_set flag ≡ flag_of info → (k n : ℕ) → from (λ j. rule_member b s (member_of b s (record_at b s p) j)) k n ≡ kept_members b.strs s (tabulate (λ j. member_p flag w (p + 12 + j * 12)) k n)
  unfolding from member_of record_at
  member_is flag e k zero = refl
  member_is zero e k (suc n) = ap₂ ◌∷◌ (ap (rule_member b s) (pick (sym e))) (ap (λ (j : ℕ). from (λ j. rule_member b s (member_of b s (record_at b s p) j)) j n) (add-one k) ∙ member_is zero e (suc k) n)
    where
      pick : flag_of info ≡ false → member_of b s (record_at b s p) k ≡ record { name_off = w (p + 12 + k * 12); type_id = w (p + 12 + k * 12 + 4); bit_offset = w (p + 12 + k * 12 + 8); bit_size = 0 }
      pick q = rw (q, member_of) refl
  member_is (suc f) e k (suc n) = ap₂ ◌∷◌ (ap (rule_member b s) (pick (sym e))) (ap (λ (j : ℕ). from (λ j. rule_member b s (member_of b s (record_at b s p) j)) j n) (add-one k) ∙ member_is (suc f) e (suc k) n)
    where
      pick : flag_of info ≡ true → member_of b s (record_at b s p) k ≡ record { name_off = w (p + 12 + k * 12); type_id = w (p + 12 + k * 12 + 4); bit_offset = w (p + 12 + k * 12 + 8) % 16777216; bit_size = w (p + 12 + k * 12 + 8) / 16777216 }
      pick q = rw (q, member_of) refl

  param_is : (k n : ℕ) → from (param_of b s p) k n ≡ kept_params b.strs s (tabulate (λ j. param_p w (p + 12 + j * 8)) k n)
  unfolding from param_of
  param_is k zero = refl
  param_is k (suc n) = ap (λ l. param_of b s p k ∷ l) (ap (λ (j : ℕ). from (param_of b s p) j n) (add-one k) ∙ param_is (suc k) n)

  value_is : (k n : ℕ) → from (value_of b s p) k n ≡ kept_values b.strs s (tabulate (λ j. enumerator_p w (p + 12 + j * 8)) k n)
  unfolding from value_of
  value_is k zero = refl
  value_is k (suc n) = ap (λ l. value_of b s p k ∷ l) (ap (λ (j : ℕ). from (value_of b s p) j n) (add-one k) ∙ value_is (suc k) n)

  value64_is : (k n : ℕ) → from (value64_of b s p) k n ≡ kept_values64 b.strs s (tabulate (λ j. enumerator64_p w (p + 12 + j * 12)) k n)
  unfolding from value64_of
  value64_is k zero = refl
  value64_is k (suc n) = ap (λ l. value64_of b s p k ∷ l) (ap (λ (j : ℕ). from (value64_of b s p) j n) (add-one k) ∙ value64_is (suc k) n)

  abbrev Read : ℕ → Type 0
  Read k = kind_of info ≡ k → (1 ≤ k) → (k < 20) → type_of b s (record_at b s p) ≡ kept b.strs s (type_p w p)

  third : w (p + 20) ≡ w (p + 12 + 8)
  third = let e : p + 20 ≡ p + 12 + 8 = omega arith in ap w e

  -- the type that the code reads at a place, for each of the 19 kinds
  pub reads_documented : (k : ℕ) → Read k
  unfolding record_at kept
  reads_documented =
      K.by_kind Read
      (λ e l h. absurd (let z : ◌≤◌ 1 0 = l in omega arith))
      (λ e l h. K.type_1 b s t e ∙ sym (ap (kept b.strs s) (F.type-INT w p e)))
      (λ e l h. K.type_2 b s t e ∙ sym (ap (kept b.strs s) (F.type-PTR w p e)))
      (λ e l h. K.type_3 b s t e ∙ ap (Array (w (p + 12))) third ∙ sym (ap (kept b.strs s) (F.type-ARRAY w p e)))
      (λ e l h. K.type_4 b s t e ∙ ap (Composite true (str_at b s (w p)) (w (p + 8))) (member_is (info / 2147483648) (sym (flag_is info)) 0 (info % 65536)) ∙ sym (ap (kept b.strs s) (F.type-STRUCT w p e)))
      (λ e l h. K.type_5 b s t e ∙ ap (Composite false (str_at b s (w p)) (w (p + 8))) (member_is (info / 2147483648) (sym (flag_is info)) 0 (info % 65536)) ∙ sym (ap (kept b.strs s) (F.type-UNION w p e)))
      (λ e l h. K.type_6 b s t e ∙ ap₂ (λ f vs. Enum f (str_at b s (w p)) (w (p + 8)) vs) (flag_is info) (value_is 0 (info % 65536)) ∙ sym (ap (kept b.strs s) (F.type-ENUM w p e)))
      (λ e l h. K.type_7 b s t e ∙ ap (λ f. Fwd f (str_at b s (w p))) (flag_is info) ∙ sym (ap (kept b.strs s) (F.type-FWD w p e)))
      (λ e l h. K.type_8 b s t e ∙ sym (ap (kept b.strs s) (F.type-TYPEDEF w p e)))
      (λ e l h. K.type_9 b s t e ∙ sym (ap (kept b.strs s) (F.type-VOLATILE w p e)))
      (λ e l h. K.type_10 b s t e ∙ sym (ap (kept b.strs s) (F.type-CONST w p e)))
      (λ e l h. K.type_11 b s t e ∙ sym (ap (kept b.strs s) (F.type-RESTRICT w p e)))
      (λ e l h. K.type_12 b s t e ∙ sym (ap (kept b.strs s) (F.type-FUNC w p e)))
      (λ e l h. K.type_13 b s t e ∙ ap (FuncProto (w (p + 8))) (param_is 0 (info % 65536)) ∙ sym (ap (kept b.strs s) (F.type-FUNC-PROTO w p e)))
      (λ e l h. K.type_14 b s t e ∙ sym (ap (kept b.strs s) (F.type-VAR w p e)))
      (λ e l h. K.type_15 b s t e ∙ sym (ap (kept b.strs s) (F.type-DATASEC w p e)))
      (λ e l h. K.type_16 b s t e ∙ sym (ap (kept b.strs s) (F.type-FLOAT w p e)))
      (λ e l h. K.type_17 b s t e ∙ ap (λ f. DeclTag f (str_at b s (w p)) (w (p + 8)) (w (p + 12))) (flag_is info) ∙ sym (ap (kept b.strs s) (F.type-DECL-TAG w p e)))
      (λ e l h. K.type_18 b s t e ∙ ap (λ f. TypeTag f (str_at b s (w p)) (w (p + 8))) (flag_is info) ∙ sym (ap (kept b.strs s) (F.type-TYPE-TAG w p e)))
      (λ e l h. K.type_19 b s t e ∙ ap₂ (λ f vs. Enum64 f (str_at b s (w p)) (w (p + 8)) vs) (flag_is info) (value64_is 0 (info % 65536)) ∙ sym (ap (kept b.strs s) (F.type-ENUM64 w p e)))
      (λ k m e l h. absurd (omega arith))
    where
      t : Record
      t = record_at b s p

-- a kind that the documentation has is one of 1 to 19
known_range : (k : ℕ) → known (shape (kind k)) ≡ true → (1 ≤ k) × (k < 20)
unfolding kind
known_range =
    K.by_kind (λ k. known (shape (kind k)) ≡ true → (1 ≤ k) × (k < 20))
    (λ h. absurd (false≢true h))
    (λ h. (omega arith, omega arith))
    (λ h. (omega arith, omega arith))
    (λ h. (omega arith, omega arith))
    (λ h. (omega arith, omega arith))
    (λ h. (omega arith, omega arith))
    (λ h. (omega arith, omega arith))
    (λ h. (omega arith, omega arith))
    (λ h. (omega arith, omega arith))
    (λ h. (omega arith, omega arith))
    (λ h. (omega arith, omega arith))
    (λ h. (omega arith, omega arith))
    (λ h. (omega arith, omega arith))
    (λ h. (omega arith, omega arith))
    (λ h. (omega arith, omega arith))
    (λ h. (omega arith, omega arith))
    (λ h. (omega arith, omega arith))
    (λ h. (omega arith, omega arith))
    (λ h. (omega arith, omega arith))
    (λ h. (omega arith, omega arith))
    (λ k m h. absurd (false≢true (sym (ap (λ (n : Kind). known (shape n)) (get_or-eq_default kind_table none m)) ∙ h)))

-- every word of a section is read by `section_word`; where the table has the section's order, in that
pub words_same : (b : TypeTable) (s : List ℕ) → b.big_endian ≡ is_big_endian s → section_word b s ≡ word_of s
unfolding section_word word_of
words_same b s e = ap (λ (big : Bool). word_in big s) e

sound_known : (w : ℕ → ℕ) (len p : ℕ) → sound_p w len p ≡ true → known (shape (kind (kind_of (w (p + 4))))) ≡ true
unfolding sound_p kind_p
sound_known w len p h = first_so _ _ (second_so (leb (p + 12) len) _ h)

-- Linux documentation, 2.2: for a section that passes causes 3 and 5, what the code reads at the place of record i is type i of the one list of
-- described types whose layout is the section's type area (Claims of `spec_linux_btf`), field by field, as the Rust keeps it.
pub section_documented : (b : TypeTable) (s : List ℕ) → b.big_endian ≡ is_big_endian s → Bytes s → header_sound s ≡ true → types_sound s ≡ true → (i : ℕ) (d : Described)
    → i < length (decode_all (is_big_endian s) (type_area s))
    → type_of b s (record_at b s (place_from (word_of s) (types_at s) i)) ≡ kept b.strs s (get_or (decode_all (is_big_endian s) (type_area s)) i d)
section_documented b s o hb hh ht i d l =
    reads_documented b s p (kind_of (section_word b s (p + 4))) refl range.0 range.1
    ∙ ap (λ (w : ℕ → ℕ). kept b.strs s (type_p w p)) (words_same b s o)
    ∙ ap (kept b.strs s) ((Claims.section_fields s hb hh ht).each i d l)
  where
    p : ℕ
    p = place_from (word_of s) (types_at s) i

    range : (1 ≤ kind_of (section_word b s (p + 4))) × (kind_of (section_word b s (p + 4)) < 20)
    range = known_range (kind_of (section_word b s (p + 4))) (sound_known (section_word b s) (types_at s + type_len_of s) p (rw (words_same b s o) (Claims.section_sound_at s hb hh ht i l).0))
