-- The words that the code reads by its tables of roles are the words of the described type, by kind. w reads the word at a place, p is the place of a
-- record. Assumes nothing.
use Prim.Native.Nat.{ℕ, zero, suc, ◌+◌, ◌-◌, ◌*◌, ◌/◌, ◌%◌, ◌<◌, ◌≤◌}
use native.Mathlib.Omega.{arith}
use mathlib.Core.Path.{◌≡◌, refl, sym, ◌∙◌, ap}
use mathlib.Core.Bool.{Bool, true, false, true≢false}
use mathlib.Core.List.{List, [], ◌∷◌}
use borrow.Author.Tests.{le-ltb}
use Rattle.std.proofs.lemmas.List.{get_or_past}
use Rattle.spec_linux_btf.specs.Documentation.{pack, btf_info, btf_int, Member, enumerator, param, secinfo, enumerator64, Body, described, kind_of, vlen_of}
use Rattle.spec_linux_btf.specs.Reading.{kind_table, none, kind, shape, known}
use Rattle.spec_linux_btf.specs.Places.{member_p, tabulate, type_p, sound_p}
use Rattle.spec_linux_btf.specs.Fields.{info}
use Rattle.spec_linux_btf.proofs.Fields as F
use Rattle.spec_linux_btf.proofs.Types.{int_parts}
use Rattle.spec_type_table.proofs.KindLaws.{by_kind}
use Rattle.session_cut_marks.specs.roles.Words.{digit_at, fixed_words, entry_words, roles, column, role}
use Rattle.session_cut.specs.items.Items.{Item, nm, tid, raw, item, member_items, value_items, param_items, secinfo_items, value64_items, third_item, body_items, items}

-- ---- entries of two and of three words, from word 3 on

module _ {E : Type 0} (g : ℕ → Item) (entry : ℕ → E) (its : List E → List Item) (nil : its [] ≡ []) where
  triples : ((i : ℕ) (l : List E) → its (entry i ∷ l) ≡ g (3 + i * 3) ∷ g (suc (3 + i * 3)) ∷ g (suc (suc (3 + i * 3))) ∷ its l)
      → (i n : ℕ) → tabulate g (3 + i * 3) (n * 3) ≡ its (tabulate entry i n)
  triples step i zero = let a : zero * 3 ≡ 0 = omega arith in ap (tabulate g (3 + i * 3)) a ∙ sym nil
  triples step i (suc n) =
      let a : suc n * 3 ≡ suc (suc (suc (n * 3))) = omega arith in
      let c : suc (suc (suc (3 + i * 3))) ≡ 3 + suc i * 3 = omega arith in
      ap (tabulate g (3 + i * 3)) a
      ∙ ap (λ (k : ℕ). g (3 + i * 3) ∷ g (suc (3 + i * 3)) ∷ g (suc (suc (3 + i * 3))) ∷ tabulate g k (n * 3)) c
      ∙ ap (λ (l : List Item). g (3 + i * 3) ∷ g (suc (3 + i * 3)) ∷ g (suc (suc (3 + i * 3))) ∷ l) (triples step (suc i) n)
      ∙ sym (step i (tabulate entry (suc i) n))

  pairs : ((i : ℕ) (l : List E) → its (entry i ∷ l) ≡ g (3 + i * 2) ∷ g (suc (3 + i * 2)) ∷ its l)
      → (i n : ℕ) → tabulate g (3 + i * 2) (n * 2) ≡ its (tabulate entry i n)
  pairs step i zero = let a : zero * 2 ≡ 0 = omega arith in ap (tabulate g (3 + i * 2)) a ∙ sym nil
  pairs step i (suc n) =
      let a : suc n * 2 ≡ suc (suc (n * 2)) = omega arith in
      let c : suc (suc (3 + i * 2)) ≡ 3 + suc i * 2 = omega arith in
      ap (tabulate g (3 + i * 2)) a
      ∙ ap (λ (k : ℕ). g (3 + i * 2) ∷ g (suc (3 + i * 2)) ∷ tabulate g k (n * 2)) c
      ∙ ap (λ (l : List Item). g (3 + i * 2) ∷ g (suc (3 + i * 2)) ∷ l) (pairs step (suc i) n)
      ∙ sym (step i (tabulate entry (suc i) n))

column_3 : (j i c : ℕ) → j ≡ 3 + i * 3 + c → c < 3 → column 3 j ≡ 3 + c
unfolding column
column_3 j i c e l =
    let z : 3 + (j - 3) % 3 ≡ 3 + c = omega (arith, e, l) in
    ap (λ (q : Bool). elim q as (λ t. ℕ) [ true ↦ j | false ↦ 3 + (j - 3) % 3 ]) (le-ltb j 3 (omega (arith, e))) ∙ z

column_2 : (j i c : ℕ) → j ≡ 3 + i * 2 + c → c < 2 → column 2 j ≡ 3 + c
unfolding column
column_2 j i c e l =
    let z : 3 + (j - 3) % 2 ≡ 3 + c = omega (arith, e, l) in
    ap (λ (q : Bool). elim q as (λ t. ℕ) [ true ↦ j | false ↦ 3 + (j - 3) % 2 ]) (le-ltb j 3 (omega (arith, e))) ∙ z

module _ (w : ℕ → ℕ) (p : ℕ) where
  -- word j of a record of kind k
  abbrev pub word_item : ℕ → ℕ → Item
  word_item k j = item (role k j) (w (p + j * 4))

  -- word c of entry i
  of_three : (k j i c q : ℕ) → entry_words k ≡ 3 → j ≡ 3 + i * 3 + c → c < 3 → q ≡ p + 12 + i * 12 + c * 4 → word_item k j ≡ item (digit_at roles (k * 6 + (3 + c))) (w q)
  unfolding role
  of_three k j i c q h e l f =
      let a : column (entry_words k) j ≡ 3 + c = ap (λ (n : ℕ). column n j) h ∙ column_3 j i c e l in
      let d : p + j * 4 ≡ q = omega (arith, e, f) in
      λ t. item (digit_at roles (k * 6 + a t)) (w (d t))

  of_two : (k j i c q : ℕ) → entry_words k ≡ 2 → j ≡ 3 + i * 2 + c → c < 2 → q ≡ p + 12 + i * 8 + c * 4 → word_item k j ≡ item (digit_at roles (k * 6 + (3 + c))) (w q)
  unfolding role
  of_two k j i c q h e l f =
      let a : column (entry_words k) j ≡ 3 + c = ap (λ (n : ℕ). column n j) h ∙ column_2 j i c e l in
      let d : p + j * 4 ≡ q = omega (arith, e, f) in
      λ t. item (digit_at roles (k * 6 + a t)) (w (d t))

  three : (k i : ℕ) → entry_words k ≡ 3 → (l : List Item)
      → word_item k (3 + i * 3) ∷ word_item k (suc (3 + i * 3)) ∷ word_item k (suc (suc (3 + i * 3))) ∷ l
      ≡ item (digit_at roles (k * 6 + 3)) (w (p + 12 + i * 12)) ∷ item (digit_at roles (k * 6 + 4)) (w (p + 12 + i * 12 + 4)) ∷ item (digit_at roles (k * 6 + 5)) (w (p + 12 + i * 12 + 8)) ∷ l
  three k i h l =
      let a = of_three k (3 + i * 3) i 0 (p + 12 + i * 12) h (omega arith) (omega arith) (omega arith) in
      let c = of_three k (suc (3 + i * 3)) i 1 (p + 12 + i * 12 + 4) h (omega arith) (omega arith) (omega arith) in
      let d = of_three k (suc (suc (3 + i * 3))) i 2 (p + 12 + i * 12 + 8) h (omega arith) (omega arith) (omega arith) in
      λ t. a t ∷ c t ∷ d t ∷ l

  two : (k i : ℕ) → entry_words k ≡ 2 → (l : List Item)
      → word_item k (3 + i * 2) ∷ word_item k (suc (3 + i * 2)) ∷ l
      ≡ item (digit_at roles (k * 6 + 3)) (w (p + 12 + i * 8)) ∷ item (digit_at roles (k * 6 + 4)) (w (p + 12 + i * 8 + 4)) ∷ l
  two k i h l =
      let a = of_two k (3 + i * 2) i 0 (p + 12 + i * 8) h (omega arith) (omega arith) (omega arith) in
      let c = of_two k (suc (3 + i * 2)) i 1 (p + 12 + i * 8 + 4) h (omega arith) (omega arith) (omega arith) in
      λ t. a t ∷ c t ∷ l

  -- ---- members, values, parameters, variables

  member_item : (f q : ℕ) (l : List Member) → member_items f (member_p f w q ∷ l) ≡ nm (w q) ∷ tid (w (q + 4)) ∷ raw (w (q + 8)) ∷ member_items f l
  member_item zero q l = refl
  member_item (suc f) q l =
      let x : ℕ = w (q + 8) in
      let e : x % 16777216 * 1 + (x / 16777216 * 16777216 + 0) ≡ x = omega arith in
      λ t. nm (w q) ∷ tid (w (q + 4)) ∷ raw (e t) ∷ member_items (suc f) l

  from_three : (g : ℕ → Item) (n : ℕ) → tabulate g 3 (n * 3) ≡ tabulate g (3 + 0 * 3) (n * 3)
  from_three g n = let e : 3 ≡ 3 + 0 * 3 = omega arith in ap (λ (k : ℕ). tabulate g k (n * 3)) e

  from_two : (g : ℕ → Item) (n : ℕ) → tabulate g 3 (n * 2) ≡ tabulate g (3 + 0 * 2) (n * 2)
  from_two g n = let e : 3 ≡ 3 + 0 * 2 = omega arith in ap (λ (k : ℕ). tabulate g k (n * 2)) e

  members_4 : (f n : ℕ) → tabulate (word_item 4) 3 (n * 3) ≡ member_items f (tabulate (λ j. member_p f w (p + 12 + j * 12)) 0 n)
  unfolding entry_words digit_at roles item
  members_4 f n =
      from_three (word_item 4) n
      ∙ triples (word_item 4) (λ j. member_p f w (p + 12 + j * 12)) (member_items f) refl (λ i l. member_item f (p + 12 + i * 12) l ∙ sym (three 4 i refl (member_items f l))) 0 n

  members_5 : (f n : ℕ) → tabulate (word_item 5) 3 (n * 3) ≡ member_items f (tabulate (λ j. member_p f w (p + 12 + j * 12)) 0 n)
  unfolding entry_words digit_at roles item
  members_5 f n =
      from_three (word_item 5) n
      ∙ triples (word_item 5) (λ j. member_p f w (p + 12 + j * 12)) (member_items f) refl (λ i l. member_item f (p + 12 + i * 12) l ∙ sym (three 5 i refl (member_items f l))) 0 n

  values : (n : ℕ) → tabulate (word_item 6) 3 (n * 2) ≡ value_items (tabulate (λ j. enumerator (w (p + 12 + j * 8)) (w (p + 12 + j * 8 + 4))) 0 n)
  unfolding entry_words digit_at roles item
  values n =
      from_two (word_item 6) n
      ∙ pairs (word_item 6) (λ j. enumerator (w (p + 12 + j * 8)) (w (p + 12 + j * 8 + 4))) value_items refl (λ i l. sym (two 6 i refl (value_items l))) 0 n

  params : (n : ℕ) → tabulate (word_item 13) 3 (n * 2) ≡ param_items (tabulate (λ j. param (w (p + 12 + j * 8)) (w (p + 12 + j * 8 + 4))) 0 n)
  unfolding entry_words digit_at roles item
  params n =
      from_two (word_item 13) n
      ∙ pairs (word_item 13) (λ j. param (w (p + 12 + j * 8)) (w (p + 12 + j * 8 + 4))) param_items refl (λ i l. sym (two 13 i refl (param_items l))) 0 n

  secinfos : (n : ℕ) → tabulate (word_item 15) 3 (n * 3) ≡ secinfo_items (tabulate (λ j. secinfo (w (p + 12 + j * 12)) (w (p + 12 + j * 12 + 4)) (w (p + 12 + j * 12 + 8))) 0 n)
  unfolding entry_words digit_at roles item
  secinfos n =
      from_three (word_item 15) n
      ∙ triples (word_item 15) (λ j. secinfo (w (p + 12 + j * 12)) (w (p + 12 + j * 12 + 4)) (w (p + 12 + j * 12 + 8))) secinfo_items refl (λ i l. sym (three 15 i refl (secinfo_items l))) 0 n

  values64 : (n : ℕ) → tabulate (word_item 19) 3 (n * 3) ≡ value64_items (tabulate (λ j. enumerator64 (w (p + 12 + j * 12)) (w (p + 12 + j * 12 + 4)) (w (p + 12 + j * 12 + 8))) 0 n)
  unfolding entry_words digit_at roles item
  values64 n =
      from_three (word_item 19) n
      ∙ triples (word_item 19) (λ j. enumerator64 (w (p + 12 + j * 12)) (w (p + 12 + j * 12 + 4)) (w (p + 12 + j * 12 + 8))) value64_items refl (λ i l. sym (three 19 i refl (value64_items l))) 0 n

  -- ---- by kind

  module _ (len : ℕ) (h : sound_p w len p ≡ true) where
    -- three words, and the rest
    assemble : (k rest f : ℕ) (body : Body) → type_p w p ≡ described (w p) f (w (p + 8)) body → word_item k 0 ≡ nm (w (p + 0)) → word_item k 1 ≡ raw (w (p + 4))
        → word_item k 2 ≡ third_item body (w (p + 8)) → tabulate (word_item k) 3 rest ≡ body_items f body → (n : ℕ) → n ≡ suc (suc (suc rest)) → tabulate (word_item k) 0 n ≡ items (type_p w p)
    unfolding info items
    assemble k rest f body e a0 a1 a2 a3 n q =
        let z : p + 0 ≡ p = omega arith in
        let inf : pack btf_info (vlen_of body ∷ kind_of body ∷ f ∷ []) ≡ w (p + 4) = sym (ap info e) ∙ F.info_word w p len h in
        let b0 : word_item k 0 ≡ nm (w p) = a0 ∙ ap (λ (y : ℕ). nm (w y)) z in
        let b1 : word_item k 1 ≡ raw (pack btf_info (vlen_of body ∷ kind_of body ∷ f ∷ [])) = a1 ∙ ap raw (sym inf) in
        ap (tabulate (word_item k) 0) q ∙ (λ t. b0 t ∷ b1 t ∷ a2 t ∷ a3 t) ∙ ap items (sym e)

    abbrev v : ℕ
    v = w (p + 4) % 65536

    abbrev f : ℕ
    f = w (p + 4) / 2147483648

    abbrev Words : ℕ → Type 0
    Words k = w (p + 4) / 16777216 % 32 ≡ k → known (shape (kind k)) ≡ true → tabulate (word_item k) 0 (fixed_words k + entry_words k * v) ≡ items (type_p w p)

    past : (k : ℕ) → 20 ≤ k → known (shape (kind k)) ≡ true → ⊥
    unfolding kind
    past k l e = true≢false (sym (sym (ap (λ n. known (shape n)) (get_or_past kind_table k none l)) ∙ e))

    no_more : 3 + 0 * v ≡ 3
    no_more = omega arith

    one_more : 4 + 0 * v ≡ 4
    one_more = omega arith

    three_more : 6 + 0 * v ≡ 6
    three_more = omega arith

    by_twos : 3 + 2 * v ≡ suc (suc (suc (v * 2)))
    by_twos = omega arith

    by_threes : 3 + 3 * v ≡ suc (suc (suc (v * 3)))
    by_threes = omega arith

    int_rest : raw (w (p + 12)) ∷ [] ≡ raw (pack btf_int (w (p + 12) % 256 ∷ w (p + 12) / 256 % 256 ∷ w (p + 12) / 65536 % 256 ∷ w (p + 12) / 16777216 % 16 ∷ w (p + 12) / 268435456 ∷ [])) ∷ []
    int_rest = ap (λ (x : ℕ). raw x ∷ []) (sym (int_parts (w (p + 12))))

    array_rest : tid (w (p + 12)) ∷ tid (w (p + 16)) ∷ raw (w (p + 20)) ∷ [] ≡ tid (w (p + 12)) ∷ tid (w (p + 12 + 4)) ∷ raw (w (p + 12 + 8)) ∷ []
    array_rest =
        let a : p + 16 ≡ p + 12 + 4 = omega arith in
        let c : p + 20 ≡ p + 12 + 8 = omega arith in
        λ t. tid (w (p + 12)) ∷ tid (w (a t)) ∷ raw (w (c t)) ∷ []

    pub words_of_lem : (k : ℕ) → Words k
    unfolding fixed_words entry_words digit_at roles column role item kind
    words_of_lem =
        by_kind Words
        (λ e q. absurd (true≢false (sym q)))
        (λ e q. assemble 1 1 f _ (F.type-INT w p e) refl refl refl int_rest _ one_more)
        (λ e q. assemble 2 0 f _ (F.type-PTR w p e) refl refl refl refl _ no_more)
        (λ e q. assemble 3 3 f _ (F.type-ARRAY w p e) refl refl refl array_rest _ three_more)
        (λ e q. assemble 4 (v * 3) f _ (F.type-STRUCT w p e) refl refl refl (members_4 f v) _ by_threes)
        (λ e q. assemble 5 (v * 3) f _ (F.type-UNION w p e) refl refl refl (members_5 f v) _ by_threes)
        (λ e q. assemble 6 (v * 2) f _ (F.type-ENUM w p e) refl refl refl (values v) _ by_twos)
        (λ e q. assemble 7 0 f _ (F.type-FWD w p e) refl refl refl refl _ no_more)
        (λ e q. assemble 8 0 f _ (F.type-TYPEDEF w p e) refl refl refl refl _ no_more)
        (λ e q. assemble 9 0 f _ (F.type-VOLATILE w p e) refl refl refl refl _ no_more)
        (λ e q. assemble 10 0 f _ (F.type-CONST w p e) refl refl refl refl _ no_more)
        (λ e q. assemble 11 0 f _ (F.type-RESTRICT w p e) refl refl refl refl _ no_more)
        (λ e q. assemble 12 0 f _ (F.type-FUNC w p e) refl refl refl refl _ no_more)
        (λ e q. assemble 13 (v * 2) f _ (F.type-FUNC-PROTO w p e) refl refl refl (params v) _ by_twos)
        (λ e q. assemble 14 1 f _ (F.type-VAR w p e) refl refl refl refl _ one_more)
        (λ e q. assemble 15 (v * 3) f _ (F.type-DATASEC w p e) refl refl refl (secinfos v) _ by_threes)
        (λ e q. assemble 16 0 f _ (F.type-FLOAT w p e) refl refl refl refl _ no_more)
        (λ e q. assemble 17 1 f _ (F.type-DECL-TAG w p e) refl refl refl refl _ one_more)
        (λ e q. assemble 18 0 f _ (F.type-TYPE-TAG w p e) refl refl refl refl _ no_more)
        (λ e q. assemble 19 (v * 3) f _ (F.type-ENUM64 w p e) refl refl refl (values64 v) _ by_threes)
        (λ k l e q. absurd (past k l q))
