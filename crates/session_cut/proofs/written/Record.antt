-- A record that the code writes word by word is the renamed type in bytes, and the names that it meets are those of the type. Assumes nothing.
use Prim.Native.Nat.{ℕ, zero, suc, ◌+◌, ◌-◌, ◌*◌, ◌/◌, ◌%◌, ◌<◌, ◌≤◌}
use native.Mathlib.Omega.{arith}
use mathlib.Core.Path.{◌≡◌, refl, sym, ◌∙◌, ap, subst}
use mathlib.Core.Bool.{Bool, true, false}
use mathlib.Core.List.{List, [], ◌∷◌, ◌++◌, map, append_assoc}
use lib.ListN.{length, get_or}
use lib.Dec.{eqb}
use Rattle.std.proofs.lemmas.List.{append-nil}
use Rattle.spec_linux_btf.specs.Documentation.{in_bytes, Described, encode}
use Rattle.spec_linux_btf.specs.Reading.{Bytes, kind, shape, known}
use Rattle.spec_linux_btf.specs.Places.{kind_p, tabulate, type_p, sound_p}
use Rattle.spec_linux_btf.specs.Section as section
use Rattle.spec_linux_btf.specs.Section.{types_at, type_len_of, header_sound, types_sound}
use Rattle.spec_linux_btf.proofs.Claims.{section_fields, section_sound_at, words_fit}
use Rattle.spec_c_dumper.specs.rules.Types.{Name, is_empty}
use Rattle.spec_type_table.specs.declared.types.TypeTable.{TypeTable}
use Rattle.spec_type_table.specs.Names.{str_at}
use Rattle.spec_type_table.specs.Records.{section_word}
use Rattle.spec_type_table.proofs.Documented.{words_same}
use Rattle.btf_open_causes.specs.references.Followed.{entry_at, place_of as place_at, kind_at, type_count}
use Rattle.btf_open_causes.specs.header.Header.{btf_of}
use Rattle.btf_open_causes.proofs.header.Headers.{order_is}
use Rattle.spec_opening.specs.Table.{described_in, types_of, record_place, record_kind, index_of}
use Rattle.spec_opening.specs.Causes.{table_of}
use Rattle.spec_opening.proofs.Index.{types_few, table_count, followed_place, followed_kind}
use Rattle.spec_cut.specs.section.Kept.{void_type}
use Rattle.spec_cut.specs.section.Renumbered.{renamed}
use Rattle.spec_cut.specs.section.Strings.{mentions}
use Rattle.spec_cut.proofs.reopened.Followed.{sound_known}
use Rattle.session_cut_marks.specs.roles.Words.{fixed_words, entry_words, role, words_in, word_of}
use Rattle.session_cut_marks.specs.mentioned.Names.{place_from, place_of}
use Rattle.session_cut.specs.writer.Bytes.{word_bytes, new_word, record_bytes}
use Rattle.session_cut.specs.items.Items.{Item, nm, tid, raw, item, act, flat, name_item, items}
use Rattle.session_cut.proofs.items.Described.{put, encode_items, mentions_items}
use Rattle.session_cut.proofs.items.Places.{words_of_lem}
use Rattle.session_cut.specs.stored.Mentioned.{word_name, names_to}

-- one word more
flat_last : {A : Type 0} (f : Item → List A) (g : ℕ → Item) (k n : ℕ) → flat f (tabulate g k (suc n)) ≡ flat f (tabulate g k n) ++ f (g (k + n))
flat_last f g k zero = let z : k ≡ k + 0 = omega arith in append-nil (f (g k)) ∙ ap (λ (i : ℕ). f (g i)) z
flat_last f g k (suc n) =
    let z : suc k + n ≡ k + suc n = omega arith in
    ap (λ l. f (g k) ++ l) (flat_last f g (suc k) n ∙ ap (λ (i : ℕ). flat f (tabulate g (suc k) n) ++ f (g i)) z)
    ∙ sym (append_assoc (f (g k)) (flat f (tabulate g (suc k) n)) (f (g (k + suc n))))

-- a word in four bytes
pub word_bytes_lem : (big : Bool) (v : ℕ) → v < 4294967296 → word_bytes big v ≡ in_bytes big 4 v
unfolding word_bytes
word_bytes_lem true v h =
    let a : v / 16777216 ≡ v / 16777216 % 256 = omega (arith, h) in
    let c : v % 256 ≡ v / 1 % 256 = omega arith in
    λ i. a i ∷ v / 65536 % 256 ∷ v / 256 % 256 ∷ c i ∷ []
word_bytes_lem false v h =
    let a : v / 65536 % 256 ≡ v / 256 / 256 % 256 = omega arith in
    let c : v / 16777216 ≡ v / 256 / 256 / 256 % 256 = omega (arith, h) in
    λ i. v % 256 ∷ v / 256 % 256 ∷ a i ∷ c i ∷ []

module _ (b : TypeTable) (s : List ℕ) where
  -- word j of the record with entry e
  abbrev pub code_item : ℕ → ℕ → Item
  code_item e j = item (role (e % 32) j) (word_of b s e j)

  -- ---- the names

  abbrev pub name_of_item : Item → List Name
  name_of_item (nm n) = str_at b s n ∷ []
  name_of_item (tid x) = []
  name_of_item (raw v) = []

  word_name_lem : (e j : ℕ) → word_name b s e j ≡ name_of_item (code_item e j)
  unfolding word_name item
  word_name_lem e j = go (eqb (role (e % 32) j) 1) (eqb (role (e % 32) j) 2)
    where
      go : (p q : Bool) → ◌≡◌ {A = List Name} (elim p [ true ↦ str_at b s (word_of b s e j) ∷ [] | false ↦ [] ])
          (name_of_item (elim p as (λ z. Item) [ true ↦ nm (word_of b s e j) | false ↦ elim q as (λ z. Item) [ true ↦ tid (word_of b s e j) | false ↦ raw (word_of b s e j) ] ]))
      go true q = refl
      go false true = refl
      go false false = refl

  names_flat : (e n : ℕ) → names_to b s e n ≡ flat name_of_item (tabulate (code_item e) 0 n)
  unfolding names_to
  names_flat e zero = refl
  names_flat e (suc n) =
      let z : 0 + n ≡ n = omega arith in
      (λ i. names_flat e n i ++ word_name_lem e n i)
      ∙ ap (λ (k : ℕ). flat name_of_item (tabulate (code_item e) 0 n) ++ name_of_item (code_item e k)) (sym z)
      ∙ sym (flat_last name_of_item (code_item e) 0 n)

  flat_names : (its : List Item) → flat name_of_item its ≡ map (str_at b s) (flat name_item its)
  flat_names [] = refl
  flat_names (nm n ∷ its) = ap (λ (l : List Name). str_at b s n ∷ l) (flat_names its)
  flat_names (tid x ∷ its) = flat_names its
  flat_names (raw v ∷ its) = flat_names its

  -- ---- the bytes

  module _ (start ids bases : List ℕ) (small : (q : ℕ) → section_word b s q < 4294967296) (low : (x : ℕ) → get_or ids x 0 ≤ x) where
    -- the new numbers and the new offsets of the code
    abbrev pub code_id : ℕ → ℕ
    code_id x = get_or ids x 0

    abbrev pub code_offset : ℕ → ℕ
    code_offset n = place_of b s start ids bases n

    word_act : (e j : ℕ) → new_word b s start ids bases e j ≡ act code_id code_offset (code_item e j)
    unfolding new_word item
    word_act e j = go (eqb (role (e % 32) j) 1) (eqb (role (e % 32) j) 2)
      where
        go : (p q : Bool) → ◌≡◌ {A = ℕ} (elim p [ true ↦ code_offset (word_of b s e j) | false ↦ elim q [ true ↦ code_id (word_of b s e j) | false ↦ word_of b s e j ] ])
            (act code_id code_offset (elim p as (λ z. Item) [ true ↦ nm (word_of b s e j) | false ↦ elim q as (λ z. Item) [ true ↦ tid (word_of b s e j) | false ↦ raw (word_of b s e j) ] ]))
        go true q = refl
        go false true = refl
        go false false = refl

    offset_small : (n : ℕ) → code_offset n < 4294967296
    unfolding place_of
    offset_small n = go (is_empty (str_at b s n))
      where
        go : (q : Bool) → (elim q as (λ z. ℕ) [ true ↦ 0 | false ↦ place_from b s start ids bases n 0 (type_count b) % 4294967296 ]) < 4294967296
        go true = omega arith
        go false = omega arith

    word_small : (e j : ℕ) → new_word b s start ids bases e j < 4294967296
    unfolding new_word word_of
    word_small e j = go (eqb (role (e % 32) j) 1) (eqb (role (e % 32) j) 2)
      where
        go : (p q : Bool) → (elim p as (λ z. ℕ) [ true ↦ code_offset (section_word b s (e / 32 + j * 4)) | false ↦ elim q as (λ z. ℕ) [ true ↦ code_id (section_word b s (e / 32 + j * 4)) | false ↦ section_word b s (e / 32 + j * 4) ] ]) < 4294967296
        go true q = offset_small (section_word b s (e / 32 + j * 4))
        go false true = omega (arith, low (section_word b s (e / 32 + j * 4)), small (e / 32 + j * 4))
        go false false = small (e / 32 + j * 4)

    record_bytes_lem : (e n : ℕ) → record_bytes b s start ids bases e n ≡ flat (put b.big_endian code_id code_offset) (tabulate (code_item e) 0 n)
    unfolding record_bytes
    record_bytes_lem e zero = refl
    record_bytes_lem e (suc n) =
        let z : 0 + n ≡ n = omega arith in
        let w : word_bytes b.big_endian (new_word b s start ids bases e n) ≡ put b.big_endian code_id code_offset (code_item e n) =
        word_bytes_lem b.big_endian (new_word b s start ids bases e n) (word_small e n) ∙ ap (in_bytes b.big_endian 4) (word_act e n) in
        (λ i. record_bytes_lem e n i ++ w i)
        ∙ ap (λ (k : ℕ). flat (put b.big_endian code_id code_offset) (tabulate (code_item e) 0 n) ++ put b.big_endian code_id code_offset (code_item e k)) (sym z)
        ∙ sym (flat_last (put b.big_endian code_id code_offset) (code_item e) 0 n)

-- ---- in a section

module _ (p : ℕ) (s : List ℕ) (y : Bytes s) (h : header_sound s ≡ true) (t : types_sound s ≡ true) where
  abbrev b : TypeTable
  b = table_of p s

  abbrev ts : List Described
  ts = described_in s

  few : types_of s ≤ 262145
  few = types_few s h t

  reads : section_word b s ≡ section.word_of s
  unfolding table_of
  reads = words_same (btf_of s p 0 (types_of s)) s (order_is s p 0 (types_of s))

  pub order : b.big_endian ≡ section.is_big_endian s
  unfolding table_of
  order = order_is s p 0 (types_of s)

  pub count_is : type_count b ≡ suc (length ts)
  unfolding table_of types_of
  count_is = table_count s few p 0

  pub words_small : (q : ℕ) → section_word b s q < 4294967296
  words_small q = subst (λ (w : ℕ → ℕ). w q < 4294967296) (sym reads) (words_fit s y q)

  module _ (i : ℕ) (l : i < length ts) where
    abbrev e : ℕ
    e = entry_at b (index_of s) (suc i)

    place_at_lem : e / 32 ≡ record_place s i
    unfolding table_of types_of place_at
    place_at_lem = let z : suc i - 1 ≡ i = omega arith in followed_place s few p 0 (suc i) (omega arith) (omega (arith, l)) ∙ ap (record_place s) z

    kind_at_lem : e % 32 ≡ record_kind s i
    unfolding table_of types_of kind_at
    kind_at_lem = let z : suc i - 1 ≡ i = omega arith in followed_kind s few p 0 (suc i) (omega arith) (omega (arith, l)) ∙ ap (record_kind s) z

    type_at : type_p (section.word_of s) (record_place s i) ≡ get_or ts i void_type
    unfolding record_place
    type_at = (section_fields s y h t).each i void_type l

    sound_at : sound_p (section.word_of s) (types_at s + type_len_of s) (record_place s i) ≡ true
    unfolding record_place
    sound_at = (section_sound_at s y h t i l).0

    known_at : known (shape (kind (record_kind s i))) ≡ true
    unfolding record_kind
    known_at = sound_known (section.word_of s) (types_at s + type_len_of s) (record_place s i) sound_at

    -- the words of record i are those of type i
    items_at : tabulate (code_item b s e) 0 (words_in b s e) ≡ items (get_or ts i void_type)
    unfolding words_in word_of record_kind kind_p
    items_at =
        (λ r. tabulate (λ j. item (role (kind_at_lem r) j) (reads r (place_at_lem r + j * 4))) 0 (fixed_words (kind_at_lem r) + entry_words (kind_at_lem r) * (reads r (place_at_lem r + 4) % 65536)))
        ∙ words_of_lem (section.word_of s) (record_place s i) (types_at s + type_len_of s) sound_at (record_kind s i) refl known_at
        ∙ ap items type_at

    -- THE RECORD: the renamed type
    pub record_is : (ids bases : List ℕ) (low : (x : ℕ) → get_or ids x 0 ≤ x)
        → record_bytes b s (index_of s) ids bases e (words_in b s e) ≡ encode b.big_endian (renamed (λ x. get_or ids x 0) (λ n. place_of b s (index_of s) ids bases n) (get_or ts i void_type))
    record_is ids bases low =
        record_bytes_lem b s (index_of s) ids bases words_small low e (words_in b s e)
        ∙ ap (flat (put b.big_endian (λ x. get_or ids x 0) (λ n. place_of b s (index_of s) ids bases n))) items_at
        ∙ sym (encode_items b.big_endian (λ x. get_or ids x 0) (λ n. place_of b s (index_of s) ids bases n) (get_or ts i void_type))

    -- and its names
    pub names_are : names_to b s e (words_in b s e) ≡ map (str_at b s) (mentions (get_or ts i void_type))
    names_are =
        names_flat b s e (words_in b s e)
        ∙ ap (flat (name_of_item b s)) items_at
        ∙ flat_names b s (items (get_or ts i void_type))
        ∙ ap (map (str_at b s)) (sym (mentions_items (get_or ts i void_type)))
