-- Types that are renamed alike have the same bytes; and the same length, however they are renamed. The header. Assumes nothing.
use Prim.Native.Nat.{ℕ, suc, ◌+◌, ◌/◌, ◌%◌, ◌<◌}
use native.Mathlib.Omega.{arith}
use mathlib.Core.Path.{◌≡◌, refl, sym, ◌∙◌, ap, subst}
use mathlib.Core.Bool.{Bool, true, false}
use mathlib.Core.List.Memᴰ
use mathlib.Core.List.{List, [], ◌∷◌, ◌++◌, map, Memᴰ}
use lib.ListN.{length, length-append}
use Rattle.spec_linux_btf.specs.Documentation.{in_bytes, size_of, btf_header, btf_version, Described, encode, encode_all, header, encode_header}
use Rattle.spec_c_dumper.specs.rules.Types.{Name}
use Rattle.spec_c_dumper.specs.rules.Names.{same_bytes}
use Rattle.spec_c_dumper.proofs.rules.Names.{bytes_self}
use Rattle.spec_type_table.specs.Names.{name_at}
use Rattle.spec_cut.specs.section.Renumbered.{renamed, renamed_all}
use Rattle.spec_cut.specs.section.Strings.{mentions, all_mentions, has, add_name, add_all}
use Rattle.session_cut.specs.writer.Bytes.{magic_bytes, head_bytes}
use Rattle.session_cut.specs.items.Items.{Item, nm, tid, raw, flat, name_item, items}
use Rattle.session_cut.proofs.items.Described.{put, encode_items, mentions_items}
use Rattle.session_cut.specs.stored.Mentioned.{store, or_else}
use Rattle.session_cut.proofs.written.Record.{word_bytes_lem}

-- ---- parts of a list

-- ---- renamed types

module _ (big : Bool) (i o i' o' : ℕ → ℕ) where
  flat_long : (its : List Item) → length (flat (put big i o) its) ≡ length (flat (put big i' o') its)
  flat_long [] = refl
  flat_long (x ∷ its) = ap (λ (k : ℕ). suc (suc (suc (suc k)))) (flat_long its)

  pub types_long : (ts : List Described) → length (encode_all big (renamed_all i o ts)) ≡ length (encode_all big (renamed_all i' o' ts))
  unfolding encode_all
  types_long [] = refl
  types_long (t ∷ ts) =
      length-append (encode big (renamed i o t)) (encode_all big (renamed_all i o ts))
      ∙ (λ j. (ap length (encode_items big i o t) ∙ flat_long (items t) ∙ sym (ap length (encode_items big i' o' t))) j + types_long ts j)
      ∙ sym (length-append (encode big (renamed i' o' t)) (encode_all big (renamed_all i' o' ts)))

  -- alike on the names that are mentioned
  module _ (same : (x : ℕ) → i x ≡ i' x) where
    flat_alike : (its : List Item) → ((n : ℕ) → Memᴰ n (flat name_item its) → o n ≡ o' n) → flat (put big i o) its ≡ flat (put big i' o') its
    flat_alike [] h = refl
    flat_alike (nm n ∷ its) h = λ j. in_bytes big 4 (h n (Memᴰ.head refl) j) ++ flat_alike its (λ k e. h k (Memᴰ.tail e)) j
    flat_alike (tid x ∷ its) h = λ j. in_bytes big 4 (same x j) ++ flat_alike its h j
    flat_alike (raw v ∷ its) h = ap (λ (l : List ℕ). in_bytes big 4 v ++ l) (flat_alike its h)

    type_alike : (t : Described) → ((n : ℕ) → Memᴰ n (mentions t) → o n ≡ o' n) → encode big (renamed i o t) ≡ encode big (renamed i' o' t)
    type_alike t h = encode_items big i o t ∙ flat_alike (items t) (λ n k. h n (subst (λ (l : List ℕ). Memᴰ n l) (sym (mentions_items t)) k)) ∙ sym (encode_items big i' o' t)

    pub types_alike : (ts : List Described) → ((n : ℕ) → Memᴰ n (all_mentions ts) → o n ≡ o' n) → encode_all big (renamed_all i o ts) ≡ encode_all big (renamed_all i' o' ts)
    unfolding encode_all all_mentions
    types_alike [] h = refl
    types_alike (t ∷ ts) h = λ j. type_alike t (λ n k. h n (Memᴰ.append_left (all_mentions ts) k)) j ++ types_alike ts (λ n k. h n (Memᴰ.append_right (mentions t) k)) j

-- ---- names

-- names read at offsets, stored one by one
pub store_all : (f : ℕ → Name) (old : List ℕ) (ss : List Name) (ns : List ℕ) → ((n : ℕ) → Memᴰ n ns → f n ≡ name_at old n) → store ss (map f ns) ≡ add_all old ss ns
unfolding store add_all
store_all f old ss [] h = refl
store_all f old ss (n ∷ ns) h = ap (λ (x : Name). store (add_name ss x) (map f ns)) (h n (Memᴰ.head refl)) ∙ store_all f old (add_name ss (name_at old n)) ns (λ k e. h k (Memᴰ.tail e))

pub mem_has : (f : ℕ → Name) (ns : List ℕ) (n : ℕ) → Memᴰ n ns → has (map f ns) (f n) ≡ true
unfolding has
mem_has f [] n k = absurd (Memᴰ.not-nil k)
mem_has f (x ∷ ns) n (Memᴰ.head e) = ap (λ (q : Bool). or_else q (has (map f ns) (f n))) (ap (λ (v : ℕ). same_bytes (f x) (f v)) e ∙ bytes_self (f x))
mem_has f (x ∷ ns) n (Memᴰ.tail k) = go (same_bytes (f x) (f n)) (mem_has f ns n k)
  where
    go : (q : Bool) → has (map f ns) (f n) ≡ true → or_else q (has (map f ns) (f n)) ≡ true
    go true e = refl
    go false e = e

-- ---- the header

magic_is : (flags : ℕ) → flags < 256 → (flags ≡ flags / 1 % 256) × (flags ≡ flags % 256)
magic_is flags h =
    let a : flags ≡ flags / 1 % 256 = omega (arith, h) in
    let c : flags ≡ flags % 256 = omega (arith, h) in
    (a, c)

pub head_is : (big : Bool) (flags types strings : ℕ) → flags < 256 → types < 4294967296 → strings < 4294967296
    → head_bytes big flags types strings ≡ encode_header big (header btf_version flags (size_of btf_header) 0 types types strings)
unfolding head_bytes magic_bytes encode_header
head_is true flags types strings f t s =
    let a = (magic_is flags f).0 in
    λ j.
    (((((235 ∷ 159 ∷ 1 ∷ a j ∷ []) ++ word_bytes_lem true 24 (omega arith) j) ++ word_bytes_lem true 0 (omega arith) j) ++ word_bytes_lem true types t j) ++ word_bytes_lem true types t j) ++ word_bytes_lem true strings s j
head_is false flags types strings f t s =
    let a = (magic_is flags f).1 in
    λ j.
    (((((159 ∷ 235 ∷ 1 ∷ a j ∷ []) ++ word_bytes_lem false 24 (omega arith) j) ++ word_bytes_lem false 0 (omega arith) j) ++ word_bytes_lem false types t j) ++ word_bytes_lem false types t j) ++ word_bytes_lem false strings s j
