-- What a count and a version change in the work. Assumes nothing.
use Prim.Native.Nat.{ℕ, ◌+◌, ◌*◌, ◌/◌, ◌<◌}
use mathlib.Core.Path.{◌≡◌, refl, ap, ◌∙◌}
use mathlib.Core.Bool.{Bool, true, false}
use mathlib.Core.List.{List}
use mathlib.Core.Logic.{◌≢◌}
use native.Mathlib.Omega.{arith}
use lib.ListN.{length}
use lib.Dec.{ltb}
use Rattle.spec_bytes.specs.words.Words.{get_word, put_word, pick, one_more}
use Rattle.spec_bytes.proofs.words.Laws.{put_length, get_put_same, get_put_other}
use Rattle.spec_type_table.specs.declared.types.TypeTable.{TypeTable}
use Rattle.spec_type_table.specs.Cells.{get_field, put_field, place_of, class_p, count_p, with_more, count_after, count_raised}
use Rattle.spec_type_table.specs.Numbers.{head_p, next_p, taken_p, taken_at, number_over, number_at}
use Rattle.btf_open_names.proofs.numbers.Lists.{taken_same}
use Rattle.spec_type_table.proofs.Laws.{place_type}
use Rattle.spec_type_table.proofs.Frame.{count_4, count_12, field_other, more_length, more_other}
use Rattle.btf_open_names.specs.name_classes.Classes.{record_p, key_in, class_of}
use Rattle.btf_open_names.proofs.name_classes.Laws.{class_le}
use Rattle.btf_open_names.proofs.name_classes.Keys.{place_in, place_apart, count_one, class_count}
use Rattle.proof_demands.specs.name_counts.Indexed.{Indexed, CountsKept}

-- ---- one more at a word
module _ (w : List ℕ) (i : ℕ) where
  more_same : i < length w / 4 → get_word (with_more w i) i ≡ one_more (get_word w i)
  unfolding with_more one_more
  more_same l = go (ltb (get_word w i) 4294967295)
    where
      go : (t : Bool) → get_word (elim t as (λ z. List ℕ) [ true ↦ put_word w i (get_word w i + 1) | false ↦ w ]) i ≡ pick t (get_word w i + 1) (get_word w i)
      go true = get_put_same w i (get_word w i + 1) l
      go false = refl

-- ---- the work w after opening, the work v now
module _ (b : TypeTable) (e : ℕ) (s w : List ℕ) (I : Indexed b e s w) (v : List ℕ) (K : CountsKept b e s w v) where
  -- every word of a holder is in the work
  inside : (f g : ℕ) → f < 16 → g < 8 → (h : ℕ) → h < b.types + e → place_of b.types f g h < length v / 4
  inside f g p q h l = rw K.long (omega (arith, I.room.words, place_in b.types f g p q e h l))

  pub class_now : (h : ℕ) → h < b.types + e → get_word v (class_p b.types h) ≡ class_of (key_in b s w) h
  class_now h l = K.class h l ∙ I.class h l

  pub class_below : (h : ℕ) → h < b.types + e → class_of (key_in b s w) h < b.types + e
  class_below h l = omega (arith, class_le (key_in b s w) h)

  -- ---- a count
  module _ (h : ℕ) (l : h < b.types + e) where
    abbrev at : ℕ
    at = count_p b.types (class_of (key_in b s w) h)

    counted_is : count_raised (class_p b.types) (count_p b.types) v h ≡ with_more v at
    unfolding count_raised
    counted_is = ap (λ (c : ℕ). with_more v (count_p b.types c)) (class_now h l)

    pub count_is : count_after (class_p b.types) (count_p b.types) v h ≡ one_more (get_word v (count_p b.types (class_of (key_in b s w) h)))
    unfolding count_after
    count_is = ap (λ (c : ℕ). one_more (get_word v (count_p b.types c))) (class_now h l)

    -- the taken numbers are as opening listed them
    pub number_is : number_at b.types v h ≡ number_over (taken_at b.types w (class_of (key_in b s w) h)) (count_after (class_p b.types) (count_p b.types) v h)
    unfolding number_at
    number_is =
        ap (λ (l : List ℕ). number_over l (count_after (class_p b.types) (count_p b.types) v h))
        (ap (taken_at b.types v) (class_now h l) ∙ taken_same b.types v w K.nexts K.takens (class_of (key_in b s w) h) (K.heads (class_of (key_in b s w) h)))

    pub count_grows : get_word (count_raised (class_p b.types) (count_p b.types) v h) (count_p b.types (class_of (key_in b s w) h)) ≡ one_more (get_word v (count_p b.types (class_of (key_in b s w) h)))
    count_grows = ap (λ (u : List ℕ). get_word u at) counted_is ∙ more_same v at (inside 6 2 (omega arith) (omega arith) (class_of (key_in b s w) h) (class_below h l))

    count_else : (i : ℕ) → i ≢ at → get_word (count_raised (class_p b.types) (count_p b.types) v h) i ≡ get_word v i
    count_else i n = ap (λ (u : List ℕ). get_word u i) counted_is ∙ more_other v at i n

    pub count_stays : (c : ℕ) → c ≢ class_of (key_in b s w) h → get_word (count_raised (class_p b.types) (count_p b.types) v h) (count_p b.types c) ≡ get_word v (count_p b.types c)
    count_stays c n = count_else (count_p b.types c) (λ q. n (count_one b.types _ _ q))

    pub count_version : (id : ℕ) → get_field (count_raised (class_p b.types) (count_p b.types) v h) id 4 ≡ get_field v id 4
    count_version id = count_else (id * 16 + 4) (count_4 b.types _ id)

    pub count_kept : CountsKept b e s w (count_raised (class_p b.types) (count_p b.types) v h)
    count_kept = record {
      long = ap length counted_is ∙ more_length v at ∙ K.long;
      class = λ k q. count_else (class_p b.types k) (class_count b.types k _) ∙ K.class k q;
      place = λ k q. count_else (record_p b.types k) (place_apart b.types 0 0 6 2 (omega arith) k _) ∙ K.place k q;
      first = λ id q. count_else (id * 16 + 12) (count_12 b.types _ id) ∙ K.first id q;
      heads = λ k. count_else (head_p b.types k) (place_apart b.types 7 3 6 2 (omega arith) k _) ∙ K.heads k;
      nexts = λ k. count_else (next_p b.types k) (place_apart b.types 8 4 6 2 (omega arith) k _) ∙ K.nexts k;
      takens = λ k. count_else (taken_p b.types k) (place_apart b.types 14 6 6 2 (omega arith) k _) ∙ K.takens k;
    }

  -- ---- a version
  module _ (id n : ℕ) (l : id < b.types) where
    -- the version's word is as word 4 of a type, or word 5 of an enumerator
    version_else : (i : ℕ) → i ≢ place_of b.types 4 5 id → get_word (put_field v id 4 n) i ≡ get_word v i
    version_else i m = get_put_other v (id * 16 + 4) i n (λ q. m (q ∙ place_type b.types 4 5 id l))

    pub version_here : get_field (put_field v id 4 n) id 4 ≡ n
    version_here = get_put_same v (id * 16 + 4) n (rw (place_type b.types 4 5 id l) (inside 4 5 (omega arith) (omega arith) id (omega arith)))

    pub version_there : (j : ℕ) → j ≢ id → get_field (put_field v id 4 n) j 4 ≡ get_field v j 4
    version_there j m = get_put_other v (id * 16 + 4) (j * 16 + 4) n (λ q. m (omega arith))

    pub version_count : (c : ℕ) → get_word (put_field v id 4 n) (count_p b.types c) ≡ get_word v (count_p b.types c)
    version_count c = version_else (count_p b.types c) (place_apart b.types 6 2 4 5 (omega arith) c id)

    pub version_kept : CountsKept b e s w (put_field v id 4 n)
    version_kept = record {
      long = put_length v (id * 16 + 4) n ∙ K.long;
      class = λ k q. version_else (class_p b.types k) (place_apart b.types 5 1 4 5 (omega arith) k id) ∙ K.class k q;
      place = λ k q. version_else (record_p b.types k) (place_apart b.types 0 0 4 5 (omega arith) k id) ∙ K.place k q;
      first = λ j q. field_other v id 4 n j 12 (omega arith) (omega arith) (λ z. omega arith) ∙ K.first j q;
      heads = λ k. version_else (head_p b.types k) (place_apart b.types 7 3 4 5 (omega arith) k id) ∙ K.heads k;
      nexts = λ k. version_else (next_p b.types k) (place_apart b.types 8 4 4 5 (omega arith) k id) ∙ K.nexts k;
      takens = λ k. version_else (taken_p b.types k) (place_apart b.types 14 6 4 5 (omega arith) k id) ∙ K.takens k;
    }
