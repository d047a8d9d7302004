-- The claims. Assumes nothing.
use Prim.Native.Nat.{ℕ, ◌+◌, ◌-◌, ◌*◌, ◌/◌, ◌<◌}
use mathlib.Core.Path.{◌≡◌, refl, ◌∙◌, sym}
use mathlib.Core.List.{List, []}
use mathlib.Core.Logic.{⊎_elim}
use native.Mathlib.Omega.{arith}
use lib.ListN.{length}
use Rattle.std.proofs.lemmas.Bool.{cases_lt}
use Rattle.spec_bytes.specs.words.Words.{get_word}
use Rattle.spec_type_table.specs.declared.types.TypeTable.{TypeTable}
use Rattle.spec_type_table.specs.Cells.{place_of, class_p, count_p}
use Rattle.btf_open_names.specs.name_classes.Classes.{times_of, bucket_p, link_p, key_in, with_classes, table_classed}
use Rattle.btf_open_names.specs.name_classes.Claims.{First, Room, Words, Ledger}
use Rattle.btf_open_names.proofs.name_classes.Laws.{class_le, class_key, class_first, class_same}
use Rattle.btf_open_names.proofs.name_classes.Count.{with_length, with_else, with_class, with_bucket, with_link, Books, count_law}
use Rattle.btf_open_names.proofs.name_classes.Keys.{places, place_in, count_one, class_count, count_bucket, count_link, key_is, class_void, too_many, too_short, long_enough}

pub first : First
first =
    record {
      equal = class_key;
      earliest = λ key h c l e. omega (arith, class_first key c h (omega (arith, class_le key h)) e);
      one = class_same;
    }

module _ (b : TypeTable) (e : ℕ) (s w : List ℕ) where
  abbrev n : ℕ
  n = b.types + e

  abbrev class : ℕ → ℕ
  class = class_p b.types

  abbrev bucket : ℕ → ℕ
  bucket = bucket_p b.types

  abbrev link : ℕ → ℕ
  link = link_p b.types

  abbrev key : ℕ → List ℕ
  key = key_in b s w

  abbrev Filled : List ℕ
  Filled = with_classes key class bucket link n w

  filled : Room b e w → Filled ≡ table_classed b e s w
  filled r = long_enough b s e w n refl (omega (arith, r.numbered)) r.words

  -- of a thing that all cases share
  either : (P : List ℕ → Type 0) → P w → P Filled → P (table_classed b e s w)
  either P p q =
      ⊎_elim
      (λ l. rw (← too_many b s e w l) p)
      (λ l. ⊎_elim (λ m. rw (← too_short b s e w l m) p) (λ m. rw (← long_enough b s e w n refl l m) q) (cases_lt (length w / 4) (b.types * 16 + e * 8)))
      (cases_lt (4294967295 - b.types) e)

  inside : (f g : ℕ) → f < 16 → g < 8 → Room b e w → (h : ℕ) → h < n → place_of b.types f g h < length w / 4
  inside f g p q r h l = omega (arith, r.words, place_in b.types f g p q e h l)

  pub the_words : Words b e s w
  the_words =
      record {
        class = λ h r l. rw (← filled r) (with_class key class bucket link n w (places b.types) h l (inside 5 1 (omega arith) (omega arith) r h l));
        none = λ h r l z. rw (← filled r) (with_class key class bucket link n w (places b.types) h l (inside 5 1 (omega arith) (omega arith) r h l) ∙ class_void b s w h _ _ (key_is b s w h _ _ _ _ refl refl refl refl) z);
        bucket = λ h r l. rw (← filled r) (with_bucket key class bucket link n w (places b.types) h l (inside 7 3 (omega arith) (omega arith) r h l));
        link = λ h r l. rw (← filled r) (with_link key class bucket link n w (places b.types) h l (inside 8 4 (omega arith) (omega arith) r h l));
        else = λ i o. either (λ x. get_word x i ≡ get_word w i) refl (with_else key class bucket link n w i (λ h l. (o h l).0) (λ h l. (o h l).1) (λ h l. (o h l).2));
        long = either (λ x. length x ≡ length w) refl (with_length key class bucket link n w);
      }

  -- the books are open: no count yet
  pub opened : Room b e w → ((j : ℕ) → j < n → get_word w (count_p b.types j) ≡ 0) → Books key class (count_p b.types) n [] (table_classed b e s w)
  unfolding times_of
  opened r z =
      record {
        room = λ k q. rw the_words.long (inside 6 2 (omega arith) (omega arith) r k q);
        classes = λ k q. the_words.class k r q;
        counts = λ c q f. the_words.else (count_p b.types c) (λ j l. (λ v. class_count b.types j c (sym v), count_bucket b.types c j, count_link b.types c j)) ∙ z c q;
      }

pub ledger : Ledger
ledger b e s w hs h r z =
    count_law (key_in b s w) (class_p b.types) (count_p b.types) (count_one b.types) (class_count b.types) (b.types + e) (table_classed b e s w) hs h (opened b e s w r z)
