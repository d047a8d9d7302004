-- Laws of the classes in their words, and of the counts, for any keys and any places. Assumes nothing.
use Prim.Native.Nat.{ℕ, suc, zero-le, ◌+◌, ◌/◌, ◌<◌, ◌≤◌}
use mathlib.Core.Path.{◌≡◌, refl, ap, ap₂, ◌∙◌, sym}
use mathlib.Core.List.{List, [], ◌∷◌}
use mathlib.Core.Bool.{Bool, true, false}
use mathlib.Core.Logic.{◌≢◌}
use native.Mathlib.Omega.{arith}
use native.Mathlib.Numerals.{add-one}
use lib.ListN.{length}
use lib.Dec.{eqb}
use borrow.Author.Tests.{eqb-true, eqb-false, lt-ltb, le-ltb}
use Rattle.spec_bytes.specs.words.Words.{get_word, put_word, pick, one_more}
use Rattle.spec_bytes.proofs.words.Laws.{put_length, get_put_same, get_put_other}
use Rattle.btf_open_names.specs.name_classes.Same.{same_list}
use Rattle.btf_open_names.proofs.name_classes.Names.{same_equal, same_from}
use Rattle.btf_open_names.specs.name_classes.Classes.{class_of, times_of, fill, noughts, with_classes, counted_all}
use Rattle.spec_type_table.specs.Cells.{with_more, count_after, count_raised}
use Rattle.btf_open_names.specs.name_classes.Claims.{Below}
use Rattle.btf_open_names.specs.name_classes.Table.{Places}
use Rattle.btf_open_names.proofs.name_classes.Fill.{fill_length, get_else, get_fill}
use Rattle.btf_open_names.proofs.name_classes.Laws.{by, class_le, class_key, class_same, class_again}

-- ---- what stands at each word
module _ (key : ℕ → List ℕ) (class bucket link : ℕ → ℕ) (n : ℕ) (w : List ℕ) where
  pub with_length : length (with_classes key class bucket link n w) ≡ length w
  unfolding with_classes
  with_length = fill_length class (class_of key) _ n ∙ fill_length link noughts _ n ∙ fill_length bucket noughts w n

  pub with_else : (i : ℕ) → ((h : ℕ) → h < n → i ≢ class h) → ((h : ℕ) → h < n → i ≢ bucket h) → ((h : ℕ) → h < n → i ≢ link h) → get_word (with_classes key class bucket link n w) i ≡ get_word w i
  unfolding with_classes
  with_else i oc ob ol = get_else class (class_of key) _ i n oc ∙ get_else link noughts _ i n ol ∙ get_else bucket noughts w i n ob

  module _ (P : Places class bucket link) (h : ℕ) (l : h < n) where
    pub with_class : class h < length w / 4 → get_word (with_classes key class bucket link n w) (class h) ≡ class_of key h
    unfolding with_classes
    with_class f = get_fill class P.class_one (class_of key) _ h n l (omega (arith, fill_length link noughts (fill bucket noughts w n) n, fill_length bucket noughts w n))

    pub with_bucket : bucket h < length w / 4 → get_word (with_classes key class bucket link n w) (bucket h) ≡ 0
    unfolding with_classes
    with_bucket f =
        get_else class (class_of key) _ (bucket h) n (λ k q. P.bucket_class h k)
        ∙ get_else link noughts _ (bucket h) n (λ k q. P.bucket_link h k)
        ∙ get_fill bucket P.bucket_one noughts w h n l f

    pub with_link : link h < length w / 4 → get_word (with_classes key class bucket link n w) (link h) ≡ 0
    unfolding with_classes
    with_link f =
        get_else class (class_of key) _ (link h) n (λ k q. P.link_class h k)
        ∙ get_fill link P.link_one noughts _ h n l (omega (arith, fill_length bucket noughts w n))

-- ---- how many of a list have a key
module _ (key : ℕ → List ℕ) where
  times_yes : (h k : ℕ) (hs : List ℕ) → key k ≡ key h → times_of key h (k ∷ hs) ≡ suc (times_of key h hs)
  unfolding times_of
  times_yes h k hs e = rw (← same_from _ _ e, times_of)

  times_no : (h k : ℕ) (hs : List ℕ) → key k ≢ key h → times_of key h (k ∷ hs) ≡ times_of key h hs
  unfolding times_of
  times_no h k hs n = by (same_list (key k) (key h)) _ (λ e. absurd (n (same_equal _ _ e))) (λ e. rw (e, times_of))

  times_key : (a b : ℕ) (hs : List ℕ) → key a ≡ key b → times_of key a hs ≡ times_of key b hs
  unfolding times_of
  times_key a b [] e = refl
  times_key a b (k ∷ hs) e = ap₂ (λ (x : List ℕ) (t : ℕ). pick (same_list (key k) x) (suc t) t) e (times_key a b hs e)

  times_le : (h : ℕ) (hs : List ℕ) → times_of key h hs ≤ length hs
  unfolding times_of
  times_le h [] = zero-le
  times_le h (k ∷ hs) = by (same_list (key k) (key h)) _ (λ e. omega (arith, times_yes h k hs (same_equal _ _ e), times_le h hs)) (λ e. omega (arith, times_no h k hs (λ q. other q e), times_le h hs))
    where
      other : key k ≡ key h → same_list (key k) (key h) ≡ false → ⊥
      other q e = let r : ◌≡◌ {A = Bool} true false = same_from _ _ q ∙ e in let z : ◌≡◌ {A = ℕ} 0 1 = cc in omega arith

-- ---- a count
module _ (w : List ℕ) (i x : ℕ) (e : x ≡ get_word w i) where
  pub more_below : x < 4294967295 → (x + 1 ≡ one_more (get_word w i)) × (put_word w i (x + 1) ≡ with_more w i)
  unfolding one_more with_more
  more_below l = let m : get_word w i < 4294967295 = rw e at l in rw (lt-ltb (get_word w i) 4294967295 m, with_more, ← e) (refl, refl)

  pub more_full : 4294967295 ≤ x → (x ≡ one_more (get_word w i)) × (w ≡ with_more w i)
  unfolding one_more with_more
  more_full l = let m : 4294967295 ≤ get_word w i = rw e at l in rw (le-ltb (get_word w i) 4294967295 m, with_more, ← e) (refl, refl)

module _ (class count : ℕ → ℕ) (w : List ℕ) (h i j c x : ℕ) (ei : i ≡ class h) (ec : c ≡ get_word w i) (ej : j ≡ count c) (ex : x ≡ get_word w j) where
  place_is : j ≡ count (get_word w (class h))
  place_is = ej ∙ ap count (ec ∙ ap (get_word w) ei)

  pub count_below : (u : List ℕ) → x < 4294967295 → u ≡ put_word w j (x + 1) → (x + 1 ≡ count_after class count w h) × (u ≡ count_raised class count w h)
  unfolding count_after count_raised
  count_below u l eu =
      let m : (x + 1 ≡ one_more (get_word w j)) × (put_word w j (x + 1) ≡ with_more w j) = more_below w j x ex l in
      (m.0 ∙ ap (λ (p : ℕ). one_more (get_word w p)) place_is, eu ∙ m.1 ∙ ap (with_more w) place_is)

  pub count_full : 4294967295 ≤ x → (x ≡ count_after class count w h) × (w ≡ count_raised class count w h)
  unfolding count_after count_raised
  count_full l =
      let m : (x ≡ one_more (get_word w j)) × (w ≡ with_more w j) = more_full w j x ex l in
      (m.0 ∙ ap (λ (p : ℕ). one_more (get_word w p)) place_is, m.1 ∙ ap (with_more w) place_is)

-- ---- the counts: after those of hs, each class has as many as hs has of its key
pub record Books (key : ℕ → List ℕ) (class count : ℕ → ℕ) (n : ℕ) (hs u : List ℕ) : Type 0 where
  pub room : (h : ℕ) → h < n → count h < length u / 4
  pub classes : (h : ℕ) → h < n → get_word u (class h) ≡ class_of key h
  pub counts : (c : ℕ) → c < n → class_of key c ≡ c → get_word u (count c) ≡ times_of key c hs

-- stores to other words leave the books as they are
pub books_kept : (key : ℕ → List ℕ) (class count : ℕ → ℕ) (n : ℕ) (hs u v : List ℕ) → Books key class count n hs u → length v ≡ length u → ((h : ℕ) → h < n → get_word v (class h) ≡ get_word u (class h)) → ((h : ℕ) → h < n → get_word v (count h) ≡ get_word u (count h)) → Books key class count n hs v
books_kept key class count n hs u v b l ec en =
    record {
      room = λ h q. rw l (b.room h q);
      classes = λ h q. ec h q ∙ b.classes h q;
      counts = λ c q r. en c q ∙ b.counts c q r;
    }

module _ (key : ℕ → List ℕ) (class count : ℕ → ℕ) (one : (i j : ℕ) → count i ≡ count j → i ≡ j) (apart : (i j : ℕ) → class i ≢ count j) (n : ℕ) where
  module _ (hs u : List ℕ) (b : Books key class count n hs u) (h : ℕ) (m : h < n) (l : length hs < 4294967295) where
    -- the count so far, at the class of h
    so_far : times_of key (class_of key h) hs ≡ get_word u (count (class_of key h))
    so_far = sym (b.counts (class_of key h) (omega (arith, class_le key h)) (class_again key h))

    next : (times_of key (class_of key h) hs + 1 ≡ count_after class count u h) × (put_word u (count (class_of key h)) (times_of key (class_of key h) hs + 1) ≡ count_raised class count u h)
    next = count_below class count u h (class h) (count (class_of key h)) (class_of key h) (times_of key (class_of key h) hs) refl (sym (b.classes h m)) refl so_far _ (omega (arith, times_le key (class_of key h) hs)) refl

    pub next_count : count_after class count u h ≡ suc (times_of key (class_of key h) hs)
    next_count = sym next.0 ∙ add-one _

    here : (c : ℕ) → c ≡ class_of key h → get_word (count_raised class count u h) (count c) ≡ times_of key c (h ∷ hs)
    here c e =
        rw (e, ← next.1)
        (get_put_same u (count (class_of key h)) (times_of key (class_of key h) hs + 1) (b.room (class_of key h) (omega (arith, class_le key h)))
        ∙ add-one _
        ∙ sym (times_yes key (class_of key h) h hs (sym (class_key key h))))

    there : (c : ℕ) → c < n → class_of key c ≡ c → c ≢ class_of key h → get_word (count_raised class count u h) (count c) ≡ times_of key c (h ∷ hs)
    there c q r o =
        rw (← next.1)
        (get_put_other u (count (class_of key h)) (count c) _ (λ e. o (one _ _ e))
        ∙ b.counts c q r
        ∙ sym (times_no key c h hs (λ e. o (sym r ∙ sym (class_same key h c e)))))

    pub books_more : Books key class count n (h ∷ hs) (count_raised class count u h)
    books_more =
        record {
          room = λ k q. rw (← next.1, put_length) (b.room k q);
          classes = λ k q. rw (← next.1) (get_put_other u (count (class_of key h)) (class k) _ (apart k _) ∙ b.classes k q);
          counts = λ c q r. by (eqb c (class_of key h)) _ (λ e. here c (eqb-true _ _ e)) (λ e. there c q r (eqb-false _ _ e));
        }

  pub books : (u hs : List ℕ) → Books key class count n [] u → Below n hs → length hs < 4294967295 → Books key class count n hs (counted_all class count u hs)
  unfolding counted_all
  books u [] b q m = b
  books u (h ∷ hs) b q m = books_more hs (counted_all class count u hs) (books u hs b q.1 (omega arith)) h q.0 (omega arith)

  pub count_law : (u hs : List ℕ) (h : ℕ) → Books key class count n [] u → Below n hs → h < n → length hs < 4294967295 → count_after class count (counted_all class count u hs) h ≡ suc (times_of key h hs)
  count_law u hs h b q m k =
      next_count hs (counted_all class count u hs) (books u hs b q k) h m k
      ∙ ap suc (times_key key (class_of key h) h hs (class_key key h))
