-- A walk along a bucket finds the first holder that is the base. Assumes nothing.
use Prim.Native.Nat.{ℕ, zero, suc, ◌+◌, ◌-◌, ◌%◌, ◌≤◌, ◌<◌}
use mathlib.Core.Path.{◌≡◌, refl, ap, ap₂, ◌∙◌, sym}
use mathlib.Core.List.{List, [], ◌∷◌}
use mathlib.Core.Bool.{Bool, true, false, true≢false}
use mathlib.Core.Logic.{⊎_elim, ◌≢◌}
use native.Mathlib.Omega.{arith}
use native.Mathlib.Nat.{mod-lt}
use native.Mathlib.Numerals.{add-one}
use lib.Dec.{eqb}
use borrow.Author.Tests.{ne_eqb, lt-leb}
use Rattle.std.proofs.lemmas.Bool.{cases_lt}
use Rattle.spec_bytes.specs.words.Words.{get_word, pick}
use Rattle.spec_type_table.specs.declared.types.TypeTable.{TypeTable}
use Rattle.spec_type_table.specs.Names.{name_at}
use Rattle.btf_open_names.specs.name_classes.Classes.{record_p, space_at, name_of, key_of, key_in}
use Rattle.btf_open_names.specs.name_classes.Table.{hash_from, hash_key, bucket_of}
use Rattle.btf_open_names.specs.filled_work.Takers.{suffix_on, base_from}
use Rattle.btf_open_names.proofs.filled_work.Holders.{keys_apart, keys_none, keys_some, base_found, base_turn}
use Rattle.btf_open_names.specs.suffixes.Before.{hash_before}
use Rattle.btf_open_names.proofs.suffixes.Before.{before_is}
use Rattle.btf_open_names.specs.hash_table.Hashed.{first_p, later_p, space_in, falls, first_from, first_of, Table}
use Rattle.btf_open_names.proofs.hash_table.Laws.{falls_in, falls_out, later_is}

-- ---- a base stands in the bucket of what is before the suffix
key_hash : (s : List ℕ) (x a : ℕ) → x ≢ 2 → hash_key (key_of s x a) ≡ hash_from x (name_at s a)
unfolding key_of hash_key
key_hash s x a o = ap (λ (t : Bool). hash_key (x ∷ elim t as (λ z. List ℕ) [ true ↦ [] | false ↦ name_at s a ])) (ne_eqb x 2 o)

space_key : (s : List ℕ) (x a : ℕ) → space_in (key_of s x a) ≡ x
unfolding key_of
space_key s x a = refl

bucket_by : (key : ℕ → List ℕ) (n c r : ℕ) → hash_key (key c) ≡ r → bucket_of key n c ≡ r % n
unfolding bucket_of
bucket_by key n c r q = ap (λ (v : ℕ). v % n) q

module _ (key : ℕ → List ℕ) (n h : ℕ) (s : List ℕ) (y d : ℕ) (eh : key_of s y d ≡ key h) (r : ℕ) (er : r ≡ hash_before y (name_at s d)) where
  base_falls : (c x a : ℕ) → key_of s x a ≡ key c → 2 ≤ suffix_on (key c) (key h) → falls key n (r % n) c ≡ true
  base_falls c x a ec g =
      let e : suffix_on (key_of s x a) (key_of s y d) ≡ suffix_on (key c) (key h) = ap₂ suffix_on ec eh in
      let same : x ≡ y = ⊎_elim (λ l. absurd (omega (arith, e, keys_apart s x a y d (λ q. omega arith)))) (λ l. ⊎_elim (λ m. absurd (omega (arith, e, keys_apart s x a y d (λ q. omega arith)))) (λ m. omega arith) (cases_lt x y)) (cases_lt y x) in
      let some : x ≢ 2 = λ q. omega (arith, e, keys_none s x a y d same q) in
      let names : 2 ≤ suffix_on (name_at s a) (name_at s d) = omega (arith, e, keys_some s x a y d (suffix_on (name_at s a) (name_at s d)) same some refl) in
      falls_in key n (r % n) c
      (λ q. some (sym (space_key s x a) ∙ ap space_in ec ∙ q))
      (bucket_by key n c r (ap hash_key (sym ec) ∙ key_hash s x a some ∙ before_is x (name_at s a) (name_at s d) names ∙ ap (λ (v : ℕ). hash_before v (name_at s d)) same ∙ sym er))

-- ---- where a walk along bucket j, for holder h, stands: at holder c, or at the end
pub record Seek (key : ℕ → List ℕ) (h n j c : ℕ) : Type 0 where
  pub done : c ≡ 0 → 0 ≡ base_from key h (n - 1) 1
  pub left : (c ≡ 0 → ⊥) → base_from key h (n - 1) 1 ≡ base_from key h (n - c) c
  pub below : (c ≡ 0 → ⊥) → c < n
  pub there : (c ≡ 0 → ⊥) → falls key n j c ≡ true

module _ (key : ℕ → List ℕ) (h n j : ℕ) where
  first_from_lem : (f k : ℕ) → (first_from key n j f k ≡ 0 → ⊥) → k ≤ first_from key n j f k
  unfolding first_from
  first_from_lem zero k z = absurd (z refl)
  first_from_lem (suc f) k z = go (first_from_lem f (suc k)) (falls key n j k) z
    where
      go : ((first_from key n j f (suc k) ≡ 0 → ⊥) → suc k ≤ first_from key n j f (suc k)) → (t : Bool)
          → (◌≡◌ {A = ℕ} (elim t as (λ z. ℕ) [ true ↦ k | false ↦ first_from key n j f (suc k) ]) 0 → ⊥) → k ≤ elim t as (λ z. ℕ) [ true ↦ k | false ↦ first_from key n j f (suc k) ]
      go below true z = omega arith
      go below false z = let l : suc k ≤ first_from key n j f (suc k) = below z in omega arith

  skip : (f k : ℕ) → suffix_on (key k) (key h) < 2 → base_from key h (suc f) k ≡ base_from key h f (suc k)
  unfolding base_from
  skip f k l = ap (λ (t : Bool). elim t as (λ z. ℕ) [ true ↦ k | false ↦ base_from key h f (suc k) ]) (lt-leb 2 (suffix_on (key k) (key h)) l)

  module _ (fall : (c : ℕ) → 2 ≤ suffix_on (key c) (key h) → falls key n j c ≡ true) (c : ℕ) where
    seek_from : (f k : ℕ) → f + k ≡ n → 1 ≤ k → base_from key h (n - 1) 1 ≡ base_from key h f k → c ≡ first_from key n j f k → Seek key h n j c
    unfolding first_from base_from
    seek_from zero k en l inv e = record { done = λ z. sym inv; left = λ z. absurd (z e); below = λ z. absurd (z e); there = λ z. absurd (z e) }
    seek_from (suc f) k en l inv e = go (λ i q. seek_from f (suc k) (omega arith) (omega arith) i q) (falls key n j k) refl e
      where
        go : (base_from key h (n - 1) 1 ≡ base_from key h f (suc k) → c ≡ first_from key n j f (suc k) → Seek key h n j c) → (t : Bool) → falls key n j k ≡ t
            → c ≡ elim t as (λ z. ℕ) [ true ↦ k | false ↦ first_from key n j f (suc k) ] → Seek key h n j c
        go on true t q =
            let m : suc f ≡ n - k = omega arith in
            record {
              done = λ z. absurd (omega arith);
              left = λ z. inv ∙ ap (λ (g : ℕ). base_from key h g k) m ∙ ap (λ (x : ℕ). base_from key h (n - x) x) (sym q);
              below = λ z. omega arith;
              there = λ z. ap (falls key n j) q ∙ t;
            }
        go on false t q =
            on (inv ∙ skip f k (⊎_elim (λ g. g) (λ g. absurd (true≢false (sym (fall k g) ∙ t))) (cases_lt (suffix_on (key k) (key h)) 2))) q

-- ---- base_in, turn by turn
module _ (b : TypeTable) (s w : List ℕ) (n h : ℕ) (T : Table b s w n) (y d : ℕ) (eh : key_of s y d ≡ key_in b s w h) (r : ℕ) (er : r ≡ hash_before y (name_at s d)) where
  abbrev key : ℕ → List ℕ
  key = key_in b s w

  fall : (c : ℕ) → 2 ≤ suffix_on (key c) (key h) → falls key n (r % n) c ≡ true
  unfolding key_in
  fall c = base_falls key n h s y d eh r er c (space_at b s (get_word w (record_p b.types c)) c) (name_of b s (get_word w (record_p b.types c))) refl

  pub seek_start : (c : ℕ) → 0 < n → c ≡ get_word w (first_p b.types (r % n)) → Seek key h n (r % n) c
  unfolding first_of
  seek_start c l e =
      seek_from key h n (r % n) fall c (n - 1) 1 (omega arith) (omega arith) refl (e ∙ T.firsts (r % n) (mod-lt r l))

  module _ (c : ℕ) (S : Seek key h n (r % n) c) (z : c ≡ 0 → ⊥) where
    next_is : (next : ℕ) → next ≡ get_word w (later_p b.types c) → next ≡ first_from key n (r % n) (n - suc c) (suc c)
    unfolding first_of
    next_is next e =
        let p = falls_out key n (r % n) c (S.there z) in
        e ∙ T.laters c (S.below z) ∙ later_is key n 1 c (omega arith) p.0 ∙ ap (λ (j : ℕ). first_from key n j (n - suc c) (suc c)) p.1

    pub seek_less : (next : ℕ) → next ≡ get_word w (later_p b.types c) → pick (eqb next 0) 0 (n - next) < pick (eqb c 0) 0 (n - c)
    seek_less next e =
        let b : c < n = S.below z in
        rw (ne_eqb c 0 z) (⊎_elim (λ (l : 0 < next). on b (further l)) (λ (l : next ≤ 0). end b l) (cases_lt 0 next))
      where
        end : c < n → next ≤ 0 → pick (eqb next 0) 0 (n - next) < n - c
        end b l = let q : next ≡ 0 = omega arith in rw q (omega arith)

        further : 0 < next → suc c ≤ next
        further l =
            let q : next ≡ first_from key n (r % n) (n - suc c) (suc c) = next_is next e in
            rw q (first_from_lem key h n (r % n) (n - suc c) (suc c) (λ x. omega arith))

        on : c < n → suc c ≤ next → pick (eqb next 0) 0 (n - next) < n - c
        on b l = rw (ne_eqb next 0 (λ x. omega arith)) (omega arith)

    module _ (m : ℕ) (em : m ≡ suffix_on (key c) (key h)) where
      pub seek_found : 2 ≤ m → c ≡ base_from key h (n - 1) 1
      seek_found g = base_found key h n (base_from key h (n - 1) 1) c (S.left z) m (S.below z) em g

      pub seek_turn : (next : ℕ) → m < 2 → next ≡ get_word w (later_p b.types c) → Seek key h n (r % n) next
      seek_turn next g e =
          let l : c < n = S.below z in
          seek_from key h n (r % n) fall next (n - suc c) (suc c) (omega arith) (omega arith)
          (base_turn key h n (base_from key h (n - 1) 1) c (S.left z) m l em g ∙ ap (λ (x : ℕ). base_from key h (n - x) x) (add-one c))
          (next_is next e)
