-- The hash table in the scratch words, as it stands before holder k: how the classes are found, and no part of what is found.
use Rattle.std.specs.Prelude.{ℕ, zero, suc, ◌+◌, ◌*◌, ◌%◌, ◌<◌, ◌≡◌, List, [], ◌∷◌, Bool, true, false, ◌≢◌, eqb}
use Rattle.spec_bytes.specs.words.Words.{get_word, put_word, pick}
use Rattle.spec_type_table.specs.declared.types.TypeTable.{TypeTable}
use Rattle.btf_open_names.specs.name_classes.Classes.{class_of, fill, bucket_p, link_p, key_in}
use Rattle.spec_type_table.specs.Cells.{class_p}

-- a hash; another one would change no class
abbrev pub step_of : ℕ → ℕ → ℕ
step_of acc x = (acc * 16777619 + x) % 4294967296

unfoldable pub hash_from : ℕ → List ℕ → ℕ
hash_from acc [] = acc
hash_from acc (x ∷ l) = hash_from (step_of acc x) l

unfoldable pub hash_key : List ℕ → ℕ
hash_key [] = 0
hash_key (x ∷ l) = hash_from x l

-- the bucket of holder h, of n
unfoldable pub bucket_of : (ℕ → List ℕ) → ℕ → ℕ → ℕ
bucket_of key n h = hash_key (key h) % n

-- whether holder m stands in the chain of bucket j: the first of its class, with that bucket; holder 0 stands in none
unfoldable pub stands : (ℕ → List ℕ) → ℕ → ℕ → ℕ → Bool
stands key n j zero = false
stands key n j (suc m) = elim (eqb (class_of key (suc m)) (suc m)) [ true ↦ eqb (bucket_of key n (suc m)) j | false ↦ false ]

-- one more than the last holder before m that stands in the chain of bucket j, or 0
unfoldable pub last_of : (ℕ → List ℕ) → ℕ → ℕ → ℕ → ℕ
last_of key n j zero = 0
last_of key n j (suc m) = pick (stands key n j m) (suc m) (last_of key n j m)

-- the link of holder h
unfoldable pub next_of : (ℕ → List ℕ) → ℕ → ℕ → ℕ
next_of key n h = pick (eqb (class_of key h) h) (last_of key n (bucket_of key n h) h) 0

-- where the words of a holder stand: no two at one place
pub record Places (class bucket link : ℕ → ℕ) : Type 0 where
  pub class_one : (i j : ℕ) → class i ≡ class j → i ≡ j
  pub bucket_one : (i j : ℕ) → bucket i ≡ bucket j → i ≡ j
  pub link_one : (i j : ℕ) → link i ≡ link j → i ≡ j
  pub bucket_class : (i j : ℕ) → bucket i ≢ class j
  pub link_class : (i j : ℕ) → link i ≢ class j
  pub bucket_link : (i j : ℕ) → bucket i ≢ link j

-- the table holds the k holders before k
pub record Ready (key : ℕ → List ℕ) (bucket link : ℕ → ℕ) (n k : ℕ) (w : List ℕ) : Type 0 where
  pub below : k < n
  pub heads : (j : ℕ) → j < n → get_word w (bucket j) ≡ last_of key n j k
  pub links : (c : ℕ) → c < k → get_word w (link c) ≡ next_of key n c

-- the same at some n, b is the bucket of k, and k is not of the class of holder 0
pub record Finds (key : ℕ → List ℕ) (bucket link : ℕ → ℕ) (k b : ℕ) (w : List ℕ) : Type 0 where
  pub n : ℕ
  pub ready : Ready key bucket link n k w
  pub chain : b ≡ bucket_of key n k
  pub other : class_of key k ≢ 0

-- holder k put into the table, and its class into its word; in the class of holder 0 it stays out of the table
unfoldable pub placed : (ℕ → List ℕ) → (class bucket link : ℕ → ℕ) → ℕ → ℕ → List ℕ → List ℕ
placed key class bucket link n k w =
    elim (eqb (class_of key k) 0) [
      | true ↦ put_word (put_word w (link k) 0) (class k) 0
      | false ↦ put_word
          (put_word
          (put_word w (link k) (next_of key n k))
          (bucket (bucket_of key n k))
          (last_of key n (bucket_of key n k) (k + 1)))
          (class k)
          (class_of key k)
    ]

-- the work before holder k
unfoldable pub state_of : (ℕ → List ℕ) → (class bucket link : ℕ → ℕ) → ℕ → ℕ → List ℕ → List ℕ
state_of key class bucket link n k w = fill class (class_of key) (fill link (next_of key n) (fill bucket (λ j. last_of key n j k) w n) k) k

-- ---- the same of types and enumerators
abbrev pub HoldersReady : TypeTable → List ℕ → List ℕ → ℕ → ℕ → Type 0
HoldersReady b s w n k = Ready (key_in b s w) (bucket_p b.types) (link_p b.types) n k w

abbrev pub HolderFinds : TypeTable → List ℕ → List ℕ → ℕ → ℕ → Type 0
HolderFinds b s w k j = Finds (key_in b s w) (bucket_p b.types) (link_p b.types) k j w

abbrev pub holder_placed : TypeTable → List ℕ → List ℕ → ℕ → ℕ → List ℕ
holder_placed b s w n k = placed (key_in b s w) (class_p b.types) (bucket_p b.types) (link_p b.types) n k w
