-- The memory that is a function, and questions in a row from a memory in which nothing is remembered. Assumes nothing.
use Prim.Native.Nat.{ℕ, ◌+◌, ◌<◌, ◌≤◌}
use mathlib.Core.Path.{◌≡◌, refl, ap, ◌∙◌, sym, subst}
use mathlib.Core.Bool.{Bool, true, false, ◌&&◌}
use mathlib.Core.List.{List, Memᴰ}
use mathlib.Core.Logic.{◌⊎◌, inl, inr}
use lib.Dec.{ltb, eqb}
use borrow.Author.Tests.{lt-ltb, eq-eqb, ne_eqb}
use Rattle.spec_c_dumper.specs.rules.Types.{Btf, node_of}
use Rattle.spec_c_dumper.specs.needs.Needs.{kids}
use Rattle.spec_c_dumper.specs.alignment_once.Once.{Remembered, Known, known, Lawful, Once, found, refused, ask_once, align_once, list_once, list_plain, Table, table_keep, blank, members_to, paid_to}
use Rattle.spec_c_dumper.proofs.alignment_once.Right.{known_unknown}
use Rattle.spec_c_dumper.proofs.alignment_once.Counted.{paid_none}
use Rattle.spec_c_dumper.proofs.alignment_once.Fair.{Nothing, no_more, at_most, Fair, fair_list}

abbrev pub Any : Table → Type 0
Any m = Unit {0}

abbrev pub Each : Remembered → Type 0
Each s = Unit {0}

-- what is recalled, by the test of `remember`
abbrev chosen : Remembered → Known → Bool → Known
chosen s q b = elim b [ true ↦ known s | false ↦ q ]

pub table_lawful : (n : ℕ) → Lawful (table_keep n) n Any Each
table_lawful n = record {
  kept = λ id s m. here id s m (ltb id n) refl;
  other = λ id s m d ne. ap (chosen s (m d)) (off d id (ltb id n) ne);
  same = λ id s m f g l. ap (chosen s (m id)) (on id (ltb id n) ∙ lt-ltb id n l);
  good = λ id s m g. tt;
}
  where
    on : (id : ℕ) (b : Bool) → (eqb id id && b) ≡ b
    on id b = ap (λ (c : Bool). c && b) (eq-eqb id id refl)

    off : (d id : ℕ) (b : Bool) → (d ≡ id → ⊥) → (eqb d id && b) ≡ false
    off d id b ne = ap (λ (c : Bool). c && b) (ne_eqb d id ne)

    here : (id : ℕ) (s : Remembered) (m : Table) (b : Bool) → ltb id n ≡ b → ((table_keep n).recall ((table_keep n).remember id s m) id ≡ known s) ⊎ ((table_keep n).recall ((table_keep n).remember id s m) id ≡ m id)
    here id s m true e = inl (ap (chosen s (m id)) (on id (ltb id n) ∙ e))
    here id s m false e = inr (ap (chosen s (m id)) (on id (ltb id n) ∙ e))

-- alignments in a row, of ids below the count and with at most 512 calls: the plain way's answers up to the first refusal; and where there is none, visits that are those of the types
-- remembered and their members
module _ (B : Btf) (below : (x y : ℕ) → Memᴰ y (kids (node_of (B.type_by_id x))) → y < B.type_cnt) (asks : List (ℕ × ℕ)) (inside : (a : ℕ × ℕ) → Memᴰ a asks → (a.0 ≤ 512) × (a.1 < B.type_cnt)) where
  abbrev asked : Once Table (List ℕ)
  asked = list_once (table_keep B.type_cnt) B asks blank 0

  fair : Fair (table_keep B.type_cnt) B B.type_cnt Any Each (table_lawful B.type_cnt) (λ id s t l. tt) below Nothing (λ left id b m k l r g a. no_more (align_once (table_keep B.type_cnt) left B id m k)) (list_plain B asks) asked
  fair = fair_list (table_keep B.type_cnt) B B.type_cnt Any Each (table_lawful B.type_cnt) (λ id s t l. tt) below Nothing (λ left id b m k l r g a. no_more (align_once (table_keep B.type_cnt) left B id m k)) asks inside blank 0 (record {
    right = λ id s e. absurd (known_unknown s e);
    good = tt;
    visits = sym (paid_none B blank (λ id. refl) B.type_cnt);
    also = tt;
  })

  pub same_answers : ask_once asked ≡ list_plain B asks
  unfolding ask_once
  same_answers = by asked fair
    where
      by : (r : Once Table (List ℕ)) → Fair (table_keep B.type_cnt) B B.type_cnt Any Each (table_lawful B.type_cnt) (λ id s t l. tt) below Nothing (λ left id b m k l r g a. no_more (align_once (table_keep B.type_cnt) left B id m k)) (list_plain B asks) r → ask_once r ≡ list_plain B asks
      by (found l m k) f = sym f.0
      by (refused c m k) f = sym f

  -- "at most types plus members"
  abbrev Few : Once Table (List ℕ) → Type 0
  Few (found l m k) = (k ≡ paid_to B m B.type_cnt) × (k ≤ B.type_cnt + members_to B B.type_cnt)
  Few (refused c m k) = Unit {0}

  pub few_visits : (l : List ℕ) (m : Table) (k : ℕ) → asked ≡ found l m k → (k ≡ paid_to B m B.type_cnt) × (k ≤ B.type_cnt + members_to B B.type_cnt)
  few_visits l m k e = subst Few e (by asked fair)
    where
      by : (r : Once Table (List ℕ)) → Fair (table_keep B.type_cnt) B B.type_cnt Any Each (table_lawful B.type_cnt) (λ id s t l. tt) below Nothing (λ left id b m k l r g a. no_more (align_once (table_keep B.type_cnt) left B id m k)) (list_plain B asks) r → Few r
      by (found l' m' k') f = (f.1.visits, at_most (table_keep B.type_cnt) B B.type_cnt Any Each (table_lawful B.type_cnt) (λ id s t l. tt) below Nothing (λ left id b m k l r g a. no_more (align_once (table_keep B.type_cnt) left B id m k)) m' k' f.1)
      by (refused c m' k') f = tt
