-- Lines that are the same but for the numbers of names, and have none, are equal. Assumes nothing.
use Prim.Native.Nat.{ℕ}
use mathlib.Core.Path.{◌≡◌, refl, sym, ◌∙◌, ap, subst}
use mathlib.Core.Bool.{Bool, true, false, true≢false}
use mathlib.Core.List.{List, [], ◌∷◌, ◌++◌, append_assoc}
use lib.Dec.{ltb}
use Rattle.spec_bytes.specs.text.Text.{ascii, Text, whole, cut, bytes}
use Rattle.spec_bytes.specs.text.Decimal.{decimal}
use Rattle.spec_c_dumper.specs.rules.Types.{Name}
use Rattle.spec_c_dumper.specs.rules.Names.{spelled, starts_with, contains}
use Rattle.spec_c_dumper.specs.rules.Writer.{Said, said_text, Writer}
use Rattle.spec_c_dumper.specs.rules.Types.{Btf}
use Rattle.spec_c_dumper.specs.rules.Emit.{definition, forward}
use Rattle.proof_two_headers.specs.Lines.{next_number, by_list, Written, same_body, same_leaf, same_once, Exact}
use Rattle.proof_two_headers.proofs.Until.{Until20, both_whole, both_cut, left_passed, Unlimited, Any, ButNumbers, at_end, same_byte, numbered, numbers_definition, numbers_forward}

abbrev Free : List ℕ → Type 0
Free s = contains (ascii "___") s ≡ false

free_tail : (b : ℕ) (s : List ℕ) → Free (b ∷ s) → Free s
unfolding contains
free_tail b s = go (starts_with (ascii "___") (b ∷ s))
  where
    go : (t : Bool) → ◌≡◌ {A = Bool} (elim t as (λ x. Bool) [ true ↦ true | false ↦ contains (ascii "___") s ]) false → Free s
    go true e = absurd (true≢false e)
    go false e = e

free_after : (a s : List ℕ) → Free (a ++ s) → Free s
free_after [] s e = e
free_after (b ∷ a) s e = free_after a s (free_tail b (a ++ s) e)

no_number : (s : List ℕ) → Free (ascii "___" ++ s) → ⊥
unfolding contains starts_with
no_number s e = true≢false e

-- a name that is spelled where no number stands is bare
bare : (name : Name) (v : ℕ) (s : List ℕ) → Free (spelled name v ++ s) → (spelled name v ≡ name) × Free s
unfolding spelled
bare name v s = go (ltb v 2)
  where
    go : (b : Bool) → Free ((elim b as (λ x. Name) [ true ↦ name | false ↦ name ++ ascii "___" ++ decimal v ]) ++ s)
        → ((elim b as (λ x. Name) [ true ↦ name | false ↦ name ++ ascii "___" ++ decimal v ]) ≡ name) × Free s
    go true e = (refl, free_after name s e)
    go false e =
        absurd (no_number (decimal v ++ s) (free_after name (ascii "___" ++ (decimal v ++ s))
        (sym (ap (contains (ascii "___")) (append_assoc (name ++ ascii "___") (decimal v) s ∙ append_assoc name (ascii "___") (decimal v ++ s))) ∙ e)))

bare_texts : (s t : List ℕ) → Free s → Free t → ButNumbers s t → s ≡ t
bare_texts _ _ f g at_end = refl
bare_texts _ _ f g (same_byte b s t h) = ap {B = List ℕ} (λ l. b ∷ l) (bare_texts s t (free_tail b s f) (free_tail b t g) h)
bare_texts _ _ f g (numbered name v w s t h) =
    let p = bare name v s f in
    let q = bare name w t g in
    ap (λ (n : Name). n ++ s) p.0 ∙ ap (λ (l : List ℕ). name ++ l) (bare_texts s t p.1 q.1 h) ∙ sym (ap (λ (n : Name). n ++ t) q.0)

pub list_free : Unlimited by_list
unfolding next_number
list_free = record { type_free = λ space id name l. free l; value_free = λ id i name l. free l }
  where
    free : (l : List ℕ) → (next_number l).passes ≡ false
    free [] = refl
    free (n ∷ l) = refl

bytes_same : (a b : List ℕ) → ◌≡◌ {A = Text} (whole a) (whole b) → a ≡ b
unfolding bytes
bytes_same a b e = ap bytes e

not_whole : (a : List ℕ) (c : ℕ) (b : List ℕ) → ◌≡◌ {A = Text} (cut a c) (whole b) → ⊥
not_whole a c b e = true≢false (ap is_cut e)
  where
    is_cut : Text → Bool
    is_cut (whole x) = false
    is_cut (cut x d) = true

whole_texts : {x y : Said (List ℕ)} → Until20 Any ButNumbers x y → (s t : List ℕ) → said_text x ≡ whole s → said_text y ≡ whole t → ButNumbers s t
unfolding said_text
whole_texts (both_whole u w a b k m r e) s t p q = subst (λ (z : List ℕ). ButNumbers z t) (bytes_same a s p) (subst (ButNumbers a) (bytes_same b t q) e)
whole_texts (both_cut u w a b k m c e) s t p q = absurd (not_whole a c s p)
whole_texts (left_passed u w a b x k m more e f) s t p q = absurd (not_whole a 20 s p)

numbers_of : (w : Writer (List ℕ)) → ((l m : List ℕ) → Until20 Any ButNumbers (w l) (w m)) → (s t : List ℕ) → Written w s → Written w t → ButNumbers s t
numbers_of w h s t a b = whole_texts (h a.numbers b.numbers) s t a.is b.is

module _ (B : Btf) where
  exactly : (w : Writer (List ℕ)) → ((l m : List ℕ) → Until20 Any ButNumbers (w l) (w m)) → (s t : List ℕ) → Written w s → Written w t → Free s → Free t → s ≡ t
  exactly w h s t a b f g = bare_texts s t f g (numbers_of w h s t a b)

  pub exact : Exact B
  exact _ _ (same_body x s t a b) f g = exactly (definition by_list B x (B.type_by_id x)) (numbers_definition by_list by_list list_free B x (B.type_by_id x)) s t a b f g
  exact _ _ (same_leaf x s t a b) f g = exactly (definition by_list B x (B.type_by_id x)) (numbers_definition by_list by_list list_free B x (B.type_by_id x)) s t a b f g
  exact _ _ (same_once x s t a b) f g = exactly (forward by_list B x (B.type_by_id x)) (numbers_forward by_list by_list list_free B x (B.type_by_id x)) s t a b f g
