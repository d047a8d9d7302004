-- The leaders: a word for each id. Assumes nothing.
use Prim.Native.Nat.{ℕ, ◌+◌, ◌*◌, ◌/◌, ◌%◌, ◌<◌}
use mathlib.Core.Path.{◌≡◌, ap, ◌∙◌, sym}
use mathlib.Core.List.{List}
use mathlib.Core.Bool.{Bool, true, false}
use native.Mathlib.Omega.{arith}
use lib.Dec.{eqb}
use lib.ListN.{length, get_or, set}
use borrow.Author.Tests.{eq-eqb, ne_eqb}
use Rattle.std.proofs.Math.ListN.{get_or-map}
use Rattle.std.proofs.lemmas.List.{map-set, length-map}
use Rattle.c_dumper_dependency_order.specs.declared.leaders.Way.{Way}
use Rattle.c_dumper_dependency_order.specs.declared.leaders.Leader.{Leader}
use Rattle.c_dumper_dependency_order.specs.leaders.Leaders.{leader_word, leader_words, leader_on_way, word_at, has_leader, note_in, leader_in}

pub leader_same : (v : Way) (x : ℕ) → v.inner ≡ x → v.lead ≡ leader_on_way v x
unfolding leader_on_way
leader_same v x e = rw (eq-eqb v.inner x e, leader_on_way)

pub leader_other : (v : Way) (x : ℕ) → (v.inner ≡ x → ⊥) → v.inner ≡ leader_on_way v x
unfolding leader_on_way
leader_other v x n = rw (ne_eqb v.inner x n, leader_on_way)

-- ---- the leaders of the code as numbers
module _ (l : List Leader) (i : ℕ) where
  pub word_of : (v : Leader) → v ≡ get_or l i (record { turn = 0; lead = 0 }) → leader_word v ≡ word_at (leader_words l) i
  unfolding leader_word leader_words word_at
  word_of v k = ap leader_word k ∙ sym (get_or-map leader_word l i (record { turn = 0; lead = 0 }))

  pub word_set : (v : Leader) → leader_words (set l i v) ≡ set (leader_words l) i (leader_word v)
  unfolding leader_words
  word_set v = map-set leader_word l i v

module _ (v : Leader) (h : v.lead < 4294967296) where
  pub word_turn : leader_word v / 4294967296 ≡ v.turn
  unfolding leader_word
  word_turn = omega (arith, h)

  pub word_lead : leader_word v % 4294967296 ≡ v.lead
  unfolding leader_word
  word_lead = omega (arith, h)

pub words_length : (l : List Leader) → length (leader_words l) ≡ length l
unfolding leader_words
words_length l = length-map l leader_word

pub has_leader_is : (turn : ℕ) (l : List Leader) (x : ℕ) (v : Leader) → v.lead < 4294967296 → v ≡ get_or l x (record { turn = 0; lead = 0 }) → eqb v.turn turn ≡ has_leader turn (leader_words l) x
unfolding has_leader
has_leader_is turn l x v h e = ap (λ (k : ℕ). eqb k turn) (sym (word_turn v h) ∙ ap (λ (k : ℕ). k / 4294967296) (word_of l x v e))

pub leader_there : (req turn : ℕ) (l : List ℕ) (x : ℕ) (b : Bool) (n : ℕ) → b ≡ has_leader turn l x → b ≡ true → n ≡ word_at l x → n % 4294967296 ≡ leader_in req turn l x
unfolding leader_in
leader_there req turn l x b n e t en = ap (λ (k : ℕ). k % 4294967296) en ∙ ap (λ (y : Bool). elim y [ true ↦ word_at l x % 4294967296 | false ↦ req ]) (sym t ∙ e)

pub leader_none : (req turn : ℕ) (l : List ℕ) (x : ℕ) (b : Bool) → b ≡ has_leader turn l x → b ≡ false → req ≡ leader_in req turn l x
unfolding leader_in
leader_none req turn l x b e t = ap (λ (y : Bool). elim y [ true ↦ word_at l x % 4294967296 | false ↦ req ]) (sym t ∙ e)

pub note_again : (v : Way) (l : List ℕ) (x : ℕ) (b : Bool) → b ≡ has_leader v.turn l x → b ≡ true → l ≡ note_in v l x
unfolding note_in
note_again v l x b e t = ap (λ (y : Bool). elim y [ true ↦ l | false ↦ set l x (v.turn * 4294967296 + leader_on_way v x) ]) (sym t ∙ e)

pub note_new : (v : Way) (l : List ℕ) (x : ℕ) (b : Bool) → b ≡ has_leader v.turn l x → b ≡ false → (d : ℕ) → d ≡ leader_on_way v x → set l x (leader_word (record { turn = v.turn; lead = d })) ≡ note_in v l x
unfolding note_in leader_word
note_new v l x b e t d ed = ap (λ (n : ℕ). set l x (v.turn * 4294967296 + n)) ed ∙ ap (λ (y : Bool). elim y [ true ↦ l | false ↦ set l x (v.turn * 4294967296 + leader_on_way v x) ]) (sym t ∙ e)
