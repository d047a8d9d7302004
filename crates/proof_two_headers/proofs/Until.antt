-- What a line says with the names of a session that shares a ledger, and with other names: texts that stand for each other, or the same refusal, until a
-- name passes the reserve. Assumes nothing.
use Prim.Native.Nat.{ℕ}
use mathlib.Core.Path.{◌≡◌, refl, sym, ◌∙◌, ap, ap₂, subst}
use mathlib.Core.Bool.{Bool, true, false}
use mathlib.Core.List.{List, [], ◌∷◌, ◌++◌, append-nil, append_assoc}
use Rattle.spec_bytes.specs.text.Text.{ascii, Text, whole, cut, join, bytes}
use Rattle.spec_c_dumper.specs.rules.Writer.{Said, said, Writer, held_by, after, next, ◌⨾◌, put, stop}
use Rattle.spec_c_dumper.specs.rules.Types.{Name, is_empty, BtfType, Btf}
use Rattle.spec_c_dumper.specs.rules.Names.{Space, Resolved, Naming, resolving, spelled}
use Rattle.spec_c_dumper.specs.rules.Decl.{sep_name}
use Rattle.spec_c_dumper.specs.rules.Emit.{definition, forward}
use Rattle.spec_c_dumper.proofs.rules.Held.{resolved, resolved_within}
use Rattle.spec_c_dumper.proofs.rules.Closed.{Closed, r_definition, r_forward}
use Rattle.spec_c_dumper.proofs.rules.Keeps.{any_name, any_value, type_fits}
use Rattle.proof_two_headers.proofs.Renamed.{Renamed, renamed_definition, renamed_forward}

bytes_join : (a : List ℕ) (t : Text) → bytes (join (whole a) t) ≡ a ++ bytes t
unfolding bytes join
bytes_join a (whole b) = refl
bytes_join a (cut b c) = refl

-- R: of the names; T: of texts
module _ {U W : Type 0} (R : U → W → Type 0) (T : List ℕ → List ℕ → Type 0) where
  pub data Until20 : Said U → Said W → Type 0 where
    both_whole : (u : U) (w : W) (a b : List ℕ) (k : List U) (m : List W) → R u w → T a b → Until20 (said u (whole a) k) (said w (whole b) m)
    both_cut : (u : U) (w : W) (a b : List ℕ) (k : List U) (m : List W) (c : ℕ) → T a b → Until20 (said u (cut a c) k) (said w (cut b c) m)
    -- what the other says goes on
    left_passed : (u : U) (w : W) (a b : List ℕ) (t : Text) (k : List U) (m : List W) (more : List ℕ) → T a b → bytes t ≡ b ++ more → Until20 (said u (cut a 20) k) (said w t m)

module _ {U W : Type 0} (R : U → W → Type 0) (T : List ℕ → List ℕ → Type 0) (nil : T [] []) (then : (a b c d : List ℕ) → T a b → T c d → T (a ++ c) (b ++ d)) where
  abbrev Un : Said U → Said W → Type 0
  Un s t = Until20 R T s t

  until_after : (a b : List ℕ) (k : List U) (m : List W) → T a b → {s : Said U} {t : Said W} → Un s t → Un (after a k s) (after b m t)
  unfolding after join
  until_after a b k m q (both_whole u w x y l n r e) = both_whole u w (a ++ x) (b ++ y) (k ++ l) (m ++ n) r (then a b x y q e)
  until_after a b k m q (both_cut u w x y l n c e) = both_cut u w (a ++ x) (b ++ y) (k ++ l) (m ++ n) c (then a b x y q e)
  until_after a b k m q (left_passed u w x y t l n more e f) =
      left_passed u w (a ++ x) (b ++ y) (join (whole b) t) (k ++ l) (m ++ n) more (then a b x y q e) (bytes_join b t ∙ ap (λ (z : List ℕ). b ++ z) f ∙ sym (append_assoc b y more))

  -- what follows on the right, after 20 on the left
  passed_after : (u : U) (a b : List ℕ) (k : List U) (d : List ℕ) (m : List W) (more : List ℕ) → T a b → d ≡ b ++ more → (s : Said W) → Un (said u (cut a 20) k) (after d m s)
  unfolding after
  passed_after u a b k d m more e f (said w t n) =
      left_passed u w a b (join (whole d) t) k (m ++ n) (more ++ bytes t) e (bytes_join d t ∙ ap (λ (z : List ℕ). z ++ bytes t) f ∙ append_assoc b more (bytes t))

  passed_next : (u : U) (w : W) (a b : List ℕ) (t : Text) (k : List U) (m : List W) (more : List ℕ) → T a b → bytes t ≡ b ++ more → (v : Writer W) → Un (said u (cut a 20) k) (next (said w t m) v)
  unfolding next bytes
  passed_next u w a b (whole d) k m more e f v = passed_after u a b k d m more e f (v w)
  passed_next u w a b (cut d c) k m more e f v = left_passed u w a b (cut d c) k m more e f

  abbrev pub Uns : Writer U → Writer W → Type 0
  Uns v w = (u : U) (x : W) → R u x → Un (v u) (w x)

  until_next : {s : Said U} {t : Said W} (v : Writer U) (w : Writer W) → Un s t → Uns v w → Un (next s v) (next t w)
  unfolding next
  until_next v w (both_whole u x a b k m r e) h = until_after a b k m e (h u x r)
  until_next v w (both_cut u x a b k m c e) h = both_cut u x a b k m c e
  until_next v w (left_passed u x a b t k m more e f) h = passed_next u x a b t k m more e f w

  pub uns_then : (v₁ w₁ : Writer U) (v₂ w₂ : Writer W) → Uns v₁ v₂ → Uns w₁ w₂ → Uns (v₁ ⨾ w₁) (v₂ ⨾ w₂)
  unfolding ◌⨾◌
  uns_then v₁ w₁ v₂ w₂ hv hw u x r = until_next w₁ w₂ (hv u x r) hw

  pub uns_put : (a b : List ℕ) → T a b → Uns (put a) (put b)
  unfolding put
  uns_put a b e u x r = both_whole u x a b (held_by u a) (held_by x b) r e

  pub uns_stop : (c : ℕ) → Uns (stop c) (stop c)
  unfolding stop
  uns_stop c u x r = both_cut u x [] [] [] [] c nil

  stops_at_20 : (u : U) (s : Said W) → Un (stop 20 u) s
  unfolding stop
  stops_at_20 u (said w t m) = left_passed u w [] [] t [] m (bytes t) nil refl

  -- the right has no name that passes
  pub uns_resolving : (f₁ : U → Resolved U) (f₂ : W → Resolved W) (k₁ : ℕ → Writer U) (k₂ : ℕ → Writer W)
      → ((u : U) (x : W) → R u x → ((f₂ x).passes ≡ false) × ((f₁ u).passes ≡ false → Un (k₁ (f₁ u).version (f₁ u).names) (k₂ (f₂ x).version (f₂ x).names)))
      → Uns (resolving f₁ k₁) (resolving f₂ k₂)
  uns_resolving f₁ f₂ k₁ k₂ h u x r =
      resolved (λ s. Un s (resolving f₂ k₂ x)) f₁ k₁ u (λ e. stops_at_20 u (resolving f₂ k₂ x))
      (λ e. subst (Un (k₁ (f₁ u).version (f₁ u).names)) (resolved_within f₂ k₂ x (h u x r).0) ((h u x r).1 e))

-- a naming that stops no name
pub record Unlimited {W : Type 0} (N : Naming W) : Type 0 where
  pub type_free : (space : Space) (id : ℕ) (name : Name) (u : W) → (N.type_version space id name u).passes ≡ false
  pub value_free : (id i : ℕ) (name : Name) (u : W) → (N.value_version id i name u).passes ≡ false

-- ---- the same numbers: the same text

abbrev pub Eq : List ℕ → List ℕ → Type 0
Eq a b = a ≡ b

module _ {U W : Type 0} (R : U → W → Type 0) (N₁ : Naming U) (N₂ : Naming W) (free : Unlimited N₂)
    (types : (space : Space) (id : ℕ) (name : Name) (u : U) (x : W) → R u x → ((N₁.type_version space id name u).version ≡ (N₂.type_version space id name x).version)
    × R (N₁.type_version space id name u).names (N₂.type_version space id name x).names)
    (values : (id i : ℕ) (name : Name) (u : U) (x : W) → R u x → ((N₁.value_version id i name u).version ≡ (N₂.value_version id i name x).version)
    × R (N₁.value_version id i name u).names (N₂.value_version id i name x).names) where
  then_eq : (a b c d : List ℕ) → a ≡ b → c ≡ d → a ++ c ≡ b ++ d
  then_eq a b c d p q = ap₂ (λ (x y : List ℕ). x ++ y) p q

  abbrev Ws : Writer U → Writer W → Type 0
  Ws v w = Uns R Eq refl then_eq v w

  same_closed : Closed N₁ N₂ any_name any_value Ws
  same_closed = record {
    c_put = λ a. uns_put R Eq refl then_eq a a refl;
    c_stop = λ c q. uns_stop R Eq refl then_eq c;
    c_then = uns_then R Eq refl then_eq;
    c_type = λ space id name fit e k₁ k₂ h. uns_resolving R Eq refl then_eq (N₁.type_version space id name) (N₂.type_version space id name) k₁ k₂ (λ u x r. (
      free.type_free space id name x,
      λ p.
          let q = types space id name u x r in
          subst (λ (n : ℕ). Until20 R Eq (k₁ (N₁.type_version space id name u).version (N₁.type_version space id name u).names) (k₂ n (N₂.type_version space id name x).names)) q.0
          (h (N₁.type_version space id name u).version (N₁.type_version space id name u).names (N₂.type_version space id name x).names q.1),
    ));
    c_value = λ id i name fit k₁ k₂ h. uns_resolving R Eq refl then_eq (N₁.value_version id i name) (N₂.value_version id i name) k₁ k₂ (λ u x r. (
      free.value_free id i name x,
      λ p.
          let q = values id i name u x r in
          subst (λ (n : ℕ). Until20 R Eq (k₁ (N₁.value_version id i name u).version (N₁.value_version id i name u).names) (k₂ n (N₂.value_version id i name x).names)) q.0
          (h (N₁.value_version id i name u).version (N₁.value_version id i name u).names (N₂.value_version id i name x).names q.1),
    ));
  }

  module _ (B : Btf) where
    pub same_definition : (id : ℕ) (t : BtfType) (u : U) (x : W) → R u x → Until20 R Eq (definition N₁ B id t u) (definition N₂ B id t x)
    same_definition id t = r_definition N₁ N₂ any_name any_value Ws same_closed B (λ y. type_fits y (B.type_by_id y)) id t (type_fits id t)

    pub same_forward : (id : ℕ) (t : BtfType) (u : U) (x : W) → R u x → Until20 R Eq (forward N₁ B id t u) (forward N₂ B id t x)
    same_forward id t = r_forward N₁ N₂ any_name any_value Ws same_closed B (λ y. type_fits y (B.type_by_id y)) id t (type_fits id t)

-- ---- other numbers: the same but for these

-- byte for byte the same, but that a name may have another number: `x`, `x___2` and `x___3` stand for each other
pub data ButNumbers : List ℕ → List ℕ → Type 0 where
  at_end : ButNumbers [] []
  same_byte : (b : ℕ) (s t : List ℕ) → ButNumbers s t → ButNumbers (b ∷ s) (b ∷ t)
  numbered : (name : Name) (v w : ℕ) (s t : List ℕ) → ButNumbers s t → ButNumbers (spelled name v ++ s) (spelled name w ++ t)

numbers_self : (a : List ℕ) → ButNumbers a a
numbers_self [] = at_end
numbers_self (b ∷ a) = same_byte b a a (numbers_self a)

numbers_then : (a b c d : List ℕ) → ButNumbers a b → ButNumbers c d → ButNumbers (a ++ c) (b ++ d)
numbers_then _ _ s t at_end h = h
numbers_then _ _ s t (same_byte c x y q) h = same_byte c _ _ (numbers_then x y s t q h)
numbers_then _ _ s t (numbered name v w x y q) h =
    subst (λ (l : List ℕ). ButNumbers l ((spelled name w ++ y) ++ t)) (sym (append_assoc (spelled name v) x s))
    (subst (λ (l : List ℕ). ButNumbers (spelled name v ++ (x ++ s)) l) (sym (append_assoc (spelled name w) y t)) (numbered name v w (x ++ s) (y ++ t) (numbers_then x y s t q h)))

numbers_name : (name : Name) (v w : ℕ) → ButNumbers (spelled name v) (spelled name w)
numbers_name name v w =
    subst (λ (l : List ℕ). ButNumbers l (spelled name w)) (append-nil (spelled name v))
    (subst (λ (l : List ℕ). ButNumbers (spelled name v ++ []) l) (append-nil (spelled name w)) (numbered name v w [] [] at_end))

-- with its space before it
numbers_sep : (n m : Name) → ButNumbers n m → is_empty n ≡ is_empty m → ButNumbers (sep_name n) (sep_name m)
unfolding sep_name
numbers_sep n m q e = subst (λ (b : Bool). ButNumbers (elim (is_empty n) [ true ↦ [] | false ↦ ascii " " ++ n ]) (elim b [ true ↦ [] | false ↦ ascii " " ++ m ])) e (go (is_empty n))
  where
    go : (b : Bool) → ButNumbers (elim b [ true ↦ [] | false ↦ ascii " " ++ n ]) (elim b [ true ↦ [] | false ↦ ascii " " ++ m ])
    go true = at_end
    go false = same_byte 32 n m q

abbrev pub Any : {U W : Type 0} → U → W → Type 0
Any u x = Unit {0}

module _ {U W : Type 0} (N₁ : Naming U) (N₂ : Naming W) (free : Unlimited N₂) where
  abbrev Ns : Writer U → Writer W → Type 0
  Ns v w = Uns Any ButNumbers at_end numbers_then v w

  numbers_renamed : Renamed N₁ N₂ ButNumbers Ns
  numbers_renamed = record {
    c_refl = numbers_self;
    c_put = λ a. uns_put Any ButNumbers at_end numbers_then a a (numbers_self a);
    c_name = λ n m q. uns_put Any ButNumbers at_end numbers_then n m q;
    c_sep = λ n m q e. uns_put Any ButNumbers at_end numbers_then (sep_name n) (sep_name m) (numbers_sep n m q e);
    c_stop = uns_stop Any ButNumbers at_end numbers_then;
    c_then = uns_then Any ButNumbers at_end numbers_then;
    c_type = λ space id name k₁ k₂ h. uns_resolving Any ButNumbers at_end numbers_then (N₁.type_version space id name) (N₂.type_version space id name) k₁ k₂ (λ u x r. (
      free.type_free space id name x,
      λ p.
          h (N₁.type_version space id name u).version (N₂.type_version space id name x).version (numbers_name name (N₁.type_version space id name u).version (N₂.type_version space id name x).version)
          (N₁.type_version space id name u).names (N₂.type_version space id name x).names tt,
    ));
    c_value = λ id i name k₁ k₂ h. uns_resolving Any ButNumbers at_end numbers_then (N₁.value_version id i name) (N₂.value_version id i name) k₁ k₂ (λ u x r. (
      free.value_free id i name x,
      λ p.
          h (N₁.value_version id i name u).version (N₂.value_version id i name x).version (numbers_name name (N₁.value_version id i name u).version (N₂.value_version id i name x).version)
          (N₁.value_version id i name u).names (N₂.value_version id i name x).names tt,
    ));
  }

  module _ (B : Btf) where
    pub numbers_definition : (id : ℕ) (t : BtfType) (u : U) (x : W) → Until20 Any ButNumbers (definition N₁ B id t u) (definition N₂ B id t x)
    numbers_definition id t u x = renamed_definition N₁ N₂ ButNumbers Ns numbers_renamed B id t u x tt

    pub numbers_forward : (id : ℕ) (t : BtfType) (u : U) (x : W) → Until20 Any ButNumbers (forward N₁ B id t u) (forward N₂ B id t x)
    numbers_forward id t u x = renamed_forward N₁ N₂ ButNumbers Ns numbers_renamed B id t u x tt
