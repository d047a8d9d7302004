-- Names that stand in a text: a declaration writes the name that it declares. Assumes nothing.
use Prim.Native.Nat.{ℕ, zero, suc}
use mathlib.Core.Path.{◌≡◌, refl, sym, ◌∙◌, ap, subst}
use mathlib.Core.Bool.{Bool, true, false, not, true≢false}
use mathlib.Core.List.Memᴰ
use mathlib.Core.List.{List, [], ◌∷◌, ◌++◌, append_assoc, append-nil, Memᴰ}
use mathlib.Core.Logic.{◌⊎◌, inl, inr}
use lib.ListN.{length}
use Rattle.spec_bytes.specs.text.Text.{ascii, Text, whole, cut, join}
use Rattle.spec_c_dumper.specs.rules.Writer.{Ask, got, no, Said, said, said_text, Writer, after, next, ◌⨾◌, put, stop, given}
use Rattle.spec_c_dumper.specs.rules.Types.{Name, is_empty, Member, Btf}
use Rattle.spec_c_dumper.specs.rules.Names.{Naming}
use Rattle.spec_c_dumper.specs.rules.Decl.{sep_name, Entry, base, star, qual, array, proto, tag, chain_of, no_mods, is_array, emit_name, parens, emit_array, emit_proto, chain_loop, emit_type_decl, emit_type_chain, emit_composite_def}
use Rattle.spec_declared_first.specs.Notes.{Mention}
use Rattle.spec_declared_first.specs.Declared.{Stands}

pub empty_nil : (n : Name) → is_empty n ≡ true → n ≡ []
unfolding is_empty
empty_nil [] e = refl
empty_nil (b ∷ n) e = absurd (true≢false (sym e))

-- a name in a text, if it is whole
abbrev pub In : Name → Text → Type 0
In name (whole a) = Stands name a
In name (cut a c) = Unit {0}

abbrev pub AllIn : List Mention → Text → Type 0
AllIn l (whole a) = (m : Mention) → Memᴰ m l → Stands m.name a
AllIn l (cut a c) = Unit {0}

stands_left : (n a b : List ℕ) → Stands n a → Stands n (a ++ b)
stands_left n a b h = record {
  front = h.front;
  back = h.back ++ b;
  place = ap (λ (k : List ℕ). k ++ b) h.place ∙ append_assoc h.front (n ++ h.back) b ∙ ap (λ (k : List ℕ). h.front ++ k) (append_assoc n h.back b);
}

stands_right : (n a b : List ℕ) → Stands n b → Stands n (a ++ b)
stands_right n a b h = record { front = a ++ h.front; back = h.back; place = ap (λ (k : List ℕ). a ++ k) h.place ∙ sym (append_assoc a h.front (n ++ h.back)) }

pub stands_self : (n : List ℕ) → Stands n n
stands_self n = record { front = []; back = []; place = sym (append-nil n) }

in_first : (n a : List ℕ) (t : Text) → Stands n a → In n (join (whole a) t)
unfolding join
in_first n a (whole b) h = stands_left n a b h
in_first n a (cut b c) h = tt

in_second : (n a : List ℕ) (t : Text) → In n t → In n (join (whole a) t)
unfolding join
in_second n a (whole b) h = stands_right n a b h
in_second n a (cut b c) h = tt

pub all_join : (l₁ l₂ : List Mention) (a : List ℕ) (t : Text) → AllIn l₁ (whole a) → AllIn l₂ t → AllIn (l₁ ++ l₂) (join (whole a) t)
unfolding join
all_join l₁ l₂ a (whole b) h k = λ m i. go m (Memᴰ.append_cases l₁ i)
  where
    go : (m : Mention) → Memᴰ m l₁ ⊎ Memᴰ m l₂ → Stands m.name (a ++ b)
    go m (inl i) = stands_left m.name a b (h m i)
    go m (inr i) = stands_right m.name a b (k m i)
all_join l₁ l₂ a (cut b c) h k = tt

pub all_cons : (m : Mention) (l : List Mention) (t : Text) → In m.name t → AllIn l t → AllIn (m ∷ l) t
all_cons m l (whole a) h k = λ j i. go j (Memᴰ.cases_cons i)
  where
    go : (j : Mention) → (j ≡ m) ⊎ Memᴰ j l → Stands j.name a
    go j (inl e) = subst (λ (x : Mention). Stands x.name a) (sym e) h
    go j (inr i) = k j i
all_cons m l (cut a c) h k = tt

pub sep_stands : (n : Name) → Stands n (sep_name n)
unfolding sep_name
sep_stands n = go (is_empty n) refl
  where
    go : (b : Bool) → is_empty n ≡ b → Stands n (elim b [ true ↦ [] | false ↦ ascii " " ++ n ])
    go true e = subst (λ (k : Name). Stands k []) (sym (empty_nil n e)) (stands_self [])
    go false e = stands_right n (ascii " ") n (stands_self n)

-- a writer that writes this name
module _ {U : Type 0} (n : Name) where
  pub record Prints (w : Writer U) : Type 0 where
    pub prints : (u : U) → In n (said_text (w u))

  pub p_put : (a : List ℕ) → Stands n a → Prints (put a)
  unfolding put said_text
  p_put a h = record { prints = λ u. h }

  p_stop : (c : ℕ) → Prints (stop c)
  unfolding stop said_text
  p_stop c = record { prints = λ u. tt }

  p_next_first : (s : Said U) (w : Writer U) → In n (said_text s) → In n (said_text (next s w))
  unfolding next after said_text
  p_next_first (said u (whole a) k) w h = go (w u)
    where
      go : (s : Said U) → In n (said_text (after a k s))
      go (said v t m) = in_first n a t h
  p_next_first (said u (cut a c) k) w h = tt

  p_next_second : (s : Said U) (w : Writer U) → Prints w → In n (said_text (next s w))
  unfolding next after said_text
  p_next_second (said u (whole a) k) w h = go (w u) (h.prints u)
    where
      go : (s : Said U) → In n (said_text s) → In n (said_text (after a k s))
      go (said v t m) q = in_second n a t q
  p_next_second (said u (cut a c) k) w h = tt

  pub p_first : {v : Writer U} (w : Writer U) → Prints v → Prints (v ⨾ w)
  unfolding ◌⨾◌
  p_first {v} w h = record { prints = λ u. p_next_first (v u) w (h.prints u) }

  pub p_second : (v : Writer U) {w : Writer U} → Prints w → Prints (v ⨾ w)
  unfolding ◌⨾◌
  p_second v {w} h = record { prints = λ u. p_next_second (v u) w h }

  p_if : {a b : Writer U} → (t : Bool) → Prints a → Prints b → Prints (elim t [ true ↦ a | false ↦ b ])
  p_if true h k = h
  p_if false h k = k

  p_given : {A : Type 0} {k : A → Writer U} → (x : Ask A) → ((a : A) → Prints (k a)) → Prints (given x k)
  unfolding given
  p_given (got a) h = h a
  p_given (no c) h = p_stop c

  p_emit_name : (last_was_ptr : Bool) → Prints (emit_name n last_was_ptr)
  unfolding emit_name
  p_emit_name last_was_ptr = p_if last_was_ptr (p_put n (stands_self n)) (p_put (sep_name n) (sep_stands n))

  p_parens : {w : Writer U} → (b : Bool) → Prints w → Prints (parens b w)
  unfolding parens
  p_parens b h = p_if b (p_second _ (p_first _ h)) h

  module _ (N : Naming U) (B : Btf) where
    module _ (d : ℕ → Name → ℕ → Writer U) (c' : List Entry → Name → ℕ → Writer U) (f : ℕ → Bool → Name → ℕ → List Member → ℕ → Writer U) (lvl : ℕ) (hc : (c : List Entry) → Prints (c' c n lvl)) where
      p_emit_array : (last_was_ptr : Bool) (c : List Entry) → Prints (emit_array N B d c' f n lvl last_was_ptr c)
      unfolding emit_array
      p_emit_array last_was_ptr [] = p_emit_name last_was_ptr
      p_emit_array last_was_ptr (e ∷ c) = p_second _ (p_parens (not (is_array e)) (hc (e ∷ c)))

      p_emit_proto : (last_was_ptr : Bool) (c : List Entry) → Prints (emit_proto N B d c' f n lvl last_was_ptr c)
      unfolding emit_proto
      p_emit_proto last_was_ptr [] = p_emit_name last_was_ptr
      p_emit_proto last_was_ptr (e ∷ c) = p_second _ (p_first _ (hc (e ∷ c)))

      p_chain_loop : (k : ℕ) (last_was_ptr : Bool) (c : List Entry) → Prints (chain_loop N B d c' f n lvl k last_was_ptr c)
      unfolding chain_loop
      p_chain_loop zero last_was_ptr c = p_emit_name last_was_ptr
      p_chain_loop (suc k) last_was_ptr [] = p_emit_name last_was_ptr
      p_chain_loop (suc k) last_was_ptr (base id ∷ c) = p_second _ (p_second _ (p_chain_loop k false (no_mods c)))
      p_chain_loop (suc k) last_was_ptr (star ∷ c) = p_second _ (p_chain_loop k true c)
      p_chain_loop (suc k) last_was_ptr (qual q ∷ c) = p_second _ (p_chain_loop k false c)
      p_chain_loop (suc k) last_was_ptr (array j ∷ c) = p_first _ (p_emit_array last_was_ptr (no_mods c))
      p_chain_loop (suc k) last_was_ptr (proto ps ∷ c) = p_second _ (p_first _ (p_emit_proto last_was_ptr (no_mods c)))
      p_chain_loop (suc k) last_was_ptr (tag a name ∷ c) = p_second _ (p_second _ (p_chain_loop k false (no_mods c)))

    p_emit_type_chain : (left : ℕ) (c : List Entry) (lvl : ℕ) → Prints (emit_type_chain N B left c n lvl)
    unfolding emit_type_chain
    p_emit_type_chain zero c lvl = p_stop 12
    p_emit_type_chain (suc left) c lvl =
        p_chain_loop (λ id m l. emit_type_decl N B left id m l) (λ d m l. emit_type_chain N B left d m l) (λ id s m z ms l. emit_composite_def N B left id s m z ms l) lvl (λ d. p_emit_type_chain left d lvl) (length c) true c

    pub p_emit_type_decl : (left id lvl : ℕ) → Prints (emit_type_decl N B left id n lvl)
    unfolding emit_type_decl
    p_emit_type_decl zero id lvl = p_stop 12
    p_emit_type_decl (suc left) id lvl = p_given (chain_of 512 B id []) (λ c. p_emit_type_chain left c lvl)
