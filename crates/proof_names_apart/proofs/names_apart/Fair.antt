-- What holds of the names at every time: all that was printed is apart. Each name that is given keeps it so. Assumes nothing.
use Prim.Native.Nat.{ℕ, ◌+◌, ◌≤◌}
use mathlib.Core.Path.{◌≡◌, refl, sym, ◌∙◌, ap, ap₂, subst}
use mathlib.Core.Bool.{Bool, true, false, true≢false}
use mathlib.Core.List.Memᴰ
use mathlib.Core.List.{List, [], ◌∷◌, Memᴰ}
use mathlib.Core.Logic.{◌⊎◌, inl, inr, ⊎_elim}
use native.Mathlib.Omega.{arith}
use lib.ListN.{length, get_or, length-append}
use lib.Dec.{eqb}
use borrow.Author.Tests.{eqb-true, eqb-false}
use Rattle.spec_bytes.specs.words.Words.{one_more}
use Rattle.spec_bytes.proofs.words.Laws.{more_is, more_some, more_most, more_least}
use Rattle.spec_c_dumper.specs.rules.Types.{Name, BtfType, Void, Int, Ptr, Array, Composite, Enum, Enum64, Fwd, Typedef, Mod, Func, Var, Datasec, FuncProto, Float, DeclTag, TypeTag, Btf, name_of}
use Rattle.spec_c_dumper.specs.rules.Names.{Space, tag_space, ident_space, Names, Holder, spelled, same_space, same_bytes, holders, with_one}
use Rattle.proof_demands.proofs.name_counts.Holders.{count_there}
use Rattle.spec_c_dumper.specs.names_apart.Apart.{table_names, Who, of_type, of_value, Shown, Apart, spellings_in, is_name_among, taken, passing, number_for, OneType, Alone, AllApart, Enough}
use Rattle.spec_c_dumper.proofs.rules.Names.{bytes_self, bytes_same, count_here}
use Rattle.proof_names_apart.proofs.names_apart.Laws.{not_among, spelling_in, fewer, spelled_first, ends_free}

-- ---- one more holder

-- the same space and name, or not
pub same_or_not : (space space' : Space) (name name' : Name) → ((space ≡ space') × (name ≡ name')) ⊎ (space ≡ space' → name ≡ name' → ⊥)
same_or_not tag_space tag_space name name' = go (same_bytes name name') refl
  where
    go : (b : Bool) → same_bytes name name' ≡ b → ((tag_space ≡ tag_space) × (name ≡ name')) ⊎ (tag_space ≡ tag_space → name ≡ name' → ⊥)
    go true q = inl (refl, bytes_same name name' q)
    go false q = inr (λ e n. true≢false (sym (bytes_self name) ∙ ap (same_bytes name) n ∙ q))
same_or_not tag_space ident_space name name' = inr (λ e n. true≢false (ap (same_space tag_space) e))
same_or_not ident_space tag_space name name' = inr (λ e n. true≢false (ap (same_space ident_space) e))
same_or_not ident_space ident_space name name' = go (same_bytes name name') refl
  where
    go : (b : Bool) → same_bytes name name' ≡ b → ((ident_space ≡ ident_space) × (name ≡ name')) ⊎ (ident_space ≡ ident_space → name ≡ name' → ⊥)
    go true q = inl (refl, bytes_same name name' q)
    go false q = inr (λ e n. true≢false (sym (bytes_self name) ∙ ap (same_bytes name) n ∙ q))

module _ (l : List Holder) (space : Space) (name : Name) where
  pub grows : (space' : Space) (name' : Name) → holders l space' name' ≤ holders (with_one l space name) space' name'
  grows space' name' = go (same_or_not space space' name name')
    where
      go : ((space ≡ space') × (name ≡ name')) ⊎ (space ≡ space' → name ≡ name' → ⊥) → holders l space' name' ≤ holders (with_one l space name) space' name'
      go (inl e) =
          subst (λ (x : Space). holders l x name' ≤ holders (with_one l space name) x name') e.0
          (subst (λ (x : Name). holders l space x ≤ holders (with_one l space name) space x) e.1
          (omega (arith, more_least (holders l space name), count_here space name l)))
      go (inr n) = omega (arith, count_there space name space' name' n l)

  pub grows_by_one : (space' : Space) (name' : Name) → holders (with_one l space name) space' name' ≤ holders l space' name' + 1
  grows_by_one space' name' = go (same_or_not space space' name name')
    where
      go : ((space ≡ space') × (name ≡ name')) ⊎ (space ≡ space' → name ≡ name' → ⊥) → holders (with_one l space name) space' name' ≤ holders l space' name' + 1
      go (inl e) =
          subst (λ (x : Space). holders (with_one l space name) x name' ≤ holders l x name' + 1) e.0
          (subst (λ (x : Name). holders (with_one l space name) space x ≤ holders l space x + 1) e.1
          (omega (arith, more_most (holders l space name), count_here space name l)))
      go (inr n) = omega (arith, count_there space name space' name' n l)

-- ---- what is known of the names

-- the space of a type's own name
abbrev pub space_of : BtfType → Space
space_of Void = tag_space
space_of (Int n b) = tag_space
space_of (Ptr t) = tag_space
space_of (Array t k) = tag_space
space_of (Composite s n z ms) = tag_space
space_of (Enum s n z vs) = tag_space
space_of (Enum64 s n z vs) = tag_space
space_of (Fwd u n) = tag_space
space_of (Typedef n t) = ident_space
space_of (Mod q t) = tag_space
space_of (Func n) = tag_space
space_of (Var n) = tag_space
space_of (Datasec n) = tag_space
space_of (FuncProto r ps) = tag_space
space_of (Float n z) = tag_space
space_of (DeclTag a n t k) = tag_space
space_of (TypeTag a n t) = tag_space

abbrev pub entry : Space → Who → Name → ℕ → Shown
entry space who name n = record { space = space; who = who; spelling = spelled name n }

module _ (B : Btf) where
  -- type id's own name with the number n
  abbrev pub own : ℕ → ℕ → Shown
  own id n = entry (space_of (B.type_by_id id)) (of_type id) (name_of (B.type_by_id id)) n

  -- the space in which a name is printed
  abbrev pub space_in : Who → Space
  space_in (of_type id) = space_of (B.type_by_id id)
  space_in (of_value id i) = ident_space

  -- a printed name has a holder as it is spelled, or is no name of the table's same space: so it is never a later first holder's
  abbrev pub Settled : Names → Shown → Type 0
  Settled u a = (1 ≤ holders u.ledger a.space a.spelling) ⊎ (Memᴰ a.spelling (table_names B a.space) → ⊥)

  pub record Fair (u : Apart) : Type 0 where
    pub apart : AllApart u.printed
    pub spaces : (a : Shown) → Memᴰ a u.printed → a.space ≡ space_in a.who
    pub settled : (a : Shown) → Memᴰ a u.printed → Settled u.names a
    pub kept : (id : ℕ) → (get_or u.names.versions id 0 ≡ 0 → ⊥) → Memᴰ (own id (get_or u.names.versions id 0)) u.printed
    pub counts : (space : Space) (name : Name) → holders u.names.ledger space name ≤ length u.printed

  -- ---- the number that a name of the table gets

  -- it is spelled as nothing printed before in the space; and is bare, or no name of the table's same space
  pub record Picked (space : Space) (name : Name) (u : Apart) (n : ℕ) : Type 0 where
    pub fresh : (b : Shown) → Memᴰ b u.printed → b.space ≡ space → b.spelling ≡ spelled name n → ⊥
    pub bare : (spelled name n ≡ name) ⊎ (Memᴰ (spelled name n) (table_names B space) → ⊥)

  module _ (space : Space) (name : Name) (u : Apart) (is_name : Memᴰ name (table_names B space)) (fair : Fair u) (room : Enough B u) where
    abbrev h : ℕ
    h = holders u.names.ledger space name

    -- "could its bare name equal a suffixed spelling printed before?" No: that would be a name of the table's same space
    first_fresh : h ≡ 0 → (b : Shown) → Memᴰ b u.printed → b.space ≡ space → b.spelling ≡ spelled name 1 → ⊥
    first_fresh z b m e q = ⊎_elim
        (λ k. let r : h ≡ holders u.names.ledger b.space b.spelling = ap₂ (holders u.names.ledger) (sym e) (sym (q ∙ spelled_first name)) in omega (arith, k))
        (λ k. k (subst (λ (x : Space). Memᴰ b.spelling (table_names B x)) (sym e) (subst (λ (x : Name). Memᴰ x (table_names B space)) (sym (q ∙ spelled_first name)) is_name)))
        (fair.settled b m)

    abbrev later : ℕ
    later = passing (λ n. is_name_among (spelled name n) (taken B space u)) (length (taken B space u)) (one_more h)

    -- the number of steps is at most that of the names in the table and of those printed
    pub not_taken : (h ≡ 0 → ⊥) → is_name_among (spelled name later) (taken B space u) ≡ false
    not_taken n =
        ends_free name (length (taken B space u)) (λ m. is_name_among (spelled name m) (taken B space u)) (taken B space u) (omega arith) (one_more h)
        (omega (arith, up)) (omega (arith, up, few, room space, fair.counts space name)) (λ m lo hi. refl)
      where
        up : one_more h ≡ h + 1
        up = more_is h (omega (arith, room space, fair.counts space name))

        few : length (taken B space u) ≤ length (table_names B space) + length u.printed
        few = omega (arith, length-append (table_names B space) (spellings_in space u.printed), fewer space u.printed)

    pub picked : Picked space name u (number_for B space name u)
    unfolding number_for
    picked = go (eqb h 0) refl
      where
        go : (t : Bool) → eqb h 0 ≡ t → Picked space name u (elim t as (λ w. ℕ) [ true ↦ 1 | false ↦ later ])
        go true q = record { fresh = first_fresh (eqb-true h 0 q); bare = inl (spelled_first name) }
        go false q =
            let f : is_name_among (spelled name later) (taken B space u) ≡ false = not_taken (eqb-false h 0 q) in
            record {
              fresh = λ b m e s. not_among (spelled name later) (taken B space u) f (Memᴰ.append_right (table_names B space) (subst (λ (x : Name). Memᴰ x (spellings_in space u.printed)) s (spelling_in space u.printed b m e)));
              bare = inr (λ m. not_among (spelled name later) (taken B space u) f (Memᴰ.append_left (spellings_in space u.printed) m));
            }

  -- ---- one more printed name

  -- what was printed in the space and is spelled as a type's own name is that type's
  alone : (l : List Shown) (id n : ℕ) → AllApart l → Memᴰ (own id n) l → Alone (own id n) l
  alone [] id n h m b k e q = absurd (Memᴰ.not-nil k)
  alone (a ∷ l) id n h m b k e q = go (Memᴰ.cases_cons m) (Memᴰ.cases_cons k) (λ x y. alone l id n h.1 x b y e q)
    where
      go : (own id n ≡ a) ⊎ Memᴰ (own id n) l → (b ≡ a) ⊎ Memᴰ b l → (Memᴰ (own id n) l → Memᴰ b l → OneType b (own id n)) → OneType b (own id n)
      go (inl x) (inl y) f = record { id = id; first = ap (λ (s : Shown). s.who) (y ∙ sym x); second = refl }
      go (inl x) (inr y) f = subst (λ (s : Shown). OneType b s) (sym x) (h.0 b y (e ∙ ap (λ (s : Shown). s.space) x) (q ∙ ap (λ (s : Shown). s.spelling) x))
      go (inr x) (inl y) f =
          let o : OneType (own id n) a = h.0 (own id n) x (sym e ∙ ap (λ (s : Shown). s.space) y) (sym q ∙ ap (λ (s : Shown). s.spelling) y) in
          record { id = o.id; first = ap (λ (s : Shown). s.who) y ∙ o.second; second = o.first }
      go (inr x) (inr y) f = f x y

  -- a type that has a number is printed again
  pub again_fair : (u : Apart) → Fair u → (id : ℕ) → (get_or u.names.versions id 0 ≡ 0 → ⊥)
      → Fair (record { names = u.names; printed = own id (get_or u.names.versions id 0) ∷ u.printed })
  again_fair u f id n = record {
    apart = (alone u.printed id (get_or u.names.versions id 0) f.apart (f.kept id n), f.apart);
    spaces = λ a m. ⊎_elim (λ e. subst (λ (b : Shown). b.space ≡ space_in b.who) (sym e) refl) (f.spaces a) (Memᴰ.cases_cons m);
    settled = λ a m. ⊎_elim (λ e. subst (Settled u.names) (sym e) (f.settled _ (f.kept id n))) (f.settled a) (Memᴰ.cases_cons m);
    kept = λ x k. Memᴰ.tail (f.kept x k);
    counts = λ space name. omega (arith, f.counts space name);
  }

  -- a new number
  module _ (u : Apart) (f : Fair u) (space : Space) (who : Who) (its : space ≡ space_in who) (name : Name) (n : ℕ) (p : Picked space name u n) (versions : List ℕ)
      (holds : (id : ℕ) → (get_or versions id 0 ≡ 0 → ⊥) → (own id (get_or versions id 0) ≡ entry space who name n) ⊎ ((get_or versions id 0 ≡ get_or u.names.versions id 0))) where
    abbrev then : Apart
    then = record { names = record { versions = versions; ledger = with_one u.names.ledger space name }; printed = entry space who name n ∷ u.printed }

    new_settled : Settled then.names (entry space who name n)
    new_settled = ⊎_elim
        (λ e. inl (subst (λ (x : Name). 1 ≤ holders (with_one u.names.ledger space name) space x) (sym e) (omega (arith, count_here space name u.names.ledger, more_some (holders u.names.ledger space name)))))
        (λ e. inr e)
        p.bare

    old_settled : (a : Shown) → Settled u.names a → Settled then.names a
    old_settled a s = ⊎_elim (λ k. inl (omega (arith, k, grows u.names.ledger space name a.space a.spelling))) (λ k. inr k) s

    pub new_fair : Fair then
    new_fair = record {
      apart = (λ b m e q. absurd (p.fresh b m e q), f.apart);
      spaces = λ a m. ⊎_elim (λ e. subst (λ (b : Shown). b.space ≡ space_in b.who) (sym e) its) (f.spaces a) (Memᴰ.cases_cons m);
      settled = λ a m. ⊎_elim (λ e. subst (Settled then.names) (sym e) new_settled) (λ k. old_settled a (f.settled a k)) (Memᴰ.cases_cons m);
      kept = λ id k. ⊎_elim
          (λ e. Memᴰ.head e)
          (λ e. Memᴰ.tail (subst (λ (x : ℕ). Memᴰ (own id x) u.printed) (sym e) (f.kept id (λ z. k (e ∙ z)))))
          (holds id k);
      counts = λ space' name'. omega (arith, f.counts space' name', grows_by_one u.names.ledger space name space' name');
    }
