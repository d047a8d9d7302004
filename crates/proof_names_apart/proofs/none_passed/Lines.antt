-- A line that is watched is the same with the numbers of the new mode and with those of the old: up to the first number that is passed over the two are
-- equal, and from there on both lines are refused. Assumes nothing.
use Prim.Native.Nat.{ℕ, ◌+◌}
use mathlib.Core.Path.{◌≡◌, refl, ap, ◌∙◌, sym, subst}
use mathlib.Core.Bool.{Bool, true, false, ◌||◌, or-true}
use mathlib.Core.List.{List, [], ◌∷◌, ◌++◌}
use mathlib.Core.Logic.{◌⊎◌, inl, inr, ⊎_elim}
use lib.ListN.{get_or, set}
use lib.Dec.{eqb}
use borrow.Author.Tests.{eqb-true}
use Rattle.spec_bytes.specs.words.Words.{one_more}
use Rattle.spec_bytes.specs.text.Text.{Text, whole, cut, join}
use Rattle.spec_c_dumper.specs.rules.Writer.{Said, said, said_names, Writer, held_by, after, next, put, stop, ◌⨾◌}
use Rattle.spec_c_dumper.specs.rules.Types.{Name, Enumerator, BtfType, Void, Int, Ptr, Array, Composite, Enum, Enum64, Fwd, Typedef, Mod, Func, Var, Datasec, FuncProto, Float, DeclTag, TypeTag, Btf}
use Rattle.spec_c_dumper.specs.rules.Names.{Space, ident_space, Resolved, Naming, Names, spelled, holders, with_one, resolving, type_version, value_version, naming}
use Rattle.spec_c_dumper.specs.rules.Emit.{definition, forward}
use Rattle.spec_c_dumper.proofs.rules.Closed.{ValuesFit, TypeFits, Closed, r_definition, r_forward}
use Rattle.spec_c_dumper.proofs.rules.Held.{resolved_within}
use Rattle.spec_c_dumper.proofs.rules.Related.{RelResolved, RelNaming}
use Rattle.spec_c_dumper.specs.needs.Lists.{Line, cannot}
use Rattle.spec_c_dumper.specs.needs.Session.{Known, line_of, lines_by}
use Rattle.spec_c_dumper.specs.names_apart.Apart.{of_type, of_value, Apart, is_name_among, taken, number_for, shown, type_apart, value_apart, apart}
use Rattle.proof_names_apart.proofs.names_apart.Alike.{not_passed, more_first}
use Rattle.proof_names_apart.specs.none_passed.Watched.{passes_over, Watched, type_watched, value_watched, watched, passed_over, line_watched, lines_watched}
use Rattle.proof_names_apart.proofs.none_passed.Stops.{LineUp, LinesUp}

-- ---- every name fits
abbrev pub AnyName : Space → ℕ → Name → Type 0
AnyName space id name = Unit {0}

abbrev pub AnyValue : ℕ → ℕ → Name → Type 0
AnyValue id i name = Unit {0}

values_fit : (id i : ℕ) (vs : List Enumerator) → ValuesFit AnyName AnyValue id i vs
values_fit id i [] = tt
values_fit id i (v ∷ vs) = (tt, values_fit id (i + 1) vs)

pub any_fits : (id : ℕ) (t : BtfType) → TypeFits AnyName AnyValue id t
any_fits id Void = tt
any_fits id (Int n b) = tt
any_fits id (Ptr t) = tt
any_fits id (Array t k) = tt
any_fits id (Composite s n z ms) = tt
any_fits id (Enum s n z vs) = (tt, values_fit id 0 vs)
any_fits id (Enum64 s n z vs) = (tt, values_fit id 0 vs)
any_fits id (Fwd u n) = tt
any_fits id (Typedef n t) = tt
any_fits id (Mod q t) = tt
any_fits id (Func n) = tt
any_fits id (Var n) = tt
any_fits id (Datasec n) = tt
any_fits id (FuncProto r ps) = tt
any_fits id (Float n z) = tt
any_fits id (DeclTag a n t k) = tt
any_fits id (TypeTag a n t) = tt

-- ---- what two writers come to: the same, or both passed a number over
data Alike : Said Watched → Said Watched → Type 0 where
  same : (w : Watched) (t : Text) (m : List Watched) → Alike (said w t m) (said w t m)
  over : (v w : Watched) (t u : Text) (m n : List Watched) → v.over ≡ true → w.over ≡ true → Alike (said v t m) (said w u n)

over_intro : (s₁ s₂ : Said Watched) → (said_names s₁).over ≡ true → (said_names s₂).over ≡ true → Alike s₁ s₂
unfolding said_names
over_intro (said v t m) (said w u n) p q = over v w t u m n p q

after_alike : (a : List ℕ) (k : List Watched) {s₁ s₂ : Said Watched} → Alike s₁ s₂ → Alike (after a k s₁) (after a k s₂)
unfolding after
after_alike a k (same w t m) = same w (join (whole a) t) (k ++ m)
after_alike a k (over v w t u m n p q) = over v w (join (whole a) t) (join (whole a) u) (k ++ m) (k ++ n) p q

after_over : (a : List ℕ) (k : List Watched) (s : Said Watched) → (said_names (after a k s)).over ≡ (said_names s).over
unfolding after said_names
after_over a k (said w t m) = refl

-- what was passed over stays so
abbrev Sticks : Writer Watched → Type 0
Sticks v = (w : Watched) → w.over ≡ true → (said_names (v w)).over ≡ true

record Both (v₁ v₂ : Writer Watched) : Type 0 where
  sticks₁ : Sticks v₁
  sticks₂ : Sticks v₂
  alike : (w : Watched) → Alike (v₁ w) (v₂ w)

next_over : (s : Said Watched) (v : Writer Watched) → Sticks v → (said_names s).over ≡ true → (said_names (next s v)).over ≡ true
unfolding next said_names
next_over (said w (whole a) m) v k e = after_over a m (v w) ∙ k w e
next_over (said w (cut a c) m) v k e = e

next_alike : {s₁ s₂ : Said Watched} (v₁ v₂ : Writer Watched) → Alike s₁ s₂ → Both v₁ v₂ → Alike (next s₁ v₁) (next s₂ v₂)
unfolding next said_names
next_alike v₁ v₂ (same w (whole a) m) h = after_alike a m (h.alike w)
next_alike v₁ v₂ (same w (cut a c) m) h = same w (cut a c) m
next_alike v₁ v₂ (over v w t u m n p q) h =
    over_intro (next (said v t m) v₁) (next (said w u n) v₂) (next_over (said v t m) v₁ h.sticks₁ p) (next_over (said w u n) v₂ h.sticks₂ q)

put_both : (a : List ℕ) → Both (put a) (put a)
unfolding put said_names
put_both a = record { sticks₁ = λ w e. e; sticks₂ = λ w e. e; alike = λ w. same w (whole a) (held_by w a) }

stop_both : (c : ℕ) → Both (stop c) (stop c)
unfolding stop said_names
stop_both c = record { sticks₁ = λ w e. e; sticks₂ = λ w e. e; alike = λ w. same w (cut [] c) [] }

then_both : (v₁ w₁ v₂ w₂ : Writer Watched) → Both v₁ v₂ → Both w₁ w₂ → Both (v₁ ⨾ w₁) (v₂ ⨾ w₂)
unfolding ◌⨾◌
then_both v₁ w₁ v₂ w₂ h k = record {
  sticks₁ = λ w e. next_over (v₁ w) w₁ k.sticks₁ (h.sticks₁ w e);
  sticks₂ = λ w e. next_over (v₂ w) w₂ k.sticks₂ (h.sticks₂ w e);
  alike = λ w. next_alike w₁ w₂ (h.alike w) k;
}

-- ---- one name
record Step (f₁ f₂ : Watched → Resolved Watched) : Type 0 where
  keeps₁ : (w : Watched) → w.over ≡ true → (f₁ w).names.over ≡ true
  keeps₂ : (w : Watched) → w.over ≡ true → (f₂ w).names.over ≡ true
  within₁ : (w : Watched) → (f₁ w).passes ≡ false
  within₂ : (w : Watched) → (f₂ w).passes ≡ false
  step : (w : Watched) → (f₁ w ≡ f₂ w) ⊎ (((f₁ w).names.over ≡ true) × ((f₂ w).names.over ≡ true))

resolving_both : (f₁ f₂ : Watched → Resolved Watched) → Step f₁ f₂ → (k₁ k₂ : ℕ → Writer Watched) → ((n : ℕ) → Both (k₁ n) (k₂ n)) → Both (resolving f₁ k₁) (resolving f₂ k₂)
resolving_both f₁ f₂ st k₁ k₂ h = record {
  sticks₁ = λ w e. subst (λ (s : Said Watched). (said_names s).over ≡ true) (resolved_within f₁ k₁ w (st.within₁ w)) ((h (f₁ w).version).sticks₁ (f₁ w).names (st.keeps₁ w e));
  sticks₂ = λ w e. subst (λ (s : Said Watched). (said_names s).over ≡ true) (resolved_within f₂ k₂ w (st.within₂ w)) ((h (f₂ w).version).sticks₂ (f₂ w).names (st.keeps₂ w e));
  alike = λ w. subst (Alike (resolving f₁ k₁ w)) (resolved_within f₂ k₂ w (st.within₂ w))
      (subst (λ (s : Said Watched). Alike s (k₂ (f₂ w).version (f₂ w).names)) (resolved_within f₁ k₁ w (st.within₁ w)) (within w));
}
  where
    within : (w : Watched) → Alike (k₁ (f₁ w).version (f₁ w).names) (k₂ (f₂ w).version (f₂ w).names)
    within w = ⊎_elim
        (λ e. subst (λ (r : Resolved Watched). Alike (k₁ (f₁ w).version (f₁ w).names) (k₂ r.version r.names)) e ((h (f₁ w).version).alike (f₁ w).names))
        (λ q. over_intro (k₁ (f₁ w).version (f₁ w).names) (k₂ (f₂ w).version (f₂ w).names) ((h (f₁ w).version).sticks₁ (f₁ w).names q.0) ((h (f₂ w).version).sticks₂ (f₂ w).names q.1))
        (st.step w)

-- none is passed over: the number is that of the Rust
pub passes_none : (B : Btf) (space : Space) (name : Name) (u : Apart) → passes_over B space name u ≡ false → number_for B space name u ≡ one_more (holders u.names.ledger space name)
unfolding passes_over number_for
passes_none B space name u = go (eqb (holders u.names.ledger space name) 0) refl
  where
    go : (t : Bool) → eqb (holders u.names.ledger space name) 0 ≡ t
        → elim t as (λ z. Bool) [ true ↦ false | false ↦ is_name_among (spelled name (one_more (holders u.names.ledger space name))) (taken B space u) ] ≡ false
        → number_for B space name u ≡ one_more (holders u.names.ledger space name)
    go true q e = rw (q, number_for) (sym (ap one_more (eqb-true (holders u.names.ledger space name) 0 q) ∙ more_first))
    go false q e = not_passed B space name u e

module _ (B : Btf) where
  abbrev c : Space → Name → Watched → ℕ
  c space name w = one_more (holders w.names.names.ledger space name)

  abbrev passed : Space → Name → Watched → Bool
  passed space name w = passes_over B space name w.names || w.over

  -- with the number n for a type that has none
  abbrev new_type : Space → ℕ → Name → Watched → ℕ → Resolved Watched
  new_type space id name w n = record {
    passes = false;
    version = n;
    names = record {
      names = record { names = record { versions = set w.names.names.versions id n; ledger = with_one w.names.names.ledger space name }; printed = shown space (of_type id) name n w.names };
      over = passed space name w;
    };
  }

  abbrev old_type : Space → ℕ → Name → Watched → Resolved Watched
  old_type space id name w = record {
    passes = false;
    version = get_or w.names.names.versions id 0;
    names = record { names = record { names = w.names.names; printed = shown space (of_type id) name (get_or w.names.names.versions id 0) w.names }; over = w.over };
  }

  abbrev new_value : ℕ → ℕ → Name → Watched → ℕ → Resolved Watched
  new_value id i name w n = record {
    passes = false;
    version = n;
    names = record {
      names = record { names = record { versions = w.names.names.versions; ledger = with_one w.names.names.ledger ident_space name }; printed = shown ident_space (of_value id i) name n w.names };
      over = passed ident_space name w;
    };
  }

  -- the numbers of the Rust, watched
  unfoldable pub type_counted : Space → ℕ → Name → Watched → Resolved Watched
  type_counted space id name w = elim (eqb (get_or w.names.names.versions id 0) 0) [ true ↦ new_type space id name w (c space name w) | false ↦ old_type space id name w ]

  abbrev value_counted : ℕ → ℕ → Name → Watched → Resolved Watched
  value_counted id i name w = new_value id i name w (c ident_space name w)

  abbrev pub counting : Naming Watched
  counting = record { type_version = type_counted; value_version = value_counted; leaving = λ held w. w }

  type_is : (space : Space) (id : ℕ) (name : Name) (w : Watched)
      → type_watched B space id name w ≡ elim (eqb (get_or w.names.names.versions id 0) 0) [ true ↦ new_type space id name w (number_for B space name w.names) | false ↦ old_type space id name w ]
  unfolding type_watched type_apart
  type_is space id name w = go (eqb (get_or w.names.names.versions id 0) 0) refl
    where
      go : (t : Bool) → eqb (get_or w.names.names.versions id 0) 0 ≡ t
          → type_watched B space id name w ≡ elim t as (λ z. Resolved Watched) [ true ↦ new_type space id name w (number_for B space name w.names) | false ↦ old_type space id name w ]
      go true q = rw (q, type_watched, type_apart) refl
      go false q = rw (q, type_watched, type_apart) refl

  -- one way or the other, by whether the type has no number yet
  module _ (space : Space) (id : ℕ) (name : Name) (w : Watched) where
    abbrev by : Bool → ℕ → Resolved Watched
    by t n = elim t as (λ z. Resolved Watched) [ true ↦ new_type space id name w n | false ↦ old_type space id name w ]

    by_keeps : (t : Bool) (n : ℕ) → w.over ≡ true → (by t n).names.over ≡ true
    by_keeps true n e = ap (λ (z : Bool). passes_over B space name w.names || z) e ∙ or-true (passes_over B space name w.names)
    by_keeps false n e = e

    by_within : (t : Bool) (n : ℕ) → (by t n).passes ≡ false
    by_within true n = refl
    by_within false n = refl

    by_step : (t : Bool) → (by t (number_for B space name w.names) ≡ by t (c space name w))
        ⊎ (((by t (number_for B space name w.names)).names.over ≡ true) × ((by t (c space name w)).names.over ≡ true))
    by_step true = go (passes_over B space name w.names) refl
      where
        go : (q : Bool) → passes_over B space name w.names ≡ q → (new_type space id name w (number_for B space name w.names) ≡ new_type space id name w (c space name w)) ⊎ ((passed space name w ≡ true) × (passed space name w ≡ true))
        go true e = inr (ap (λ (z : Bool). z || w.over) e, ap (λ (z : Bool). z || w.over) e)
        go false e = inl (ap (new_type space id name w) (passes_none B space name w.names e))
    by_step false = inl refl

  type_step : (space : Space) (id : ℕ) (name : Name) → Step (type_watched B space id name) (type_counted space id name)
  unfolding type_counted
  type_step space id name = record {
    keeps₁ = λ w e. subst (λ (r : Resolved Watched). r.names.over ≡ true) (sym (type_is space id name w)) (by_keeps space id name w (eqb (get_or w.names.names.versions id 0) 0) (number_for B space name w.names) e);
    keeps₂ = λ w e. by_keeps space id name w (eqb (get_or w.names.names.versions id 0) 0) (c space name w) e;
    within₁ = λ w. subst (λ (r : Resolved Watched). r.passes ≡ false) (sym (type_is space id name w)) (by_within space id name w (eqb (get_or w.names.names.versions id 0) 0) (number_for B space name w.names));
    within₂ = λ w. by_within space id name w (eqb (get_or w.names.names.versions id 0) 0) (c space name w);
    step = λ w. subst (λ (r : Resolved Watched). (r ≡ type_counted space id name w) ⊎ ((r.names.over ≡ true) × ((type_counted space id name w).names.over ≡ true))) (sym (type_is space id name w))
        (by_step space id name w (eqb (get_or w.names.names.versions id 0) 0));
  }

  value_step : (id i : ℕ) (name : Name) → Step (value_watched B id i name) (value_counted id i name)
  unfolding value_watched value_apart
  value_step id i name = record { keeps₁ = keeps; keeps₂ = keeps; within₁ = λ w. refl; within₂ = λ w. refl; step = λ w. go w (passes_over B ident_space name w.names) refl }
    where
      keeps : (w : Watched) → w.over ≡ true → passed ident_space name w ≡ true
      keeps w e = ap (λ (z : Bool). passes_over B ident_space name w.names || z) e ∙ or-true (passes_over B ident_space name w.names)

      go : (w : Watched) (q : Bool) → passes_over B ident_space name w.names ≡ q
          → (new_value id i name w (number_for B ident_space name w.names) ≡ new_value id i name w (c ident_space name w)) ⊎ ((passed ident_space name w ≡ true) × (passed ident_space name w ≡ true))
      go w true e = inr (ap (λ (z : Bool). z || w.over) e, ap (λ (z : Bool). z || w.over) e)
      go w false e = inl (ap (new_value id i name w) (passes_none B ident_space name w.names e))

  closed : Closed (watched B) counting AnyName AnyValue (λ v₁ v₂. Both v₁ v₂)
  closed = record {
    c_put = put_both;
    c_stop = λ n q. stop_both n;
    c_then = then_both;
    c_type = λ space id name f e k₁ k₂ h. resolving_both (type_watched B space id name) (type_counted space id name) (type_step space id name) k₁ k₂ h;
    c_value = λ id i name f k₁ k₂ h. resolving_both (value_watched B id i name) (value_counted id i name) (value_step id i name) k₁ k₂ h;
  }

  line_same : (room : ℕ) (k : Known Watched) {s₁ s₂ : Said Watched} → Alike s₁ s₂ → line_watched room k s₁ ≡ line_watched room k s₂
  unfolding line_watched
  line_same room k (same w t m) = refl
  line_same room k (over v w t u m n p q) =
      ap (λ (z : Bool). elim z as (λ y. Line (Known Watched) Watched) [ true ↦ cannot k.names passed_over | false ↦ line_of room k.text_len (said v t m) ]) p
      ∙ sym (ap (λ (z : Bool). elim z as (λ y. Line (Known Watched) Watched) [ true ↦ cannot k.names passed_over | false ↦ line_of room k.text_len (said w u n) ]) q)

  fwd_same : (room : ℕ) (k : Known Watched) (id : ℕ) → (lines_watched (watched B) B).fwd room k id ≡ (lines_watched counting B).fwd room k id
  fwd_same room k id =
      line_same room k ((r_forward (watched B) counting AnyName AnyValue (λ v₁ v₂. Both v₁ v₂) closed B (λ x. any_fits x (B.type_by_id x)) id (B.type_by_id id) (any_fits id (B.type_by_id id))).alike k.names)

  def_same : (room : ℕ) (k : Known Watched) (id : ℕ) → (lines_watched (watched B) B).body' room k id ≡ (lines_watched counting B).body' room k id
  def_same room k id =
      line_same room k ((r_definition (watched B) counting AnyName AnyValue (λ v₁ v₂. Both v₁ v₂) closed B (λ x. any_fits x (B.type_by_id x)) id (B.type_by_id id) (any_fits id (B.type_by_id id))).alike k.names)

  -- the same lines
  pub lines_same : lines_watched (watched B) B ≡ lines_watched counting B
  lines_same = λ i. record {
    fwd = λ room k id. fwd_same room k id i;
    alias' = λ room k id. fwd_same room k id i;
    leaf' = λ room k id. def_same room k id i;
    body' = λ room k id. def_same room k id i;
    held' = λ k. k.names;
    leaving' = λ held k. k;
  }

  -- ---- the names of the one are those of the new mode, of the other those of the old
  pub watched_names : RelNaming (λ (u : Apart) (w : Watched). w.names ≡ u) AnyName AnyValue (apart B) (watched B)
  unfolding type_watched value_watched
  watched_names = record {
    rel_type = λ space id name f e u w r. (ap (λ (z : Apart). (type_apart B space id name z).passes) (sym r), ap (λ (z : Apart). (type_apart B space id name z).version) (sym r), ap (λ (z : Apart). (type_apart B space id name z).names) r);
    rel_value = λ id i name f u w r. (ap (λ (z : Apart). (value_apart B id i name z).passes) (sym r), ap (λ (z : Apart). (value_apart B id i name z).version) (sym r), ap (λ (z : Apart). (value_apart B id i name z).names) r);
    rel_leaving = λ h x q u w r. r;
  }

  abbrev pub Rel : Watched → Names → Type 0
  Rel w v = w.names.names ≡ v

  type_rel : (space : Space) (id : ℕ) (name : Name) (w : Watched) → RelResolved Rel (type_counted space id name w) (type_version space id name w.names.names)
  unfolding type_counted type_version
  type_rel space id name w = go (eqb (get_or w.names.names.versions id 0) 0)
    where
      go : (t : Bool) → RelResolved Rel (by space id name w t (c space name w)) (elim t as (λ z. Resolved Names) [
        | false ↦ record { passes = false; version = get_or w.names.names.versions id 0; names = w.names.names }
        | true ↦ record { passes = false; version = c space name w; names = record { versions = set w.names.names.versions id (c space name w); ledger = with_one w.names.names.ledger space name } }
      ])
      go true = (refl, refl, refl)
      go false = (refl, refl, refl)

  pub counting_names : RelNaming Rel AnyName AnyValue counting naming
  unfolding value_version
  counting_names = record {
    rel_type = λ space id name f e w v r. subst (λ (z : Names). RelResolved Rel (type_counted space id name w) (type_version space id name z)) r (type_rel space id name w);
    rel_value = λ id i name f w v r. subst (λ (z : Names). RelResolved Rel (value_counted id i name w) (value_version name z)) r (refl, refl, refl);
    rel_leaving = λ h x q w v r. r;
  }

-- ---- a line that is watched is refused for that, or is the line
line_up : (room : ℕ) (k : Known Watched) (s : Said Watched) → LineUp (Known Watched) Watched 23 (line_watched room k s) (line_of room k.text_len s)
unfolding line_watched
line_up room k (said w t m) = go w.over
  where
    go : (b : Bool) → LineUp (Known Watched) Watched 23 (elim b as (λ y. Line (Known Watched) Watched) [ true ↦ cannot k.names passed_over | false ↦ line_of room k.text_len (said w t m) ]) (line_of room k.text_len (said w t m))
    go true = inl (k.names, refl)
    go false = inr refl

pub lines_up : (N : Naming Watched) (B : Btf) → LinesUp (Known Watched) Watched 23 (lines_watched N B) (lines_by N B)
lines_up N B = record {
  fwd_up = λ room k id. line_up room k (forward N B id (B.type_by_id id) k.names);
  alias_up = λ room k id. line_up room k (forward N B id (B.type_by_id id) k.names);
  leaf_up = λ room k id. line_up room k (definition N B id (B.type_by_id id) k.names);
  body_up = λ room k id. line_up room k (definition N B id (B.type_by_id id) k.names);
  held_up = λ k. refl;
  leaving_up = λ h k. refl;
}
