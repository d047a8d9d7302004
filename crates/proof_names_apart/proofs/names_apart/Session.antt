-- "In one session no two types of a space, no two printed enumerators and no typedef and enumerator then share a spelling." For every table, every list
-- of requests and every room. Assumes nothing.
use Prim.Native.Nat.{ℕ, zero, suc, ◌+◌, ◌<◌}
use mathlib.Core.Path.{◌≡◌, refl, sym, ◌∙◌, ap, ap₂, subst}
use mathlib.Core.Bool.{Bool, true, false, true≢false}
use mathlib.Core.List.Memᴰ
use mathlib.Core.List.{List, [], ◌∷◌, ◌++◌, Memᴰ}
use mathlib.Core.Logic.{◌⊎◌, inl, inr, ⊎_elim}
use native.Mathlib.Omega.{arith}
use native.Mathlib.Decide.{ℕ_discrete}
use lib.ListN.{get_or, set, replicate, length-replicate}
use lib.Dec.{eqb}
use borrow.Author.Tests.{eqb-false}
use Rattle.std.proofs.lemmas.Bool.{cases_lt}
use Rattle.spec_bytes.proofs.words.Laws.{set_one}
use Rattle.spec_c_dumper.specs.rules.Order.{new}
use Rattle.spec_c_dumper.specs.rules.Machine.{Sess, Req, run}
use Rattle.spec_c_dumper.specs.rules.Types.{Name, Enumerator, BtfType, Void, Int, Ptr, Array, Composite, Enum, Enum64, Fwd, Typedef, Mod, Func, Var, Datasec, FuncProto, Float, DeclTag, TypeTag, Btf, name_of, table_of}
use Rattle.spec_c_dumper.specs.rules.Names.{Space, tag_space, ident_space, Resolved, Names, holders, with_one}
use Rattle.spec_c_dumper.proofs.rules.Closed.{ValuesFit, TypeFits}
use Rattle.spec_c_dumper.proofs.rules.Related.{RelNaming}
use Rattle.spec_c_dumper.specs.needs.Needs.{WF}
use Rattle.spec_c_dumper.specs.needs.Demand.{Demand3}
use Rattle.spec_c_dumper.specs.needs.Lists.{Ls, afresh}
use Rattle.spec_c_dumper.specs.needs.Session.{Known, machine_by, opened_by}
use Rattle.spec_c_dumper.proofs.needs.Lists.{Sized}
use Rattle.spec_c_dumper.proofs.needs.Session.{machine_lawful, by_demand3}
use Rattle.spec_c_dumper.proofs.needs.Alike.{BothSess, serve_alike}
use Rattle.spec_c_dumper.proofs.needs.AnyNames.{Nearly, names_alike}
use Rattle.spec_c_dumper.specs.names_apart.Apart.{value_names, names_in, names_to, table_names, Who, of_type, of_value, Shown, Apart, number_for, shown, type_apart, value_apart, apart, none_shown, after_all, names_after, OneType, Alone, AllApart, Earlier, Enough, Ends}
use Rattle.proof_names_apart.proofs.names_apart.Fair.{space_of, space_in, entry, own, Fair, picked, again_fair, new_fair}

-- ---- the names of the records are names of the table

module _ (B : Btf) where
  abbrev pub Fits : Space → ℕ → Name → Type 0
  Fits space id name = (space ≡ space_of (B.type_by_id id)) × (name ≡ name_of (B.type_by_id id)) × Memᴰ name (table_names B space)

  abbrev pub FitsValue : ℕ → ℕ → Name → Type 0
  FitsValue id i name = Memᴰ name (table_names B ident_space)

  in_table : (space : Space) (x : Name) (id k : ℕ) → id < k → Memᴰ x (names_in space (B.type_by_id id)) → Memᴰ x (names_to B space k)
  unfolding names_to
  in_table space x id zero l m = absurd (omega arith)
  in_table space x id (suc k) l m = go (ℕ_discrete id k) (λ h. in_table space x id k h m)
    where
      go : Dec (id ≡ k) → (id < k → Memᴰ x (names_to B space k)) → Memᴰ x (names_in space (B.type_by_id k) ++ names_to B space k)
      go (yes e) f = Memᴰ.append_left (names_to B space k) (subst (λ (j : ℕ). Memᴰ x (names_in space (B.type_by_id j))) e m)
      go (no n) f = Memᴰ.append_right (names_in space (B.type_by_id k)) (f (omega arith))

  values_fit : (id i : ℕ) (vs : List Enumerator) → ((x : Name) → Memᴰ x (value_names vs) → Memᴰ x (table_names B ident_space)) → ValuesFit Fits FitsValue id i vs
  values_fit id i [] h = tt
  values_fit id i (v ∷ vs) h = (h v.name (Memᴰ.head refl), values_fit id (i + 1) vs (λ x m. h x (Memᴰ.tail m)))

  type_fits : (id : ℕ) (t : BtfType) → t ≡ B.type_by_id id → ((space : Space) (x : Name) → Memᴰ x (names_in space t) → Memᴰ x (table_names B space)) → TypeFits Fits FitsValue id t
  type_fits id Void e h = tt
  type_fits id (Int n b) e h = tt
  type_fits id (Ptr t) e h = tt
  type_fits id (Array t k) e h = tt
  type_fits id (Composite s n z ms) e h = (ap space_of e, ap name_of e, h tag_space n (Memᴰ.head refl))
  type_fits id (Enum s n z vs) e h = ((ap space_of e, ap name_of e, h tag_space n (Memᴰ.head refl)), values_fit id 0 vs (h ident_space))
  type_fits id (Enum64 s n z vs) e h = ((ap space_of e, ap name_of e, h tag_space n (Memᴰ.head refl)), values_fit id 0 vs (h ident_space))
  type_fits id (Fwd u n) e h = (ap space_of e, ap name_of e, h tag_space n (Memᴰ.head refl))
  type_fits id (Typedef n t) e h = (ap space_of e, ap name_of e, h ident_space n (Memᴰ.head refl))
  type_fits id (Mod q t) e h = tt
  type_fits id (Func n) e h = tt
  type_fits id (Var n) e h = tt
  type_fits id (Datasec n) e h = tt
  type_fits id (FuncProto r ps) e h = tt
  type_fits id (Float n z) e h = tt
  type_fits id (DeclTag a n t k) e h = tt
  type_fits id (TypeTag a n t) e h = tt

  pub fits : Ends B → (id : ℕ) → TypeFits Fits FitsValue id (B.type_by_id id)
  fits ends id = ⊎_elim
      (λ l. type_fits id (B.type_by_id id) refl (λ space x m. in_table space x id B.type_cnt l m))
      (λ l. subst (λ (t : BtfType). TypeFits Fits FitsValue id t) (sym (ends id l)) tt)
      (cases_lt id B.type_cnt)

-- ---- each name that is given keeps all apart

module _ (B : Btf) where
  -- few enough were printed before, if few enough are printed after
  less : (u : Apart) (v : Names) (a : Shown) → Enough B (record { names = v; printed = a ∷ u.printed }) → Enough B u
  less u v a r space = omega (arith, r space)

  module _ (space : Space) (id : ℕ) (name : Name) (f : Fits B space id name) (u : Apart) (h : Enough B u → Fair B u) where
    -- what type_apart gives, by whether the type has no number yet
    abbrev by : Bool → Resolved Apart
    by b = elim b as (λ (t : Bool). Resolved Apart) [
      | false ↦ record {
        passes = false;
        version = get_or u.names.versions id 0;
        names = record { names = u.names; printed = shown space (of_type id) name (get_or u.names.versions id 0) u };
      }
      | true ↦ record {
        passes = false;
        version = number_for B space name u;
        names = record {
          names = record { versions = set u.names.versions id (number_for B space name u); ledger = with_one u.names.ledger space name };
          printed = shown space (of_type id) name (number_for B space name u) u;
        };
      }
    ]

    its : (x : ℕ) → own B id x ≡ entry space (of_type id) name x
    its x = ap₂ (λ (s : Space) (k : Name). entry s (of_type id) k x) (sym f.0) (sym f.1)

    holds : (n x : ℕ) → (get_or (set u.names.versions id n) x 0 ≡ 0 → ⊥)
        → (own B x (get_or (set u.names.versions id n) x 0) ≡ entry space (of_type id) name n) ⊎ (get_or (set u.names.versions id n) x 0 ≡ get_or u.names.versions x 0)
    holds n x k = ⊎_elim (λ e. inr e) (λ e. inl (ap₂ (own B) e.0 e.1 ∙ its n)) (set_one u.names.versions id n x)

    by_fair : (b : Bool) → eqb (get_or u.names.versions id 0) 0 ≡ b → Enough B (by b).names → Fair B (by b).names
    by_fair true e r =
        let r' : Enough B u = less u (by true).names.names (entry space (of_type id) name (number_for B space name u)) r in
        new_fair B u (h r') space (of_type id) f.0 name (number_for B space name u) (picked B space name u f.2 (h r') r') (set u.names.versions id (number_for B space name u)) (holds (number_for B space name u))
    by_fair false e r =
        let r' : Enough B u = less u u.names (entry space (of_type id) name (get_or u.names.versions id 0)) r in
        subst (λ (a : Shown). Fair B (record { names = u.names; printed = a ∷ u.printed })) (its (get_or u.names.versions id 0))
        (again_fair B u (h r') id (eqb-false (get_or u.names.versions id 0) 0 e))

    type_fair : Enough B (type_apart B space id name u).names → Fair B (type_apart B space id name u).names
    unfolding type_apart
    type_fair r = by_fair (eqb (get_or u.names.versions id 0) 0) refl r

  value_fair : (id i : ℕ) (name : Name) → FitsValue B id i name → (u : Apart) → (Enough B u → Fair B u) → Enough B (value_apart B id i name u).names → Fair B (value_apart B id i name u).names
  unfolding value_apart
  value_fair id i name f u h r =
      let r' : Enough B u = less u (value_apart B id i name u).names.names (entry ident_space (of_value id i) name (number_for B ident_space name u)) r in
      new_fair B u (h r') ident_space (of_value id i) refl name (number_for B ident_space name u) (picked B ident_space name u f (h r') r') u.names.versions (λ x k. inr refl)

  -- fair, as long as numbers of 32 bits are enough
  abbrev pub Going : Apart → Apart → Type 0
  Going u v = (u ≡ v) × (Enough B u → Fair B u)

  going : RelNaming Going (Fits B) (FitsValue B) (apart B) (apart B)
  going = record {
    rel_type = λ space id name f e u v r. (
      ap (λ (x : Apart). (type_apart B space id name x).passes) r.0,
      ap (λ (x : Apart). (type_apart B space id name x).version) r.0,
      (ap (λ (x : Apart). (type_apart B space id name x).names) r.0, type_fair space id name f u r.1),
    );
    rel_value = λ id i name f u v r. (
      ap (λ (x : Apart). (value_apart B id i name x).passes) r.0,
      ap (λ (x : Apart). (value_apart B id i name x).version) r.0,
      (ap (λ (x : Apart). (value_apart B id i name x).names) r.0, value_fair id i name f u r.1),
    );
    rel_leaving = λ h x q u v r. r;
  }

-- ---- of what was printed

at_place : (later : List Shown) (a : Shown) (before : List Shown) → AllApart (later ++ (a ∷ before)) → Alone a before
at_place [] a before h = h.0
at_place (x ∷ later) a before h = at_place later a before h.1

type_of : Who → ℕ
type_of (of_type id) = id
type_of (of_value id i) = 0

is_type : Who → Bool
is_type (of_type id) = true
is_type (of_value id i) = false

type_one : (i j : ℕ) → of_type i ≡ of_type j → i ≡ j
unfolding type_of
type_one i j e = ap type_of e

no_value : (t id i : ℕ) → of_type t ≡ of_value id i → ⊥
unfolding is_type
no_value t id i e = true≢false (ap is_type e)

-- ---- a session

module _ (B : Btf) (ends : Ends B) (below : WF (table_of B)) where
  abbrev Q : Ls (Known Apart) → Ls (Known Apart) → Type 0
  Q s t = Nearly (Going B) B.type_cnt s t

  run_going : (rs : List Req) (S : Sess (Ls (Known Apart))) → BothSess Q S S → BothSess Q (run (machine_by (apart B) B) (table_of B) rs S) (run (machine_by (apart B) B) (table_of B) rs S)
  unfolding run
  run_going [] S h = h
  run_going (r ∷ rs) S h =
      run_going rs _ (serve_alike (machine_by (apart B) B) (machine_by (apart B) B) (table_of B) (Sized B.type_cnt) (machine_lawful (apart B) B B.type_cnt) below.below Q
      (Going B) (names_alike (Going B) (Fits B) (FitsValue B) (apart B) (apart B) (going B) B (fits B ends)) S S h r)

  none_fair : Fair B (none_shown B)
  unfolding holders
  none_fair = record {
    apart = tt;
    spaces = λ a m. absurd (Memᴰ.not-nil m);
    settled = λ a m. absurd (Memᴰ.not-nil m);
    kept = λ id n. absurd (n (all_zero_lem B.type_cnt id));
    counts = λ space name. omega arith;
  }
    where
      all_zero_lem : (k id : ℕ) → ◌≡◌ {A = ℕ} (get_or (replicate k 0) id 0) 0
      all_zero_lem zero id = refl
      all_zero_lem (suc k) zero = refl
      all_zero_lem (suc k) (suc id) = all_zero_lem k id

  opened_going : BothSess Q (opened_by (apart B) B (none_shown B)) (opened_by (apart B) B (none_shown B))
  unfolding afresh
  opened_going = record {
    same_open = refl;
    same_asked = refl;
    alike = record { rest = refl; names = (refl, λ r. none_fair); sized = record { marks_n = length-replicate B.type_cnt new; emits_n = length-replicate B.type_cnt new } };
  }

  pub session_fair : (rs : List Req) → Enough B (names_after B rs) → Fair B (names_after B rs)
  session_fair rs = (run_going rs (opened_by (apart B) B (none_shown B)) opened_going).alike.names.1

  -- "In one session no two types of a space, no two printed enumerators and no typedef and enumerator then share a spelling": what was printed in one
  -- space with one spelling is the name of one type
  pub names_stay_apart : (rs : List Req) → Enough B (names_after B rs) → AllApart (names_after B rs).printed
  names_stay_apart rs r = (session_fair rs r).apart

  module _ (rs : List Req) (room : Enough B (names_after B rs)) (a b : Shown) (p : Earlier (names_after B rs).printed b a) where
    in_after : {c : Shown} → Memᴰ c (a ∷ p.before) → Memᴰ c (names_after B rs).printed
    in_after {c} m = subst (λ (l : List Shown). Memᴰ c l) (sym p.place) (Memᴰ.append_right p.later m)

    spelled_alike : b.space ≡ a.space → b.spelling ≡ a.spelling → OneType b a
    spelled_alike e s = at_place p.later a p.before (subst AllApart p.place (names_stay_apart rs room)) b p.is_before e s

    -- "no two types of a space"
    pub two_types : (i j : ℕ) → b.who ≡ of_type i → a.who ≡ of_type j → (i ≡ j → ⊥) → b.space ≡ a.space → b.spelling ≡ a.spelling → ⊥
    two_types i j x y n e s =
        let o : OneType b a = spelled_alike e s in
        n (type_one i o.id (sym x ∙ o.first) ∙ sym (type_one j o.id (sym y ∙ o.second)))

    -- "no two printed enumerators": also the same one, printed twice
    pub two_values : (id i id' i' : ℕ) → b.who ≡ of_value id i → a.who ≡ of_value id' i' → b.spelling ≡ a.spelling → ⊥
    two_values id i id' i' x y s =
        let o : OneType b a = spelled_alike (value_space b id i (Memᴰ.tail p.is_before) x ∙ sym (value_space a id' i' (Memᴰ.head refl) y)) s in
        no_value o.id id i (sym o.first ∙ x)
      where
        value_space : (c : Shown) (k j : ℕ) → Memᴰ c (a ∷ p.before) → c.who ≡ of_value k j → c.space ≡ ident_space
        value_space c k j m q = (session_fair rs room).spaces c (in_after m) ∙ ap (space_in B) q

    -- "no typedef and enumerator", whichever comes first: a typedef's space is that of the enumerators
    pub typedef_then_value : (t id i : ℕ) → b.who ≡ of_type t → b.space ≡ ident_space → a.who ≡ of_value id i → b.spelling ≡ a.spelling → ⊥
    typedef_then_value t id i x z y s =
        let o : OneType b a = spelled_alike (z ∙ sym ((session_fair rs room).spaces a (in_after (Memᴰ.head refl)) ∙ ap (space_in B) y)) s in
        no_value o.id id i (sym o.second ∙ y)

    pub value_then_typedef : (t id i : ℕ) → b.who ≡ of_value id i → a.who ≡ of_type t → a.space ≡ ident_space → b.spelling ≡ a.spelling → ⊥
    value_then_typedef t id i x y z s =
        let o : OneType b a = spelled_alike ((session_fair rs room).spaces b (in_after (Memᴰ.tail p.is_before)) ∙ ap (space_in B) x ∙ sym z) s in
        no_value o.id id i (sym o.first ∙ x)

  -- demand 3 holds with these names too
  pub apart_demand3 : (rs : List Req) → Demand3 (machine_by (apart B) B) (table_of B) (after_all B rs)
  apart_demand3 rs = by_demand3 (apart B) B below (none_shown B) rs
