-- A law for each return of `dump_all`, `end`, `type_with` and `types_with`. Assumes nothing.
use Prim.Native.Nat.{ℕ, suc, ◌+◌, ◌*◌, ◌-◌, ◌<◌, ◌≤◌}
use mathlib.Core.Path.{◌≡◌, refl, ap, ◌∙◌, sym, subst}
use mathlib.Core.Bool.{Bool, true, false, not, true≢false}
use mathlib.Core.List.{List, []}
use native.Mathlib.Omega.{arith}
use native.Mathlib.Numerals.{add-one}
use lib.ListN.{length, get_or, replicate}
use lib.Dec.{ltb}
use borrow.Author.Tests.{ltb-true, le-ltb, lt-ltb, not-true, not-false}
use Rattle.std.specs.Prelude.{Option, Some, None, is_some}
use Rattle.spec_bytes.specs.declared.refusal.Refusal.{Refusal}
use Rattle.spec_bytes.specs.declared.refusal.Refusal.TheVariants.{NoSuchId, SessionClosed}
use Rattle.spec_type_table.specs.declared.types.TypeTable.{TypeTable}
use Rattle.btf_open_causes.specs.header.Header.{btf_of as settings_of}
use Rattle.spec_session.specs.declared.session.Session.{Session}
use Rattle.spec_session.specs.declared.session.Turn.{Turn}
use Rattle.spec_session.specs.session.Answers.{answer_is, answer_of}
use Rattle.spec_session.specs.session.Turns.{call_of, refused_turn, is_current, Reach, reached, refused_by, reach_of, visits_in, then_zeros, settled, unchanged}
use Rattle.spec_session.proofs.session.Laws.{reach_accepted, reach_refused}
use Rattle.spec_session.specs.calls.Refusals.{number, value, not_current, refusal}
use Rattle.spec_c_dumper.specs.origins.Causes.{Entry, up_to, filled, entries_in}
use Rattle.c_dumper_emit.specs.entries.Traced.{entries_of}
use Rattle.c_dumper_emit.proofs.entries.Laws.{entries_length}
use Rattle.session_requests.proofs.request.Entries.{filled_is}
use Rattle.spec_c_dumper.specs.rules.Machine.{pick}
use lib.LanesLaws.{map-replicate}
use Rattle.c_dumper_dependency_order.specs.leaders.Leaders.{leader_word, leader_words}
use Rattle.c_dumper_emit.specs.dump_type.Kept.{no_leaders}
use Rattle.session_requests.specs.declared.options.Options.{Options}
use Rattle.session_requests.specs.options.Counted.{Progress}
use Rattle.session_requests.specs.options.Counted.{Ended}
use Rattle.session_requests.specs.options.Requests.{Stage, stage_of, Ready, requested_with, onward_with, requested_from_with, ended_of, settled_with, as_it_was, type_call_with, types_call_with}

-- ---- whether a refusal stopped the requests
pub not_stopped : (x : Option Refusal) → is_some x ≡ false → x ≡ None
not_stopped None h = refl
not_stopped (Some c) h = absurd (true≢false h)

pub stopped_by : (x : Option Refusal) → is_some x ≡ true → (c : Refusal) × (x ≡ Some c)
stopped_by None h = absurd (true≢false (sym h))
stopped_by (Some c) h = (c, refl)

-- ---- dump_all
pub all_start : (o : Options) (more : ℕ → Bool) (b : TypeTable) (s : List ℕ) (n id len v : ℕ) (w t l : List ℕ) (r : Progress) → r ≡ record { of = record { len = len; stop = None; visits = v }; count = 0; made = 0 }
    → requested_from_with o more b s n id [] len w t 0 ≡ requested_from_with o more b s n id (entries_of r.count l) r.of.len w t r.made
unfolding entries_of
all_start o more b s n id len v w t l r e = sym (ap (λ (x : Progress). requested_from_with o more b s n id (entries_of x.count l) x.of.len w t x.made) e)

module _ (o : Options) (room : ℕ) (b : TypeTable) (s : List ℕ) (whole : Stage) where
  abbrev more : ℕ → Bool
  more = up_to room

  unroll : (n id : ℕ) (es : List Entry) (len : ℕ) (w t : List ℕ) (k : ℕ) → id < n
      → requested_from_with o more b s (n - id) id es len w t k ≡ onward_with o more b s (requested_with o more b s id es len (visits_in w) w t k) (requested_from_with o more b s (n - (id + 1)) (id + 1))
  unfolding requested_from_with
  unroll n id es len w t k h =
      let e : n - id ≡ suc (n - (id + 1)) = omega arith in
      ap (λ (j : ℕ). requested_from_with o more b s j id es len w t k) e
      ∙ ap (λ (j : ℕ). onward_with o more b s (requested_with o more b s id es len (visits_in w) w t k) (requested_from_with o more b s (n - (id + 1)) j)) (sym (add-one id))

  pub all_done : (n id : ℕ) (r : Progress) (w t l : List ℕ) → n ≤ id → r.of.stop ≡ None → whole ≡ requested_from_with o more b s (n - id) id (entries_of r.count l) r.of.len w t r.made → stage_of r w t l ≡ whole
  unfolding requested_from_with stage_of
  all_done n id r w t l h z e =
      let k : n - id ≡ 0 = omega arith in
      ap (λ (q : Reach). record { reach = q; entries = entries_of r.count l; made = r.made }) (reach_accepted r.of w t z)
      ∙ sym (e ∙ ap (λ (m : ℕ). requested_from_with o more b s m id (entries_of r.count l) r.of.len w t r.made) k)

  module _ (n id : ℕ) (es : List Entry) (len : ℕ) (w t : List ℕ) (k : ℕ) (h : id < n) (e : whole ≡ requested_from_with o more b s (n - id) id es len w t k) (r : Progress) (w' t' l' : List ℕ) (room₁ : ℕ) (e₁ : room₁ ≡ room)
      (er : stage_of r w' t' l' ≡ requested_with o (up_to room₁) b s id es len (visits_in w) w t k) where
    goes_on : whole ≡ onward_with o more b s (stage_of r w' t' l') (requested_from_with o more b s (n - (id + 1)) (id + 1))
    goes_on =
        e ∙ unroll n id es len w t k h
        ∙ ap (λ (q : Stage). onward_with o more b s q (requested_from_with o more b s (n - (id + 1)) (id + 1))) (sym (er ∙ ap (λ (n : ℕ). requested_with o (up_to n) b s id es len (visits_in w) w t k) e₁))

    pub all_more : r.of.stop ≡ None → whole ≡ requested_from_with o more b s (n - (id + 1)) (id + 1) (entries_of r.count l') r.of.len w' t' r.made
    unfolding onward_with stage_of
    all_more z =
        goes_on
        ∙ ap (λ (q : Reach). elim q as (λ (x : Reach). Stage) [ reached a c d ↦ requested_from_with o more b s (n - (id + 1)) (id + 1) (entries_of r.count l') a c d r.made | refused_by a c f d ↦ stage_of r w' t' l' ]) (reach_accepted r.of w' t' z)

    pub all_stop : (c : Refusal) → r.of.stop ≡ Some c → stage_of r w' t' l' ≡ whole
    unfolding onward_with stage_of
    all_stop c z =
        sym (goes_on
        ∙ ap (λ (q : Reach). elim q as (λ (x : Reach). Stage) [ reached a c d ↦ requested_from_with o more b s (n - (id + 1)) (id + 1) (entries_of r.count l') a c d r.made | refused_by a c f d ↦ stage_of r w' t' l' ]) (reach_refused r.of w' t' c z))

-- ---- type_with, types_with
-- the array, as the code makes it
pub made : leader_words (replicate 262145 (record { turn = 0; lead = 0 })) ≡ no_leaders
unfolding no_leaders leader_words leader_word
made = map-replicate leader_word 262145 (record { turn = 0; lead = 0 })

pub few_settings : (section : List ℕ) (pointer modes types : ℕ) (b : TypeTable) → b ≡ settings_of section pointer modes types → b.types ≤ 262145
unfolding settings_of
few_settings section pointer modes types b e = subst (λ (n : ℕ). n ≤ 262145) (sym (ap (λ (x : TypeTable). x.types) e)) (go (ltb types 262145) refl)
  where
    go : (c : Bool) → ltb types 262145 ≡ c → pick c types 262145 ≤ 262145
    go true q = let h : types < 262145 = ltb-true types 262145 q in omega arith
    go false q = omega arith

-- what a call has ready its requests have, at the same options
pub ready_same : (o o' : Options) (turn : ℕ) (leaders : List ℕ) → o' ≡ o → Ready o turn leaders → Ready o' turn leaders
ready_same o o' turn leaders e h = subst (λ (x : Options). Ready x turn leaders) (sym e) h

-- ---- end
module _ (s : Session) (r : Progress) (w t l : List ℕ) (bytes : (i : ℕ) → get_or l i 0 < 256) (few : r.count ≤ entries_in l) where
  pub ended_is : (turn : Turn) (w' t' l' : List ℕ) → call_of turn.session (answer_is turn.answer) w' t' ≡ settled s (length w) (length t) (reach_of r.of w t) → l' ≡ then_zeros (length l) (r.count * 12) l
      → ended_of (record { of = turn; count = r.count; made = r.made }) w' t' l' ≡ settled_with s (length w) (length t) l (stage_of r w t l)
  unfolding ended_of settled_with stage_of
  ended_is turn w' t' l' et el = λ i. record { call = et i; count = sym (entries_length r.count l) i; list = (el ∙ filled_is l bytes r.count (omega arith)) i; made = r.made }

module _ (o : Options) (s : Session) (section w t l : List ℕ) (q : Bool) (eq : q ≡ is_current s (length section) (length w) (length t)) where
  module _ (h : not q ≡ true) (r : Ended) (er : r ≡ record { of = refused_turn s SessionClosed s.text_len; count = 0; made = 0 }) where
    is_11 : ended_of r w t l ≡ as_it_was (unchanged s (refusal not_current s.text_len) w t) l 0
    unfolding ended_of call_of answer_of number value
    is_11 = ap (λ (x : Ended). ended_of x w t l) er

    pub type_11 : (id : ℕ) → ended_of r w t l ≡ type_call_with o s section w t id l 0
    unfolding type_call_with
    type_11 id = is_11 ∙ sym (rw (sym eq ∙ not-true q h, type_call_with))

    pub types_11 : ended_of r w t l ≡ types_call_with o s section w t l
    unfolding types_call_with
    types_11 = is_11 ∙ sym (rw (sym eq ∙ not-true q h, types_call_with))

  module _ (h : not q ≡ false) where
    pub type_10 : (id : ℕ) → s.types ≤ id → (r : Ended) → r ≡ record { of = refused_turn s NoSuchId s.text_len; count = 0; made = 0 } → ended_of r w t l ≡ type_call_with o s section w t id l 0
    unfolding type_call_with ended_of call_of answer_of number value
    type_10 id i r er =
        ap (λ (x : Ended). ended_of x w t l) er
        ∙ sym (rw (sym eq ∙ not-false q h, type_call_with, le-ltb id s.types i))

    module _ (b : TypeTable) (eb : b ≡ settings_of section s.pointer_size s.modes s.types) (section' : List ℕ) (es : section' ≡ section) (o' : Options) (eo : o' ≡ o) (r : Progress) (w' t' l' : List ℕ) (lw : length w' ≡ length w) (lt : length t' ≡ length t) (ll : length l' ≡ length l)
        (d : Ended) (w'' t'' l'' : List ℕ) (ed : ended_of d w'' t'' l'' ≡ settled_with s (length w') (length t') l' (stage_of r w' t' l')) where
      settles : (a : Stage) → stage_of r w' t' l' ≡ a → ended_of d w'' t'' l'' ≡ settled_with s (length w) (length t) l a
      unfolding settled_with
      settles a ea = ed ∙ (λ i. record { call = settled s (lw i) (lt i) (ea i).reach; count = length (ea i).entries; list = filled (ll i) (ea i).entries; made = (ea i).made })

      pub type_done : (id : ℕ) → id < s.types → (p : Progress) → p ≡ record { of = record { len = s.text_len; stop = None; visits = s.visits }; count = 0; made = 0 }
          → stage_of r w' t' l' ≡ requested_with o' (up_to (entries_in l)) b section' id (entries_of p.count l) p.of.len p.of.visits w t p.made
          → ended_of d w'' t'' l'' ≡ type_call_with o s section w t id l 0
      unfolding type_call_with entries_of
      type_done id i p ep er =
          settles _ (er ∙ (λ j. requested_with (eo j) (up_to (entries_in l)) (eb j) (es j) id (entries_of (ep j).count l) (ep j).of.len (ep j).of.visits w t (ep j).made))
          ∙ sym (rw (sym eq ∙ not-false q h, type_call_with, lt-ltb id s.types i))

      pub types_done : stage_of r w' t' l' ≡ requested_from_with o' (up_to (entries_in l)) b section' (b.types - 1) 1 [] s.text_len w t 0 → ended_of d w'' t'' l'' ≡ types_call_with o s section w t l
      unfolding types_call_with
      types_done er =
          settles _ (er ∙ (λ j. requested_from_with (eo j) (up_to (entries_in l)) (eb j) (es j) ((eb j).types - 1) 1 [] s.text_len w t 0))
          ∙ sym (rw (sym eq ∙ not-false q h, types_call_with))
