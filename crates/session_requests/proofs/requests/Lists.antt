-- A law for each return of `dump_ids` and `list_with`: it does not matter when what follows the text and the entries is zeroed, so once is
-- enough. Assumes nothing.
use Prim.Native.Nat.{ℕ, zero, suc, zero-le, ◌+◌, ◌*◌, ◌-◌, ◌/◌, ◌<◌, ◌≤◌}
use mathlib.Core.Path.{◌≡◌, refl, ap, ◌∙◌, sym, subst}
use mathlib.Core.Bool.{Bool, true, false, not}
use mathlib.Core.List.{List, [], ◌++◌, append_assoc}
use mathlib.Core.Logic.{⊎_elim, ◌⊎◌, inl, inr}
use native.Mathlib.Omega.{arith}
use native.Mathlib.Nat.{le_refl}
use native.Mathlib.Numerals.{add-one}
use lib.ListN.{length, get_or, take, drop, replicate, take-append-drop, length-drop, get_or-eq_default}
use lib.Seq.{length-take-le, drop_at}
use borrow.Author.Tests.{le-ltb, lt-ltb, lt-leb, not-true}
use borrow.Rule.Slice.PartMut.{mid_of, put_mid, mid_len, same_len_mid}
use Rattle.std.proofs.lemmas.Bool.{cases_lt}
use Rattle.std.specs.Prelude.{Some, None, Ok}
use Rattle.spec_bytes.specs.declared.refusal.Refusal.{Refusal}
use Rattle.spec_bytes.specs.declared.refusal.Refusal.TheVariants.{NoSuchId, SessionClosed}
use Rattle.spec_bytes.specs.Refusals.{refusal_number}
use Rattle.spec_bytes.specs.words.Words.{get_word}
use Rattle.spec_opening.proofs.Opens.{some_number}
use Rattle.spec_c_dumper.specs.rules.Machine.{Out}
use Rattle.spec_c_dumper.specs.rules.Types.{table_of}
use Rattle.spec_c_dumper.specs.rules.Request.{dumped}
use Rattle.spec_type_table.specs.declared.types.TypeTable.{TypeTable}
use Rattle.spec_type_table.specs.Table.{btf_of}
use Rattle.spec_session.specs.emission.Slices.{Slices, work_machine}
use Rattle.spec_session.specs.session.Answers.{Refused, answer_is, number_of, answer_of}
use Rattle.spec_session.specs.declared.session.Session.{Session}
use Rattle.spec_session.specs.declared.session.Turn.{Turn}
use Rattle.spec_session.specs.session.Turns.{Call, call_of, refused_turn, is_current, Reach, reached, refused_by, reach_of, with_text, then_zeros, settled, table_for, visits_in}
use Rattle.spec_session.proofs.session.Laws.{reach_accepted, reach_refused, zeros_twice}
use Rattle.spec_session.specs.calls.Refusals.{number, value}
use Rattle.spec_session.specs.calls.Calls.{came_to, lent_to, requested}
use Rattle.spec_session.specs.calls.Lists.{ids_in, count_in, tailed, list_end}
use Rattle.spec_session.proofs.calls.Claims.{number_is, request_sane, type_settles, zeros_length, zeros_head}
use Rattle.spec_session.proofs.calls.Singles.{settled_with_lem}
use Rattle.spec_session.proofs.calls.Lists.{ids_from, ids_all, ids_none, ids_some, ids_cons, tail_length, tail_head, current, called, open_now, sane_listed}
use Rattle.spec_c_dumper.specs.origins.Causes.{Traced as TracedOf, up_to, shows_in, filled, entries_in}
use Rattle.spec_c_dumper.specs.origins.Claims.{forget, Lined}
use Rattle.spec_session.specs.origin_calls.Bytes.{dumped_traced, came_to_traced, requested_traced}
use Rattle.spec_session.proofs.origin_calls.Bytes.{dumped_lined}
use Rattle.spec_session.specs.metered.Metered.{calls_in}
use Rattle.c_dumper_emit.specs.entries.Traced.{entries_of}
use Rattle.c_dumper_emit.proofs.entries.Laws.{entries_length}
use Rattle.session_requests.proofs.request.Entries.{filled_is, byte_after, take_both}
use Rattle.session_requests.proofs.request.Laws.{part_same, part_put, part_count, part_few, part_stage}
use Rattle.session_requests.specs.declared.options.Options.{Options}
use Rattle.session_requests.specs.declared.options.Options.TheVariants as option
use Rattle.session_requests.specs.options.Options.{is_listed, is_counted, most_calls}
use Rattle.session_requests.specs.options.Counted.{Progress}
use Rattle.session_requests.specs.options.Counted.{Tallied}
use Rattle.session_requests.specs.options.Counted.{Ended}
use Rattle.session_requests.specs.options.Requests.{Stage, stage_of, fits_under, made_under, requested_listed, requested_under, requested_with, CallWith, ended_of, settled_with, as_it_was, type_call_with}
use Rattle.session_requests.specs.options.Lists.{front_with, go_on_with, list_from_with, list_call_with, cleared_if, tally_of, unknown_after, list_after, end_with}

-- ---- the calls of a list
pub goes_on : (n : ℕ) (d : CallWith) (f : CallWith → CallWith) → number_of d.call.answer ≡ 0 → go_on_with n d f ≡ front_with d.count (take (d.count * 12) d.list) (f d)
unfolding go_on_with
goes_on n d f e = rw (e, go_on_with)

pub stops_at : (n m : ℕ) (d : CallWith) (f : CallWith → CallWith) → number_of d.call.answer ≡ m → (m ≡ 0 → ⊥)
    → go_on_with n d f ≡ record { call = call_of d.call.session (answer_of m n) d.call.work d.call.text; count = d.count; list = d.list; made = d.made }
unfolding go_on_with
stops_at n zero d f e h = absurd (h refl)
stops_at n (suc m) d f e h = rw (e, go_on_with)

-- ---- what follows is zeroed
zeros_drop : (n m : ℕ) (l : List ℕ) → n ≤ length l → drop n (then_zeros m n l) ≡ replicate (m - n) 0
unfolding then_zeros
zeros_drop n m l h = drop_at (take n l) (replicate (m - n) 0) n (length-take-le n l h)

module _ (len : ℕ) (t : List ℕ) (h : len ≤ length t) where
  cleared_tail : (lists : Bool) (k : ℕ) → tailed (suc k) len (cleared_if lists len t) ≡ then_zeros (length t) len t
  unfolding tailed cleared_if
  cleared_tail true k =
      (λ i. then_zeros (zeros_length len (length t) t h h i) len (then_zeros (length t) len t))
      ∙ sym (zeros_twice (length t) len (then_zeros (length t) len t))
      ∙ ap (then_zeros (length t) len) (zeros_head len (length t) t h h len (le_refl len))
      ∙ zeros_twice (length t) len t
  cleared_tail false k = refl

  cleared_is : (lists : Bool) → lists ≡ true → cleared_if lists len t ≡ then_zeros (length t) len t
  unfolding cleared_if
  cleared_is lists e = ap (λ (b : Bool). cleared_if b len t) e

  -- with a list the text stands as single requests leave it
  pub clean_next : (lists : Bool) (k : ℕ) (t'' : List ℕ) → t'' ≡ cleared_if lists len t → lists ≡ true → tailed (k + 1) len t'' ≡ t''
  clean_next lists k t'' e l =
      (λ i. tailed (add-one k i) len (e i)) ∙ cleared_tail lists k ∙ sym (e ∙ cleared_is lists l)

  pub cleared_length : (lists : Bool) (t'' : List ℕ) → t'' ≡ cleared_if lists len t → length t'' ≡ length t
  unfolding cleared_if
  cleared_length true t'' e = ap length e ∙ zeros_length len (length t) t h h
  cleared_length false t'' e = ap length e

-- ---- clear_if
module _ (o : Options) (len : ℕ) (t : List ℕ) where
  pub kept_text : (o ≡ option.Plain) ⊎ ((c : ℕ) × (o ≡ option.Within c)) → t ≡ cleared_if (is_listed o) len t
  unfolding cleared_if
  kept_text e = ⊎_elim (λ f. sym (ap (λ (x : Options). cleared_if (is_listed x) len t) f)) (λ f. sym (ap (λ (x : Options). cleared_if (is_listed x) len t) f.1)) e

  pub zeroed_text : o ≡ option.Listed → (t' : List ℕ) → t' ≡ then_zeros (length t) len t → t' ≡ cleared_if (is_listed o) len t
  unfolding cleared_if
  zeroed_text f t' e = e ∙ sym (ap (λ (x : Options). cleared_if (is_listed x) len t) f)

pub clean_start : (len : ℕ) (t : List ℕ) → tailed 0 len t ≡ t
unfolding tailed
clean_start len t = refl

-- ---- a refused request's number
module _ (room : ℕ) (b : TypeTable) (s : List ℕ) (id len v : ℕ) (w t : List ℕ) where
  abbrev F : (ℕ → Bool) → Out (TracedOf Slices) (Unit {0})
  F r = dumped_traced (work_machine b (btf_of b s w)) (table_of (btf_of b s w)) r (shows_in (btf_of b s w)) (record { work = w; text = lent_to len t; at = 0; len = 0 }) [] id

  lined : Lined ⊥ 0 F (dumped (work_machine b (btf_of b s w)) (table_of (btf_of b s w)) (record { work = w; text = lent_to len t; at = 0; len = 0 }) id)
  lined = dumped_lined (work_machine b (btf_of b s w)) (table_of (btf_of b s w)) (shows_in (btf_of b s w)) (record { work = w; text = lent_to len t; at = 0; len = 0 }) [] id

  traced_reach : ((requested_traced (up_to room) b s id [] len v w t).reach ≡ requested b s id len v w t) ⊎ ((requested_traced (up_to room) b s id [] len v w t).reach ≡ refused_by 17 len v (take len t))
  unfolding requested_traced came_to_traced requested came_to forget
  traced_reach = ⊎_elim
      (λ h. inr (ap (λ (o : Out (TracedOf Slices) (Unit {0})). came_to len v t (forget o)) (lined.short room zero-le h).1))
      (λ h. inl (ap (λ (o : Out (TracedOf Slices) (Unit {0})). came_to len v t (forget o)) (lined.fits room h) ∙ ap (came_to len v t) lined.same)) (cases_lt room lined.need)

  module _ (short : len ≤ length t) where
    number_same : {a a' : ℕ} {d d' : ℕ} {e e' : ℕ} {u u' : List ℕ} → refused_by a d e u ≡ refused_by a' d' e' u' → a ≡ a'
    number_same q = cc

    plain_large : (c len' v' : ℕ) (t' : List ℕ) → requested b s id len v w t ≡ refused_by c len' v' t' → 12 ≤ c
    plain_large c len' v' t' q =
        let z = (sane_listed len (take len t) (length t) (requested b s id len v w t) (request_sane len (take len t) (length t) len t (le_refl len) short refl refl b s id v w) c len' v' t' q).0 in
        omega (arith, z)

    listed_large : (lists : Bool) (c len' v' : ℕ) (t' : List ℕ) → (requested_listed (up_to room) b s lists id [] len v w t).reach ≡ refused_by c len' v' t' → 12 ≤ c
    unfolding requested_listed
    listed_large true c len' v' t' q = ⊎_elim (λ p. plain_large c len' v' t' (sym p ∙ q)) (λ p. let z : 17 ≡ c = number_same (sym p ∙ q) in omega arith) traced_reach
    listed_large false c len' v' t' q = plain_large c len' v' t' q

    pub with_large : (o : Options) (k c len' v' : ℕ) (t' : List ℕ) → (requested_with o (up_to room) b s id [] len v w t k).reach ≡ refused_by c len' v' t' → 12 ≤ c
    unfolding requested_with requested_under
    with_large o k c len' v' t' q = go (fits_under (is_counted o) (most_calls o) k (calls_in b s w id)) q
      where
        go : (y : Bool) → (elim y as (λ _. Stage) [
          | true ↦ record {
            reach = (requested_listed (up_to room) b s (is_listed o) id [] len v w t).reach;
            entries = (requested_listed (up_to room) b s (is_listed o) id [] len v w t).entries;
            made = made_under (is_counted o) k (calls_in b s w id);
          }
          | false ↦ record { reach = refused_by 22 len v (take len t); entries = []; made = (most_calls o) }
        ]).reach ≡ refused_by c len' v' t' → 12 ≤ c
        go true p = listed_large (is_listed o) c len' v' t' p
        go false p = let z : 22 ≡ c = number_same p in omega arith

-- the bytes of a part
part_bytes : (l u : List ℕ) (c : ℕ) → c ≤ entries_in l → length u ≡ length (mid_of (c * 12) (length l - c * 12) l) → ((j : ℕ) → get_or (put_mid (c * 12) (length l - c * 12) l u) j 0 < 256) → (j : ℕ) → get_or u j 0 < 256
part_bytes l u c h same bytes j = ⊎_elim
    (λ i. subst (λ (x : ℕ). x < 256) (byte_after l u c (omega arith) same j i) (bytes (c * 12 + j)))
    (λ i. subst (λ (x : ℕ). x < 256) (sym (get_or-eq_default u 0 i)) (omega arith))
    (cases_lt j (length u))

-- ---- one id after another
module _ (o : Options) (s : Session) (section : List ℕ) (es : s.section_len ≡ length section) where
  -- a call on another text that begins alike, or with a list on the same text, comes to what the request comes to
  module _ (k len v : ℕ) (w t l₁ l₂ : List ℕ) (ew : s.work_len ≡ length w) (h : len ≤ length t) (ll : length l₁ ≡ length l₂) (clean : (is_listed o) ≡ true → tailed k len t ≡ t) (id m : ℕ) where
    abbrev t₁ : List ℕ
    t₁ = tailed k len t

    abbrev S : Session
    S = with_text s true len v

    abbrev b : TypeTable
    b = table_for s section

    now_current : is_current S (length section) (length w) (length t₁) ≡ true
    now_current = current s section es len v w t t₁ ew (tail_length k len t h) h (tail_head k len t h) id

    past : s.types ≤ id → type_call_with o S section w t₁ id l₁ m ≡ as_it_was (call_of S (Refused 10 len) w t₁) l₁ m
    unfolding type_call_with call_of number value answer_of
    past l = rw (now_current, type_call_with, le-ltb id s.types l) refl

    on : id < s.types → type_call_with o S section w t₁ id l₁ m ≡ settled_with S (length w) (length t₁) l₁ (requested_with o (up_to (entries_in l₁)) b section id [] len v w t₁ m)
    unfolding type_call_with
    on l = rw (now_current, type_call_with, lt-ltb id s.types l)

    -- without a list
    abbrev stage_by : Bool → List ℕ → Stage
    stage_by y u = elim y as (λ _. Stage) [
      | true ↦ record { reach = requested b section id len v w u; entries = []; made = made_under (is_counted o) m (calls_in b section w id) }
      | false ↦ record { reach = refused_by 22 len v (take len u); entries = []; made = (most_calls o) }
    ]

    abbrev fits : Bool
    fits = fits_under (is_counted o) (most_calls o) m (calls_in b section w id)

    unlisted : (more : ℕ → Bool) (u : List ℕ) → (is_listed o) ≡ false → requested_with o more b section id [] len v w u m ≡ stage_by fits u
    unfolding requested_with requested_under requested_listed
    unlisted more u e = λ i. requested_under more b section (e i) (is_counted o) (most_calls o) id [] len v w u m

    same_settled : id < s.types → (y : Bool) → settled_with S (length w) (length t₁) l₁ (stage_by y t₁) ≡ settled_with s (length w) (length t) l₂ (stage_by y t)
    unfolding settled_with settled
    same_settled l true = λ i. record {
      call = (sym (type_settles S section w t₁ id now_current l) ∙ called s section es len v w t t₁ ew (tail_length k len t h) h (tail_head k len t h) id l) i;
      count = 0;
      list = filled (ll i) [];
      made = made_under (is_counted o) m (calls_in b section w id);
    }
    same_settled l false = λ i. record {
      call = record { session = with_text s false len v; answer = answer_of 22 len; work = replicate (length w) 0; text = then_zeros (tail_length k len t h i) len (sym (tail_head k len t h) i) };
      count = 0;
      list = filled (ll i) [];
      made = (most_calls o);
    }

    with_same : (r : Stage) → settled_with S (length w) (length t) l₁ r ≡ settled_with s (length w) (length t) l₂ r
    unfolding settled_with
    with_same r = λ i. record { call = settled_with_lem s len v (length w) (length t) r.reach i; count = length r.entries; list = filled (ll i) r.entries; made = r.made }

    asked : id < s.types → (y : Bool) → (is_listed o) ≡ y → type_call_with o S section w t₁ id l₁ m ≡ settled_with s (length w) (length t) l₂ (requested_with o (up_to (entries_in l₂)) b section id [] len v w t m)
    asked l true e =
        on l
        ∙ (λ i. settled_with S (length w) (tail_length k len t h i) l₁ (requested_with o (up_to (ll i / 12)) b section id [] len v w (clean e i) m))
        ∙ with_same (requested_with o (up_to (entries_in l₂)) b section id [] len v w t m)
    asked l false e =
        on l
        ∙ ap (settled_with S (length w) (length t₁) l₁) (unlisted (up_to (entries_in l₁)) t₁ e)
        ∙ same_settled l fits
        ∙ ap (settled_with s (length w) (length t) l₂) (sym (unlisted (up_to (entries_in l₂)) t e))

  -- where the loop stands: k accepted, the text has len bytes, the list c entries, m calls made; whole: what the call comes to
  module _ (b : TypeTable) (eb : b ≡ table_for s section) (ids : List ℕ) (n : ℕ) (whole : CallWith) where
    abbrev pub Rest : ℕ → ℕ → ℕ → ℕ → ℕ → List ℕ → List ℕ → List ℕ → Type 0
    Rest k len v c m w t l =
        whole ≡ front_with c (take (c * 12) l) (list_from_with o k (with_text s true len v) section w (tailed k len t) (drop (c * 12) (tailed k (c * 12) l)) (ids_from ids k (n - k)) m)

    module _ (k len v c m : ℕ) (w t l : List ℕ) (ew : s.work_len ≡ length w) (h : len ≤ length t) (hl : c ≤ entries_in l) (clean : (is_listed o) ≡ true → tailed k len t ≡ t) (e : Rest k len v c m w t l) where
      abbrev N : Session
      N = with_text s true len v

      room : c * 12 ≤ length l
      room = omega arith

      abbrev behind_them : List ℕ
      behind_them = drop (c * 12) (tailed k (c * 12) l)

      list_whole : tailed k (c * 12) l ≡ take (c * 12) l ++ behind_them
      list_whole = sym (take-append-drop (c * 12) (tailed k (c * 12) l)) ∙ ap (λ (x : List ℕ). x ++ behind_them) (sym (tail_head k (c * 12) l room))

      none_more : c ≡ c + 0
      none_more = omega arith

      pub list_done : n ≤ k → end_with s (record { of = record { len = len; stop = None; accepted = k; visits = v }; count = c; made = m }) w t l ≡ whole
      unfolding end_with list_end list_after ids_from list_from_with
      list_done i =
          let z : n - k ≡ 0 = omega arith in
          (λ j. record { call = call_of N (answer_of 0 k) w (tailed k len t); count = none_more j; list = list_whole j; made = m })
          ∙ sym (e ∙ ap (λ (x : ℕ). front_with c (take (c * 12) l) (list_from_with o k N section w (tailed k len t) behind_them (ids_from ids k x) m)) z)

      module _ (i : k < n) (id : ℕ) (ei : id ≡ get_word ids k) where
        abbrev later : CallWith → CallWith
        later d = list_from_with o (suc k) d.call.session section d.call.work d.call.text (drop (d.count * 12) d.list) (ids_from ids (k + 1) (n - (k + 1))) d.made

        next : whole ≡ front_with c (take (c * 12) l) (go_on_with k (type_call_with o N section w (tailed k len t) id behind_them m) later)
        unfolding list_from_with
        next =
            e
            ∙ ap (λ (x : List ℕ). front_with c (take (c * 12) l) (list_from_with o k N section w (tailed k len t) behind_them x m)) (ids_cons ids k n i)
            ∙ ap (λ (x : ℕ). front_with c (take (c * 12) l) (go_on_with k (type_call_with o N section w (tailed k len t) x behind_them m) later)) (sym ei)

        pub list_past : s.types ≤ id → end_with s (record { of = record { len = len; stop = Some NoSuchId; accepted = k; visits = v }; count = c; made = m }) w t l ≡ whole
        unfolding end_with list_end list_after number_of call_of
        list_past p =
            (λ j. record { call = call_of N (answer_of 10 k) w (tailed k len t); count = none_more j; list = list_whole j; made = m })
            ∙ sym (next
            ∙ ap (λ (d : CallWith). front_with c (take (c * 12) l) (go_on_with k d later)) (past k len v w t behind_them behind_them ew h refl clean id m p)
            ∙ ap (front_with c (take (c * 12) l)) (stops_at k 10 (as_it_was (call_of N (Refused 10 len) w (tailed k len t)) behind_them m) later refl (λ z. absurd (omega arith))))

        module _ (p : id < s.types) (r : Progress) (w' t' list' : List ℕ) (ll : length list' ≡ length l) (stays : take (c * 12) list' ≡ take (c * 12) l)
            (all : stage_of r w' t' list' ≡ requested_with o (up_to (entries_in l)) b section id (entries_of c l) len v w t m) (small : r.count ≤ entries_in list')
            (all_bytes : (j : ℕ) → get_or list' j 0 < 256) where
          -- on what follows the entries
          abbrev d : Progress
          d = record { of = r.of; count = r.count - c; made = r.made }

          abbrev u : List ℕ
          u = drop (c * 12) list'

          same : length u ≡ length (mid_of (c * 12) (length l - c * 12) l)
          same = part_same o b section w t l len v c id m hl r w' t' list' ll stays all small

          er : stage_of d w' t' u ≡ requested_with o (up_to (entries_in (mid_of (c * 12) (length l - c * 12) l))) b section id [] len v w t m
          er = part_stage o b section w t l len v c id m hl r w' t' list' ll stays all small

          few : d.count ≤ entries_in (mid_of (c * 12) (length l - c * 12) l)
          few = part_few o b section w t l len v c id m hl r w' t' list' ll stays all small

          put_all : put_mid (c * 12) (length l - c * 12) l u ≡ list'
          put_all = part_put o b section w t l len v c id m hl r w' t' list' ll stays all small

          count_all : c + d.count ≡ r.count
          count_all = part_count o b section w t l len v c id m hl r w' t' list' ll stays all small

          whole_bytes : (j : ℕ) → get_or (put_mid (c * 12) (length l - c * 12) l u) j 0 < 256
          whole_bytes j = subst (λ (x : List ℕ). get_or x j 0 < 256) (sym put_all) (all_bytes j)

          bytes : (j : ℕ) → get_or u j 0 < 256
          bytes = part_bytes l u c hl same whole_bytes

          abbrev mid : List ℕ
          mid = mid_of (c * 12) (length l - c * 12) l

          abbrev l' : List ℕ
          l' = put_mid (c * 12) (length l - c * 12) l u

          mid_long : length mid ≡ length l - c * 12
          mid_long = mid_len (c * 12) (length l) l (omega arith)

          pub whole_long : length l' ≡ length l
          whole_long = same_len_mid (c * 12) (length l - c * 12) l u same

          behind_long : length behind_them ≡ length mid
          behind_long = length-drop (c * 12) (tailed k (c * 12) l) ∙ omega (arith, tail_length k (c * 12) l room, mid_long)

          inside : d.count * 12 ≤ length u
          inside = omega (arith, same, few)

          abbrev zeroed : List ℕ
          zeroed = then_zeros (length u) (d.count * 12) u

          abbrev came : Reach → CallWith
          came q = record { call = settled s (length w) (length t) q; count = d.count; list = zeroed; made = d.made }

          settles : (q : Reach) → reach_of d.of w' t' ≡ q → settled_with s (length w) (length t) mid (stage_of d w' t' u) ≡ came q
          unfolding settled_with stage_of
          settles q eq = λ j. record {
            call = settled s (length w) (length t) (eq j);
            count = entries_length d.count u j;
            list = (ap (λ (x : ℕ). filled x (entries_of d.count u)) (sym same) ∙ sym (filled_is u bytes d.count (omega (arith, same, few)))) j;
            made = d.made;
          }

          reach_is : requested_with o (up_to (entries_in mid)) (table_for s section) section id [] len v w t m ≡ stage_of d w' t' u
          reach_is = sym (er ∙ ap (λ (x : TypeTable). requested_with o (up_to (entries_in mid)) x section id [] len v w t m) eb)

          onward : (q : Reach) → reach_of d.of w' t' ≡ q → whole ≡ front_with c (take (c * 12) l) (go_on_with k (came q) later)
          onward q eq =
              next
              ∙ ap (λ (x : CallWith). front_with c (take (c * 12) l) (go_on_with k x later))
              (asked k len v w t behind_them mid ew h behind_long clean id m p (is_listed o) refl
              ∙ ap (settled_with s (length w) (length t) mid) reach_is
              ∙ settles q eq)

          heads : take (c * 12) l ++ take (d.count * 12) zeroed ≡ take ((c + d.count) * 12) l'
          heads = ap (λ (x : List ℕ). take (c * 12) l ++ x) (zeros_head (d.count * 12) (length u) u inside inside (d.count * 12) (le_refl (d.count * 12))) ∙ sym (take_both l c room u d.count)

          both_room : (c + d.count) * 12 ≤ length l'
          both_room = omega (arith, whole_long, same, mid_long, few)

          tails : drop (d.count * 12) zeroed ≡ drop ((c + d.count) * 12) (then_zeros (length l') ((c + d.count) * 12) l')
          tails =
              let z : length u - d.count * 12 ≡ length l' - (c + d.count) * 12 = omega (arith, whole_long, same, mid_long) in
              zeros_drop (d.count * 12) (length u) u inside ∙ ap (λ (x : ℕ). replicate x 0) z ∙ sym (zeros_drop ((c + d.count) * 12) (length l') l' both_room)

          fronts : (x : CallWith) → front_with c (take (c * 12) l) (front_with d.count (take (d.count * 12) zeroed) x) ≡ front_with (c + d.count) (take ((c + d.count) * 12) l') x
          fronts x =
              let z : c + (d.count + x.count) ≡ c + d.count + x.count = omega arith in
              λ j. record {
                call = x.call;
                count = z j;
                list = (sym (append_assoc (take (c * 12) l) (take (d.count * 12) zeroed) x.list) ∙ ap (λ (y : List ℕ). y ++ x.list) heads) j;
                made = x.made;
              }

          tailed_more : tailed (k + 1) ((c + d.count) * 12) l' ≡ then_zeros (length l') ((c + d.count) * 12) l'
          unfolding tailed
          tailed_more = ap (λ (x : ℕ). tailed x ((c + d.count) * 12) l') (add-one k)

          part_more : length t' ≡ length t → (fit : d.of.len ≤ length t') → d.of.stop ≡ None → (t'' : List ℕ) → t'' ≡ cleared_if (is_listed o) d.of.len t' → (x : ℕ) → x ≡ visits_in w'
              → Rest (k + 1) d.of.len x (c + d.count) d.made w' t'' l'
          unfolding settled
          part_more lt fit z t'' et x ex =
              onward (reached d.of.len w' t') (reach_accepted d.of w' t' z)
              ∙ ap (front_with c (take (c * 12) l)) (goes_on k (came (reached d.of.len w' t')) later (number_is 0 d.of.len))
              ∙ fronts (list_from_with o (suc k) (with_text s true d.of.len (visits_in w')) section w' (then_zeros (length t) d.of.len t') (drop (d.count * 12) zeroed) (ids_from ids (k + 1) (n - (k + 1))) d.made)
              ∙ (λ j. front_with (c + d.count) (take ((c + d.count) * 12) l') (list_from_with o (sym (add-one k) j) (with_text s true d.of.len (sym ex j)) section w'
              ((ap (λ (y : ℕ). then_zeros y d.of.len t') (sym lt) ∙ sym (ap (λ (y : ℕ). tailed y d.of.len t'') (add-one k) ∙ ap (tailed (suc k) d.of.len) et ∙ cleared_tail d.of.len t' fit (is_listed o) k)) j)
              ((tails ∙ ap (drop ((c + d.count) * 12)) (sym tailed_more)) j) (ids_from ids (k + 1) (n - (k + 1))) d.made))

          pub list_more : length t' ≡ length t → (fit : r.of.len ≤ length t') → r.of.stop ≡ None → (t'' : List ℕ) → t'' ≡ cleared_if (is_listed o) r.of.len t' → (x : ℕ) → x ≡ visits_in w'
              → Rest (k + 1) r.of.len x r.count r.made w' t'' list'
          list_more lt fit z t'' et x ex =
              part_more lt fit z t'' et x ex ∙ (λ j. front_with (count_all j) (take (count_all j * 12) (put_all j)) (list_from_with o (k + 1) (with_text s true r.of.len x) section w' (tailed (k + 1) r.of.len t'')
              (drop (count_all j * 12) (tailed (k + 1) (count_all j * 12) (put_all j))) (ids_from ids (k + 1) (n - (k + 1))) r.made))

          module _ (x : Refusal) (z : d.of.stop ≡ Some x) where
            large : 12 ≤ refusal_number x
            unfolding stage_of
            large = with_large (entries_in mid) (table_for s section) section id len v w t h o m (refusal_number x) d.of.len d.of.visits (take d.of.len t')
                (ap (λ (y : Stage). y.reach) reach_is ∙ reach_refused d.of w' t' x z)

            abbrev ended : Call
            ended = call_of (with_text s false d.of.len d.of.visits) (answer_of (refusal_number x) k) (replicate (length w') 0) (then_zeros (length t') d.of.len t')

            -- what the code leaves
            closed : end_with s (tally_of (record { of = d.of; count = c + d.count; made = d.made }) k) w' t' l' ≡ record { call = ended; count = c + d.count; list = then_zeros (length l') ((c + d.count) * 12) l'; made = d.made }
            unfolding end_with list_end list_after call_of
            closed =
                (λ j. end_with s (record { of = record { len = d.of.len; stop = z j; accepted = k; visits = d.of.visits }; count = c + d.count; made = d.made }) w' t' l')
                ∙ rw (lt-leb (refusal_number x) 10 (omega (arith, large)), list_end, list_after) refl

            part_stop : length w' ≡ length w → length t' ≡ length t → end_with s (tally_of (record { of = d.of; count = c + d.count; made = d.made }) k) w' t' l' ≡ whole
            unfolding settled call_of
            part_stop lw lt =
                closed
                ∙ sym (onward (refused_by (refusal_number x) d.of.len d.of.visits (take d.of.len t')) (reach_refused d.of w' t' x z)
                ∙ ap (front_with c (take (c * 12) l)) (stops_at k (refusal_number x) (came (refused_by (refusal_number x) d.of.len d.of.visits (take d.of.len t'))) later (number_is (refusal_number x) d.of.len) (some_number x))
                ∙ (λ j. record {
                  call = (sym (λ i. call_of (with_text s false d.of.len d.of.visits) (answer_of (refusal_number x) k) (replicate (lw i) 0) (then_zeros (lt i) d.of.len (take d.of.len t')))
                      ∙ ap (call_of (with_text s false d.of.len d.of.visits) (answer_of (refusal_number x) k) (replicate (length w') 0)) (zeros_twice (length t') d.of.len t')) j;
                  count = c + d.count;
                  list = ending j;
                  made = d.made;
                }))
              where
                ending : take (c * 12) l ++ zeroed ≡ then_zeros (length l') ((c + d.count) * 12) l'
                ending =
                    ap (λ (y : List ℕ). take (c * 12) l ++ y) (sym (take-append-drop (d.count * 12) zeroed))
                    ∙ sym (append_assoc (take (c * 12) l) (take (d.count * 12) zeroed) (drop (d.count * 12) zeroed))
                    ∙ (λ j. heads j ++ tails j)
                    ∙ ap (λ (y : List ℕ). y ++ drop ((c + d.count) * 12) (then_zeros (length l') ((c + d.count) * 12) l')) (sym (zeros_head ((c + d.count) * 12) (length l') l' both_room both_room ((c + d.count) * 12) (le_refl ((c + d.count) * 12))))
                    ∙ take-append-drop ((c + d.count) * 12) (then_zeros (length l') ((c + d.count) * 12) l')

            pub list_stop : length w' ≡ length w → length t' ≡ length t → end_with s (tally_of r k) w' t' list' ≡ whole
            list_stop lw lt = (λ j. end_with s (tally_of (record { of = r.of; count = sym count_all j; made = r.made }) k) w' t' (sym put_all j)) ∙ part_stop lw lt

  list_start : (w t l : List ℕ) → is_current s (length section) (length w) (length t) ≡ true → (ids : List ℕ) (n : ℕ) → n ≡ count_in ids → (b : TypeTable) (eb : b ≡ table_for s section)
      → Rest b eb ids n (list_call_with o s section w t (ids_in ids) l) 0 s.text_len s.visits 0 0 w t l
  unfolding list_call_with tailed
  list_start w t l h ids n e b eb =
      let z : count_in ids ≡ n - 0 = omega arith in
      ap (λ (x : List ℕ). list_from_with o 0 s section w t l x 0) (ids_all ids ∙ ap (ids_from ids 0) z)
      ∙ ap (λ (x : Bool). list_from_with o 0 (with_text s x s.text_len s.visits) section w t l (ids_from ids 0 (n - 0)) 0) (open_now s section w t h)
      ∙ (λ j. record { call = all.call; count = zeroed all.count j; list = all.list; made = all.made })
    where
      all : CallWith
      all = list_from_with o 0 (with_text s true s.text_len s.visits) section w t l (ids_from ids 0 (n - 0)) 0

      zeroed : (m : ℕ) → m ≡ 0 + m
      zeroed m = omega arith

  pub list_begin : (w t l : List ℕ) → is_current s (length section) (length w) (length t) ≡ true → (ids : List ℕ) (n : ℕ) → n ≡ count_in ids → (b : TypeTable) (eb : b ≡ table_for s section)
      → (r : Progress) → r ≡ record { of = record { len = s.text_len; stop = None; visits = s.visits }; count = 0; made = 0 }
      → Rest b eb ids n (list_call_with o s section w t (ids_in ids) l) 0 r.of.len r.of.visits r.count r.made w t l
  list_begin w t l h ids n e b eb r er =
      subst (λ (x : Progress). Rest b eb ids n (list_call_with o s section w t (ids_in ids) l) 0 x.of.len x.of.visits x.count x.made w t l) (sym er) (list_start w t l h ids n e b eb)

module _ (r : Tallied) (s : Session) (w t l : List ℕ) (whole : CallWith) where
  pub tally_is : (p : Progress) (k : ℕ) → r ≡ tally_of p k → end_with s (tally_of p k) w t l ≡ whole → end_with s r w t l ≡ whole
  tally_is p k e f = ap (λ (x : Tallied). end_with s x w t l) e ∙ f

  pub tally_past : (p q : Progress) (k : ℕ) → r ≡ tally_of q k → q ≡ unknown_after p → end_with s (tally_of (unknown_after p) k) w t l ≡ whole → end_with s r w t l ≡ whole
  tally_past p q k e f g = ap (λ (x : Tallied). end_with s x w t l) (e ∙ ap (λ (x : Progress). tally_of x k) f) ∙ g

  pub tally_done : (p : Progress) (n k : ℕ) → r ≡ tally_of p n → n ≡ k → p.of.stop ≡ None
      → end_with s (record { of = record { len = p.of.len; stop = None; accepted = k; visits = p.of.visits }; count = p.count; made = p.made }) w t l ≡ whole → end_with s r w t l ≡ whole
  tally_done p n k e nk z f =
      ap (λ (x : Tallied). end_with s x w t l) (e ∙ (λ i. record { of = record { len = p.of.len; stop = z i; accepted = nk i; visits = p.of.visits }; count = p.count; made = p.made })) ∙ f

pub tally_room : (r : Tallied) (p : Progress) (k n : ℕ) → r ≡ tally_of p k → p.count ≤ n → r.count ≤ n
tally_room r p k n e h = subst (λ (x : ℕ). x ≤ n) (sym (ap (λ (x : Tallied). x.count) e)) h

-- ---- list_with
module _ (o : Options) (s : Session) (section w t l ids : List ℕ) where
  pub list_empty : length ids < 4 → ended_of (record { of = record { session = s; answer = Ok 0 }; count = 0; made = 0 }) w t l ≡ list_call_with o s section w t (ids_in ids) l
  unfolding list_call_with list_from_with ended_of answer_of
  list_empty h = sym (ap (λ (x : List ℕ). list_from_with o 0 s section w t l x 0) (ids_none ids h))

  not_current : (id : ℕ) → is_current s (length section) (length w) (length t) ≡ false → type_call_with o s section w t id l 0 ≡ as_it_was (call_of s (Refused 11 s.text_len) w t) l 0
  unfolding type_call_with call_of number value answer_of
  not_current id e = rw (e, type_call_with) refl

  pub list_11 : (q : Bool) → q ≡ is_current s (length section) (length w) (length t) → 4 ≤ length ids → not q ≡ true → (r : Ended) → r ≡ record { of = refused_turn s SessionClosed 0; count = 0; made = 0 } → ended_of r w t l ≡ list_call_with o s section w t (ids_in ids) l
  unfolding list_call_with list_from_with ended_of number_of call_of answer_of
  list_11 q eq i h r er =
      ap (λ (x : Ended). ended_of x w t l) er
      ∙ sym (ap (λ (x : List ℕ). list_from_with o 0 s section w t l x 0) (ids_some ids i)
      ∙ ap (λ (d : CallWith). go_on_with 0 d later) (not_current (get_word ids 0) (sym eq ∙ not-true q h))
      ∙ stops_at 0 11 (as_it_was (call_of s (Refused 11 s.text_len) w t) l 0) later refl (λ z. absurd (omega arith)))
    where
      later : CallWith → CallWith
      later x = list_from_with o 1 x.call.session section x.call.work x.call.text (drop (x.count * 12) x.list) (ids_from ids 1 (count_in ids - 1)) x.made

  pub list_ends : (turn : Turn) (r : Tallied) (w' t' l' w'' t'' l'' : List ℕ) → call_of turn.session (answer_is turn.answer) w'' t'' ≡ list_end s r.of w' t' → l'' ≡ list_after r l'
      → end_with s r w' t' l' ≡ list_call_with o s section w t (ids_in ids) l → ended_of (record { of = turn; count = r.count; made = r.made }) w'' t'' l'' ≡ list_call_with o s section w t (ids_in ids) l
  unfolding ended_of end_with
  list_ends turn r w' t' l' w'' t'' l'' e el f = (λ i. record { call = e i; count = r.count; list = el i; made = r.made }) ∙ f
