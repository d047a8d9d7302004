-- The laws for the returns of `dump_one`: by its options one request is that of the definitions. Assumes nothing.
use Prim.Native.Nat.{ℕ, zero-le, ◌+◌, ◌-◌, ◌<◌, ◌≤◌}
use mathlib.Core.Path.{◌≡◌, refl, ap, ◌∙◌, sym, subst}
use mathlib.Core.Bool.{Bool, true, false}
use mathlib.Core.List.{List, []}
use mathlib.Core.Logic.{⊎_elim}
use native.Mathlib.Omega.{arith}
use lib.ListN.{length}
use borrow.Rule.Slice.PartMut.{mid_of, put_mid, mid_len}
use Rattle.std.proofs.lemmas.Bool.{cases_lt}
use Rattle.std.specs.Prelude.{Option, Some, None, Ok, Err}
use Rattle.spec_bytes.specs.declared.refusal.Refusal.{Refusal}
use Rattle.spec_c_dumper.specs.ceiling.Ceiling.{Limit, unbounded, most, calls_made}
use Rattle.spec_c_dumper.specs.rules.Machine.{obind}
use Rattle.spec_c_dumper.specs.origins.Causes.{up_to, entries_in}
use Rattle.spec_type_table.specs.declared.types.TypeTable.{TypeTable}
use Rattle.spec_type_table.specs.Table.{btf_of}
use Rattle.c_dumper_dependency_order.specs.begin.Start.{limit_of as limit_by}
use Rattle.spec_session.specs.emission.Slices.{emit_out}
use Rattle.spec_session.proofs.emission.Laws.{slices}
use Rattle.spec_session.specs.metered.Metered.{ordered_in, calls_in}
use Rattle.spec_session.proofs.metered.Laws.{request_fits, request_over}
use Rattle.spec_session.specs.declared.session.Reached.{Reached}
use Rattle.spec_session.specs.session.Turns.{visits_in, reach_of}
use Rattle.spec_session.specs.calls.Calls.{limit_of, came_to, arrived_at}
use Rattle.spec_session.proofs.calls.Laws.{arrived_in_lem, arrived_past, end_accepted, accepted_fits, end_refused, refused_fits}
use Rattle.session_record.specs.arrival.Arrival.{arrived_in}
use Rattle.session_record.proofs.arrival.Arrival.{room_fits, arrived_accepted, arrived_refused, from_to, to_end}
use Rattle.c_dumper_emit.specs.declared.entries.Pen.{Pen}
use Rattle.c_dumper_emit.specs.entries.Traced.{traced_out}
use Rattle.c_dumper_emit.proofs.entries.Laws.{Penned}
use Rattle.c_dumper_emit.specs.dump_type.Kept.{with_leaders, dumped_kept}
use Rattle.c_dumper_emit.proofs.dump_type.Requests.{plain_is, plain_made, fits_is, fits_made, over_is, over_made}
use Rattle.session_requests.specs.declared.options.Options.{Options}
use Rattle.session_requests.specs.declared.options.Options.TheVariants as option
use Rattle.session_requests.specs.options.Options.{is_listed, is_counted, most_calls, ceiling_of}
use Rattle.session_requests.specs.options.Counted.{Progress}
use Rattle.session_requests.specs.options.Requests.{stage_of, within_of, Under, Ready, requested_with}
use Rattle.session_requests.proofs.request.Laws.{single, one_listed, one_within, one_plain, no_words, under_same, none_count}
use Rattle.session_requests.proofs.request.Pens.{place_of, count_of}
use Rattle.session_requests.proofs.request.Listed as listed
use Rattle.session_requests.proofs.request.Bare as bare

-- the ceiling that ordering is told
none_is : (o : Options) → is_counted o ≡ false → limit_by (ceiling_of o) ≡ unbounded
none_is (option.Plain) e = refl
none_is (option.Within c) e = absurd (let z : true ≡ false = e in cc)
none_is (option.Listed) e = refl

most_is : (o : Options) → is_counted o ≡ true → limit_by (ceiling_of o) ≡ most (most_calls o)
most_is (option.Plain) e = absurd (let z : false ≡ true = e in cc)
most_is (option.Within c) e = refl
most_is (option.Listed) e = absurd (let z : false ≡ true = e in cc)

module _ (o : Options) (b : TypeTable) (few : b.types ≤ 262145) (s w t l : List ℕ) (len id to k : ℕ) (small : id < 4294967296) (short : len < 4294967296) (within : len ≤ length t)
    (el : to ≡ limit_of (length t) len)
    (under : Under o k) (turn : ℕ) (q q' : List ℕ) (ready : Ready o turn q) (lq : length q' ≡ length q)
    (d : Penned) (u w' l' : List ℕ) (same : length u ≡ length (mid_of len (to - len) t)) (m : ℕ)
    (lists : Bool) (asks : lists ≡ is_listed o) (ceiling : Option ℕ) (ec : ceiling ≡ ceiling_of o)
    (told_e : with_leaders q' (traced_out 0 d u w' l') ≡ obind (with_leaders q (traced_out 0 (Ok (record { at = 0; count = 0 })) (mid_of len (to - len) t) w l)) (λ x. dumped_kept b (btf_of b s w) (record { lists = lists; room = entries_in l }) (limit_by ceiling) x id turn k))
    (told_m : m ≡ calls_made (ordered_in (btf_of b s w) (limit_by ceiling) (record { work = w; len = 0 }) id k)) (v : ℕ) where
  below : len ≤ to
  below = from_to (length t) len to el within

  ends : to ≤ length t
  ends = to_end (length t) len to el within

  abbrev mid : List ℕ
  mid = mid_of len (to - len) t

  abbrev text' : List ℕ
  text' = put_mid len (to - len) t u

  abbrev c : ℕ
  c = (most_calls o)

  abbrev opens : ℕ
  opens = calls_in b s w id

  -- what the code hands on says what the options say
  e_at : (x : Bool) (y : Limit) → (is_listed o) ≡ x → limit_by (ceiling_of o) ≡ y
      → with_leaders q' (traced_out 0 d u w' l') ≡ obind (with_leaders q (traced_out 0 (Ok (record { at = 0; count = 0 })) mid w l)) (λ z. dumped_kept b (btf_of b s w) (record { lists = x; room = entries_in l }) y z id turn k)
  e_at x y ex ey = told_e ∙ (λ i. obind (with_leaders q (traced_out 0 (Ok (record { at = 0; count = 0 })) mid w l)) (λ z. dumped_kept b (btf_of b s w) (record { lists = (asks ∙ ex) i; room = entries_in l }) ((ap limit_by ec ∙ ey) i) z id turn k))

  m_at : (y : Limit) → limit_by (ceiling_of o) ≡ y → m ≡ calls_made (ordered_in (btf_of b s w) y (record { work = w; len = 0 }) id k)
  m_at y ey = told_m ∙ ap (λ (z : Limit). calls_made (ordered_in (btf_of b s w) z (record { work = w; len = 0 }) id k)) (ap limit_by ec ∙ ey)

  -- whose reach is r, and text t'
  record Told (r : Reached) : Type 0 where
    stage : stage_of (record { of = r; count = count_of d; made = m }) w' text' l' ≡ requested_with o (up_to (entries_in l)) b s id [] len v w t k
    counts : count_of d ≤ entries_in l
    under_still : Under o m

  -- what holds of all ways: what is said of each reach; and of an accepted request, where it ends and what is ready
  record Way : Type 0 where
    told : (r : Reached) → reach_of r w' text' ≡ came_to len v t (emit_out 0 (place_of d) u w') → Told r
    inside : (p : Pen) → d ≡ Ok p → p.at ≤ length mid
    ready_next : (p : Pen) → d ≡ Ok p → Ready o (turn + 1) q'

  way_listed : (is_listed o) ≡ true → Way
  way_listed ex =
      let f = none_is o (single o ex) in
      let n : m ≡ k = m_at unbounded f ∙ plain_made (btf_of b s w) (record { work = w; len = 0 }) id k in
      record {
        told = λ r er.
            let a = listed.one_told b few s w t l len id to small d u w' l' turn k q q' (ready ex).0 (ready ex).1 (e_at true unbounded ex f) el v r text' er m in
            record {
              stage = one_listed o (up_to (entries_in l)) b s id len v w t k w' text' l' ex (record { of = r; count = count_of d; made = m }) a.0 n;
              counts = a.1;
              under_still = under_same o k m under n;
            };
        inside = listed.inside b few s w t l len id to small d u w' l' turn k q q' (ready ex).0 (ready ex).1 (e_at true unbounded ex f);
        ready_next = λ p z x. (lq ∙ (ready x).0, listed.traced_before b few s w t l len id to small d u w' l' turn k q q' (ready ex).0 (ready ex).1 (e_at true unbounded ex f) p z);
      }

  module _ (ex : (is_listed o) ≡ false) where
    way_plain : (is_counted o) ≡ false → Way
    way_plain ey =
        let f = none_is o ey in
        let g = e_at false unbounded ex f in
        let n : m ≡ k = m_at unbounded f ∙ plain_made (btf_of b s w) (record { work = w; len = 0 }) id k in
        let z : count_of d ≡ 0 = bare.empty b s w t l len id to d u w' l' unbounded turn k q q' g in
        let h = plain_is b (btf_of b s w) (slices 0 0 mid w) id k in
        record {
          told = λ r er. record {
            stage = (λ i. stage_of (record { of = r; count = z i; made = n i }) w' text' l')
                ∙ one_plain o (up_to (entries_in l)) b s id len v w t k w' text' l' ex ey r (bare.as_plain b s w t l len id to d u w' l' unbounded turn k q q' g h el v r text' er);
            counts = none_count (count_of d) (entries_in l) z;
            under_still = under_same o k m under n;
          };
          inside = bare.inside b s w t l len id to d u w' l' unbounded turn k q q' g h;
          ready_next = λ p y. no_words o (turn + 1) q' ex;
        }

    module _ (ey : (is_counted o) ≡ true) where
      f : limit_by (ceiling_of o) ≡ most c
      f = most_is o ey

      none_traced : count_of d ≡ 0
      none_traced = bare.empty b s w t l len id to d u w' l' (most c) turn k q q' (e_at false (most c) ex f)

      way_fits : k + opens ≤ c → Way
      unfolding within_of
      way_fits h =
          let n : m ≡ k + opens = m_at (most c) f ∙ fits_made b s (slices 0 0 mid w) refl id c k h in
          let g = fits_is b s (slices 0 0 mid w) refl id c k h in
          record {
            told = λ r er. record {
              stage = one_within o (up_to (entries_in l)) b s id len v w t k w' text' l' ex ey (record { of = r; count = count_of d; made = m })
                  ((λ i. record { reach = bare.as_plain b s w t l len id to d u w' l' (most c) turn k q q' (e_at false (most c) ex f) g el v r text' er i; made = n i }) ∙ sym (request_fits c b s id len v w t k h)) none_traced;
              counts = none_count (count_of d) (entries_in l) none_traced;
              under_still = λ _. omega arith;
            };
            inside = bare.inside b s w t l len id to d u w' l' (most c) turn k q q' (e_at false (most c) ex f) g;
            ready_next = λ p y. no_words o (turn + 1) q' ex;
          }

      way_over : c < k + opens → Way
      unfolding within_of
      way_over h =
          let n : m ≡ c = m_at (most c) f ∙ over_made b s (slices 0 0 mid w) refl id c k (under ey) h in
          let g = over_is b s (slices 0 0 mid w) refl id c k (under ey) h in
          record {
            told = λ r er. record {
              stage = one_within o (up_to (entries_in l)) b s id len v w t k w' text' l' ex ey (record { of = r; count = count_of d; made = m })
                  ((λ i. record { reach = bare.as_over b s w t l len id to d u w' l' (most c) turn k q q' (e_at false (most c) ex f) g v r text' er i; made = n i }) ∙ sym (request_over c b s id len v w t k h)) none_traced;
              counts = none_count (count_of d) (entries_in l) none_traced;
              under_still = λ _. omega arith;
            };
            inside = λ p y. absurd (bare.never_inside b s w t l len id to d u w' l' (most c) turn k q q' (e_at false (most c) ex f) g p y);
            ready_next = λ p y. no_words o (turn + 1) q' ex;
          }

  way : Way
  way = by (is_listed o) (is_counted o) refl refl
    where
      by : (x y : Bool) → (is_listed o) ≡ x → (is_counted o) ≡ y → Way
      by true y ex ey = way_listed ex
      by false false ex ey = way_plain ex ey
      by false true ex ey = ⊎_elim (way_over ex ey) (way_fits ex ey) (cases_lt c (k + opens))

  abbrev Result : Progress → Type 0
  Result p =
      (stage_of p w' text' l' ≡ requested_with o (up_to (entries_in l)) b s id [] len v w t k) × (p.count ≤ entries_in l) × (p.of.len ≤ length text') × Under o p.made
      × (p.of.stop ≡ None → (p.of.visits ≡ visits_in w') × Ready o (turn + 1) q')

  module _ (r : Reached) where
    pub one_refused : (x : Refusal) → d ≡ Err x → r ≡ arrived_in len v (Err x) → Result (record { of = r; count = 0; made = m })
    one_refused x f er =
        let e : r ≡ arrived_at len v (Err x) = er ∙ arrived_refused len v x in
        let a = way.told r (end_refused t u w' len to below ends same r x v e ∙ ap (λ (z : Penned). came_to len v t (emit_out 0 (place_of z) u w')) (sym f)) in
        let z : 0 ≡ count_of d = ap count_of (sym f) in
        let y : r.stop ≡ Some x = ap (λ (z : Reached). z.stop) (e ∙ arrived_past len v x) in
        ((λ i. stage_of (record { of = r; count = z i; made = m }) w' text' l') ∙ a.stage, zero-le, refused_fits t u w' len to below ends same r x v e, a.under_still, λ h. absurd (some_none x (sym y ∙ h)))
      where
        some_none : (x : Refusal) → Some x ≡ None → ⊥
        some_none x h = cc

    pub one_accepted : (p : Pen) → d ≡ Ok p → (x : ℕ) → x ≡ visits_in w' → r ≡ arrived_in len x (Ok p.at) → Result (record { of = r; count = p.count; made = m })
    one_accepted p f x ex er =
        let i : p.at ≤ to - len = omega (arith, way.inside p f, mid_len len to t ends) in
        let e : r ≡ arrived_at len x (Ok p.at) = er ∙ arrived_accepted len x p.at (omega (arith, short, room_fits _ _ _ el within)) in
        let a = way.told r (end_accepted t u w' len to below ends same r p.at x e v ∙ ap (λ (z : Penned). came_to len v t (emit_out 0 (place_of z) u w')) (sym f)) in
        let z : p.count ≡ count_of d = ap count_of (sym f) in (
          (λ i. stage_of (record { of = r; count = z i; made = m }) w' text' l') ∙ a.stage,
          subst (λ (y : ℕ). y ≤ entries_in l) (sym z) a.counts,
          accepted_fits t u w' len to below ends same r p.at x e i,
          a.under_still,
          λ _. (ap (λ (y : Reached). y.visits) (e ∙ arrived_in_lem len x p.at) ∙ ex, way.ready_next p f),
        )
