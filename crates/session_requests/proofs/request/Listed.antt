-- One request with a list: what `dump_type` comes to is the request with entries of the definitions. Assumes nothing.
use Prim.Native.Nat.{ℕ, zero-le, ◌+◌, ◌-◌, ◌<◌, ◌≤◌}
use mathlib.Core.Path.{◌≡◌, refl, ap, ◌∙◌, sym}
use mathlib.Core.Bool.{Bool, true}
use mathlib.Core.List.{List, []}
use mathlib.Core.Logic.{⊎_elim}
use native.Mathlib.Omega.{arith}
use lib.ListN.{length, take, drop}
use borrow.Rule.Slice.PartMut.{mid_of}
use Rattle.std.proofs.lemmas.Bool.{cases_lt}
use Rattle.std.specs.Prelude.{Ok, Err}
use Rattle.spec_c_dumper.specs.ceiling.Ceiling.{unbounded}
use Rattle.spec_c_dumper.specs.rules.Machine.{Out, wrote, stuck, obind}
use Rattle.spec_c_dumper.specs.rules.Types.{Btf as Rules, table_of}
use Rattle.spec_type_table.specs.declared.types.TypeTable.{TypeTable}
use Rattle.spec_type_table.specs.Table.{btf_of}
use Rattle.spec_session.specs.emission.Slices.{Slices, emit_out, work_machine}
use Rattle.spec_c_dumper.specs.rules.Request.{dumped}
use Rattle.spec_session.proofs.emission.Laws.{slices}
use Rattle.spec_session.specs.declared.session.Reached.{Reached}
use Rattle.spec_session.specs.session.Turns.{reach_of}
use Rattle.spec_session.specs.calls.Calls.{limit_of, came_to}
use Rattle.spec_session.proofs.calls.Laws.{one_inside}
use Rattle.spec_c_dumper.specs.origins.Causes.{Traced, up_to, shows_in, entries_in}
use Rattle.spec_c_dumper.specs.origins.Claims.{forget, Lined}
use Rattle.spec_session.specs.origin_calls.Bytes.{dumped_traced, entries_after, came_to_traced, requested_traced}
use Rattle.spec_session.proofs.origin_calls.Bytes.{dumped_lined}
use Rattle.c_dumper_emit.specs.declared.entries.Pen.{Pen}
use Rattle.c_dumper_emit.specs.entries.Traced.{entries_of, traced_out}
use Rattle.c_dumper_emit.proofs.entries.Laws.{Penned, traced_at, goes, halts, entries_length}
use Rattle.c_dumper_emit.specs.dump_type.Kept.{Before, with_leaders, dumped_kept}
use Rattle.c_dumper_emit.proofs.dump_type.Kept.{forget_leaders, forget_with, dumped_kept_lem, kept_before, few_types}
use Rattle.session_requests.specs.options.Requests.{traced_of}
use Rattle.session_requests.proofs.request.Pens.{place_of, count_of, forgets}

-- ---- dump_one
no_wrote : (h : Unit {0}) (c : ℕ) (m : Traced Slices) → stuck h c ≡ wrote m → ⊥
no_wrote h c m q = let z : ◌≡◌ {A = ℕ} 0 1 = cc in omega arith

module _ (b : TypeTable) (few : b.types ≤ 262145) (s w t l : List ℕ) (len id to : ℕ) (small : id < 4294967296) (d : Penned) (u w' l' : List ℕ)
    (turn n : ℕ) (k k' : List ℕ) (size : length k ≡ 262145) (old : Before turn k)
    (e : with_leaders k' (traced_out 0 d u w' l') ≡ obind (with_leaders k (traced_out 0 (Ok (record { at = 0; count = 0 })) (mid_of len (to - len) t) w l)) (λ m. dumped_kept b (btf_of b s w) (record { lists = true; room = entries_in l }) unbounded m id turn n)) where
  abbrev X : Rules
  X = btf_of b s w

  abbrev mid : List ℕ
  mid = mid_of len (to - len) t

  abbrev F : (ℕ → Bool) → Out (Traced Slices) (Unit {0})
  F r = dumped_traced (work_machine b X) (table_of X) r (shows_in X) (slices 0 0 mid w) [] id

  came_leaders : with_leaders k' (traced_out 0 d u w' l') ≡ dumped_kept b X (record { lists = true; room = entries_in l }) unbounded (record { traced = record { mach = slices 0 0 mid w; entries = [] }; leaders = k }) id turn n
  unfolding obind with_leaders entries_of
  came_leaders = e ∙ ap (λ (o : Out (Traced Slices) (Unit {0})). obind (with_leaders k o) (λ m. dumped_kept b X (record { lists = true; room = entries_in l }) unbounded m id turn n)) (goes 0 (record { at = 0; count = 0 }) mid w l)

  came : traced_out 0 d u w' l' ≡ F (up_to (entries_in l))
  came = sym (forget_with k' (traced_out 0 d u w' l')) ∙ ap forget_leaders came_leaders ∙ dumped_kept_lem b X (few_types b s w few) (entries_in l) (slices 0 0 mid w) [] id small turn k size old n

  out_is : emit_out 0 (place_of d) u w' ≡ forget (F (up_to (entries_in l)))
  out_is = sym (forgets 0 d u w' l') ∙ ap forget came

  lined : Lined ⊥ 0 F (dumped (work_machine b X) (table_of X) (slices 0 0 mid w) id)
  lined = dumped_lined (work_machine b X) (table_of X) (shows_in X) (slices 0 0 mid w) [] id

  -- of an accepted request: the list had room, what is noted by now, and the place
  module _ (p : Pen) (q : d ≡ Ok p) where
    its_paper : traced_out 0 d u w' l' ≡ wrote (traced_at 0 p u w' l')
    its_paper = ap (λ (z : Penned). traced_out 0 z u w' l') q ∙ goes 0 p u w' l'

    had_room : lined.need ≤ entries_in l
    had_room = ⊎_elim (λ h. absurd (no_wrote (lined.short (entries_in l) zero-le h).0 17 (traced_at 0 p u w' l') (sym (lined.short (entries_in l) zero-le h).1 ∙ sym came ∙ its_paper))) (λ h. h) (cases_lt (entries_in l) lined.need)

    pub traced_before : Before (turn + 1) k'
    unfolding with_leaders
    traced_before = kept_before b X (few_types b s w few) (entries_in l) (slices 0 0 mid w) [] id small turn k size old n (record { traced = traced_at 0 p u w' l'; leaders = k' }) (sym came_leaders ∙ ap (with_leaders k') its_paper)

    pub inside : p.at ≤ length mid
    inside = one_inside b s w mid id p.at u w' (sym (ap (λ (z : Penned). emit_out 0 (place_of z) u w') q) ∙ out_is ∙ ap forget (lined.fits (entries_in l) had_room) ∙ lined.same)

    fits_list : p.count ≤ entries_in l
    fits_list = omega (arith, entries_length p.count l', lined.counts (traced_at 0 p u w' l') (sym (lined.fits (entries_in l) had_room) ∙ sym came ∙ its_paper), had_room)

  count_fits : count_of d ≤ entries_in l
  count_fits = go d refl
    where
      go : (z : Penned) → d ≡ z → count_of z ≤ entries_in l
      go (Ok p) q = fits_list p q
      go (Err c) q = zero-le

  entries_is : entries_of (count_of d) l' ≡ entries_after [] (F (up_to (entries_in l)))
  unfolding entries_after entries_of
  entries_is = go d ∙ ap (entries_after []) came
    where
      go : (z : Penned) → entries_of (count_of z) l' ≡ entries_after [] (traced_out 0 z u w' l')
      go (Ok p) = sym (ap (entries_after []) (goes 0 p u w' l'))
      go (Err c) = sym (ap (entries_after []) (halts 0 c u w' l'))

  module _ (el : to ≡ limit_of (length t) len) (v : ℕ) (r : Reached) (t' : List ℕ) (er : reach_of r w' t' ≡ came_to len v t (emit_out 0 (place_of d) u w')) (made : ℕ) where
    -- the request, on the slice that it is lent
    request_is : came_to_traced len v t [] (F (up_to (entries_in l))) ≡ requested_traced (up_to (entries_in l)) b s id [] len v w t
    unfolding requested_traced
    request_is = ap (λ (z : ℕ). came_to_traced len v t [] (dumped_traced (work_machine b X) (table_of X) (up_to (entries_in l)) (shows_in X) (record { work = w; text = take (z - len) (drop len t); at = 0; len = 0 }) [] id)) el

    pub one_told : (traced_of (record { of = r; count = count_of d; made = made }) w' t' l' ≡ requested_traced (up_to (entries_in l)) b s id [] len v w t) × (count_of d ≤ entries_in l)
    unfolding traced_of came_to_traced
    one_told = ((λ i. record { reach = (er ∙ ap (came_to len v t) out_is) i; entries = entries_is i }) ∙ request_is, count_fits)
