-- One request without a list: what `dump_type` comes to is the plain request, or under a ceiling that or 22. Assumes nothing.
use Prim.Native.Nat.{ℕ, ◌-◌, ◌≤◌}
use mathlib.Core.Path.{◌≡◌, refl, ap, ◌∙◌, sym}
use mathlib.Core.Bool.{false}
use mathlib.Core.List.{List, []}
use native.Mathlib.Omega.{arith}
use lib.ListN.{length, take}
use borrow.Rule.Slice.PartMut.{mid_of}
use Rattle.std.specs.Prelude.{Ok, Err}
use Rattle.spec_c_dumper.specs.ceiling.Ceiling.{Limit}
use Rattle.spec_c_dumper.specs.rules.Machine.{Out, wrote, stuck, obind}
use Rattle.spec_c_dumper.specs.rules.Types.{Btf as Rules}
use Rattle.spec_c_dumper.specs.origins.Causes.{Traced, with_entries, entries_in}
use Rattle.spec_c_dumper.specs.origins.Claims.{forget}
use Rattle.spec_type_table.specs.declared.types.TypeTable.{TypeTable}
use Rattle.spec_type_table.specs.Table.{btf_of}
use Rattle.spec_session.specs.emission.Slices.{Slices, emit_out}
use Rattle.spec_session.proofs.emission.Laws.{slices}
use Rattle.spec_session.proofs.emission.Laws as plainly
use Rattle.spec_session.specs.metered.Metered.{dumped_metered}
use Rattle.spec_session.specs.declared.session.Reached.{Reached}
use Rattle.spec_session.specs.session.Turns.{refused_by, reach_of}
use Rattle.spec_session.specs.calls.Calls.{limit_of, came_to, requested}
use Rattle.spec_session.proofs.calls.Laws.{asked, one_inside, lent_is}
use Rattle.c_dumper_emit.specs.declared.entries.Pen.{Pen}
use Rattle.c_dumper_emit.specs.entries.Traced.{entries_of, traced_out}
use Rattle.c_dumper_emit.proofs.entries.Laws.{Penned, traced_at, goes, entries_length}
use Rattle.c_dumper_emit.specs.dump_type.Kept.{with_leaders, dumped_kept}
use Rattle.c_dumper_emit.proofs.dump_type.Kept.{forget_leaders, forget_with, dumped_bare}
use Rattle.session_requests.proofs.request.Pens.{place_of, count_of, forgets}

forget_none : (o : Out Slices (Unit {0})) → forget (with_entries [] o) ≡ o
unfolding forget with_entries
forget_none (wrote m) = refl
forget_none (stuck h c) = refl

none_listed : (m : Traced Slices) (o : Out Slices (Unit {0})) → wrote m ≡ with_entries [] o → length m.entries ≡ 0
unfolding with_entries
none_listed m (wrote k) e = let z : m ≡ record { mach = k; entries = [] } = cc in ap (λ (y : Traced Slices). length y.entries) z
none_listed m (stuck h c) e = absurd (let z : ◌≡◌ {A = ℕ} 0 1 = cc in omega arith)

module _ (b : TypeTable) (s w t l : List ℕ) (len id to : ℕ) (d : Penned) (u w' l' : List ℕ) (lim : Limit) (turn n : ℕ) (k k' : List ℕ)
    (e : with_leaders k' (traced_out 0 d u w' l') ≡ obind (with_leaders k (traced_out 0 (Ok (record { at = 0; count = 0 })) (mid_of len (to - len) t) w l)) (λ m. dumped_kept b (btf_of b s w) (record { lists = false; room = entries_in l }) lim m id turn n)) where
  abbrev X : Rules
  X = btf_of b s w

  abbrev mid : List ℕ
  mid = mid_of len (to - len) t

  came : traced_out 0 d u w' l' ≡ with_entries [] (dumped_metered b X lim (slices 0 0 mid w) id n)
  unfolding obind with_leaders entries_of
  came =
      sym (forget_with k' (traced_out 0 d u w' l'))
      ∙ ap forget_leaders (e ∙ ap (λ (o : Out (Traced Slices) (Unit {0})). obind (with_leaders k o) (λ m. dumped_kept b X (record { lists = false; room = entries_in l }) lim m id turn n)) (goes 0 (record { at = 0; count = 0 }) mid w l))
      ∙ dumped_bare b X (entries_in l) lim (slices 0 0 mid w) [] k id turn n

  out_is : emit_out 0 (place_of d) u w' ≡ dumped_metered b X lim (slices 0 0 mid w) id n
  out_is = sym (forgets 0 d u w' l') ∙ ap forget came ∙ forget_none (dumped_metered b X lim (slices 0 0 mid w) id n)

  pub empty : count_of d ≡ 0
  empty = go d came
    where
      go : (z : Penned) → traced_out 0 z u w' l' ≡ with_entries [] (dumped_metered b X lim (slices 0 0 mid w) id n) → count_of z ≡ 0
      go (Ok p) q = sym (entries_length p.count l') ∙ none_listed (traced_at 0 p u w' l') (dumped_metered b X lim (slices 0 0 mid w) id n) (sym (goes 0 p u w' l') ∙ q)
      go (Err c) q = refl

  -- the plain request, or 22
  module _ (q : dumped_metered b X lim (slices 0 0 mid w) id n ≡ asked b s w id mid) where
    pub inside : (p : Pen) → d ≡ Ok p → p.at ≤ length mid
    inside p f = one_inside b s w mid id p.at u w' (sym (ap (λ (z : Penned). emit_out 0 (place_of z) u w') f) ∙ out_is ∙ q)

    pub as_plain : to ≡ limit_of (length t) len → (v : ℕ) (r : Reached) (t' : List ℕ) → reach_of r w' t' ≡ came_to len v t (emit_out 0 (place_of d) u w') → reach_of r w' t' ≡ requested b s id len v w t
    as_plain el v r t' er = er ∙ ap (came_to len v t) (out_is ∙ q) ∙ lent_is b s w t len id to v el

  module _ (q : dumped_metered b X lim (slices 0 0 mid w) id n ≡ stuck tt 22) where
    pub never_inside : (p : Pen) → d ≡ Ok p → ⊥
    never_inside p f = no (sym (plainly.goes 0 p.at u w') ∙ sym (ap (λ (z : Penned). emit_out 0 (place_of z) u w') f) ∙ out_is ∙ q)
      where
        no : ◌≡◌ {A = Out Slices (Unit {0})} (wrote (slices 0 p.at u w')) (stuck tt 22) → ⊥
        no z = let y : ◌≡◌ {A = ℕ} 0 1 = cc in omega arith

    pub as_over : (v : ℕ) (r : Reached) (t' : List ℕ) → reach_of r w' t' ≡ came_to len v t (emit_out 0 (place_of d) u w') → reach_of r w' t' ≡ refused_by 22 len v (take len t)
    unfolding came_to
    as_over v r t' er = er ∙ ap (came_to len v t) (out_is ∙ q)
