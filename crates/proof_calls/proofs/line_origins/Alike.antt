-- Two machines whose steps go alike note the same entries, in requests of one call. Assumes nothing.
use Prim.Native.Nat.{ℕ, zero, suc, ◌-◌, ◌<◌, ◌≤◌}
use native.Mathlib.Omega.{arith}
use mathlib.Core.Path.{◌≡◌, refl, ap, sym, subst}
use mathlib.Core.Bool.{Bool, true, false}
use mathlib.Core.List.Memᴰ
use mathlib.Core.List.{List, [], ◌∷◌, ◌++◌, Memᴰ}
use lib.ListN.{length}
use lib.Dec.{T as True, ltb, ltb→lt}
use Rattle.spec_c_dumper.specs.rules.Order.{Table, Res}
use Rattle.spec_c_dumper.specs.rules.Machine.{Out, Machine, MLawful, OrderKeeps, Sess, shut}
use Rattle.spec_c_dumper.specs.needs.Needs.{kids}
use Rattle.spec_c_dumper.proofs.needs.Ways.{tally}
use Rattle.spec_c_dumper.proofs.needs.Emission.{AlikeSteps}
use Rattle.spec_c_dumper.proofs.needs.Alike.{AlikeMachine, Live, BothOut, both_wrote, both_stuck, BothSess, BothAnswer}
use Rattle.spec_c_dumper.specs.origins.Causes.{WithLeaders, listed_entry, Traced, each_listed, Explaining, untold, dropped, emitted_traced, ordered_traced, gate_traced, single_traced, onward_traced, list_traced, from_traced, every_traced, up_to, entries_in, filled, Causes, causes_of, one_causes, list_causes, all_causes}
use Rattle.proof_calls.proofs.line_origins.Ordering.{BothLeaders, both_leaders, neither_leader, order_with_leaders_alike}
use Rattle.proof_calls.proofs.line_origins.Emission.{SameNoted, listed_alike}

-- the same answer and the same entries
pub record BothTold {M₁ M : Type 0} (Q : M₁ → M → Type 0) (t₁ : Explaining M₁) (t : Explaining M) : Type 0 where
  pub answers : BothAnswer Q t₁.answer t.answer
  pub same_entries : t₁.entries ≡ t.entries
  pub same_zeroed : t₁.zeroed ≡ t.zeroed

-- the same count and the same list
pub record BothCauses {M₁ M : Type 0} (Q : M₁ → M → Type 0) (t₁ : Causes M₁) (t : Causes M) : Type 0 where
  pub answers : BothAnswer Q t₁.answer t.answer
  pub same_count : t₁.count ≡ t.count
  pub same_list : t₁.list ≡ t.list

module _ {M₁ H₁ M H : Type 0} (X₁ : Machine M₁ H₁) (X : Machine M H) (T : Table) (Good : M → Type 0) (ml : MLawful X Good T.count) (below : (x y : ℕ) → Memᴰ y (kids (T.node x)) → y < T.count) (Q : M₁ → M → Type 0)
    (RH : H₁ → H → Type 0) (al : AlikeMachine X₁ X T.count Good Q RH) (shows : ℕ → Bool) where
  steps : AlikeSteps X₁ X T.count Q RH
  steps = record {
    a_eget = al.a_eget;
    a_emark = al.a_emark;
    a_has = al.a_has;
    a_forwarded = al.a_forwarded;
    a_fwd = al.a_fwd;
    a_alias = al.a_alias;
    a_leaf = al.a_leaf;
    a_body = al.a_body;
    a_held = al.a_held;
  }

  abbrev Lives : M₁ → M → Type 0
  Lives s t = Live X₁.store X.store T Good ml.law (OrderKeeps X Good) ml.framed below Q al.a_store s t

  start_live : (room : ℕ) (s : M₁) (t : M) → Q s t → Lives (X₁.start room s) (X.start room t)
  start_live room s t q = record {
    related = al.a_start room s t q;
    room = subst (λ (k : List ℕ). length k ≤ tally (X.store.get (X.start room t)) T.count) (sym e) (omega arith);
    ids = λ y m. absurd (Memᴰ.not-nil (subst (Memᴰ y) e m));
  }
    where
      e : X.store.list (X.start room t) ≡ []
      e = ml.start_list room t (al.a_store.a_good s t q)

  module _ (more : ℕ → Bool) where
    module _ (t₁ : Explaining M₁) (t : Explaining M) (h : BothTold Q t₁ t) where
      dropped_alike : (m₁ : H₁) (m : H) → RH m₁ m → (e : ℕ) → BothTold Q (dropped X₁ T more shows t₁ m₁ e) (dropped X T more shows t m e)
      unfolding dropped shut
      dropped_alike m₁ m r e = record {
        answers = record { same_number = refl; sessions = record { same_open = refl; same_asked = h.answers.sessions.same_asked; alike = al.a_leaving m₁ m r t₁.answer.sess.mach t.answer.sess.mach h.answers.sessions.alike } };
        same_entries = h.same_entries;
        same_zeroed = refl;
      }

      emitted_alike : (x : ℕ) {r₁ : Out (Traced M₁) H₁} {r : Out (Traced M) H} → BothOut (SameNoted Q) RH r₁ r → BothTold Q (emitted_traced X₁ T more shows t₁ x r₁) (emitted_traced X T more shows t x r)
      unfolding emitted_traced
      emitted_alike x (both_wrote m₁ m q) = record {
        answers = record { same_number = refl; sessions = record { same_open = refl; same_asked = ap (λ (k : List ℕ). k ++ (x ∷ [])) h.answers.sessions.same_asked; alike = q.related } };
        same_entries = q.same_entries;
        same_zeroed = refl;
      }
      emitted_alike x (both_stuck m₁ m r e) = dropped_alike m₁ m r e

      ordered_alike : (x : ℕ) {r₁ : Res (WithLeaders M₁)} {r : Res (WithLeaders M)} → BothLeaders Lives r₁ r → BothTold Q (ordered_traced X₁ T more shows t₁ x r₁) (ordered_traced X T more shows t x r)
      unfolding ordered_traced
      ordered_alike x (both_leaders m₁ m c w q) =
          let n₁ : Traced M₁ = record { mach = m₁.state; entries = t₁.entries } in
          let n : Traced M = record { mach = m.state; entries = t.entries } in
          emitted_alike x
          (subst (λ (k : List ℕ). BothOut (SameNoted Q) RH (each_listed X₁ T more shows (listed_entry x m₁.leaders) k n₁) (each_listed X T more shows (listed_entry x m.leaders) (X.store.list m.state) n)) (sym (al.a_list m₁.state m.state w.related))
          (subst (λ (k : List (ℕ × ℕ)). BothOut (SameNoted Q) RH (each_listed X₁ T more shows (listed_entry x k) (X.store.list m.state) n₁) (each_listed X T more shows (listed_entry x m.leaders) (X.store.list m.state) n)) (sym q)
          (listed_alike X₁ X T below Q RH steps more shows (listed_entry x m.leaders) (X.store.list m.state) w.ids n₁ n (record { related = w.related; same_entries = h.same_entries }))))
      ordered_alike x (neither_leader e) = dropped_alike (X₁.held t₁.answer.sess.mach) (X.held t.answer.sess.mach) (al.a_held t₁.answer.sess.mach t.answer.sess.mach h.answers.sessions.alike) e

      gate_alike : (room x : ℕ) (o b : Bool) → ltb x T.count ≡ b → BothTold Q (gate_traced X₁ T more shows room t₁ x o b) (gate_traced X T more shows room t x o b)
      unfolding gate_traced
      gate_alike room x false b e = record { answers = record { same_number = refl; sessions = h.answers.sessions }; same_entries = h.same_entries; same_zeroed = h.same_zeroed }
      gate_alike room x true false e = record { answers = record { same_number = refl; sessions = h.answers.sessions }; same_entries = h.same_entries; same_zeroed = h.same_zeroed }
      gate_alike room x true true e =
          ordered_alike x
          (order_with_leaders_alike X₁.store X.store T Good ml.law (OrderKeeps X Good) ml.framed below Q al.a_store x
          512 [] (record { state = X₁.start room t₁.answer.sess.mach; leaders = [] }) (record { state = X.start room t.answer.sess.mach; leaders = [] }) x false
          (start_live room t₁.answer.sess.mach t.answer.sess.mach h.answers.sessions.alike) refl (ltb→lt x T.count (subst True (sym e) tt)))

      single_alike : (room x : ℕ) → BothTold Q (single_traced X₁ T more shows room x t₁) (single_traced X T more shows room x t)
      unfolding single_traced
      single_alike room x =
          subst (λ (o : Bool). BothTold Q (gate_traced X₁ T more shows room t₁ x o (ltb x T.count)) (gate_traced X T more shows room t x t.answer.sess.is_open (ltb x T.count))) (sym h.answers.sessions.same_open)
          (gate_alike room x t.answer.sess.is_open (ltb x T.count) refl)

    onward_alike : (k₁ : Explaining M₁ → Explaining M₁) (k : Explaining M → Explaining M) (t₁ : Explaining M₁) (t : Explaining M) → BothTold Q t₁ t → BothTold Q (k₁ t₁) (k t)
        → BothTold Q (onward_traced X₁ T more shows k₁ t₁) (onward_traced X T more shows k t)
    unfolding onward_traced
    onward_alike k₁ k t₁ t h q =
        subst (λ (n : ℕ). BothTold Q (elim n as (λ (m : ℕ). Explaining M₁) [ zero ↦ k₁ t₁ | suc m ↦ t₁ ]) (elim t.answer.number as (λ (m : ℕ). Explaining M) [ zero ↦ k t | suc m ↦ t ])) (sym h.answers.same_number)
        (go t.answer.number)
      where
        go : (n : ℕ) → BothTold Q (elim n as (λ (m : ℕ). Explaining M₁) [ zero ↦ k₁ t₁ | suc m ↦ t₁ ]) (elim n as (λ (m : ℕ). Explaining M) [ zero ↦ k t | suc m ↦ t ])
        go zero = q
        go (suc m) = h

    list_alike : (room : ℕ) (xs : List ℕ) (t₁ : Explaining M₁) (t : Explaining M) → BothTold Q t₁ t → BothTold Q (list_traced X₁ T more shows room xs t₁) (list_traced X T more shows room xs t)
    unfolding list_traced
    list_alike room [] t₁ t h = h
    list_alike room (x ∷ xs) t₁ t h =
        let q = single_alike t₁ t h room x in
        onward_alike (list_traced X₁ T more shows room xs) (list_traced X T more shows room xs) (single_traced X₁ T more shows room x t₁) (single_traced X T more shows room x t) q
        (list_alike room xs (single_traced X₁ T more shows room x t₁) (single_traced X T more shows room x t) q)

    from_alike : (room n x : ℕ) (t₁ : Explaining M₁) (t : Explaining M) → BothTold Q t₁ t → BothTold Q (from_traced X₁ T more shows room n x t₁) (from_traced X T more shows room n x t)
    unfolding from_traced
    from_alike room zero x t₁ t h = h
    from_alike room (suc n) x t₁ t h =
        let q = single_alike t₁ t h room x in
        onward_alike (from_traced X₁ T more shows room n (suc x)) (from_traced X T more shows room n (suc x)) (single_traced X₁ T more shows room x t₁) (single_traced X T more shows room x t) q
        (from_alike room n (suc x) (single_traced X₁ T more shows room x t₁) (single_traced X T more shows room x t) q)

    every_alike : (room : ℕ) (S₁ : Sess M₁) (S : Sess M) → BothSess Q S₁ S → (b : Bool) → BothTold Q (every_traced X₁ T more shows room S₁ b) (every_traced X T more shows room S b)
    unfolding every_traced
    every_alike room S₁ S h false = record { answers = record { same_number = refl; sessions = h }; same_entries = refl; same_zeroed = refl }
    every_alike room S₁ S h true =
        from_alike room (T.count - 1) 1 (record { answer = record { sess = S₁; number = 0 }; entries = []; zeroed = true }) (record { answer = record { sess = S; number = 0 }; entries = []; zeroed = true })
        (record { answers = record { same_number = refl; sessions = h }; same_entries = refl; same_zeroed = refl })

  -- ---- the calls that are lent a list
  causes_alike : (l : List ℕ) (t₁ : Explaining M₁) (t : Explaining M) → BothTold Q t₁ t → BothCauses Q (causes_of l t₁) (causes_of l t)
  unfolding causes_of
  causes_alike l t₁ t h = record {
    answers = h.answers;
    same_count = ap length h.same_entries;
    same_list = λ i. elim (h.same_zeroed i) as (λ (z : Bool). List ℕ) [ true ↦ filled (length l) (h.same_entries i) | false ↦ l ];
  }

  module _ (l : List ℕ) (room : ℕ) (S₁ : Sess M₁) (S : Sess M) (h : BothSess Q S₁ S) where
    untold_alike : BothTold Q (untold S₁) (untold S)
    untold_alike = record { answers = record { same_number = refl; sessions = h }; same_entries = refl; same_zeroed = refl }

    pub one_causes_lem : (x : ℕ) → BothCauses Q (one_causes X₁ T shows l room S₁ x) (one_causes X T shows l room S x)
    unfolding one_causes
    one_causes_lem x = causes_alike l _ _ (single_alike (up_to (entries_in l)) (untold S₁) (untold S) untold_alike room x)

    pub list_causes_lem : (xs : List ℕ) → BothCauses Q (list_causes X₁ T shows l room S₁ xs) (list_causes X T shows l room S xs)
    unfolding list_causes
    list_causes_lem xs = causes_alike l _ _ (list_alike (up_to (entries_in l)) room xs (untold S₁) (untold S) untold_alike)

    pub all_causes_lem : BothCauses Q (all_causes X₁ T shows l room S₁) (all_causes X T shows l room S)
    unfolding all_causes
    all_causes_lem =
        subst (λ (o : Bool). BothCauses Q (causes_of l (every_traced X₁ T (up_to (entries_in l)) shows room S₁ o)) (causes_of l (every_traced X T (up_to (entries_in l)) shows room S S.is_open))) (sym h.same_open)
        (causes_alike l _ _ (every_alike (up_to (entries_in l)) room S₁ S h S.is_open))
