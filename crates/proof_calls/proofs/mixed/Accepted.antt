-- The requests of a call in a list of c entries: those that are accepted are the plain ones, and the first that is refused leaves nothing. Over every machine
-- of which no line is refused by 0.
use Prim.Native.Nat.{ℕ, zero, suc, ◌+◌, ◌≤◌}
use mathlib.Core.Path.{◌≡◌, refl, ap, ◌∙◌, sym, subst}
use mathlib.Core.Bool.{Bool, true, false}
use mathlib.Core.List.{List, [], ◌∷◌, ◌++◌}
use mathlib.Core.Logic.{⊎_elim}
use native.Mathlib.Omega.{arith}
use lib.ListN.{length, length-append}
use lib.Dec.{ltb}
use Rattle.std.proofs.lemmas.Bool.{cases_lt}
use Rattle.spec_c_dumper.specs.rules.Order.{Table, Res, ok, refused}
use Rattle.spec_c_dumper.specs.rules.Machine.{Out, wrote, stuck, Machine, emit, Sess, Answer, Req, one, shut, single, serve, run}
use Rattle.proof_demands.specs.demands.Session.{singles_for}
use Rattle.spec_c_dumper.specs.origins.Causes.{WithLeaders, order_with_leaders, listed_entry, Traced, up_to, always, emit_traced, Explaining, dropped, emitted_traced, each_listed, ordered_traced, gate_traced, single_traced, onward_traced, list_traced, from_traced}
use Rattle.spec_c_dumper.specs.origins.Claims.{Numbered, FitsList}
use Rattle.spec_c_dumper.proofs.origins.Ordering.{NotNone, stopped, order_not}
use Rattle.spec_c_dumper.proofs.origins.Emission.{emit_lined, each_lined}
use Rattle.spec_c_dumper.proofs.origins.Requests.{single_fits}
use Rattle.proof_calls.specs.ceilings.Ceilings.{ones_from}

-- a refused request leaves the machine as it was
module _ {M H : Type 0} (X : Machine M H) (T : Table) (shows : ℕ → Bool) (nz : Numbered X) (stays : (h : H) (m : M) → X.leaving h m ≡ m) (size c : ℕ) where
  -- what a request comes to: one more is accepted; or none, and 17 closes an open session
  pub data Came (x : ℕ) (t u : Explaining M) : Type 0 where
    more : u.answer.number ≡ 0 → u.answer.sess.asked ≡ t.answer.sess.asked ++ (x ∷ []) → u.answer.sess.is_open ≡ true → Came x t u
    none : (u.answer.number ≡ 0 → ⊥) → u.answer.sess.mach ≡ t.answer.sess.mach → u.answer.sess.asked ≡ t.answer.sess.asked
        → (u.answer.number ≡ 17 → (u.answer.sess.is_open ≡ false) × (t.answer.sess.is_open ≡ true)) → Came x t u

  module _ (x : ℕ) (t : Explaining M) (few : length t.entries ≤ c) where
    abbrev begun : WithLeaders M → Traced M
    begun s = record { mach = s.state; entries = t.entries }

    listed_not : (s : WithLeaders M) (m : H) → each_listed X T (up_to c) shows (listed_entry x s.leaders) (X.store.list s.state) (begun s) ≡ stuck m 0 → ⊥
    listed_not s m e =
        let h = each_lined (Numbered X) (λ r m y. emit_traced X r shows (listed_entry x s.leaders) T 512 m y 0) (λ m y. emit X T 512 m y 0) (λ m y. emit_lined X shows (listed_entry x s.leaders) T 512 m y 0) (X.store.list s.state) (begun s) in
        ⊎_elim (λ q. let z : stuck (h.short c few q).0 17 ≡ stuck m 0 = sym (h.short c few q).1 ∙ e in let y : ◌≡◌ {A = ℕ} 17 0 = cc in omega arith) (λ q. h.numbered nz m (sym (h.fits c q) ∙ e)) (cases_lt c h.need)

    dropped_came : t.answer.sess.is_open ≡ true → (m : H) (e : ℕ) → (e ≡ 0 → ⊥) → Came x t (dropped X T (up_to c) shows t m e)
    unfolding dropped shut
    dropped_came o m e z = none z (stays m t.answer.sess.mach) refl (λ q. (refl, o))

    emitted_came : t.answer.sess.is_open ≡ true → (r : Out (Traced M) H) → ((m : H) → r ≡ stuck m 0 → ⊥) → Came x t (emitted_traced X T (up_to c) shows t x r)
    unfolding emitted_traced
    emitted_came o (wrote m) z = more refl refl refl
    emitted_came o (stuck m e) z = dropped_came o m e (λ q. z m (ap (stuck m) q))

    ordered_came : t.answer.sess.is_open ≡ true → (r : Res (WithLeaders M)) → NotNone r → Came x t (ordered_traced X T (up_to c) shows t x r)
    unfolding ordered_traced
    ordered_came o (ok s b) z = emitted_came o (each_listed X T (up_to c) shows (listed_entry x s.leaders) (X.store.list s.state) (begun s)) (listed_not s)
    ordered_came o (refused e) (stopped z) = dropped_came o (X.held t.answer.sess.mach) e z

    gate_came : (o b : Bool) → t.answer.sess.is_open ≡ o → Came x t (gate_traced X T (up_to c) shows size t x o b)
    unfolding gate_traced
    gate_came false b q = none (λ (z : ◌≡◌ {A = ℕ} 11 0). omega arith) refl refl (λ (z : ◌≡◌ {A = ℕ} 11 17). absurd (omega arith))
    gate_came true false q = none (λ (z : ◌≡◌ {A = ℕ} 10 0). omega arith) refl refl (λ (z : ◌≡◌ {A = ℕ} 10 17). absurd (omega arith))
    gate_came true true q =
        let s : WithLeaders M = record { state = X.start size t.answer.sess.mach; leaders = [] } in
        ordered_came q (order_with_leaders X.store x 512 T [] s x false) (order_not X.store x 512 T [] s x false)

    abbrev traced : Explaining M
    traced = single_traced X T (up_to c) shows size x t

    pub single_came : Came x t traced
    unfolding single_traced
    single_came = gate_came t.answer.sess.is_open (ltb x T.count) refl

    -- an accepted one is the plain one
    accepted_is : traced.answer.number ≡ 0 → (traced.answer ≡ single X T size t.answer.sess x) × (length traced.entries ≤ c)
    accepted_is z =
        let h : FitsList (length t.entries) (λ r. single_traced X T r shows size x t) (single X T size t.answer.sess x) = single_fits X T shows nz size x t in
        ⊎_elim
        (λ q. absurd (let y : ◌≡◌ {A = ℕ} 17 0 = sym (h.short c few q) ∙ z in omega arith))
        (λ q. let held : length (single_traced X T always shows size x t).entries ≤ h.need = h.held in
        (ap (λ (u : Explaining M). u.answer) (h.fits c q) ∙ h.same, subst (λ (u : Explaining M). length u.entries ≤ c) (sym (h.fits c q)) (omega arith))) (cases_lt c h.need)

  -- the requests of a call: so many are accepted, and then 17 closes the session
  pub record Accepted (reqs : ℕ → List Req) (t u : Explaining M) : Type 0 where
    pub count : ℕ
    pub asked : length u.answer.sess.asked ≡ length t.answer.sess.asked + count
    pub mach : u.answer.sess.mach ≡ (run X T (reqs count) t.answer.sess).mach
    pub ends : u.answer.number ≡ 17 → (u.answer.sess.is_open ≡ false) × ((run X T (reqs count) t.answer.sess).is_open ≡ true)

  no_more : (reqs : ℕ → List Req) → reqs 0 ≡ [] → (t u : Explaining M) → u.answer.sess.mach ≡ t.answer.sess.mach → u.answer.sess.asked ≡ t.answer.sess.asked
      → (u.answer.number ≡ 17 → (u.answer.sess.is_open ≡ false) × (t.answer.sess.is_open ≡ true)) → Accepted reqs t u
  unfolding run
  no_more reqs e t u m a k =
      let r : run X T (reqs 0) t.answer.sess ≡ t.answer.sess = ap (λ (rs : List Req). run X T rs t.answer.sess) e in
      record {
        count = 0;
        asked = ap length a ∙ omega arith;
        mach = m ∙ ap (λ (S : Sess M). S.mach) (sym r);
        ends = λ z. ((k z).0, ap (λ (S : Sess M). S.is_open) r ∙ (k z).1);
      }

  -- one request, and the others if it is accepted
  module _ (x : ℕ) (t : Explaining M) (few : length t.entries ≤ c) (reqs others : ℕ → List Req) (first : reqs 0 ≡ []) (next : (k : ℕ) → reqs (suc k) ≡ one size x ∷ others k) (K : Explaining M → Explaining M)
      (h : (u : Explaining M) → u.answer.number ≡ 0 → length u.entries ≤ c → Accepted others u (K u)) where
    abbrev u₁ : Explaining M
    u₁ = single_traced X T (up_to c) shows size x t

    one_more : u₁.answer.number ≡ 0 → u₁.answer.sess.asked ≡ t.answer.sess.asked ++ (x ∷ []) → Accepted reqs t (K u₁)
    unfolding run serve
    one_more z a =
        let i = accepted_is x t few z in
        let g : Accepted others u₁ (K u₁) = h u₁ z i.1 in
        let r : run X T (others g.count) u₁.answer.sess ≡ run X T (reqs (suc g.count)) t.answer.sess =
        ap (λ (y : Answer M). run X T (others g.count) y.sess) i.0 ∙ ap (λ (rs : List Req). run X T rs t.answer.sess) (sym (next g.count)) in
        let k : length u₁.answer.sess.asked ≡ length t.answer.sess.asked + 1 = ap length a ∙ length-append t.answer.sess.asked (x ∷ []) in
        record {
          count = suc g.count;
          asked = g.asked ∙ omega arith;
          mach = g.mach ∙ ap (λ (S : Sess M). S.mach) r;
          ends = λ y. ((g.ends y).0, ap (λ (S : Sess M). S.is_open) (sym r) ∙ (g.ends y).1);
        }

    onward_accepted : Accepted reqs t (onward_traced X T (up_to c) shows K u₁)
    unfolding onward_traced
    onward_accepted = by (single_came x t few)
      where
        stop : (u₁.answer.number ≡ 0 → ⊥) → Accepted reqs t u₁ → (m : ℕ) → u₁.answer.number ≡ m → Accepted reqs t (elim m as (λ (y : ℕ). Explaining M) [ zero ↦ K u₁ | suc r ↦ u₁ ])
        stop z g zero e = absurd (z e)
        stop z g (suc m) e = g

        by : Came x t u₁ → Accepted reqs t (elim u₁.answer.number as (λ (y : ℕ). Explaining M) [ zero ↦ K u₁ | suc r ↦ u₁ ])
        by (more z a o) = subst (λ (m : ℕ). Accepted reqs t (elim m as (λ (y : ℕ). Explaining M) [ zero ↦ K u₁ | suc r ↦ u₁ ])) (sym z) (one_more z a)
        by (none z m a k) = stop z (no_more reqs first t u₁ m a k) u₁.answer.number refl

  not_17 : (t : Explaining M) → t.answer.number ≡ 0 → t.answer.number ≡ 17 → (t.answer.sess.is_open ≡ false) × (t.answer.sess.is_open ≡ true)
  not_17 t z q = absurd (let y : ◌≡◌ {A = ℕ} 0 17 = sym z ∙ q in omega arith)

  pub from_accepted : (n x : ℕ) (t : Explaining M) → t.answer.number ≡ 0 → length t.entries ≤ c → Accepted (λ k. ones_from size k x) t (from_traced X T (up_to c) shows size n x t)
  unfolding from_traced ones_from
  from_accepted zero x t z few = no_more (λ k. ones_from size k x) refl t t refl refl (not_17 t z)
  from_accepted (suc n) x t z few =
      onward_accepted x t few (λ k. ones_from size k x) (λ k. ones_from size k (suc x)) refl (λ k. refl) (from_traced X T (up_to c) shows size n (suc x)) (λ u y f. from_accepted n (suc x) u y f)

  pub list_accepted : (xs : List ℕ) (t : Explaining M) → t.answer.number ≡ 0 → length t.entries ≤ c → Accepted (λ k. singles_for size k xs) t (list_traced X T (up_to c) shows size xs t)
  unfolding list_traced singles_for
  list_accepted [] t z few = no_more (λ k. singles_for size k []) refl t t refl refl (not_17 t z)
  list_accepted (x ∷ xs) t z few =
      onward_accepted x t few (λ k. singles_for size k (x ∷ xs)) (λ k. singles_for size k xs) refl (λ k. refl) (list_traced X T (up_to c) shows size xs) (λ u y f. list_accepted xs u y f)
