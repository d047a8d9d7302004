-- Requests with a list of entries: the answer is the plain one's, or 17 where the list is too short; a longer list changes nothing but its rest.
-- Assumes nothing.
use Prim.Native.Nat.{ℕ, zero, suc, ◌*◌, ◌-◌, ◌<◌, ◌≤◌}
use mathlib.Core.Path.{◌≡◌, refl, ap, ◌∙◌, sym, subst}
use mathlib.Core.Bool.{Bool, true, false}
use mathlib.Core.List.{List, [], ◌∷◌}
use mathlib.Core.Logic.{⊎_elim}
use native.Mathlib.Omega.{arith}
use lib.ListN.{length, length-append, replicate, length-replicate}
use lib.Dec.{ltb}
use Rattle.std.proofs.lemmas.Bool.{cases_lt}
use Rattle.spec_c_dumper.specs.rules.Order.{Table, Res, ok, refused}
use Rattle.spec_c_dumper.specs.rules.Machine.{Out, wrote, stuck, Machine, eeach, emit, Sess, Answer, shut, emitted, ordered, gate, single, onward, from, every}
use Rattle.spec_c_dumper.specs.origins.Causes.{Entry, WithLeaders, order_with_leaders, listed_entry, Traced, up_to, always, emit_traced, Explaining, untold, dropped, emitted_traced, each_listed, ordered_traced, gate_traced, single_traced, onward_traced, list_traced, from_traced, every_traced, bytes_of, filled, causes_of, entries_in, one_causes, list_causes, all_causes}
use Rattle.spec_c_dumper.specs.origins.Claims.{forget, Numbered, Lined, FitsList, list_plain, Listed, Lent}
use Rattle.spec_c_dumper.proofs.origins.Ordering.{without_leaders, order_forgets}
use Rattle.spec_c_dumper.proofs.origins.Emission.{emit_lined, each_lined}
use Rattle.spec_c_dumper.proofs.origins.Listed.{bytes_length}

module _ {M H : Type 0} (X : Machine M H) (T : Table) (shows : ℕ → Bool) (nz : Numbered X) where
  -- an answer that is the same for every list
  always_fits : (t : Explaining M) (a : Answer M) → t.answer ≡ a → FitsList (length t.entries) (λ r. t) a
  always_fits t a e = record { same = e; need = length t.entries; from = omega arith; held = omega arith; fits = λ c q. refl; short = λ c q i. absurd (omega arith); counts = λ q. refl }

  module _ (t : Explaining M) (x : ℕ) where
    abbrev told_of : (ℕ → Bool) → Out (Traced M) H → Explaining M
    told_of r o = emitted_traced X T r shows t x o

    told_out : (r : ℕ → Bool) (o : Out (Traced M) H) → (told_of r o).answer ≡ emitted X T t.answer.sess x (forget o)
    unfolding emitted_traced dropped emitted forget
    told_out r (wrote s) = refl
    told_out r (stuck m e) = refl

    told_alike : (c : ℕ) (o : Out (Traced M) H) → told_of (up_to c) o ≡ told_of always o
    unfolding emitted_traced dropped
    told_alike c (wrote s) = refl
    told_alike c (stuck m e) = refl

    told_held : (n : ℕ) → length t.entries ≤ n → (o : Out (Traced M) H) → ((s : Traced M) → o ≡ wrote s → length s.entries ≡ n) → length (told_of always o).entries ≤ n
    unfolding emitted_traced dropped
    told_held n l (wrote s) h = let q : length s.entries ≡ n = h s refl in omega arith
    told_held n l (stuck m e) h = l

    told_counts : (n : ℕ) (o : Out (Traced M) H) → ((m : H) → o ≡ stuck m 0 → ⊥) → ((s : Traced M) → o ≡ wrote s → length s.entries ≡ n) → (told_of always o).answer.number ≡ 0 → length (told_of always o).entries ≡ n
    unfolding emitted_traced dropped shut
    told_counts n (wrote s) z h q = h s refl
    told_counts n (stuck m e) z h q = absurd (z m (ap (stuck m) q))

    told_short : (r : ℕ → Bool) (m : H) → (told_of r (stuck m 17)).answer.number ≡ 17
    unfolding emitted_traced dropped shut
    told_short r m = refl

    -- what emission comes to, as an answer
    emitted_fits : (F : (ℕ → Bool) → Out (Traced M) H) (P : Out M H) → Lined (Numbered X) (length t.entries) F P → FitsList (length t.entries) (λ r. told_of r (F r)) (emitted X T t.answer.sess x P)
    emitted_fits F P h = record {
      same = told_out always (F always) ∙ ap (emitted X T t.answer.sess x) h.same;
      need = h.need;
      from = h.from;
      held = told_held h.need h.from (F always) h.counts;
      fits = λ c l. told_alike c (F (up_to c)) ∙ ap (told_of always) (h.fits c l);
      short = λ c l q. ap (λ (o : Out (Traced M) H). (told_of (up_to c) o).answer.number) (h.short c l q).1 ∙ told_short (up_to c) (h.short c l q).0;
      counts = told_counts h.need (F always) (h.numbered nz) h.counts;
    }

    ordered_fits : (o : Res (WithLeaders M)) → FitsList (length t.entries) (λ r. ordered_traced X T r shows t x o) (ordered X T t.answer.sess x (without_leaders o))
    unfolding ordered_traced ordered without_leaders dropped
    ordered_fits (ok s b) =
        emitted_fits (λ r. each_listed X T r shows (listed_entry x s.leaders) (X.store.list s.state) (record { mach = s.state; entries = t.entries })) (eeach (λ m y. emit X T 512 m y 0) (X.store.list s.state) s.state)
        (each_lined (Numbered X) (λ r m y. emit_traced X r shows (listed_entry x s.leaders) T 512 m y 0) (λ m y. emit X T 512 m y 0) (λ m y. emit_lined X shows (listed_entry x s.leaders) T 512 m y 0) (X.store.list s.state) (record { mach = s.state; entries = t.entries }))
    ordered_fits (refused e) = always_fits (record { answer = shut X T t.answer.sess (X.held t.answer.sess.mach) e; entries = t.entries; zeroed = true }) (shut X T t.answer.sess (X.held t.answer.sess.mach) e) refl

    gate_fits : (room : ℕ) (o b : Bool) → FitsList (length t.entries) (λ r. gate_traced X T r shows room t x o b) (gate X T room t.answer.sess x o b)
    unfolding gate_traced gate
    gate_fits room false b = always_fits (record { answer = record { sess = t.answer.sess; number = 11 }; entries = t.entries; zeroed = t.zeroed }) (record { sess = t.answer.sess; number = 11 }) refl
    gate_fits room true false = always_fits (record { answer = record { sess = t.answer.sess; number = 10 }; entries = t.entries; zeroed = t.zeroed }) (record { sess = t.answer.sess; number = 10 }) refl
    gate_fits room true true =
        let s : WithLeaders M = record { state = X.start room t.answer.sess.mach; leaders = [] } in
        subst (λ (o : Res M). FitsList (length t.entries) (λ r. ordered_traced X T r shows t x (order_with_leaders X.store x 512 T [] s x false)) (ordered X T t.answer.sess x o))
        (order_forgets X.store x 512 T [] s x false) (ordered_fits (order_with_leaders X.store x 512 T [] s x false))

  -- A SINGLE REQUEST, after the others of its call
  pub single_fits : (room x : ℕ) (t : Explaining M) → FitsList (length t.entries) (λ r. single_traced X T r shows room x t) (single X T room t.answer.sess x)
  unfolding single_traced single
  single_fits room x t = gate_fits t x room t.answer.sess.is_open (ltb x T.count)

  -- ---- one after another
  module _ (k : ℕ) (F : (ℕ → Bool) → Explaining M) (P : Answer M) (h : FitsList k F P) (g : (ℕ → Bool) → Explaining M → Explaining M) (p : Sess M → Answer M)
      (hg : (t : Explaining M) → t.answer.number ≡ 0 → FitsList (length t.entries) (λ r. g r t) (p t.answer.sess)) where
    abbrev next : (ℕ → Bool) → Explaining M
    next r = onward_traced X T r shows (g r) (F r)

    abbrev number_of : Explaining M → ℕ
    number_of t = t.answer.number

    goes : (r : ℕ → Bool) (t : Explaining M) → F r ≡ t → number_of t ≡ 0 → next r ≡ g r t
    unfolding onward_traced
    goes r t e q = ap (λ (u : Explaining M). onward_traced X T r shows (g r) u) e ∙ ap (λ (n : ℕ). elim n as (λ (y : ℕ). Explaining M) [ zero ↦ g r t | suc m ↦ t ]) q

    stops : (r : ℕ → Bool) (m : ℕ) → number_of (F r) ≡ suc m → next r ≡ F r
    unfolding onward_traced
    stops r m q = ap (λ (n : ℕ). elim n as (λ (y : ℕ). Explaining M) [ zero ↦ g r (F r) | suc j ↦ F r ]) q

    plain_goes : P.number ≡ 0 → onward X T p P ≡ p P.sess
    unfolding onward
    plain_goes e = ap (λ (n : ℕ). elim n as (λ (y : ℕ). Answer M) [ zero ↦ p P.sess | suc j ↦ P ]) e

    plain_stops : (m : ℕ) → P.number ≡ suc m → onward X T p P ≡ P
    unfolding onward
    plain_stops m e = ap (λ (n : ℕ). elim n as (λ (y : ℕ). Answer M) [ zero ↦ p P.sess | suc j ↦ P ]) e

    plain_number : (n : ℕ) → number_of (F always) ≡ n → P.number ≡ n
    plain_number n e = ap (λ (a : Answer M). a.number) (sym h.same) ∙ e

    by : (n : ℕ) → number_of (F always) ≡ n → FitsList k next (onward X T p P)
    by zero e =
        let t : Explaining M = F always in
        let q : FitsList (length t.entries) (λ r. g r t) (p t.answer.sess) = hg t e in
        let n : length t.entries ≡ h.need = h.counts e in
        let i : k ≤ h.need = h.from in
        let j : length t.entries ≤ q.need = q.from in
        record {
          same = ap (λ (u : Explaining M). u.answer) (goes always t refl e) ∙ q.same ∙ ap (λ (a : Answer M). p a.sess) h.same ∙ sym (plain_goes (plain_number 0 e));
          need = q.need;
          from = omega arith;
          held = subst (λ (u : Explaining M). length u.entries ≤ q.need) (sym (goes always t refl e)) q.held;
          fits = λ c l. goes (up_to c) t (h.fits c (omega arith)) e ∙ q.fits c l ∙ sym (goes always t refl e);
          short = λ c l s. ⊎_elim
              (λ f. ap number_of (stops (up_to c) 16 (h.short c l f)) ∙ h.short c l f)
              (λ f. ap number_of (goes (up_to c) t (h.fits c f) e) ∙ q.short c (omega arith) s) (cases_lt c h.need);
          counts = λ s. ap (λ (u : Explaining M). length u.entries) (goes always t refl e) ∙ q.counts (sym (ap number_of (goes always t refl e)) ∙ s);
        }
    by (suc m) e = record {
      same = ap (λ (u : Explaining M). u.answer) (stops always m e) ∙ h.same ∙ sym (plain_stops m (plain_number (suc m) e));
      need = h.need;
      from = h.from;
      held = subst (λ (u : Explaining M). length u.entries ≤ h.need) (sym (stops always m e)) h.held;
      fits = λ c l. stops (up_to c) m (ap number_of (h.fits c l) ∙ e) ∙ h.fits c l ∙ sym (stops always m e);
      short = λ c l q. ap number_of (stops (up_to c) 16 (h.short c l q)) ∙ h.short c l q;
      counts = λ s. absurd (let z : suc m ≡ 0 = sym e ∙ sym (ap number_of (stops always m e)) ∙ s in omega arith);
    }

    onward_fits : FitsList k next (onward X T p P)
    onward_fits = by (number_of (F always)) refl

  -- A LIST OF IDS, and n ids from x on
  pub list_fits : (room : ℕ) (xs : List ℕ) (t : Explaining M) → t.answer.number ≡ 0 → FitsList (length t.entries) (λ r. list_traced X T r shows room xs t) (list_plain X T room xs t.answer.sess)
  unfolding list_traced list_plain
  list_fits room [] t z = always_fits t (record { sess = t.answer.sess; number = 0 }) (λ i. record { sess = t.answer.sess; number = z i })
  list_fits room (x ∷ xs) t z =
      onward_fits (length t.entries) (λ r. single_traced X T r shows room x t) (single X T room t.answer.sess x) (single_fits room x t) (λ r. list_traced X T r shows room xs) (list_plain X T room xs) (λ u q. list_fits room xs u q)

  pub from_fits : (room n x : ℕ) (t : Explaining M) → t.answer.number ≡ 0 → FitsList (length t.entries) (λ r. from_traced X T r shows room n x t) (from X T room n x t.answer.sess)
  unfolding from_traced from
  from_fits room zero x t z = always_fits t (record { sess = t.answer.sess; number = 0 }) (λ i. record { sess = t.answer.sess; number = z i })
  from_fits room (suc n) x t z =
      onward_fits (length t.entries) (λ r. single_traced X T r shows room x t) (single X T room t.answer.sess x) (single_fits room x t) (λ r. from_traced X T r shows room n (suc x)) (from X T room n (suc x))
      (λ u q. from_fits room n (suc x) u q)

  -- ALL IDS
  pub every_fits : (room : ℕ) (S : Sess M) (b : Bool) → FitsList 0 (λ r. every_traced X T r shows room S b) (every X T room S b)
  unfolding every_traced every
  every_fits room S false = always_fits (record { answer = record { sess = S; number = 11 }; entries = []; zeroed = false }) (record { sess = S; number = 11 }) refl
  every_fits room S true = from_fits room (T.count - 1) 1 (record { answer = record { sess = S; number = 0 }; entries = []; zeroed = true }) refl

-- ---- the lent list
pub filled_listed : (n : ℕ) (es : List Entry) → 12 * length es ≤ n → Listed n es (filled n es)
unfolding filled
filled_listed n es l =
    let a : length (bytes_of es) ≡ 12 * length es = bytes_length es in
    let b : length {A = ℕ} (replicate (n - 12 * length es) 0) ≡ n - 12 * length es = length-replicate (n - 12 * length es) 0 in
    record { is = refl; size = length-append (bytes_of es) (replicate (n - 12 * length es) 0) ∙ omega arith }

module _ {M : Type 0} (F : (ℕ → Bool) → Explaining M) (P : Answer M) (h : FitsList 0 F P) (l : List ℕ) where
  causes_listed : (t : Explaining M) → 12 * length t.entries ≤ length l → t.zeroed ≡ true → Listed (length l) t.entries (causes_of l t).list
  unfolding causes_of
  causes_listed t q e = subst (λ (b : Bool). Listed (length l) t.entries (elim b [ true ↦ filled (length l) t.entries | false ↦ l ])) (sym e) (filled_listed (length l) t.entries q)

  causes_left : (t : Explaining M) → t.zeroed ≡ false → (causes_of l t).list ≡ l
  unfolding causes_of
  causes_left t e = ap (λ (b : Bool). elim b as (λ (y : Bool). List ℕ) [ true ↦ filled (length l) t.entries | false ↦ l ]) e

  causes_lent : (t : Explaining M) → t.answer ≡ P → 12 * length t.entries ≤ length l → Lent l t P (causes_of l t)
  unfolding causes_of
  causes_lent t e q = record { answer = e; count = refl; listed = causes_listed t q; left = causes_left t }

  pub is_lent : h.need ≤ entries_in l → Lent l (F always) P (causes_of l (F (up_to (entries_in l))))
  is_lent q =
      let i : length (F always).entries ≤ h.need = h.held in
      subst (λ (t : Explaining M). Lent l (F always) P (causes_of l t)) (sym (h.fits (entries_in l) q)) (causes_lent (F always) h.same (omega arith))

  -- "A lent list too short for one more entry is 17"
  pub is_short : entries_in l < h.need → (causes_of l (F (up_to (entries_in l)))).answer.number ≡ 17
  unfolding causes_of
  is_short q = h.short (entries_in l) (omega arith) q

module _ {M H : Type 0} (X : Machine M H) (T : Table) (shows : ℕ → Bool) (nz : Numbered X) (l : List ℕ) (room : ℕ) (S : Sess M) where
  -- THE THREE CALLS: with room for what they need, and without
  pub one_lent : (x : ℕ) → (single_fits X T shows nz room x (untold S)).need ≤ entries_in l → Lent l (single_traced X T always shows room x (untold S)) (single X T room S x) (one_causes X T shows l room S x)
  unfolding one_causes
  one_lent x q = is_lent (λ r. single_traced X T r shows room x (untold S)) (single X T room S x) (single_fits X T shows nz room x (untold S)) l q

  pub one_short : (x : ℕ) → entries_in l < (single_fits X T shows nz room x (untold S)).need → (one_causes X T shows l room S x).answer.number ≡ 17
  unfolding one_causes
  one_short x q = is_short (λ r. single_traced X T r shows room x (untold S)) (single X T room S x) (single_fits X T shows nz room x (untold S)) l q

  pub list_lent : (xs : List ℕ) → (list_fits X T shows nz room xs (untold S) refl).need ≤ entries_in l → Lent l (list_traced X T always shows room xs (untold S)) (list_plain X T room xs S) (list_causes X T shows l room S xs)
  unfolding list_causes
  list_lent xs q = is_lent (λ r. list_traced X T r shows room xs (untold S)) (list_plain X T room xs S) (list_fits X T shows nz room xs (untold S) refl) l q

  pub list_short : (xs : List ℕ) → entries_in l < (list_fits X T shows nz room xs (untold S) refl).need → (list_causes X T shows l room S xs).answer.number ≡ 17
  unfolding list_causes
  list_short xs q = is_short (λ r. list_traced X T r shows room xs (untold S)) (list_plain X T room xs S) (list_fits X T shows nz room xs (untold S) refl) l q

  pub all_lent : (every_fits X T shows nz room S S.is_open).need ≤ entries_in l → Lent l (every_traced X T always shows room S S.is_open) (every X T room S S.is_open) (all_causes X T shows l room S)
  unfolding all_causes
  all_lent q = is_lent (λ r. every_traced X T r shows room S S.is_open) (every X T room S S.is_open) (every_fits X T shows nz room S S.is_open) l q

  pub all_short : entries_in l < (every_fits X T shows nz room S S.is_open).need → (all_causes X T shows l room S).answer.number ≡ 17
  unfolding all_causes
  all_short q = is_short (λ r. every_traced X T r shows room S S.is_open) (every X T room S S.is_open) (every_fits X T shows nz room S S.is_open) l q
