-- The Rust's rule, which lists a typedef a second time, and the short rule give the same numbers, the same lengths and the same text: for every table,
-- every list of requests, every room. Assumes nothing. The order lists may differ (Samples: 2, 4, 2 and 2, 4).
use Prim.Native.Nat.{ℕ, zero, suc, ◌-◌}
use mathlib.Core.Path.{◌≡◌, refl, sym, ◌∙◌, ap, subst}
use mathlib.Core.Bool.{Bool, true, false, true≢false}
use mathlib.Core.List.Memᴰ
use mathlib.Core.List.{List, [], ◌∷◌, ◌++◌}
use mathlib.Core.Logic.{inl}
use lib.ListN.{length, get_or, replicate, length-replicate}
use lib.Dec.{ltb}
use Rattle.spec_c_dumper.specs.rules.Order.{Table, Mark, new, busy, Res}
use Rattle.spec_c_dumper.specs.rules.Machine.{Out, Machine, eeach, emit, Sess, Answer, Req, one, all, shut, emitted, ordered, ordering, gate, single, onward, from, every}
use Rattle.spec_c_dumper.specs.rules.Types.{Btf, table_of}
use Rattle.spec_c_dumper.specs.rules.Names.{Naming, naming}
use Rattle.spec_c_dumper.specs.needs.Lists.{Lines, Ls, list_machine, afresh}
use Rattle.spec_c_dumper.specs.needs.Session.{Known, dump, text_of, lines_by, opened_by, no_names, answer_to, dumped, dump_types}
use Rattle.spec_c_dumper.specs.listed_twice.Twice.{ordering_twice, gate_twice, single_twice, from_twice, every_twice, answer_twice, dumped_twice, dump_types_twice}
use Rattle.spec_c_dumper.proofs.listed_twice.Ordering.{bare, Rel, Both, both_ok, both_no, dnil, new_busy, order_sim}
use Rattle.spec_c_dumper.proofs.listed_twice.Emission.{Alike, both_wrote, both_stuck, Fin, dup_emit}

-- Two sessions, the first by the Rust's rule: equal but for the order list; nothing is in progress while they are open.
pub record Twins {U : Type 0} (n : ℕ) (S₁ S : Sess (Ls U)) : Type 0 where
  pub same_open : S₁.is_open ≡ S.is_open
  pub same_asked : S₁.asked ≡ S.asked
  pub same_mach : bare S₁.mach ≡ bare S.mach
  pub idle : S.is_open ≡ true → (y : ℕ) → get_or S.mach.emits y new ≡ busy → ⊥
  pub marks_n : length S.mach.marks ≡ n
  pub emits_n : length S.mach.emits ≡ n

pub record TwinAnswers {U : Type 0} (n : ℕ) (a₁ a : Answer (Ls U)) : Type 0 where
  pub same_number : a₁.number ≡ a.number
  pub twins : Twins n a₁.sess a.sess

module _ {U H : Type 0} (L : Lines U H) (T : Table) where
  abbrev X : Machine (Ls U) H
  X = list_machine L

  module _ (S₁ S : Sess (Ls U)) (h : Twins T.count S₁ S) where
    shut_same : (m₁ m : H) (e : ℕ) → m₁ ≡ m → TwinAnswers T.count (shut X T S₁ m₁ e) (shut X T S m e)
    unfolding shut
    shut_same m₁ m e q = record { same_number = refl; twins = record { same_open = refl; same_asked = h.same_asked; same_mach = λ i. bare (X.leaving (q i) (h.same_mach i)); idle = λ u. absurd (true≢false (sym u)); marks_n = h.marks_n; emits_n = h.emits_n } }

    emitted_same : (x : ℕ) (b : List ℕ) (d : Ls U) → length d.marks ≡ T.count → length d.emits ≡ T.count → ((y : ℕ) → get_or d.emits y new ≡ busy → ⊥)
        → (p q : Out (Ls U) H) → Alike (Fin L T b d) p q → TwinAnswers T.count (emitted X T S₁ x p) (emitted X T S x q)
    unfolding emitted
    emitted_same x b d mn en nb _ _ (both_wrote e m) = record {
      same_number = refl;
      twins = record { same_open = refl; same_asked = ap {B = List ℕ} (λ (l : List ℕ). l ++ (x ∷ [])) h.same_asked; same_mach = e; idle = λ u y g. nb y (m.0.calm y g); marks_n = ap length m.0.ordering_same ∙ mn; emits_n = m.0.len ∙ en };
    }
    emitted_same x b d mn en nb _ _ (both_stuck {h = m₁} {h' = m} {e = e} q) = shut_same m₁ m e q

    ordered_same : (x : ℕ) (s₀ : Ls U) → s₀.emits ≡ S.mach.emits → S.is_open ≡ true → (p q : Res (Ls U)) → Both T s₀ p q → TwinAnswers T.count (ordered X T S₁ x p) (ordered X T S x q)
    unfolding ordered
    ordered_same x s₀ e o _ _ (both_ok {r = r} {d = d} i) =
        emitted_same x d.olist d i.size en nb (eeach (λ m y. emit X T 512 m y 0) r.olist r) (eeach (λ m y. emit X T 512 m y 0) d.olist d)
        (dup_emit L T T.count i.dup r d i.same en nb i.defs)
      where
        en : length d.emits ≡ T.count
        en = ap length (i.emits_same ∙ e) ∙ h.emits_n

        nb : (y : ℕ) → get_or d.emits y new ≡ busy → ⊥
        nb y g = h.idle o y (ap (λ (l : List Mark). get_or l y new) (sym (i.emits_same ∙ e)) ∙ g)
    ordered_same x s₀ e o _ _ (both_no {e = c}) = shut_same (X.held S₁.mach) (X.held S.mach) c (ap (λ (s : Ls U). X.held s) h.same_mach)

    begun : (room : ℕ) → Rel T (X.start room S.mach) (X.start room S₁.mach) (X.start room S.mach)
    begun room = record { same = ap {B = Ls U} (X.start room) h.same_mach; dup = dnil; newly = λ x t q g. inl g; old = λ x g. g; defs = λ x m. absurd (Memᴰ.not-nil m); size = h.marks_n; emits_same = refl }

    gate_same : (room x : ℕ) (o b : Bool) → S.is_open ≡ o → TwinAnswers T.count (gate_twice X T room S₁ x o b) (gate X T room S x o b)
    unfolding gate_twice gate
    gate_same room x false b e = record { same_number = refl; twins = h }
    gate_same room x true false e = record { same_number = refl; twins = h }
    gate_same room x true true e = ordered_same x (X.start room S.mach) refl e (ordering_twice X T room S₁ x) (ordering X T room S x) (order_sim T (X.start room S.mach) 512 (X.start room S₁.mach) (X.start room S.mach) x false (begun room))

    -- one request
    pub single_same : (room x : ℕ) → TwinAnswers T.count (single_twice X T room S₁ x) (single X T room S x)
    unfolding single_twice single
    single_same room x = subst (λ (o : Bool). TwinAnswers T.count (gate_twice X T room S₁ x o (ltb x T.count)) (gate X T room S x S.is_open (ltb x T.count))) (sym h.same_open) (gate_same room x S.is_open (ltb x T.count) refl)

  onward_same : (f₁ f : Sess (Ls U) → Answer (Ls U)) → ((S₁ S : Sess (Ls U)) → Twins T.count S₁ S → TwinAnswers T.count (f₁ S₁) (f S)) → (a₁ a : Answer (Ls U)) → TwinAnswers T.count a₁ a → TwinAnswers T.count (onward X T f₁ a₁) (onward X T f a)
  unfolding onward
  onward_same f₁ f g a₁ a h = subst (λ (n : ℕ). TwinAnswers {U = U} T.count (elim n [ zero ↦ f₁ a₁.sess | suc m ↦ a₁ ]) (elim a.number [ zero ↦ f a.sess | suc m ↦ a ])) (sym h.same_number) (go a.number)
    where
      go : (n : ℕ) → TwinAnswers {U = U} T.count (elim n [ zero ↦ f₁ a₁.sess | suc m ↦ a₁ ]) (elim n [ zero ↦ f a.sess | suc m ↦ a ])
      go zero = g a₁.sess a.sess h.twins
      go (suc n) = h

  from_same : (room n x : ℕ) (S₁ S : Sess (Ls U)) → Twins T.count S₁ S → TwinAnswers T.count (from_twice X T room n x S₁) (from X T room n x S)
  unfolding from_twice from
  from_same room zero x S₁ S h = record { same_number = refl; twins = h }
  from_same room (suc n) x S₁ S h = onward_same (from_twice X T room n (suc x)) (from X T room n (suc x)) (λ S₁' S' h'. from_same room n (suc x) S₁' S' h') (single_twice X T room S₁ x) (single X T room S x) (single_same S₁ S h room x)

  -- a request for all
  pub every_same : (room : ℕ) (S₁ S : Sess (Ls U)) → Twins T.count S₁ S → TwinAnswers T.count (every_twice X T room S₁ S₁.is_open) (every X T room S S.is_open)
  unfolding every_twice every
  every_same room S₁ S h = subst (λ (o : Bool). TwinAnswers T.count (every_twice X T room S₁ o) (every X T room S S.is_open)) (sym h.same_open) (go S.is_open)
    where
      go : (o : Bool) → TwinAnswers T.count (every_twice X T room S₁ o) (every X T room S o)
      go false = record { same_number = refl; twins = h }
      go true = from_same room (T.count - 1) 1 S₁ S h

all_idle : (k y : ℕ) → get_or (replicate k new) y new ≡ busy → ⊥
all_idle zero y e = new_busy e
all_idle (suc k) zero e = new_busy e
all_idle (suc k) (suc y) e = all_idle k y e

-- with any way of keeping names
module _ {U : Type 0} (N : Naming U) (B : Btf) where
  answer_same : (S₁ S : Sess (Ls (Known U))) → Twins B.type_cnt S₁ S → (r : Req) → TwinAnswers B.type_cnt (answer_twice N B S₁ r) (answer_to N B S r)
  unfolding answer_twice answer_to
  answer_same S₁ S h (one room x) = single_same (lines_by N B) (table_of B) S₁ S h room x
  answer_same S₁ S h (all room) = every_same (lines_by N B) (table_of B) room S₁ S h

  dumped_same : (rs : List Req) (ns : List (ℕ × ℕ)) (S₁ S : Sess (Ls (Known U))) → Twins B.type_cnt S₁ S → dumped_twice N B ns rs S₁ ≡ dumped N B ns rs S
  unfolding dumped_twice dumped
  dumped_same [] ns S₁ S h = ap (λ (k : Ls (Known U)). dump ns (text_of k.pieces)) h.same_mach
  dumped_same (r ∷ rs) ns S₁ S h =
      let a = answer_same S₁ S h r in
      dumped_same rs (ns ++ (((answer_twice N B S₁ r).number, (answer_twice N B S₁ r).sess.mach.known.text_len) ∷ [])) (answer_twice N B S₁ r).sess (answer_to N B S r).sess a.twins
      ∙ ap (λ (k : ℕ × ℕ). dumped N B (ns ++ (k ∷ [])) rs (answer_to N B S r).sess) (λ i. (a.same_number i, (a.twins.same_mach i).known.text_len))

  pub by_listings_agree : (u : U) (rs : List Req) → dumped_twice N B [] rs (opened_by N B u) ≡ dumped N B [] rs (opened_by N B u)
  unfolding afresh
  by_listings_agree u rs = dumped_same rs [] (opened_by N B u) (opened_by N B u) (record { same_open = refl; same_asked = refl; same_mach = refl; idle = λ o y g. all_idle B.type_cnt y g; marks_n = length-replicate B.type_cnt new; emits_n = length-replicate B.type_cnt new })

-- THE CLAIM: the number and the value of each request, and the text, are those of the short rule.
pub listings_agree : (B : Btf) (rs : List Req) → dump_types_twice B rs ≡ dump_types B rs
listings_agree B rs = by_listings_agree naming B (no_names B) rs
