-- Demand 3 holds of every lawful machine.
use Prim.Native.Nat.{ℕ, zero, suc, ◌<◌, ◌≤◌, ◌-◌}
use native.Mathlib.Omega.{arith}
use mathlib.Core.Path.{◌≡◌, refl, sym, ◌∙◌, ap, subst}
use mathlib.Core.Bool.{Bool, true, false, ◌&&◌, true≢false}
use mathlib.Core.List.Memᴰ
use mathlib.Core.List.{List, [], ◌∷◌, ◌++◌, append_assoc, append-nil, Memᴰ}
use mathlib.Core.Logic.{◌⊎◌, inl, inr, ◌↔◌}
use lib.ListN.{length}
use lib.Dec.{ltb}
use borrow.Author.Tests.{ltb-true, both_ways, lt-ltb}
use Rattle.std.proofs.lemmas.Bool.{and_parts}
use Rattle.spec_c_dumper.specs.rules.Order.{Table, is_comp, Mark, new, busy, done, Res, ok, refused}
use Rattle.spec_c_dumper.specs.needs.Needs.{weaken, Way, here, past, NamedComp, MeetsTwice, WF}
use Rattle.spec_c_dumper.proofs.needs.Placed.{Listable, keep, defs, Placed, Sorted, none, snoc}
use Rattle.spec_c_dumper.proofs.needs.Ways.{Loops, Gee, agree, via_comp, loops_twice, acc_once, tally}
use Rattle.spec_c_dumper.proofs.needs.Sound.{hit_lower, Ready, Ordered, Holds, good, bad, request_ok}
use Rattle.spec_c_dumper.specs.rules.Machine.{Out, wrote, stuck, Machine, OHolds, ogood, obad, Same, OrderKeeps, MLawful, eeach, emit, Sess, Answer, Req, one, all, shut, emitted, ordered, ordering, gate, single, onward, from, every, serve, run}
use Rattle.spec_c_dumper.proofs.needs.Quiet.{oholds_bind, oholds_map, defs_append, defs_one, EBusy, TopPost, Sound-top, emit_top}
use Rattle.spec_c_dumper.specs.needs.Demand.{Once, Demand3}
use Rattle.spec_c_dumper.proofs.needs.Splits.{nil_not, snoc_split}

-- lists

sorted_split : (T : Table) {L : List ℕ} → Sorted T L → (l₁ l₂ : List ℕ) (c : ℕ) → L ≡ l₁ ++ (c ∷ l₂) → NamedComp T c → Placed T l₁ c
sorted_split T none l₁ l₂ c e nc = absurd (nil_not l₁ l₂ c e)
sorted_split T (snoc {l = l} {x = x} h f) l₁ l₂ c e nc = go (λ k q. sorted_split T h l₁ k c q nc) (snoc_split l l₁ l₂ x c e)
  where
    go : ((k : List ℕ) → l ≡ l₁ ++ (c ∷ k) → Placed T l₁ c) → ((l ≡ l₁) × (x ≡ c)) ⊎ ((k : List ℕ) × (l ≡ l₁ ++ (c ∷ k))) → Placed T l₁ c
    go r (inl q) = subst (λ (k : List ℕ). Placed T k c) q.0 (subst (λ (k : ℕ). Placed T l k) q.1 (f (subst (NamedComp T) (sym q.1) nc)))
    go r (inr q) = r q.0 q.1

mem_split : (c : ℕ) (l : List ℕ) → Memᴰ c l → (l₁ : List ℕ) × (l₂ : List ℕ) × (l ≡ l₁ ++ (c ∷ l₂))
mem_split c [] m = elim m [ ]
mem_split c (x ∷ l) (Memᴰ.head e) = ([], l, ap (λ (k : ℕ). k ∷ l) (sym e))
mem_split c (x ∷ l) (Memᴰ.tail m) = let q = mem_split c l m in (x ∷ q.0, q.1, ap {B = List ℕ} (λ k. x ∷ k) q.2)

-- the named composites of a list

defs_mem : (T : Table) (x : ℕ) (l : List ℕ) → Memᴰ x l → NamedComp T x → Memᴰ x (defs T l)
unfolding defs
defs_mem T x [] m nc = elim m [ ]
defs_mem T x (y ∷ l) (Memᴰ.head e) nc = let h : NamedComp T y = subst (NamedComp T) e nc in rw (h.0, h.1) (Memᴰ.head e)
defs_mem T x (y ∷ l) (Memᴰ.tail m) nc = go (defs_mem T x l m nc) (is_comp (T.node y) && T.named y)
  where
    go : Memᴰ x (defs T l) → (k : Bool) → Memᴰ x (keep k y (defs T l))
    go r true = Memᴰ.tail r
    go r false = r

mem_defs : (T : Table) (x : ℕ) (l : List ℕ) → Memᴰ x (defs T l) → Memᴰ x l × NamedComp T x
unfolding defs
mem_defs T x [] m = absurd (Memᴰ.not-nil m)
mem_defs T x (y ∷ l) m = go (mem_defs T x l) (is_comp (T.node y) && T.named y) refl m
  where
    go : (Memᴰ x (defs T l) → Memᴰ x l × NamedComp T x) → (k : Bool) → (is_comp (T.node y) && T.named y) ≡ k → Memᴰ x (keep k y (defs T l)) → Memᴰ x (y ∷ l) × NamedComp T x
    go r true e m' = pick (Memᴰ.cases_cons m')
      where
        pick : (x ≡ y) ⊎ Memᴰ x (defs T l) → Memᴰ x (y ∷ l) × NamedComp T x
        pick (inl q) = (Memᴰ.head q, subst (NamedComp T) (sym q) (and_parts (is_comp (T.node y)) (T.named y) e))
        pick (inr k) = let h = r k in (Memᴰ.tail h.0, h.1)
    go r false e m' = let h = r m' in (Memᴰ.tail h.0, h.1)

defs_drop : (T : Table) (x : ℕ) → (is_comp (T.node x) && T.named x) ≡ false → defs T (x ∷ []) ≡ []
unfolding defs
defs_drop T x e = rw e refl

sorted_defs : (T : Table) {L : List ℕ} → Sorted T L → Sorted T (defs T L)
unfolding defs
sorted_defs T none = none
sorted_defs T (snoc {l = l} {x = x} h f) = go (sorted_defs T h) (is_comp (T.node x) && T.named x) refl
  where
    placed : NamedComp T x → Placed T (defs T l) x
    placed nc = let p = f nc in record { once = λ m. p.once (mem_defs T x l m).0; after = λ d v n. defs_mem T d l (p.after d v n) (via_comp T v, n) }

    go : Sorted T (defs T l) → (k : Bool) → (is_comp (T.node x) && T.named x) ≡ k → Sorted T (defs T (l ++ (x ∷ [])))
    go r true e = rw (defs_append T l (x ∷ []), defs_one T x (and_parts (is_comp (T.node x)) (T.named x) e)) (snoc r placed)
    go r false e = rw (defs_append T l (x ∷ []), defs_drop T x e, append-nil (defs T l)) r

sorted_once : (T : Table) (l : List ℕ) → Sorted T l → (c : ℕ) → NamedComp T c → Memᴰ c l → Once c l
sorted_once T l o c nc m = record {
  before = q.0;
  rest = q.1;
  place = q.2;
  not_before = (sorted_split T o q.0 q.1 c q.2 nc).once;
  not_after = λ k. let r = mem_split c q.1 k in
      (sorted_split T o (q.0 ++ (c ∷ r.0)) r.1 c (q.2 ∙ ap (λ (z : List ℕ). q.0 ++ (c ∷ z)) r.2 ∙ sym (append_assoc q.0 (c ∷ r.0) (c ∷ r.1))) nc).once (Memᴰ.append_right q.0 (Memᴰ.head refl));
}
  where
    q : (l₁ : List ℕ) × (l₂ : List ℕ) × (l ≡ l₁ ++ (c ∷ l₂))
    q = mem_split c l m

-- what ordering leaves of a listed id
record Due (T : Table) (x : ℕ) : Type 0 where
  able : Listable T x
  below : x < T.count
  weakly_free : (d : ℕ) (v : Bool) → Way (weaken T) T x true d v → (T.named d ≡ false) ⊎ (v ≡ false) → Loops T d → ⊥
  comp_free : is_comp (T.node x) ≡ true → Loops T x → ⊥

module _ {M H : Type 0} (X : Machine M H) (T : Table) (Good : M → Type 0) (ml : MLawful X Good T.count) (wf : WF T) where
  abbrev pub IsReady : List ℕ → M → Type 0
  IsReady pre s = Ready X.store T Good ml.law (OrderKeeps X Good) ml.framed pre s

  abbrev pub IsBusy : M → ℕ → Type 0
  IsBusy s e = EBusy X T Good ml wf s e

  -- Emission of a list.

  pub record EReady (l : List ℕ) (s : M) : Type 0 where
    pub egood : Good s
    pub unseen : (c : ℕ) → is_comp (T.node c) ≡ true → (Memᴰ c l → ⊥) → X.eget s c ≡ new
    pub eidle : (e : ℕ) → IsBusy s e → ⊥
    pub tagged : X.tags s ≡ defs T l

  sound_top : (l : List ℕ) (s : M) (x : ℕ) → EReady l s → Due T x → (NamedComp T x → Memᴰ x l → ⊥) → Sound-top X T Good ml wf s x
  sound_top l s x r h u = record {
    able = h.able;
    below = h.below;
    weakly = weak;
    strongly = strong;
    unseen = λ c. r.unseen x c (u (c, h.able.name c));
  }
    where
      weak : Gee T ⊥ (IsBusy s) x true
      weak d v way due (inl o) = h.weakly_free d v way due o
      weak d v way due (inr b) = r.eidle b.0 b.1

      strong : is_comp (T.node x) ≡ true → Gee T ⊥ (IsBusy s) x false
      strong c d v (here c' q f) due (inl o) = h.comp_free c (subst (Loops T) (sym q) o)
      strong c d v (here c' q f) due (inr b) = r.eidle b.0 b.1
      strong c d v (past nc m way) due o = true≢false (sym c ∙ nc)

  eready_step : (l : List ℕ) (s : M) (x : ℕ) → EReady l s → Due T x → (s' : M) → TopPost X T Good ml wf x s s' → EReady (l ++ (x ∷ [])) s'
  eready_step l s x r h s' p = record {
    egood = p.good;
    unseen = λ c k m. p.comps c k (λ q. m (Memᴰ.append_right l (Memᴰ.head q))) ∙ r.unseen c k (λ a. m (Memᴰ.append_left (x ∷ []) a));
    eidle = λ e b. r.eidle e (sym (p.comps e b.1 (λ q. true≢false (sym (h.able.name (subst (λ (k : ℕ). is_comp (T.node k) ≡ true) q b.1)) ∙ sym (ap T.named q) ∙ b.2))) ∙ b.0, b.1, b.2);
    tagged = p.tagged ∙ ap (λ (k : List ℕ). k ++ defs T (x ∷ [])) r.tagged ∙ sym (defs_append T l (x ∷ []));
  }

  record Emitted (l : List ℕ) (s s' : M) : Type 0 where
    eready : EReady l s'
    gets : (d : ℕ) → X.store.get s' d ≡ X.store.get s d

  emit_list : (n : ℕ) (todo l : List ℕ) (s : M) → EReady l s → Sorted T (l ++ todo) → ((x : ℕ) → Memᴰ x todo → Due T x) → OHolds (Emitted (l ++ todo) s) (eeach (λ m y. emit X T n m y 0) todo s)
  unfolding eeach
  emit_list n [] l s r o f = ogood (record { eready = subst (λ (k : List ℕ). EReady k s) (sym (append-nil l)) r; gets = λ d. refl })
  emit_list n (x ∷ todo) l s r o f =
      oholds_bind (emit_top X T Good ml wf n s x r.egood (sound_top l s x r h (λ nc. (sorted_split T o l todo x refl nc).once))) (λ s' p.
      oholds_map (λ s'' q. record { eready = q.eready; gets = λ d. q.gets d ∙ p.gets d })
      (subst (λ (k : List ℕ). OHolds (Emitted k s') (eeach (λ m y. emit X T n m y 0) todo s')) (append_assoc l (x ∷ []) todo)
      (emit_list n todo (l ++ (x ∷ [])) s' (eready_step l s x r h s' p) (subst (Sorted T) (sym (append_assoc l (x ∷ []) todo)) o) (λ y m. f y (Memᴰ.tail m)))))
    where
      h : Due T x
      h = f x (Memᴰ.head refl)

  -- Between requests.

  due_of : (pre : List ℕ) (s : M) → IsReady pre s → (x : ℕ) → Memᴰ x (pre ++ X.store.list s) → Due T x
  due_of pre s r x m = record {
    able = f.1;
    below = f.2;
    weakly_free = λ d v way due o. free d (hit_lower X.store T Good ml.law (OrderKeeps X Good) ml.framed s x true (r.inv.closed x f.0) d v (agree T wf way (inl refl)) due) o;
    comp_free = λ c o. free x f.0 o;
  }
    where
      f : (X.store.get s x ≡ done) × Listable T x × (x < T.count)
      f = r.inv.from_list x m

      free : (d : ℕ) → X.store.get s d ≡ done → Loops T d → ⊥
      free d h o = let k = loops_twice o in acc_once k.chain (r.inv.ends d h) k.twice

  -- a state with the same marks, and an empty list
  ready_next : (pre : List ℕ) (s s' : M) → Good s' → ((d : ℕ) → X.store.get s' d ≡ X.store.get s d) → X.store.list s' ≡ [] → IsReady pre s → IsReady (pre ++ X.store.list s) s'
  ready_next pre s s' g same e r = record {
    inv = record {
      good' = g;
      room = subst (λ (k : List ℕ). length k ≤ tally (X.store.get s') T.count) (sym e) (omega arith);
      closed = λ x h d v w due. back d (r.inv.closed x (forth x h) d v w due);
      inside = λ x h d n. back d (r.inv.inside x (forth x h) d n);
      ends = λ x h. r.inv.ends x (forth x h);
      is_listed = λ x h nc. subst (Memᴰ x) (sym whole) (r.inv.is_listed x (forth x h) nc);
      from_list = λ x m. let h = r.inv.from_list x (subst (Memᴰ x) whole m) in (back x h.0, h.1, h.2);
      sorted = subst (Sorted T) (sym whole) r.inv.sorted;
      busy_comp = λ x h. r.inv.busy_comp x (sym (same x) ∙ h);
    };
    idle = λ x h. r.idle x (sym (same x) ∙ h);
  }
    where
      forth : (d : ℕ) → X.store.get s' d ≡ done → X.store.get s d ≡ done
      forth d h = sym (same d) ∙ h

      back : (d : ℕ) → X.store.get s d ≡ done → X.store.get s' d ≡ done
      back d h = same d ∙ h

      whole : (pre ++ X.store.list s) ++ X.store.list s' ≡ pre ++ X.store.list s
      whole = ap (λ (k : List ℕ). (pre ++ X.store.list s) ++ k) e ∙ append-nil (pre ++ X.store.list s)

  eready_same : (l : List ℕ) (s s' : M) → Good s' → ((d : ℕ) → X.eget s' d ≡ X.eget s d) → X.tags s' ≡ X.tags s → EReady l s → EReady l s'
  eready_same l s s' g same e r = record {
    egood = g;
    unseen = λ c k m. same c ∙ r.unseen c k m;
    eidle = λ d b. r.eidle d (sym (same d) ∙ b.0, b.1, b.2);
    tagged = e ∙ r.tagged;
  }

  -- between requests
  pub record SInv (S : Sess M) : Type 0 where
    pub whole : List ℕ
    pub sorted : Sorted T whole
    pub defined : X.tags S.mach ≡ defs T whole
    pub got : (x : ℕ) → Memᴰ x S.asked → NamedComp T x → Memᴰ x whole
    pub live : S.is_open ≡ true → (room : ℕ) → IsReady whole (X.start room S.mach) × EReady whole (X.start room S.mach)

  -- what one request comes to
  record Served (room : ℕ) (S : Sess M) (x : ℕ) (a : Answer M) : Type 0 where
    inv : SInv a.sess
    cycle : S.is_open ≡ true → x < T.count → NamedComp T x → (ordering X T room S x ≡ refused 12 → ⊥) → (a.number ≡ 13) ↔ MeetsTwice T x

  shut_inv : (S : Sess M) (h : H) (e : ℕ) → SInv S → SInv (shut X T S h e).sess
  unfolding shut
  shut_inv S h e i = record { whole = i.whole; sorted = i.sorted; defined = ml.leaving_tags h S.mach ∙ i.defined; got = i.got; live = λ o. absurd (true≢false (sym o)) }

  shut_number : (S : Sess M) (h : H) (e : ℕ) → (shut X T S h e).number ≡ e
  unfolding shut
  shut_number S h e = refl

  abbrev IsOrdered : M → List ℕ → ℕ → M → Bool → Type 0
  IsOrdered s₀ pre x s b = Ordered X.store T Good ml.law (OrderKeeps X Good) ml.framed s₀ pre x s b

  emitted_ok : (room : ℕ) (S : Sess M) (x : ℕ) (i : SInv S) (s : M) (b : Bool) → IsOrdered (X.start room S.mach) i.whole x s b → (r : Out M H) → OHolds (Emitted (i.whole ++ X.store.list s) s) r → Served room S x (emitted X T S x r)
  unfolding emitted
  emitted_ok room S x i s b o (wrote m) (ogood h) = record {
    inv = record {
      whole = i.whole ++ X.store.list s;
      sorted = o.ready.inv.sorted;
      defined = h.eready.tagged;
      got = λ y k nc. pick y nc (Memᴰ.append_cases S.asked k);
      live = λ u r. next r;
    };
    cycle = λ p l nc d. (λ (e : ◌≡◌ {A = ℕ} 0 13). let f : ⊥ = omega arith in absurd f, λ k. absurd (o.no_cycle nc k));
  }
    where
      pick : (y : ℕ) → NamedComp T y → Memᴰ y S.asked ⊎ Memᴰ y (x ∷ []) → Memᴰ y (i.whole ++ X.store.list s)
      pick y nc (inl a) = Memᴰ.append_left (X.store.list s) (i.got y a nc)
      pick y nc (inr a) = let q = Memᴰ.eq_of_singleton a in Memᴰ.cast q (o.asked (subst (NamedComp T) q nc))

      next : (r : ℕ) → IsReady (i.whole ++ X.store.list s) (X.start r m) × EReady (i.whole ++ X.store.list s) (X.start r m)
      next r =
          let g : Good m = h.eready.egood in
          let q = ml.start_same r m g in
          (ready_next i.whole s (X.start r m) q.good (λ d. q.gets d ∙ h.gets d) (ml.start_list r m g) o.ready, eready_same (i.whole ++ X.store.list s) m (X.start r m) q.good q.egets q.tags_same h.eready)
  emitted_ok room S x i s b o (stuck m e) (obad f) = record {
    inv = shut_inv S m e i;
    cycle = λ p l nc d. (λ h. absurd (f (sym (shut_number S m e) ∙ h)), λ k. absurd (o.no_cycle nc k));
  }

  ordered_ok : (room : ℕ) (S : Sess M) (x : ℕ) (i : SInv S) → EReady i.whole (X.start room S.mach) → (r : Res M) → ordering X T room S x ≡ r → Holds (IsOrdered (X.start room S.mach) i.whole x) (NamedComp T x → MeetsTwice T x) r → Served room S x (ordered X T S x r)
  unfolding ordered
  ordered_ok room S x i er (ok s b) e (good o) = emitted_ok room S x i s b o (eeach (λ m y. emit X T 512 m y 0) (X.store.list s) s)
      (emit_list 512 (X.store.list s) i.whole s (eready_same i.whole (X.start room S.mach) s o.ready.inv.good' o.frame.egets o.frame.tags_same er) o.ready.inv.sorted (λ y m. due_of i.whole s o.ready y (Memᴰ.append_right i.whole m)))
  ordered_ok room S x i er (refused n) e (bad h) = record { inv = shut_inv S (X.held S.mach) n i; cycle = λ p l nc d. go nc d h }
    where
      go : NamedComp T x → (ordering X T room S x ≡ refused 12 → ⊥) → (n ≡ 12) ⊎ ((n ≡ 13) × (NamedComp T x → MeetsTwice T x)) → ((shut X T S (X.held S.mach) n).number ≡ 13) ↔ MeetsTwice T x
      go nc d (inl q) = absurd (d (e ∙ ap refused q))
      go nc d (inr q) = (λ u. q.1 nc, λ u. shut_number S (X.held S.mach) n ∙ q.0)

  gate_ok : (room : ℕ) (S : Sess M) (x : ℕ) → SInv S → (o b : Bool) → S.is_open ≡ o → ltb x T.count ≡ b → Served room S x (gate X T room S x o b)
  unfolding gate
  gate_ok room S x i false b e f = record { inv = i; cycle = λ p l nc d. absurd (true≢false (sym p ∙ e)) }
  gate_ok room S x i true false e f = record { inv = i; cycle = λ p l nc d. absurd (both_ways _ f (lt-ltb x T.count l)) }
  gate_ok room S x i true true e f = ordered_ok room S x i (i.live e room).1 (ordering X T room S x) refl (request_ok X.store T Good ml.law (OrderKeeps X Good) ml.framed wf i.whole (X.start room S.mach) x 512 (i.live e room).0 (ltb-true x T.count f))

  single_ok : (room : ℕ) (S : Sess M) (x : ℕ) → SInv S → Served room S x (single X T room S x)
  unfolding single
  single_ok room S x i = gate_ok room S x i S.is_open (ltb x T.count) refl refl

  onward_ok : (k : Sess M → Answer M) → ((S : Sess M) → SInv S → SInv (k S).sess) → (a : Answer M) → SInv a.sess → SInv (onward X T k a).sess
  unfolding onward
  onward_ok k f a i = go a.number
    where
      go : (n : ℕ) → SInv (elim n as (λ m. Answer M) [ zero ↦ k a.sess | suc m ↦ a ]).sess
      go zero = f a.sess i
      go (suc m) = i

  from_ok : (room n x : ℕ) (S : Sess M) → SInv S → SInv (from X T room n x S).sess
  unfolding from
  from_ok room zero x S i = i
  from_ok room (suc n) x S i = onward_ok (from X T room n (suc x)) (λ S' i'. from_ok room n (suc x) S' i') (single X T room S x) (single_ok room S x i).inv

  every_ok : (room : ℕ) (S : Sess M) (b : Bool) → SInv S → SInv (every X T room S b).sess
  unfolding every
  every_ok room S false i = i
  every_ok room S true i = from_ok room (T.count - 1) 1 S i

  pub serve_ok : (S : Sess M) (r : Req) → SInv S → SInv (serve X T S r)
  unfolding serve
  serve_ok S (one room x) i = (single_ok room S x i).inv
  serve_ok S (all room) i = every_ok room S S.is_open i

  run_ok : (rs : List Req) (S : Sess M) → SInv S → SInv (run X T rs S)
  unfolding run
  run_ok [] S i = i
  run_ok (r ∷ rs) S i = run_ok rs (serve X T S r) (serve_ok S r i)

  -- a machine that differs in what neither ordering nor emission looks at
  pub same_ok : (S S' : Sess M) → S'.is_open ≡ S.is_open → S'.asked ≡ S.asked → X.tags S'.mach ≡ X.tags S.mach
      → ((room : ℕ) → Good (X.start room S.mach) → Same X Good (X.start room S.mach) (X.start room S'.mach))
      → ((room : ℕ) → X.store.list (X.start room S.mach) ≡ []) → ((room : ℕ) → X.store.list (X.start room S'.mach) ≡ []) → SInv S → SInv S'
  same_ok S S' o a t q l l' i = record {
    whole = i.whole;
    sorted = i.sorted;
    defined = t ∙ i.defined;
    got = λ x k nc. i.got x (subst (Memᴰ x) a k) nc;
    live = λ h room. go room (i.live (sym o ∙ h) room);
  }
    where
      go : (room : ℕ) → IsReady i.whole (X.start room S.mach) × EReady i.whole (X.start room S.mach) → IsReady i.whole (X.start room S'.mach) × EReady i.whole (X.start room S'.mach)
      go room r =
          let e = q room r.1.egood in (
            subst (λ (k : List ℕ). IsReady k (X.start room S'.mach)) (ap (λ (k : List ℕ). i.whole ++ k) (l room) ∙ append-nil i.whole)
                (ready_next i.whole (X.start room S.mach) (X.start room S'.mach) e.good e.gets (l' room) r.0),
            eready_same i.whole (X.start room S.mach) (X.start room S'.mach) e.good e.egets e.tags_same r.1,
          )

  -- what opening leaves: nothing marked, nothing written
  pub record Opened (m : M) : Type 0 where
    pub fit : Good m
    pub all_new : (x : ℕ) → X.store.get m x ≡ new
    pub all_unemitted : (x : ℕ) → X.eget m x ≡ new
    pub no_text : X.tags m ≡ []

  abbrev pub opened : M → Sess M
  opened m = record { is_open = true; mach = m; asked = [] }

  pub opened_ok : (m : M) → Opened m → SInv (opened m)
  unfolding defs
  opened_ok m o = record {
    whole = [];
    sorted = none;
    defined = o.no_text;
    got = λ x k. absurd (Memᴰ.not-nil k);
    live = λ h r. go r (ml.start_same r m o.fit) (ml.start_list r m o.fit);
  }
    where
      not_new : (k k' : Mark) → k ≡ new → k ≡ k' → (k' ≡ new → ⊥) → ⊥
      not_new k k' p q h = h (sym q ∙ p)

      done_new : done ≡ new → ⊥
      done_new e = let z : ◌≡◌ {A = ℕ} 0 1 = cc in omega arith

      busy_new : busy ≡ new → ⊥
      busy_new e = let z : ◌≡◌ {A = ℕ} 0 1 = cc in omega arith

      go : (r : ℕ) → Same X Good m (X.start r m) → X.store.list (X.start r m) ≡ [] → IsReady [] (X.start r m) × EReady [] (X.start r m)
      go r q e = (
        record {
          inv = record {
            good' = q.good;
            room = subst (λ (k : List ℕ). length k ≤ tally (X.store.get (X.start r m)) T.count) (sym e) (omega arith);
            closed = λ x h. absurd (nd x h);
            inside = λ x h. absurd (nd x h);
            ends = λ x h. absurd (nd x h);
            is_listed = λ x h. absurd (nd x h);
            from_list = λ x k. absurd (Memᴰ.not-nil (subst (Memᴰ x) e k));
            sorted = subst (Sorted T) (sym e) none;
            busy_comp = λ x h. absurd (nb x h);
          };
          idle = nb;
        },
        record {
          egood = q.good;
          unseen = λ c k n. q.egets c ∙ o.all_unemitted c;
          eidle = λ d b. busy_new (sym b.0 ∙ q.egets d ∙ o.all_unemitted d);
          tagged = q.tags_same ∙ o.no_text;
        },
      )
        where
          nd : (x : ℕ) → X.store.get (X.start r m) x ≡ done → ⊥
          nd x h = done_new (sym h ∙ q.gets x ∙ o.all_new x)

          nb : (x : ℕ) → X.store.get (X.start r m) x ≡ busy → ⊥
          nb x h = busy_new (sym h ∙ q.gets x ∙ o.all_new x)

  pub demand3_of : (S : Sess M) → SInv S → Demand3 X T S
  demand3_of S i = record {
    asked_once = λ c k nc. once_in c nc (subst (Memᴰ c) (sym i.defined) (defs_mem T c i.whole (i.got c k nc) nc));
    named_once = λ c k. let nc = (mem_defs T c i.whole (subst (Memᴰ c) i.defined k)).1 in (nc, once_in c nc k);
    after_needs = λ l₁ l₂ c d e v n. (sorted_split T o l₁ l₂ c e (mem_defs T c i.whole (subst (Memᴰ c) (sym e ∙ i.defined) (Memᴰ.append_right l₁ (Memᴰ.head refl)))).1).after d v n;
    cycles = λ p room c l nc d. (single_ok room S c i).cycle p l nc d;
  }
    where
      o : Sorted T (X.tags S.mach)
      o = subst (Sorted T) (sym i.defined) (sorted_defs T i.sorted)

      once_in : (c : ℕ) → NamedComp T c → Memᴰ c (X.tags S.mach) → Once c (X.tags S.mach)
      once_in c nc k = sorted_once T (X.tags S.mach) o c nc k

pub demand3 : {M H : Type 0} (X : Machine M H) (T : Table) (Good : M → Type 0) (ml : MLawful X Good T.count) (wf : WF T) (m : M) → Opened X T Good ml wf m → (rs : List Req) → Demand3 X T (run X T rs (record { is_open = true; mach = m; asked = [] }))
demand3 X T Good ml wf m op rs = demand3_of X T Good ml wf _ (run_ok X T Good ml wf rs (record { is_open = true; mach = m; asked = [] }) (opened_ok X T Good ml wf m op))
