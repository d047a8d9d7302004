-- The calls of ordering that a request opens: two stores whose steps go alike open as many, so the count in the work is that of the rules over plain lists.
-- Assumes nothing but that opening accepts the section.
use Prim.Native.Nat.{ℕ, zero, suc, ◌+◌, ◌<◌, ◌≤◌}
use native.Mathlib.Omega.{arith}
use mathlib.Core.Path.{◌≡◌, refl, ap, ap₂, ◌∙◌, sym, subst}
use mathlib.Core.Bool.{Bool, true, false, not, ◌&&◌}
use mathlib.Core.List.Memᴰ
use mathlib.Core.List.{List, [], ◌∷◌, Memᴰ}
use lib.ListN.{length, take}
use Rattle.spec_c_dumper.specs.rules.Order.{Node, ignored, plain, listed, through, ptr, tdef, proto, comp, Table, Mark, new, busy, done, Store, Lawful, Framed, Res, order}
use Rattle.spec_c_dumper.specs.rules.Machine.{Machine, OrderKeeps, Sess}
use Rattle.spec_c_dumper.specs.rules.Types.{Btf as Rules, table_of}
use Rattle.spec_c_dumper.specs.rules.Names.{Names}
use Rattle.spec_c_dumper.specs.needs.Needs.{kids}
use Rattle.spec_c_dumper.specs.needs.Lists.{Ls}
use Rattle.spec_c_dumper.specs.needs.Session.{Known}
use Rattle.spec_c_dumper.proofs.needs.Ways.{clash_new, tally_mono}
use Rattle.spec_c_dumper.proofs.needs.Lists.{Sized}
use Rattle.spec_c_dumper.proofs.needs.Session.{machine_lawful}
use Rattle.spec_c_dumper.proofs.needs.Alike.{Both, both, neither, AlikeStore, Live, Went, order_alike}
use Rattle.spec_c_dumper.specs.ceiling.Ceiling.{onwards, calls_each, calls_enter, calls_fresh, calls_visit, calls}
use Rattle.spec_type_table.specs.declared.types.TypeTable.{TypeTable}
use Rattle.spec_type_table.specs.Table.{btf_of}
use Rattle.c_dumper_dependency_order.specs.order_state.Work.{Marks, work_store}
use Rattle.spec_opening.specs.Table.{enumerators_of}
use Rattle.spec_opening.specs.Opened.{work_of}
use Rattle.spec_opening.specs.Causes.{opening_number}
use Rattle.spec_session.specs.declared.session.Session.{Session}
use Rattle.spec_session.specs.session.Turns.{table_for}
use Rattle.spec_session.specs.metered.Metered.{calls_in}
use Rattle.proof_demands.specs.demands.Table.{header_of, opened_table, names_in, machine_in}
use Rattle.proof_demands.specs.demands.Session.{Holds}
use Rattle.proof_demands.specs.demands.Representation.{Bears}
use Rattle.proof_demands.specs.demands.Demands.{types_in}
use Rattle.proof_demands.proofs.demands.Named.{opened_indexed}
use Rattle.proof_demands.proofs.demands.Sound.{opened_wf}
use Rattle.proof_demands.proofs.demands.Start.{start_step}
use Rattle.proof_demands.proofs.demands.Steps.{mark_step, push_step}
use Rattle.proof_demands.proofs.demands.Session.{table_is, counted}

onwards_alike : {S₁ S : Type 0} {P : S₁ → S → Bool → Type 0} {r₁ : Res S₁} {r : Res S} (g₁ : S₁ → Bool → ℕ) (g : S → Bool → ℕ) → Both P r₁ r → ((s : S₁) (t : S) (b : Bool) → P s t b → g₁ s b ≡ g t b) → onwards r₁ g₁ ≡ onwards r g
unfolding onwards
onwards_alike g₁ g (both s t b h) f = f s t b h
onwards_alike g₁ g (neither e) f = refl

module _ {S₁ S : Type 0} (K₁ : Store S₁) (K : Store S) (T : Table) (Good : S → Type 0) (law : Lawful K T.count Good) (Fr : S → S → Type 0) (framed : Framed K T.count Good Fr)
    (below : (x y : ℕ) → Memᴰ y (kids (T.node x)) → y < T.count) (Q : S₁ → S → Type 0) (al : AlikeStore K₁ K T.count Good Q) where
  abbrev Lives : S₁ → S → Type 0
  Lives s t = Live K₁ K T Good law Fr framed below Q al s t

  abbrev Goes : S → S₁ → S → Bool → Type 0
  Goes t₀ s t b = Went K₁ K T Good law Fr framed below Q al t₀ s t b

  busy_live : (x : ℕ) (s : S₁) (t : S) → Lives s t → x < T.count → K.get t x ≡ new → Lives (K₁.mark busy x s) (K.mark busy x t)
  busy_live x s t h l e = record {
    related = al.a_mark busy x s t h.related l;
    room = omega (arith, h.room, ap length list_same, tally_mono (K.get t) (K.get (K.mark busy x t)) up T.count);
    ids = λ y m. h.ids y (subst (Memᴰ y) list_same m);
  }
    where
      list_same : K.list (K.mark busy x t) ≡ K.list t
      list_same = law.mark_list busy x t (al.a_good s t h.related) l

      up : (d : ℕ) → K.get t d ≡ done → K.get (K.mark busy x t) d ≡ done
      up d q = law.mark_other busy x t (al.a_good s t h.related) l d (λ w. clash_new (K.get t x) e (ap (K.get t) (sym w) ∙ q)) ∙ q

  each_calls : (f₁ : S₁ → ℕ → Res S₁) (f : S → ℕ → Res S) (g₁ : S₁ → ℕ → ℕ) (g : S → ℕ → ℕ) → ((s : S₁) (t : S) (y : ℕ) → Lives s t → y < T.count → Both (Goes t) (f₁ s y) (f t y))
      → ((s : S₁) (t : S) (y : ℕ) → Lives s t → y < T.count → g₁ s y ≡ g t y) → (ys : List ℕ) → ((y : ℕ) → Memᴰ y ys → y < T.count) → (s : S₁) (t : S) → Lives s t
      → calls_each f₁ g₁ ys s ≡ calls_each f g ys t
  unfolding calls_each
  each_calls f₁ f g₁ g hf hg [] l s t h = refl
  each_calls f₁ f g₁ g hf hg (y ∷ ys) l s t h =
      ap₂ (λ (a b : ℕ). a + b) (hg s t y h (l y (Memᴰ.head refl)))
      (onwards_alike (λ s' b. calls_each f₁ g₁ ys s') (λ t' b. calls_each f g ys t') (hf s t y h (l y (Memᴰ.head refl))) (λ s' t' b w. each_calls f₁ f g₁ g hf hg ys (λ z m. l z (Memᴰ.tail m)) s' t' w.live))

  module _ (rec₁ : S₁ → ℕ → Bool → Res S₁) (rec : S → ℕ → Bool → Res S) (count₁ : S₁ → ℕ → Bool → ℕ) (count : S → ℕ → Bool → ℕ)
      (keeps : (s : S₁) (t : S) (x : ℕ) (weak : Bool) → Lives s t → x < T.count → Both (Goes t) (rec₁ s x weak) (rec t x weak))
      (counts : (s : S₁) (t : S) (x : ℕ) (weak : Bool) → Lives s t → x < T.count → count₁ s x weak ≡ count t x weak) (s : S₁) (t : S) (x : ℕ) (weak : Bool) (h : Lives s t) (l : x < T.count) where
    down : (nd : Node) (y : ℕ) → T.node x ≡ nd → Memᴰ y (kids nd) → y < T.count
    down nd y e m = below x y (subst (λ (k : Node). Memᴰ y (kids k)) (sym e) m)

    enter_calls : (ms : List ℕ) → T.node x ≡ comp ms → K.get t x ≡ new → (b : Bool)
        → calls_enter K₁ b (λ s' y. rec₁ s' y false) (λ s' y. count₁ s' y false) s x ms ≡ calls_enter K b (λ t' y. rec t' y false) (λ t' y. count t' y false) t x ms
    unfolding calls_enter
    enter_calls ms e n true = refl
    enter_calls ms e n false =
        each_calls (λ s' y. rec₁ s' y false) (λ t' y. rec t' y false) (λ s' y. count₁ s' y false) (λ t' y. count t' y false) (λ s' t' y h' l'. keeps s' t' y false h' l') (λ s' t' y h' l'. counts s' t' y false h' l')
        ms (λ y m. down (comp ms) y e m) (K₁.mark busy x s) (K.mark busy x t) (busy_live x s t h l n)

    fresh_calls : (nd : Node) → T.node x ≡ nd → K.get t x ≡ new → calls_fresh K₁ T rec₁ count₁ s x weak nd ≡ calls_fresh K T rec count t x weak nd
    unfolding calls_fresh
    fresh_calls ignored e n = refl
    fresh_calls plain e n = refl
    fresh_calls (listed f) e n = refl
    fresh_calls (through a y) e n = counts s t y (not (a && T.strong_arrays) && weak) h (down (through a y) y e (Memᴰ.head refl))
    fresh_calls (ptr y) e n = counts s t y true h (down (ptr y) y e (Memᴰ.head refl))
    fresh_calls (tdef y) e n = counts s t y weak h (down (tdef y) y e (Memᴰ.head refl))
    fresh_calls (proto ts) e n =
        each_calls (λ s' y. rec₁ s' y weak) (λ t' y. rec t' y weak) (λ s' y. count₁ s' y weak) (λ t' y. count t' y weak) (λ s' t' y h' l'. keeps s' t' y weak h' l') (λ s' t' y h' l'. counts s' t' y weak h' l')
        ts (λ y m. down (proto ts) y e m) s t h
    fresh_calls (comp ms) e n = enter_calls ms e n (weak && T.named x)

    visit_calls : (m : Mark) → K.get t x ≡ m → calls_visit K₁ T rec₁ count₁ s x weak m ≡ calls_visit K T rec count t x weak m
    unfolding calls_visit
    visit_calls new e = fresh_calls (T.node x) refl e
    visit_calls busy e = refl
    visit_calls done e = refl

  pub calls_alike : (n : ℕ) (s : S₁) (t : S) (x : ℕ) (weak : Bool) → Lives s t → x < T.count → calls K₁ n T s x weak ≡ calls K n T t x weak
  unfolding calls
  calls_alike zero s t x weak h l = refl
  calls_alike (suc n) s t x weak h l =
      ap suc
      (ap (calls_visit K₁ T (λ s' y w. order K₁ n T s' y w) (λ s' y w. calls K₁ n T s' y w) s x weak) (al.a_get s t h.related x l)
      ∙ visit_calls (λ s' y w. order K₁ n T s' y w) (λ t' y w. order K n T t' y w) (λ s' y w. calls K₁ n T s' y w) (λ t' y w. calls K n T t' y w)
      (λ s' t' y w h' l'. order_alike K₁ K T Good law Fr framed below Q al n s' t' y w h' l') (λ s' t' y w h' l'. calls_alike n s' t' y w h' l') s t x weak h l (K.get t x) refl)

-- ---- the work, against plain lists

module _ (p modes : ℕ) (s : List ℕ) (n : ℕ) (sound : opening_number p s n ≡ 0) where
  abbrev b : TypeTable
  b = header_of p modes s

  abbrev e : ℕ
  e = enumerators_of s

  abbrev w : List ℕ
  w = work_of p modes s n

  abbrev B : Rules
  B = opened_table p modes s n

  abbrev T : Table
  T = types_in p modes s n

  abbrev State : Type 0
  State = Ls (Known Names)

  abbrev X : Machine State Names
  X = machine_in p modes s n

  inside : (x : ℕ) → x < T.count → x < b.types
  inside x l = subst (λ (k : ℕ). x < k) (counted p modes s n sound) l

  abbrev Marked : Marks → State → Type 0
  Marked m t = Bears b e s w m.work m.len t

  marked_store : AlikeStore work_store X.store T.count (Sized T.count) Marked
  unfolding work_store
  marked_store = record {
    a_good = λ m t q. record { marks_n = q.marks_n ∙ sym (counted p modes s n sound); emits_n = q.emits_n ∙ sym (counted p modes s n sound) };
    a_get = λ m t q x l. q.marks x (inside x l);
    a_mark = λ k x m t q l. mark_step b e s w (opened_indexed p modes s n sound) m.work m.len t q x (inside x l) k;
    a_push = λ x m t q l r. push_step b e s w (opened_indexed p modes s n sound) m.work m.len t q x (inside x l) (subst (λ (k : ℕ). length t.olist < k) (counted p modes s n sound) r);
  }

  module _ (S : Session) (work text₀ : List ℕ) (L : Sess State) (h : Holds p modes s n S work text₀ L) (text : List ℕ) (f : S.text_len ≤ length text) (same : take S.text_len text ≡ take S.text_len text₀) where
    -- a request for an id below the count, in an open session
    pub calls_told : L.is_open ≡ true → (x : ℕ) → x < T.count → calls_in (table_for S s) s work x ≡ calls X.store 512 T (X.start (length text) L.mach) x false
    unfolding calls_in
    calls_told o x l =
        ap (λ (k : TypeTable). calls work_store 512 (table_of (btf_of k s work)) (record { work = work; len = 0 }) x false) (table_is p modes s n sound S work text₀ L h text f same)
        ∙ ap (λ (k : Rules). calls work_store 512 (table_of k) (record { work = work; len = 0 }) x false) (h.bears o).table
        ∙ calls_alike work_store X.store T (Sized T.count) (machine_lawful (names_in p modes s n) B T.count).law (OrderKeeps X (Sized T.count)) (machine_lawful (names_in p modes s n) B T.count).framed
        (opened_wf p modes s n sound).below Marked marked_store 512 (record { work = work; len = 0 }) (X.start (length text) L.mach) x false
        (record {
          related = start_step b e s w work work refl refl (λ i q. refl) B (length text) 0 (X.start 0 L.mach) (h.bears o);
          room = omega arith;
          ids = λ y q. absurd (Memᴰ.not-nil q);
        }) l
