-- A request over the lent bytes, and the same request of the definition with a memory that is a function: where both recall the same of every type before
-- it, they do after it. Assumes nothing.
use Prim.Native.Nat.{ℕ, zero, suc, ◌+◌, ◌*◌, ◌<◌}
use native.Mathlib.Omega.{arith}
use mathlib.Core.Path.{◌≡◌, refl, ap, ◌∙◌, sym, subst}
use mathlib.Core.Bool.{Bool, true, false}
use mathlib.Core.List.Memᴰ
use mathlib.Core.List.{List}
use lib.ListN.{length}
use lib.Dec.{leb}
use Rattle.std.specs.Prelude.{Ok, ⊤}
use Rattle.spec_bytes.proofs.words.Laws.{get_put_other}
use Rattle.spec_bytes.specs.text.Text.{Text, whole, cut, bytes}
use Rattle.spec_bytes.specs.text.Placed.{Out as Put, done, stopped, put_text}
use Rattle.spec_c_dumper.specs.rules.Order.{Table as Types, Res}
use Rattle.spec_c_dumper.specs.rules.Machine.{Out, wrote, stuck, Machine, MLawful, OrderKeeps, obind, eeach, emit, Sess, Answer, emitted, ordered, ordering, shut}
use Rattle.spec_c_dumper.specs.rules.Types.{Btf as Rules, table_of}
use Rattle.spec_c_dumper.specs.rules.Layout.{smaller}
use Rattle.spec_c_dumper.specs.rules.Names.{Names, Naming}
use Rattle.spec_c_dumper.specs.rules.Place.{Wrote, with_names, none_held, put_here, put_held}
use Rattle.spec_c_dumper.proofs.rules.Untold.{put_untold}
use Rattle.spec_c_dumper.specs.rules.Writer.{Said, said, said_text, said_names}
use Rattle.spec_c_dumper.proofs.rules.Related.{RelSaid, same, RelNaming}
use Rattle.spec_type_table.specs.declared.types.TypeTable.{TypeTable}
use Rattle.spec_type_table.specs.Cells.{get_field, put_field}
use Rattle.spec_type_table.specs.Table.{btf_of, work_naming}
use Rattle.c_dumper_dependency_order.specs.order_state.Work.{code, work_store}
use Rattle.spec_session.specs.emission.Slices.{Slices, slices_store, emptied, slices_of, line_in, work_machine}
use Rattle.spec_c_dumper.specs.rules.Request.{listed_out, dumped}
use Rattle.spec_c_dumper.specs.needs.Needs.{WF}
use Rattle.spec_c_dumper.specs.needs.Lists.{Piece, defines, other, Ls, put_line, cannot}
use Rattle.spec_c_dumper.specs.needs.Session.{Known, fitting, line_of, machine_by}
use Rattle.spec_c_dumper.proofs.needs.Alike.{Both, both, neither, AlikeStore, AlikeMachine, Went, order_alike, BothOut, both_wrote, both_stuck}
use Rattle.spec_c_dumper.proofs.needs.AnyNames.{Nearly}
use Rattle.spec_c_dumper.proofs.needs.Lists.{Sized}
use Rattle.spec_c_dumper.proofs.needs.Session.{machine_lawful}
use Rattle.proof_demands.specs.name_counts.Indexed.{Indexed, NameFits, FitsValue}
use Rattle.proof_demands.specs.name_counts.Alike.{Alike}
use Rattle.spec_c_dumper.specs.alignment_once.Once.{Keep, Table, table_keep}
use Rattle.spec_c_dumper.specs.alignment_once.Writers.{Remembering, remembering_names, remembering_asks, machine_once}
use Rattle.spec_c_dumper.proofs.alignment_once.Tables.{Any, Each, table_lawful}
use Rattle.spec_c_dumper.proofs.alignment_once.Session.{Beside, remembering_sound, machines_alike}
use Rattle.btf_layout.specs.remembered.Words.{work_keep}
use Rattle.btf_layout.proofs.remembered.Lawful.{HoldsTypes}
use Rattle.proof_demands.specs.alignment_memory.Work.{Sane}
use Rattle.proof_demands.specs.demands.Representation.{Bears, Shows}
use Rattle.proof_demands.proofs.demands.Start.{start_step}
use Rattle.proof_demands.proofs.demands.Request.{untold, Related, alike_store, alike_steps, list_same}
use Rattle.spec_c_dumper.proofs.needs.Emission.{AlikeSteps, eeach_alike, emit_alike}
use Rattle.proof_demands.proofs.counted.Lines.{Pair, recall_moved, definition_pair, forward_pair}

-- the order list, emptied, has no word 15
emptied_aligned : (k : ℕ) (v : List ℕ) (j : ℕ) → get_field (emptied k v) j 15 ≡ get_field v j 15
unfolding emptied
emptied_aligned zero v j = refl
emptied_aligned (suc k) v j = get_put_other (emptied k v) (k * 16 + 11) (j * 16 + 15) 0 (λ q. omega (arith, q)) ∙ emptied_aligned k v j

-- w is the work after opening; the text so far is `front`, and the room of the request is `size`
module _ (b : TypeTable) (e : ℕ) (s w : List ℕ) (I : Indexed b e s w) (Z : Sane b (btf_of b s w)) (room : HoldsTypes b.types w) (N : Naming Names) (R : RelNaming (Alike b e s w) (NameFits b s w) (FitsValue b s w) (work_naming b) N)
    (wf : WF (table_of (btf_of b s w))) where
  abbrev B : Rules
  B = btf_of b s w

  abbrev T : Types
  T = table_of B

  abbrev K : Keep (List ℕ)
  K = work_keep b.types B

  abbrev Plain : Type 0
  Plain = Ls (Known Names)

  -- the definition: names, and a memory that is a function
  abbrev State : Type 0
  State = Ls (Known (Remembering Names Table))

  abbrev X₁ : Machine Slices (Unit {0})
  X₁ = work_machine b B

  abbrev X₂ : Machine State (Remembering Names Table)
  X₂ = machine_once (remembering_asks (table_keep B.type_cnt) B) (remembering_names N) B

  abbrev X : Machine Plain Names
  X = machine_by N B

  -- the names of the two
  abbrev pub NamesBeside : Remembering Names Table → Names → Type 0
  NamesBeside u v = Beside (table_keep B.type_cnt) N B Any Each (table_lawful B.type_cnt) (λ id t q l. tt) wf Z.ends u v

  abbrev pub Near : State → Plain → Type 0
  Near t p = Nearly NamesBeside B.type_cnt t p

  pub near_alike : AlikeMachine X₂ X B.type_cnt (Sized B.type_cnt) Near NamesBeside
  near_alike =
      machines_alike (remembering_asks (table_keep B.type_cnt) B) (remembering_names N) N B wf Z.ends NamesBeside
      (remembering_sound (table_keep B.type_cnt) N B Any Each (table_lawful B.type_cnt) (λ id t q l. tt) wf Z.ends)

  -- the work and the definition's memory recall the same
  abbrev pub Recalls : List ℕ → State → Type 0
  Recalls v t = (id : ℕ) → K.recall v id ≡ t.known.names.memory id

  recalls_moved : (v v' : List ℕ) (t : State) → ((j : ℕ) → get_field v' j 15 ≡ get_field v j 15) → Recalls v t → Recalls v' t
  recalls_moved v v' t h r id = recall_moved b e s w Z room N R v v' h id ∙ r id

  module _ (front : List ℕ) (size : ℕ) where
    abbrev Rel : Slices → Plain → Type 0
    Rel m p = Related b e s w I Z N R wf front size m p

    -- beside a state of the plain machine
    pub record Linked (m : Slices) (t : State) : Type 0 where
      pub plain : Plain
      pub related : Rel m plain
      pub near : Near t plain
      pub recalls : Recalls m.work t

    -- ---- lines
    abbrev SameOut : Out Slices (Unit {0}) → Out State (Remembering Names Table) → Type 0
    SameOut (wrote m) (wrote t) = Recalls m.work t
    SameOut (wrote m) (stuck u c) = Unit {0}
    SameOut (stuck h c) (wrote t) = Unit {0}
    SameOut (stuck h c) (stuck u d) = Unit {0}

    -- nothing is told of the names after a refusal
    abbrev Untold : Unit {0} → Remembering Names Table → Type 0
    Untold h u = Unit {0}

    joined : {r₁ : Out Slices (Unit {0})} {r : Out Plain Names} {r₂ : Out State (Remembering Names Table)} → BothOut Rel (untold b e s w I Z N R wf front size) r₁ r → BothOut Near NamesBeside r₂ r → SameOut r₁ r₂ → BothOut Linked Untold r₁ r₂
    joined (both_wrote m p q) (both_wrote t _ h) y = both_wrote m t (record { plain = p; related = q; near = h; recalls = y })
    joined (both_stuck h u q c) (both_stuck v _ _ _) y = both_stuck h v tt c

    none_said : (r : Out Slices (Unit {0})) (u : Remembering Names Table) (c : ℕ) → SameOut r (stuck u c)
    none_said (wrote m) u c = tt
    none_said (stuck h d) u c = tt

    abbrev PairNow : List ℕ → Remembering Names Table → Type 0
    PairNow v u = Pair b e s w Z room N R v u

    line_same : (mk : List ℕ → Piece) (m : Slices) (t : State) (len : ℕ) {s₁ : Said (List ℕ)} {s₂ : Said (Remembering Names Table)} → RelSaid PairNow s₁ s₂
        → SameOut (slices_of m.len (put_here none_held m.text m.at s₁)) (put_line mk t (line_of t.room len s₂))
    unfolding slices_of with_names line_of fitting said_names said_text
    line_same mk m t len (same v u x k l p _) =
        subst (λ (o : Wrote (List ℕ) ⊤). SameOut (slices_of m.len o) (put_line mk t (line_of t.room len (said u x l)))) (sym (put_untold m.text m.at (said v x k)))
        (by _ (put_text m.text (Ok m.at) x) x (leb (len + length (bytes x)) (smaller t.room 1073741824)))
      where
        by : (k : Remembering Names Table) (o : Put) (y : Text) (d : Bool) → SameOut (slices_of m.len (with_names none_held v o)) (put_line mk t (elim d [ true ↦ fitting len u y | false ↦ cannot k 17 ]))
        by k o y false = none_said (slices_of m.len (with_names none_held v o)) k 17
        by k o (cut a c) true = none_said (slices_of m.len (with_names none_held v o)) u c
        by k (done z at) (whole a) true = p.2
        by k (stopped c) (whole a) true = tt

    module _ (m : Slices) (t : State) (q : Linked m t) where
      pair_of : PairNow m.work t.known.names
      unfolding btf_of
      pair_of = (subst (λ (u : Names). Alike b e s w m.work u) (sym q.near.names.0) q.related.bears.names, q.related.bears.memory.right, q.recalls)

      forward_same : (x : ℕ) → SameOut (X₁.fwd_line m x) (X₂.fwd_line t x)
      unfolding work_machine line_in btf_of put_held
      forward_same x = line_same other m t t.known.text_len (forward_pair b e s w Z room N R x m.work t.known.names pair_of)

      leaf_same : (x : ℕ) → SameOut (X₁.leaf_line m x) (X₂.leaf_line t x)
      unfolding work_machine line_in btf_of put_held
      leaf_same x = line_same other m t t.known.text_len (definition_pair b e s w Z room N R x m.work t.known.names pair_of)

      body_same : (x : ℕ) → SameOut (X₁.body m x) (X₂.body t x)
      unfolding work_machine line_in btf_of put_held
      body_same x = line_same (defines x) m t t.known.text_len (definition_pair b e s w Z room N R x m.work t.known.names pair_of)

    -- ---- the other steps
    put_recalls : (m : Slices) (t : State) → Linked m t → (x f c : ℕ) → (f ≡ 15 → ⊥) → f < 16 → Recalls (put_field m.work x f c) t
    put_recalls m t q x f c n l = recalls_moved m.work (put_field m.work x f c) t (λ j. get_put_other m.work (x * 16 + f) (j * 16 + 15) c (λ z. n (omega (arith, z, l)))) q.recalls

    alike₁ : AlikeStore X₁.store X.store T.count (Sized T.count) Rel
    alike₁ = alike_store b e s w I Z N R wf front size

    steps₁ : AlikeSteps X₁ X T.count Rel (untold b e s w I Z N R wf front size)
    steps₁ = alike_steps b e s w I Z N R wf front size

    linked_store : AlikeStore X₁.store X₂.store T.count (Sized T.count) Linked
    unfolding work_machine slices_store work_store
    linked_store = record {
      a_good = λ m t q. record { marks_n = ap (λ (l : Ls ℕ). length l.marks) q.near.rest ∙ q.near.sized.marks_n; emits_n = ap (λ (l : Ls ℕ). length l.emits) q.near.rest ∙ q.near.sized.emits_n };
      a_get = λ m t q x l. alike₁.a_get m q.plain q.related x l ∙ sym (near_alike.a_store.a_get t q.plain q.near x l);
      a_mark = λ k x m t q l. record {
        plain = X.store.mark k x q.plain;
        related = alike₁.a_mark k x m q.plain q.related l;
        near = near_alike.a_store.a_mark k x t q.plain q.near l;
        recalls = put_recalls m t q x 1 (code k) (λ z. omega arith) (omega arith);
      };
      a_push = λ x m t q l r. let short : length q.plain.olist < T.count = subst (λ (k : Ls ℕ). length k.olist < T.count) q.near.rest r in record {
        plain = X.store.push x q.plain;
        related = alike₁.a_push x m q.plain q.related l short;
        near = near_alike.a_store.a_push x t q.plain q.near l short;
        recalls = put_recalls m t q m.len 11 x (λ z. omega arith) (omega arith);
      };
    }

    linked_steps : AlikeSteps X₁ X₂ T.count Linked Untold
    unfolding work_machine
    linked_steps = record {
      a_eget = λ m t q x l. steps₁.a_eget m q.plain q.related x l ∙ sym (near_alike.a_eget t q.plain q.near x l);
      a_emark = λ k x m t q l. record {
        plain = X.emark k x q.plain;
        related = steps₁.a_emark k x m q.plain q.related l;
        near = near_alike.a_emark k x t q.plain q.near l;
        recalls = put_recalls m t q x 13 (code k) (λ z. omega arith) (omega arith);
      };
      a_has = λ m t q x l. steps₁.a_has m q.plain q.related x l ∙ sym (near_alike.a_has t q.plain q.near x l);
      a_forwarded = λ x m t q l. record {
        plain = X.forwarded x q.plain;
        related = steps₁.a_forwarded x m q.plain q.related l;
        near = near_alike.a_forwarded x t q.plain q.near l;
        recalls = put_recalls m t q x 3 1 (λ z. omega arith) (omega arith);
      };
      a_fwd = λ m t q x l. joined (steps₁.a_fwd m q.plain q.related x l) (near_alike.a_fwd t q.plain q.near x l) (forward_same m t q x);
      a_alias = λ m t q x l. joined (steps₁.a_alias m q.plain q.related x l) (near_alike.a_alias t q.plain q.near x l) (forward_same m t q x);
      a_leaf = λ m t q x l. joined (steps₁.a_leaf m q.plain q.related x l) (near_alike.a_leaf t q.plain q.near x l) (leaf_same m t q x);
      a_body = λ m t q x l. joined (steps₁.a_body m q.plain q.related x l) (near_alike.a_body t q.plain q.near x l) (body_same m t q x);
      a_held = λ m t q. tt;
    }

    -- ---- a request
    -- what a request comes to: accepted by both, which then recall the same, or refused by both
    pub data Came (S : Sess State) : Out Slices (Unit {0}) → Answer State → Type 0 where
      came_served : (m : Slices) (t : State) (asked : List ℕ) → Recalls m.work t → Came S (wrote m) (record { sess = record { is_open = true; mach = t; asked = asked }; number = 0 })
      came_refused : (c : ℕ) (u : Remembering Names Table) → Came S (stuck tt c) (record { sess = record { is_open = false; mach = X₂.leaving u S.mach; asked = S.asked }; number = c })

    -- the laws of the order list do not read the lines
    abbrev X₃ : Machine State (Remembering Names Table)
    X₃ = machine_by (remembering_names N) B

    abbrev lawful : MLawful X₃ (Sized T.count) T.count
    lawful = machine_lawful (remembering_names {M = Table} N) B T.count

    abbrev Goes : State → Slices → State → Bool → Type 0
    Goes t₀ m t c = Went X₁.store X₂.store T (Sized T.count) lawful.law (OrderKeeps X₃ (Sized T.count)) lawful.framed wf.below Linked linked_store t₀ m t c

    list_linked : (m : Slices) (t : State) → Linked m t → X₁.store.list m ≡ X₂.store.list t
    list_linked m t q = list_same b e s w I Z N R wf front size m q.plain q.related ∙ sym (ap (λ (k : Ls ℕ). k.olist) q.near.rest)

    module _ (S : Sess State) (x : ℕ) where
      emitted_came : {r₁ : Out Slices (Unit {0})} {r : Out State (Remembering Names Table)} → BothOut Linked Untold r₁ r → Came S (obind r₁ (λ m. wrote (X₁.start 0 m))) (emitted X₂ T S x r)
      unfolding obind emitted shut work_machine
      emitted_came (both_wrote m t q) = came_served _ t _ (recalls_moved m.work (emptied m.len m.work) t (emptied_aligned m.len m.work) q.recalls)
      emitted_came (both_stuck h u q c) = came_refused c u

      ordered_came : (t₀ : State) {r₁ : Res Slices} {r : Res State} → Both (Goes t₀) r₁ r → Came S (listed_out X₁ T tt r₁) (ordered X₂ T S x r)
      unfolding listed_out ordered shut
      ordered_came t₀ (both m t c h) =
          emitted_came (subst (λ (k : List ℕ). BothOut Linked Untold (eeach (λ m' y. emit X₁ T 512 m' y 0) k m) (eeach (λ t' y. emit X₂ T 512 t' y 0) (X₂.store.list t) t)) (sym (list_linked m t h.live.related))
          (eeach_alike X₁ X₂ T wf.below Linked Untold linked_steps (λ m' y. emit X₁ T 512 m' y 0) (λ t' y. emit X₂ T 512 t' y 0) (λ m' t' y q l. emit_alike X₁ X₂ T wf.below Linked Untold linked_steps 512 m' t' y 0 q l) (X₂.store.list t) h.live.ids m t h.live.related))
      ordered_came t₀ (neither c) = came_refused c (X₂.held S.mach)

      -- m: the sheet of the request, with an empty order list; p: the plain machine before it
      pub request_came : (m : Slices) (p : Plain) → m.len ≡ 0 → Bears b e s w m.work 0 (X.start 0 p) → Shows b e s w front m.text m.at (X.start size p) → Near S.mach p → Recalls m.work S.mach → x < T.count
          → Came S (dumped X₁ T m x) (ordered X₂ T S x (ordering X₂ T size S x))
      unfolding dumped
      request_came m p z h sh near r l =
          ordered_came (X₂.start size S.mach)
          (order_alike X₁.store X₂.store T (Sized T.count) lawful.law (OrderKeeps X₃ (Sized T.count)) lawful.framed wf.below Linked linked_store 512 m (X₂.start size S.mach) x false
          (record {
            related = record {
              plain = X.start size p;
              related = record {
                bears = subst (λ (k : ℕ). Bears b e s w m.work k (X.start size p)) (sym z) (start_step b e s w m.work m.work refl refl (λ i q. refl) B size 0 (X.start 0 p) h);
                shows = sh;
                same_room = refl;
                short = omega (arith, z);
              };
              near = near_alike.a_start size S.mach p near;
              recalls = r;
            };
            room = omega arith;
            ids = λ y q. absurd (Memᴰ.not-nil q);
          })
          l)
