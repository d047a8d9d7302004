-- One request in lent bytes and over plain lists: the same refusal, or states that go on alike. Assumes nothing.
use Prim.Native.Nat.{ℕ, zero, suc, ◌+◌, ◌*◌, ◌<◌, ◌≤◌}
use mathlib.Core.Path.{◌≡◌, refl, ap, ◌∙◌, sym, subst}
use mathlib.Core.Bool.{Bool, false}
use mathlib.Core.List.Memᴰ
use mathlib.Core.List.{List}
use mathlib.Core.Logic.{◌≢◌}
use native.Mathlib.Omega.{arith}
use lib.ListN.{length}
use Rattle.spec_bytes.specs.words.Words.{get_word}
use Rattle.spec_bytes.proofs.words.Laws.{get_put_other, more_most}
use Rattle.spec_c_dumper.specs.rules.Order.{Table, Res}
use Rattle.spec_c_dumper.specs.rules.Machine.{Out, wrote, Machine, MLawful, OrderKeeps, obind, eeach, emit, Sess, emitted, ordered, ordering, shut}
use Rattle.spec_c_dumper.specs.rules.Types.{Btf as Rules, table_of}
use Rattle.spec_c_dumper.specs.rules.Layout.{smaller}
use Rattle.spec_c_dumper.specs.rules.Names.{Names, Naming}
use Rattle.spec_c_dumper.proofs.rules.Related.{RelNaming}
use Rattle.spec_c_dumper.specs.rules.Place.{Wrote, put_held}
use Rattle.spec_type_table.specs.declared.types.TypeTable.{TypeTable}
use Rattle.spec_type_table.specs.Table.{btf_of, work_naming}
use Rattle.c_dumper_dependency_order.specs.order_state.Work.{work_store}
use Rattle.c_dumper_dependency_order.proofs.order_state.Frame.{table_list}
use Rattle.std.specs.Prelude.{⊤}
use Rattle.spec_session.specs.emission.Slices.{Slices, slices_store, emptied, slices_of, line_in, work_machine}
use Rattle.spec_session.proofs.emission.Lawful.{emptied_length}
use Rattle.spec_c_dumper.specs.rules.Request.{listed_out, dumped}
use Rattle.spec_c_dumper.specs.needs.Needs.{WF}
use Rattle.spec_c_dumper.specs.needs.Lists.{Ls, list_store}
use Rattle.spec_c_dumper.specs.needs.Session.{Known, text_of, machine_by}
use Rattle.spec_c_dumper.proofs.needs.Alike.{Both, both, neither, AlikeStore, Went, order_alike, BothOut, both_wrote, both_stuck}
use Rattle.spec_c_dumper.proofs.needs.Lists.{Sized}
use Rattle.spec_c_dumper.proofs.needs.Session.{machine_lawful}
use Rattle.proof_demands.specs.name_counts.Indexed.{Indexed, NameFits, FitsValue}
use Rattle.proof_demands.specs.name_counts.Alike.{Alike}
use Rattle.proof_demands.specs.alignment_memory.Work.{Sane}
use Rattle.proof_demands.specs.demands.Representation.{Bears, Shows, BothLine, lines_on, lines_stop, BothRequest, both_served, both_refused}
use Rattle.proof_demands.proofs.demands.Steps.{mark_step, emark_step, forwarded_step, listed_few, push_step}
use Rattle.proof_demands.proofs.demands.Start.{start_step}
use Rattle.proof_demands.proofs.demands.Lines.{body_line, leaf_line, forward_line, alias_line}
use Rattle.spec_c_dumper.proofs.needs.Emission.{AlikeSteps, eeach_alike, emit_alike}

emptied_table : (b : TypeTable) (s : List ℕ) (k : ℕ) (v : List ℕ) → btf_of b s (emptied k v) ≡ btf_of b s v
unfolding emptied
emptied_table b s zero v = refl
emptied_table b s (suc k) v = table_list b s (emptied k v) k 0 ∙ emptied_table b s k v

emptied_word : (k : ℕ) (v : List ℕ) (i : ℕ) → ((j : ℕ) → j < k → i ≢ j * 16 + 11) → get_word (emptied k v) i ≡ get_word v i
unfolding emptied
emptied_word zero v i n = refl
emptied_word (suc k) v i n = get_put_other (emptied k v) (k * 16 + 11) i 0 (n k (omega arith)) ∙ emptied_word k v i (λ j l. n j (omega arith))

-- w is the work after opening; the text so far is `front`, and the room of the request is `room`
module _ (b : TypeTable) (e : ℕ) (s w : List ℕ) (I : Indexed b e s w) (Z : Sane b (btf_of b s w)) (N : Naming Names) (R : RelNaming (Alike b e s w) (NameFits b s w) (FitsValue b s w) (work_naming b) N)
    (wf : WF (table_of (btf_of b s w))) (front : List ℕ) (room : ℕ) where
  abbrev B : Rules
  B = btf_of b s w

  abbrev T : Table
  T = table_of B

  abbrev State : Type 0
  State = Ls (Known Names)

  abbrev X₁ : Machine Slices (Unit {0})
  X₁ = work_machine b B

  abbrev X : Machine State Names
  X = machine_by N B

  abbrev Fit : State → Type 0
  Fit = Sized T.count

  -- the slices hold nothing of the names after a refusal
  abbrev pub untold : Unit {0} → Names → Type 0
  untold h u = Unit {0}

  pub record Related (m : Slices) (t : State) : Type 0 where
    pub bears : Bears b e s w m.work m.len t
    pub shows : Shows b e s w front m.text m.at t
    pub same_room : t.room ≡ room
    -- the order list has a word of each type
    pub short : m.len ≤ b.types

  counted : T.count ≡ b.types
  unfolding btf_of
  counted = refl

  below : (x : ℕ) → x < T.count → x < b.types
  below x l = subst (λ (n : ℕ). x < n) counted l

  -- nothing is written
  same_shows : (text : List ℕ) (at : ℕ) (t t' : State) → t.room ≡ t'.room → t.known.text_len ≡ t'.known.text_len → t.pieces ≡ t'.pieces
      → Shows b e s w front text at t → Shows b e s w front text at t'
  same_shows text at t t' r k p h = record {
    room = h.room ∙ ap (λ (n : ℕ). smaller n 1073741824) r;
    place = h.place ∙ k;
    inside = h.inside;
    so_far = h.so_far ∙ ap text_of p;
  }

  to_out : (len : ℕ) → len ≤ b.types → {o : Wrote (List ℕ) ⊤} {l : Out State Names} → BothLine b e s w front room len o l → BothOut Related untold (slices_of len o) l
  unfolding slices_of
  to_out len m (lines_on text at v t be sh r) = both_wrote (record { work = v; text = text; at = at; len = len }) t (record { bears = be; shows = sh; same_room = r; short = m })
  to_out len m (lines_stop {u = u} c) = both_stuck tt u tt c

  -- ---- ordering
  pub alike_store : AlikeStore X₁.store X.store T.count Fit Related
  unfolding work_machine slices_store work_store
  alike_store = record {
    a_good = λ m t q. record { marks_n = q.bears.marks_n ∙ sym counted; emits_n = q.bears.emits_n ∙ sym counted };
    a_get = λ m t q x l. q.bears.marks x (below x l);
    a_mark = λ k x m t q l. record {
      bears = mark_step b e s w I m.work m.len t q.bears x (below x l) k;
      shows = same_shows m.text m.at t (list_store.mark k x t) refl refl refl q.shows;
      same_room = q.same_room;
      short = q.short;
    };
    a_push = λ x m t q l r. record {
      bears = push_step b e s w I m.work m.len t q.bears x (below x l) (subst (λ (n : ℕ). length t.olist < n) counted r);
      shows = same_shows m.text m.at t (list_store.push x t) refl refl refl q.shows;
      same_room = q.same_room;
      short = let z : m.len < b.types = listed_few b e s w I m.work m.len t q.bears x (below x l) (subst (λ (n : ℕ). length t.olist < n) counted r) in omega (arith, z, more_most m.len);
    };
  }

  -- ---- emission
  pub alike_steps : AlikeSteps X₁ X T.count Related untold
  unfolding work_machine line_in put_held
  alike_steps = record {
    a_eget = λ m t q x l. q.bears.emits x (below x l);
    a_emark = λ k x m t q l. record {
      bears = emark_step b e s w I m.work m.len t q.bears x (below x l) B k;
      shows = same_shows m.text m.at t (X.emark k x t) refl refl refl q.shows;
      same_room = q.same_room;
      short = q.short;
    };
    a_has = λ m t q x l. q.bears.fwds x (below x l);
    a_forwarded = λ x m t q l. record {
      bears = forwarded_step b e s w I m.work m.len t q.bears x (below x l) B;
      shows = same_shows m.text m.at t (X.forwarded x t) refl refl refl q.shows;
      same_room = q.same_room;
      short = q.short;
    };
    a_fwd = λ m t q x l. to_out m.len q.short (at_room m t q (forward_line b e s w I Z N R m.work m.len t q.bears front m.text m.at q.shows x));
    a_alias = λ m t q x l. to_out m.len q.short (at_room m t q (alias_line b e s w I Z N R m.work m.len t q.bears front m.text m.at q.shows x));
    a_leaf = λ m t q x l. to_out m.len q.short (at_room m t q (leaf_line b e s w I Z N R m.work m.len t q.bears front m.text m.at q.shows x));
    a_body = λ m t q x l. to_out m.len q.short (at_room m t q (body_line b e s w I Z N R m.work m.len t q.bears front m.text m.at q.shows x));
    a_held = λ m t q. tt;
  }
    where
      at_room : (m : Slices) (t : State) → Related m t → {o : Wrote (List ℕ) ⊤} {l : Out State Names} → BothLine b e s w front t.room m.len o l → BothLine b e s w front room m.len o l
      at_room m t q {o} {l} h = subst (λ (r : ℕ). BothLine b e s w front r m.len o l) q.same_room h

  -- ---- a request
  abbrev lawful : MLawful X Fit T.count
  lawful = machine_lawful N B T.count

  abbrev Goes : State → Slices → State → Bool → Type 0
  Goes t₀ m t c = Went X₁.store X.store T Fit lawful.law (OrderKeeps X Fit) lawful.framed wf.below Related alike_store t₀ m t c

  pub list_same : (m : Slices) (t : State) → Related m t → X₁.store.list m ≡ X.store.list t
  unfolding work_machine slices_store work_store
  list_same m t q = q.bears.list

  module _ (S : Sess State) (x : ℕ) where
    pub emitted_alike : {r₁ : Out Slices (Unit {0})} {r : Out State Names} → BothOut Related untold r₁ r → BothRequest b e s w front room S x (obind r₁ (λ m. wrote (X₁.start 0 m))) (emitted X T S x r)
    unfolding obind emitted shut work_machine
    emitted_alike (both_wrote m t q) =
        both_served (record { work = emptied m.len m.work; text = m.text; at = m.at; len = 0 }) t
        (start_step b e s w m.work (emptied m.len m.work) (emptied_length m.len m.work) (emptied_table b s m.len m.work) (λ i z. emptied_word m.len m.work i (λ j l. z j (omega (arith, l, q.short)))) B 0 m.len t q.bears)
        q.shows q.same_room
    emitted_alike (both_stuck h u q c) = both_refused c (X.leaving u S.mach) refl refl

    ordered_alike : (t₀ : State) {r₁ : Res Slices} {r : Res State} → Both (Goes t₀) r₁ r → BothRequest b e s w front room S x (listed_out X₁ T tt r₁) (ordered X T S x r)
    unfolding listed_out ordered shut
    ordered_alike t₀ (both m t c h) =
        emitted_alike (subst (λ (k : List ℕ). BothOut Related untold (eeach (λ m' y. emit X₁ T 512 m' y 0) k m) (eeach (λ t' y. emit X T 512 t' y 0) (X.store.list t) t)) (sym (list_same m t h.live.related))
        (eeach_alike X₁ X T wf.below Related untold alike_steps (λ m' y. emit X₁ T 512 m' y 0) (λ t' y. emit X T 512 t' y 0) (λ m' t' y q l. emit_alike X₁ X T wf.below Related untold alike_steps 512 m' t' y 0 q l) (X.store.list t) h.live.ids m t h.live.related))
    ordered_alike t₀ (neither c) = both_refused c (X.leaving (X.held S.mach) S.mach) refl refl

    -- m: the sheet of the request, with an empty order list
    pub request_alike : (m : Slices) → m.len ≡ 0 → Bears b e s w m.work 0 (X.start 0 S.mach) → Shows b e s w front m.text m.at (X.start room S.mach) → x < b.types
        → BothRequest b e s w front room S x (dumped X₁ T m x) (ordered X T S x (ordering X T room S x))
    unfolding dumped
    request_alike m z h sh l =
        ordered_alike (X.start room S.mach)
        (order_alike X₁.store X.store T Fit lawful.law (OrderKeeps X Fit) lawful.framed wf.below Related alike_store 512 m (X.start room S.mach) x false
        (record {
          related = record {
            bears = subst (λ (n : ℕ). Bears b e s w m.work n (X.start room S.mach)) (sym z) (start_step b e s w m.work m.work refl refl (λ i q. refl) B room 0 (X.start 0 S.mach) h);
            shows = sh;
            same_room = refl;
            short = omega (arith, z);
          };
          room = omega arith;
          ids = λ y q. absurd (Memᴰ.not-nil q);
        })
        (subst (λ (n : ℕ). x < n) (sym counted) l))
