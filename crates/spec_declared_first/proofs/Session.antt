-- Sessions: after every list of requests each note fits after those before it.
use Prim.Native.Nat.{ℕ, zero, suc, ◌-◌}
use mathlib.Core.Path.{◌≡◌, refl, sym, ◌∙◌, subst}
use mathlib.Core.Bool.{Bool, true, false, true≢false}
use mathlib.Core.List.Memᴰ
use mathlib.Core.List.{List, [], ◌∷◌, ◌++◌, append-nil}
use lib.ListN.{get_or, replicate, length-replicate}
use lib.Dec.{T as True, ltb, ltb→lt}
use Rattle.spec_c_dumper.specs.rules.Order.{Table, new, Res, ok, refused}
use Rattle.spec_c_dumper.specs.rules.Machine.{Out, wrote, stuck, Machine, eeach, emit, Sess, Answer, Req, one, all, shut, emitted, ordered, ordering, gate, single, onward, from, every, serve, run}
use Rattle.spec_c_dumper.specs.rules.Types.{Btf, table_of}
use Rattle.spec_c_dumper.specs.rules.Names.{Naming}
use Rattle.spec_c_dumper.specs.needs.Needs.{WF}
use Rattle.spec_c_dumper.specs.needs.Lists.{Ls, afresh}
use Rattle.spec_c_dumper.proofs.needs.Ways.{clash_new, clash_busy}
use Rattle.spec_c_dumper.proofs.origins.Keeps.{Comes, comes, halts}
use Rattle.spec_declared_first.specs.Notes.{Seen, notes_machine, notes_opened, notes_by}
use Rattle.spec_declared_first.specs.Declared.{NoBuiltin, DeclaredAbove}
use Rattle.spec_declared_first.proofs.Ordering.{Met, Gives, gives, refuses, Sorted, none as unsorted, Inv, Post, order_ok}
use Rattle.spec_declared_first.proofs.Emission.{Top, Listed, emit_list}
use Rattle.spec_declared_first.proofs.Kept.{Keeping}
use Rattle.spec_declared_first.proofs.NotesMachine.{Good, Told, Frame, notes_noting, notes_steady, declared_above, none}

module _ {U : Type 0} (N : Naming U) (B : Btf) (nb : NoBuiltin B) (wf : WF (table_of B)) (Sound : U → Type 0) (Holds : U → ℕ → ℕ → Type 0) (keep : Keeping N B.type_cnt Sound Holds) where
  abbrev X : Machine (Ls (Seen U)) U
  X = notes_machine N B

  abbrev T : Table
  T = table_of B

  abbrev M : Type 0
  M = Ls (Seen U)

  abbrev Fine : M → Type 0
  Fine s = Good N B nb wf.below Sound Holds keep s

  abbrev IsInv : List ℕ → M → Type 0
  IsInv pre s = Inv X.store T Fine (Frame N B nb wf.below Sound Holds keep) (notes_steady N B nb wf.below Sound Holds keep) wf.below pre s

  abbrev IsTop : List ℕ → M → Type 0
  IsTop l s = Top X T Fine (Told N B nb wf.below Sound Holds keep) (notes_noting N B nb wf.below Sound Holds keep) wf.void wf.below l s

  top_frame : (l : List ℕ) (s s' : M) → Fine s' → Frame N B nb wf.below Sound Holds keep s s' → IsTop l s → IsTop l s'
  top_frame l s s' g f t = record {
    held = record { good = g; fw = λ y e. f.decs y (t.held.fw y (sym (f.has y) ∙ e)); dn = λ y e w r n. f.decs w (t.held.dn y (sym (f.egets y) ∙ e) w r n) };
    idle = λ z e. t.idle z (sym (f.egets z) ∙ e);
    lines = λ z m k. f.egets z ∙ t.lines z m k;
  }

  start_good : (r : ℕ) (s : M) → Fine s → Fine (X.start r s)
  start_good r s g = record { marks_n = g.marks_n; emits_n = g.emits_n; fwds_n = g.fwds_n; orderly = g.orderly; sound = g.sound; held = g.held }

  start_frame : (r : ℕ) (s : M) → Frame N B nb wf.below Sound Holds keep s (X.start r s)
  start_frame r s = record { egets = λ d. refl; has = λ d. refl; decs = λ w h. h }

  inv_next : (pre : List ℕ) (s m : M) (r : ℕ) → Fine m → ((d : ℕ) → X.store.get m d ≡ X.store.get s d) → IsInv pre s → IsInv (pre ++ X.store.list s) (X.start r m)
  inv_next pre s m r g gets i = record {
    fine = start_good r m g;
    closed = λ x e. subst (λ (k : List ℕ). Met T k x) (sym (append-nil (pre ++ X.store.list s))) (i.closed x (sym (gets x) ∙ e));
    sorted = subst (Sorted T) (sym (append-nil (pre ++ X.store.list s))) i.sorted;
  }

  record SInv (S : Sess M) : Type 0 where
    good : Fine S.mach
    whole : List ℕ
    live : S.is_open ≡ true → (room : ℕ) → IsInv whole (X.start room S.mach) × IsTop whole (X.start room S.mach)

  left_good : (u : U) (s : M) → Fine s → Fine (X.leaving u s)
  left_good u s g = record {
    marks_n = g.marks_n;
    emits_n = g.emits_n;
    fwds_n = g.fwds_n;
    orderly = g.orderly;
    sound = keep.sound_leaving u s.known.known.names g.sound;
    held = λ q m j d. let z = g.held q m j d in (z.0, keep.keeps_leaving u s.known.known.names m.id z.0 z.1, z.2);
  }

  shut_inv : (S : Sess M) (u : U) (e : ℕ) → SInv S → SInv (shut X T S u e).sess
  unfolding shut
  shut_inv S u e i = record { good = left_good u S.mach i.good; whole = i.whole; live = λ h. absurd (true≢false (sym h)) }

  emitted_ok : (S : Sess M) (x : ℕ) (i : SInv S) (s : M) → IsInv i.whole s → (r : Out M U)
      → Comes (Listed X T Fine (Told N B nb wf.below Sound Holds keep) (notes_noting N B nb wf.below Sound Holds keep) wf.void wf.below (i.whole ++ X.store.list s) s) r → SInv (emitted X T S x r).sess
  unfolding emitted
  emitted_ok S x i s o (wrote m) (comes h) = record {
    good = h.top.held.good;
    whole = i.whole ++ X.store.list s;
    live = λ u r. (inv_next i.whole s m r h.top.held.good h.gets o, top_frame (i.whole ++ X.store.list s) m (X.start r m) (start_good r m h.top.held.good) (start_frame r m) h.top);
  }
  emitted_ok S x i s o (stuck m e) halts = shut_inv S m e i

  ordered_ok : (room : ℕ) (S : Sess M) (x : ℕ) (i : SInv S) → IsTop i.whole (X.start room S.mach) → (r : Res M)
      → Gives (Post X.store T Fine (Frame N B nb wf.below Sound Holds keep) (notes_steady N B nb wf.below Sound Holds keep) wf.below i.whole (X.start room S.mach) x) r → SInv (ordered X T S x r).sess
  unfolding ordered
  ordered_ok room S x i t (ok s b) (gives p) = emitted_ok S x i s p.grown.inv (eeach (λ m y. emit X T 512 m y 0) (X.store.list s) s)
      (emit_list X T Fine (Told N B nb wf.below Sound Holds keep) (notes_noting N B nb wf.below Sound Holds keep) wf.void wf.below 512 (X.store.list s) i.whole s
      (top_frame i.whole (X.start room S.mach) s p.grown.inv.fine p.grown.frame t) p.grown.inv.sorted)
  ordered_ok room S x i t (refused e) refuses = shut_inv S (X.held S.mach) e i

  gate_ok : (room : ℕ) (S : Sess M) (x : ℕ) → SInv S → (o b : Bool) → S.is_open ≡ o → ltb x T.count ≡ b → SInv (gate X T room S x o b).sess
  unfolding gate
  gate_ok room S x i false b e f = i
  gate_ok room S x i true false e f = i
  gate_ok room S x i true true e f =
      let a = i.live e room in
      ordered_ok room S x i a.1 (ordering X T room S x)
      (order_ok X.store T Fine (Frame N B nb wf.below Sound Holds keep) (notes_steady N B nb wf.below Sound Holds keep) wf.below i.whole 512 (X.start room S.mach) x false a.0 (ltb→lt x T.count (subst True (sym f) tt)))

  single_ok : (room : ℕ) (S : Sess M) (x : ℕ) → SInv S → SInv (single X T room S x).sess
  unfolding single
  single_ok room S x i = gate_ok room S x i S.is_open (ltb x T.count) refl refl

  onward_ok : (k : Sess M → Answer M) → ((S : Sess M) → SInv S → SInv (k S).sess) → (a : Answer M) → SInv a.sess → SInv (onward X T k a).sess
  unfolding onward
  onward_ok k f a i = go a.number
    where
      go : (n : ℕ) → SInv (elim n as (λ m. Answer M) [ zero ↦ k a.sess | suc m ↦ a ]).sess
      go zero = f a.sess i
      go (suc m) = i

  from_ok : (room n x : ℕ) (S : Sess M) → SInv S → SInv (from X T room n x S).sess
  unfolding from
  from_ok room zero x S i = i
  from_ok room (suc n) x S i = onward_ok (from X T room n (suc x)) (λ S' i'. from_ok room n (suc x) S' i') (single X T room S x) (single_ok room S x i)

  every_ok : (room : ℕ) (S : Sess M) (b : Bool) → SInv S → SInv (every X T room S b).sess
  unfolding every
  every_ok room S false i = i
  every_ok room S true i = from_ok room (T.count - 1) 1 S i

  serve_ok : (S : Sess M) (r : Req) → SInv S → SInv (serve X T S r)
  unfolding serve
  serve_ok S (one room x) i = single_ok room S x i
  serve_ok S (all room) i = every_ok room S S.is_open i

  run_ok : (rs : List Req) (S : Sess M) → SInv S → SInv (run X T rs S)
  unfolding run
  run_ok [] S i = i
  run_ok (r ∷ rs) S i = run_ok rs (serve X T S r) (serve_ok S r i)

  all_new : (k x : ℕ) → get_or (replicate k new) x new ≡ new
  all_new zero x = refl
  all_new (suc k) zero = refl
  all_new (suc k) (suc x) = all_new k x

  all_false : (k x : ℕ) → get_or (replicate k false) x false ≡ false
  all_false zero x = refl
  all_false (suc k) zero = refl
  all_false (suc k) (suc x) = all_false k x

  opened_ok : (u : U) → Sound u → SInv (notes_opened N B u)
  unfolding afresh
  opened_ok u su = record {
    good = g;
    whole = [];
    live = λ h r. (
      record { fine = start_good r (notes_opened N B u).mach g; closed = λ x e. absurd (clash_new new refl (sym (all_new B.type_cnt x) ∙ e)); sorted = unsorted },
      record {
        held = record {
          good = start_good r (notes_opened N B u).mach g;
          fw = λ y e. absurd (true≢false (sym e ∙ all_false B.type_cnt y));
          dn = λ y e. absurd (clash_new new refl (sym (all_new B.type_cnt y) ∙ e));
        };
        idle = λ z e. clash_busy new refl (sym (all_new B.type_cnt z) ∙ e);
        lines = λ z m. absurd (Memᴰ.not-nil m);
      },
    );
  }
    where
      g : Fine (notes_opened N B u).mach
      g = record { marks_n = length-replicate B.type_cnt new; emits_n = length-replicate B.type_cnt new; fwds_n = length-replicate B.type_cnt false; orderly = none; sound = su; held = λ q m i. absurd (Memᴰ.not-nil i) }

  -- with any way of keeping names that keeps a type's name: every list of requests, every room
  pub notes_declared : (u : U) → Sound u → (rs : List Req) → DeclaredAbove B (notes_by N B u rs)
  notes_declared u su rs = declared_above B (notes_by N B u rs) (run_ok rs (notes_opened N B u) (opened_ok u su)).good.orderly
