-- What each return of emission with entries comes to, against the rules. Assumes nothing.
use Prim.Native.Nat.{ℕ, zero, suc, ◌+◌, ◌*◌, ◌/◌, ◌<◌, ◌≤◌}
use mathlib.Core.Path.{◌≡◌, refl, ap, ◌∙◌, sym, subst}
use mathlib.Core.List.{List, [], ◌∷◌, ◌++◌}
use mathlib.Core.Bool.{Bool, true, false, not, ◌&&◌, true≢false, and-true}
use native.Mathlib.Omega.{arith}
use native.Mathlib.Numerals.{add-one}
use lib.Dec.{ltb}
use lib.ListN.{length, length-append}
use borrow.Author.Tests.{eq-eqb, ne_eqb, lt-ltb, le-ltb}
use Rattle.std.specs.Prelude.{Ok, Err, Result, IsErrAnd}
use Rattle.spec_bytes.specs.Refusals.{refusal_number}
use Rattle.spec_bytes.specs.declared.refusal.Refusal.{Refusal}
use Rattle.spec_bytes.specs.declared.refusal.Refusal.TheVariants.{TextFull}
use Rattle.spec_bytes.specs.text.Placed.{Placed}
use Rattle.spec_bytes.specs.words.Words.{get_word, put_word}
use Rattle.spec_bytes.proofs.words.Laws.{put_length, get_put_same, get_put_other}
use Rattle.spec_c_dumper.specs.rules.Machine.{Out, wrote, stuck, obind}
use Rattle.spec_c_dumper.specs.rules.Types.{Btf as Rules, name_of, is_named, is_empty}
use Rattle.spec_c_dumper.specs.rules.Names.{contains, builtin}
use Rattle.spec_c_dumper.specs.rules.Writer.{Writer}
use Rattle.spec_c_dumper.specs.rules.Place.{out_of, put_said}
use Rattle.spec_type_table.specs.declared.types.TypeTable.{TypeTable}
use Rattle.spec_type_table.specs.declared.types.BtfType.{BtfType as Record}
use Rattle.spec_type_table.specs.Cells.{put_field}
use Rattle.spec_type_table.specs.Names.{str_at}
use Rattle.spec_type_table.specs.Records.{kind_of}
use Rattle.spec_type_table.specs.Table.{type_of, btf_of}
use Rattle.spec_type_table.proofs.KindLaws.{by_kind, type_0, type_1, type_2, type_3, type_4, type_5, type_6, type_7, type_8, type_9, type_10, type_11, type_12, type_13, type_14, type_15, type_16, type_17, type_18, type_19, type_none}
use Rattle.spec_session.specs.emission.Slices.{Slices, slices_of, with_work, emit_out, line_in}
use Rattle.spec_session.proofs.emission.Laws.{slices}
use Rattle.spec_session.proofs.emission.Laws as plainly
use Rattle.spec_c_dumper.specs.origins.Causes.{Entry, entry, Traced, with_entries, up_to, line, cause_at}
use Rattle.c_dumper_dependency_order.specs.leaders.Leaders.{leader_in, entry_in}
use Rattle.c_dumper_emit.specs.declared.entries.Pen.{Pen}
use Rattle.c_dumper_emit.specs.entries.Traced.{Lent, entry_at, entries_of, entry_put, traced_out, note_n, note_if_n, line_n, shown_of, emit_n, state_n}
use Rattle.c_dumper_emit.proofs.entries.Frame.{Stays, on, off, stays_then, table_emit}

abbrev pub traced_at : ℕ → Pen → List ℕ → List ℕ → List ℕ → Traced Slices
traced_at n p t w l = record { mach = slices n p.at t w; entries = entries_of p.count l }

abbrev pub with_n : Traced Slices → List ℕ → Traced Slices
with_n m w = record { mach = with_work m.mach w; entries = m.entries }

-- ---- the entries of a list
pub entries_length : (k : ℕ) (l : List ℕ) → length (entries_of k l) ≡ k
unfolding entries_of
entries_length zero l = refl
entries_length (suc k) l = length-append (entries_of k l) (entry_at l k ∷ []) ∙ (let e : length (entries_of k l) ≡ k = entries_length k l in omega arith)

-- another word than those of the first k entries
entries_other : (k : ℕ) (l l' : List ℕ) → ((i : ℕ) → i < k * 3 → get_word l' i ≡ get_word l i) → entries_of k l' ≡ entries_of k l
unfolding entries_of entry_at
entries_other zero l l' h = refl
entries_other (suc k) l l' h =
    ap (λ (es : List Entry). es ++ (entry_at l' k ∷ [])) (entries_other k l l' (λ i q. h i (omega arith)))
    ∙ (λ i. entries_of k l ++ (entry (h (k * 3) (omega arith) i) (h (k * 3 + 1) (omega arith) i) (h (k * 3 + 2) (omega arith) i) ∷ []))

pub entries_more : (k : ℕ) (l : List ℕ) (e : Entry) → k < length l / 12 → entries_of (k + 1) (entry_put l k e) ≡ entries_of k l ++ (e ∷ [])
unfolding entries_of entry_put entry_at
entries_more k l e h =
    rw add-one
    (ap (λ (es : List Entry). es ++ (entry_at (entry_put l k e) k ∷ [])) (entries_other k l (entry_put l k e) (λ i q. get_put_other l₂ (k * 3 + 2) i e.leader (λ z. omega arith) ∙ get_put_other l₁ (k * 3 + 1) i e.cause (λ z. omega arith) ∙ get_put_other l (k * 3) i e.id (λ z. omega arith)))
    ∙ (λ i. entries_of k l ++ (entry (first i) (second i) (third i) ∷ [])))
  where
    l₁ : List ℕ
    l₁ = put_word l (k * 3) e.id

    l₂ : List ℕ
    l₂ = put_word l₁ (k * 3 + 1) e.cause

    len₁ : length l₁ ≡ length l
    len₁ = put_length l (k * 3) e.id

    len₂ : length l₂ ≡ length l
    len₂ = put_length l₁ (k * 3 + 1) e.cause ∙ len₁

    first : get_word (put_word l₂ (k * 3 + 2) e.leader) (k * 3) ≡ e.id
    first = get_put_other l₂ (k * 3 + 2) (k * 3) e.leader (λ z. omega arith) ∙ get_put_other l₁ (k * 3 + 1) (k * 3) e.cause (λ z. omega arith) ∙ get_put_same l (k * 3) e.id (omega arith)

    second : get_word (put_word l₂ (k * 3 + 2) e.leader) (k * 3 + 1) ≡ e.cause
    second = get_put_other l₂ (k * 3 + 2) (k * 3 + 1) e.leader (λ z. omega arith) ∙ get_put_same l₁ (k * 3 + 1) e.cause (omega (arith, len₁))

    third : get_word (put_word l₂ (k * 3 + 2) e.leader) (k * 3 + 2) ≡ e.leader
    third = get_put_same l₂ (k * 3 + 2) e.leader (omega (arith, len₂))

pub put_is : (l : List ℕ) (k id cause leader : ℕ) (l₁ l₂ l₃ : List ℕ) → l₁ ≡ put_word l (k * 3) id → l₂ ≡ put_word l₁ (k * 3 + 1) cause → l₃ ≡ put_word l₂ (k * 3 + 2) leader → l₃ ≡ entry_put l k (entry id cause leader)
unfolding entry_put
put_is l k id cause leader l₁ l₂ l₃ e₁ e₂ e₃ = rw (e₃, e₂, e₁)

-- ---- which entry
-- a cause by its number
pub entry_by : (x k n d : ℕ) (e : Entry) → k ≡ n → entry x n d ≡ e → entry x k d ≡ e
entry_by x k n d e h q = ap (λ (m : ℕ). entry x m d) h ∙ q

pub cause_own : (req turn : ℕ) (leaders : List ℕ) (x : ℕ) → x ≡ req → entry x 0 x ≡ entry_in req turn leaders x
unfolding entry_in
cause_own req turn leaders x e = rw (eq-eqb x req e, entry_in)

pub cause_leader : (req turn : ℕ) (leaders : List ℕ) (x d : ℕ) → (x ≡ req → ⊥) → d ≡ leader_in req turn leaders x → entry x 1 d ≡ entry_in req turn leaders x
unfolding entry_in
cause_leader req turn leaders x d n e = ap (entry x 1) e ∙ rw (ne_eqb x req n, entry_in)

pub cause_top : (w : ℕ) (top : Entry) (x cont : ℕ) (e : Entry) → cont ≡ 0 → e ≡ top → e ≡ cause_at w top x cont
unfolding cause_at
cause_top w top x cont e z q = q ∙ ap (cause_at w top x) (sym z)

pub cause_by : (w k : ℕ) (top : Entry) (x cont : ℕ) (e : Entry) → k ≡ w → e ≡ cause_at k top x cont → e ≡ cause_at w top x cont
cause_by w k top x cont e h q = q ∙ ap (λ (n : ℕ). cause_at n top x cont) h

pub cause_within : (w : ℕ) (top : Entry) (x cont : ℕ) → (cont ≡ 0 → ⊥) → entry x w cont ≡ cause_at w top x cont
unfolding cause_at
cause_within w top x zero n = absurd (n refl)
cause_within w top x (suc c) n = refl

-- ---- a name that is shown
module _ (b : TypeTable) (s : List ℕ) (t : Record) where
  empty_name : (n : List ℕ) → not (is_empty n) ≡ false → true ≡ not (builtin n)
  unfolding is_empty builtin contains
  empty_name [] e = refl
  empty_name (c ∷ n) e = absurd (true≢false e)

  pub shown_nameless : (nm : Bool) → nm ≡ is_named (type_of b s t) → nm ≡ false → true ≡ shown_of (type_of b s t)
  shown_nameless nm e f = empty_name (name_of (type_of b s t)) (sym e ∙ f)

  name_is : (k : ℕ) → kind_of t.info ≡ k → is_named (type_of b s t) ≡ true → name_of (type_of b s t) ≡ str_at b s t.name_off
  unfolding is_empty
  name_is =
      by_kind
      (λ k. kind_of t.info ≡ k → is_named (type_of b s t) ≡ true → name_of (type_of b s t) ≡ str_at b s t.name_off)
      (λ e h. absurd (no (sym (ap is_named (type_0 b s t e)) ∙ h)))
      (λ e h. ap name_of (type_1 b s t e))
      (λ e h. absurd (no (sym (ap is_named (type_2 b s t e)) ∙ h)))
      (λ e h. absurd (no (sym (ap is_named (type_3 b s t e)) ∙ h)))
      (λ e h. ap name_of (type_4 b s t e))
      (λ e h. ap name_of (type_5 b s t e))
      (λ e h. ap name_of (type_6 b s t e))
      (λ e h. ap name_of (type_7 b s t e))
      (λ e h. ap name_of (type_8 b s t e))
      (λ e h. absurd (no (sym (ap is_named (type_9 b s t e)) ∙ h)))
      (λ e h. absurd (no (sym (ap is_named (type_10 b s t e)) ∙ h)))
      (λ e h. absurd (no (sym (ap is_named (type_11 b s t e)) ∙ h)))
      (λ e h. ap name_of (type_12 b s t e))
      (λ e h. absurd (no (sym (ap is_named (type_13 b s t e)) ∙ h)))
      (λ e h. ap name_of (type_14 b s t e))
      (λ e h. ap name_of (type_15 b s t e))
      (λ e h. ap name_of (type_16 b s t e))
      (λ e h. ap name_of (type_17 b s t e))
      (λ e h. ap name_of (type_18 b s t e))
      (λ e h. ap name_of (type_19 b s t e))
      (λ k l e h. absurd (no (sym (ap is_named (type_none b s t (subst (λ (i : ℕ). 20 ≤ i) (sym e) l))) ∙ h)))
    where
      no : false ≡ true → ⊥
      no e = true≢false (sym e)

  pub shown_named : (nm : Bool) → nm ≡ is_named (type_of b s t) → nm ≡ true → (f : Bool) → f ≡ builtin (str_at b s t.name_off) → not f ≡ shown_of (type_of b s t)
  shown_named nm e h f ef = ap not (ef ∙ ap builtin (sym (name_is (kind_of t.info) refl (sym e ∙ h))))

-- ---- a pen, or a refusal
abbrev pub Penned : Type 0
Penned = Result Pen Refusal

pub goes : (n : ℕ) (p : Pen) (t w l : List ℕ) → traced_out n (Ok p) t w l ≡ wrote (traced_at n p t w l)
unfolding traced_out with_entries
goes n p t w l = ap (with_entries (entries_of p.count l)) (plainly.goes n p.at t w)

pub halts : (n : ℕ) (c : Refusal) (t w l : List ℕ) → traced_out n (Err c) t w l ≡ stuck tt (refusal_number c)
unfolding traced_out
halts n c t w l = refl

-- ---- obind
pub obind_then : (o : Out (Traced Slices) (Unit {0})) (k k' : Traced Slices → Out (Traced Slices) (Unit {0})) → obind (obind o k) k' ≡ obind o (λ m. obind (k m) k')
unfolding obind
obind_then (wrote m) k k' = refl
obind_then (stuck h c) k k' = refl

pub obind_wrote : (o : Out (Traced Slices) (Unit {0})) → obind o (λ m. wrote m) ≡ o
unfolding obind
obind_wrote (wrote m) = refl
obind_wrote (stuck h c) = refl

pub obind_same : (o : Out (Traced Slices) (Unit {0})) (k k' : Traced Slices → Out (Traced Slices) (Unit {0})) → ((m : Traced Slices) → k m ≡ k' m) → obind o k ≡ obind o k'
obind_same o k k' e = ap (obind o) (λ i m. e m i)

pub then : (x : Out (Traced Slices) (Unit {0})) (k k' : Traced Slices → Out (Traced Slices) (Unit {0})) (y z : Out (Traced Slices) (Unit {0})) → y ≡ obind x k → z ≡ obind y k' → z ≡ obind x (λ m. obind (k m) k')
then x k k' y z e f = f ∙ ap (λ (o : Out (Traced Slices) (Unit {0})). obind o k') e ∙ obind_then x k k'

module _ (n : ℕ) (t w l : List ℕ) where
  run : (p : Pen) (k : Traced Slices → Out (Traced Slices) (Unit {0})) → obind (traced_out n (Ok p) t w l) k ≡ k (traced_at n p t w l)
  unfolding obind
  run p k = ap (λ (o : Out (Traced Slices) (Unit {0})). obind o k) (goes n p t w l)

  halt : (c : Refusal) (k : Traced Slices → Out (Traced Slices) (Unit {0})) → obind (traced_out n (Err c) t w l) k ≡ stuck tt (refusal_number c)
  unfolding obind
  halt c k = ap (λ (o : Out (Traced Slices) (Unit {0})). obind o k) (halts n c t w l)

  -- `?` hands on what stopped the writing, whatever comes after
  pub ended : (c : Refusal) (r : Penned) (k : Traced Slices → Out (Traced Slices) (Unit {0})) → IsErrAnd r (λ e. e ≡ c) → traced_out n r t w l ≡ obind (traced_out n (Err c) t w l) k
  ended c (Ok p) k e = absurd e
  ended c (Err d) k e = ap (λ (z : Refusal). traced_out n (Err z) t w l) e ∙ halts n c t w l ∙ sym (halt c k)

module _ (n : ℕ) (p : Penned) (t w l : List ℕ) where
  -- a sheet that is at hand
  pub at_slices : (k k' : Traced Slices → Out (Traced Slices) (Unit {0})) → ((q : Pen) → p ≡ Ok q → k (traced_at n q t w l) ≡ k' (traced_at n q t w l)) → obind (traced_out n p t w l) k ≡ obind (traced_out n p t w l) k'
  at_slices k k' e = go p e
    where
      go : (r : Penned) → ((q : Pen) → r ≡ Ok q → k (traced_at n q t w l) ≡ k' (traced_at n q t w l)) → obind (traced_out n r t w l) k ≡ obind (traced_out n r t w l) k'
      go (Ok q) h = run n t w l q k ∙ h q refl ∙ sym (run n t w l q k')
      go (Err c) h = halt n t w l c k ∙ sym (halt n t w l c k')

  -- a step on the work alone, and then more
  pub work_slices : (f : List ℕ → List ℕ) (w' : List ℕ) (k : Traced Slices → Out (Traced Slices) (Unit {0})) → w' ≡ f w → obind (traced_out n p t w' l) k ≡ obind (traced_out n p t w l) (λ m. k (with_n m (f m.mach.work)))
  work_slices f w' k e = go p
    where
      go : (r : Penned) → obind (traced_out n r t w' l) k ≡ obind (traced_out n r t w l) (λ m. k (with_n m (f m.mach.work)))
      go (Ok q) = run n t w' l q k ∙ ap (λ (u : List ℕ). k (traced_at n q t u l)) e ∙ sym (run n t w l q (λ m. k (with_n m (f m.mach.work))))
      go (Err c) = halt n t w' l c k ∙ sym (halt n t w l c (λ m. k (with_n m (f m.mach.work))))

  pub work_last : (f : List ℕ → List ℕ) (w' : List ℕ) → w' ≡ f w → traced_out n p t w' l ≡ obind (traced_out n p t w l) (λ m. wrote (with_n m (f m.mach.work)))
  work_last f w' e = sym (obind_wrote (traced_out n p t w' l)) ∙ work_slices f w' (λ m. wrote m) e

  pub state_last : (x k : ℕ) (w' : List ℕ) → w' ≡ put_field w x 13 k → traced_out n p t w' l ≡ obind (traced_out n p t w l) (λ m. wrote (state_n x k m))
  state_last x k w' e = work_last (λ u. put_field u x 13 k) w' e

  pub flag_last : (x : ℕ) (w' : List ℕ) → w' ≡ put_field w x 3 1 → traced_out n p t w' l ≡ obind (traced_out n p t w l) (λ m. wrote (with_n m (put_field m.mach.work x 3 1)))
  flag_last x w' e = work_last (λ u. put_field u x 3 1) w' e

module _ (n : ℕ) (p : Pen) (t w l : List ℕ) where
  abbrev Here : Out (Traced Slices) (Unit {0})
  Here = traced_out n (Ok p) t w l

  -- from a pen
  pub at_pen : (k k' : Traced Slices → Out (Traced Slices) (Unit {0})) → k (traced_at n p t w l) ≡ k' (traced_at n p t w l) → obind Here k ≡ obind Here k'
  at_pen k k' e = run n t w l p k ∙ e ∙ sym (run n t w l p k')

  -- nothing done
  pub same_slices : (k : Traced Slices → Out (Traced Slices) (Unit {0})) → k (traced_at n p t w l) ≡ wrote (traced_at n p t w l) → Here ≡ obind Here k
  same_slices k e = goes n p t w l ∙ sym (run n t w l p k ∙ e)

  -- a refusal
  pub stop_slices : (c : Refusal) (k : Traced Slices → Out (Traced Slices) (Unit {0})) → k (traced_at n p t w l) ≡ stuck tt (refusal_number c) → traced_out n (Err c) t w l ≡ obind Here k
  stop_slices c k e = halts n c t w l ∙ sym (run n t w l p k ∙ e)

  -- what a writer says
  abbrev writes : Writer (List ℕ) → Traced Slices → Out (Traced Slices) (Unit {0})
  writes v m = with_entries m.entries (line_in v m.mach)

  said_slices : (v : Writer (List ℕ)) (a : Placed) (t' w' : List ℕ) → out_of a t' w' ≡ put_said t (Ok p.at) v w → with_entries (entries_of p.count l) (slices_of n (out_of a t' w')) ≡ obind Here (writes v)
  unfolding line_in
  said_slices v a t' w' e = ap (λ q. with_entries (entries_of p.count l) (slices_of n q)) e ∙ sym (run n t w l p (writes v))

  pub said_goes : (v : Writer (List ℕ)) (a : ℕ) (t' w' : List ℕ) → out_of (Ok a) t' w' ≡ put_said t (Ok p.at) v w → traced_out n (Ok (record { at = a; count = p.count })) t' w' l ≡ obind Here (writes v)
  unfolding traced_out
  said_goes v a t' w' e = said_slices v (Ok a) t' w' e

  pub said_halts : (v : Writer (List ℕ)) (c : Refusal) (r : Penned) (t' w' : List ℕ) → out_of (Err c) t' w' ≡ put_said t (Ok p.at) v w → IsErrAnd r (λ e. e ≡ c) → traced_out n r t' w' l ≡ obind Here (writes v)
  unfolding with_entries
  said_halts v c (Ok q) t' w' e i = absurd i
  said_halts v c (Err d) t' w' e i = halts n d t' w' l ∙ ap (with_entries (entries_of p.count l)) (sym (plainly.halts n d t' w')) ∙ ap (λ (z : Refusal). with_entries (entries_of p.count l) (emit_out n (Err z) t' w')) i ∙ said_slices v (Err c) t' w' e

  -- ---- a note
  pub note_full : (room : ℕ) (e : Entry) → room ≤ p.count → traced_out n (Err TextFull) t w l ≡ obind Here (λ m. note_n room e m)
  unfolding note_n
  note_full room e h = stop_slices TextFull (λ m. note_n room e m) (rw (entries_length p.count l, le-ltb p.count room h, note_n))

  pub note_more : (e : Entry) (l' : List ℕ) → p.count < length l / 12 → l' ≡ entry_put l p.count e → traced_out n (Ok (record { at = p.at; count = p.count + 1 })) t w l' ≡ obind Here (λ m. note_n (length l / 12) e m)
  unfolding note_n
  note_more e l' h el =
      goes n (record { at = p.at; count = p.count + 1 }) t w l'
      ∙ ap (λ (es : List Entry). wrote (record { mach = slices n p.at t w; entries = es })) (ap (entries_of (p.count + 1)) el ∙ entries_more p.count l e h)
      ∙ sym (run n t w l p (λ m. note_n (length l / 12) e m) ∙ rw (entries_length p.count l, lt-ltb p.count (length l / 12) h, note_n))

  pub noteif_yes : (f : Bool) (room : ℕ) (e : Entry) (x : Out (Traced Slices) (Unit {0})) → f ≡ true → x ≡ obind Here (λ m. note_n room e m) → x ≡ obind Here (λ m. note_if_n f room e m)
  unfolding note_if_n
  noteif_yes f room e x h ex = ex ∙ ap (λ (g : Bool). obind Here (λ m. note_if_n g room e m)) (sym h)

  pub noteif_no : (f : Bool) (room : ℕ) (e : Entry) → f ≡ false → Here ≡ obind Here (λ m. note_if_n f room e m)
  unfolding note_if_n
  noteif_no f room e h = same_slices (λ m. note_if_n f room e m) (ap (λ (g : Bool). note_if_n g room e (traced_at n p t w l)) h)

-- ---- a line: the note, and what is said
line_is : (f : Bool) (room : ℕ) (e : Entry) (v : Writer (List ℕ)) (m : Traced Slices) → obind (note_if_n f room e m) (λ k. with_entries k.entries (line_in v k.mach)) ≡ line (λ z. tt) (up_to room) f e (λ k. line_in v k) m
unfolding note_if_n note_n obind line
line_is false room e v m = refl
line_is true room e v m = go (ltb (length m.entries) room)
  where
    go : (x : Bool) → obind (elim x as (λ z. Out (Traced Slices) (Unit {0})) [ true ↦ wrote (record { mach = m.mach; entries = m.entries ++ (e ∷ []) }) | false ↦ stuck tt 17 ]) (λ k. with_entries k.entries (line_in v k.mach))
        ≡ (elim x as (λ z. Out (Traced Slices) (Unit {0})) [ true ↦ with_entries (m.entries ++ (e ∷ [])) (line_in v m.mach) | false ↦ stuck tt 17 ])
    go true = refl
    go false = refl

-- a line: its entry, and what the writer says
pub line_shown : (o x : Out (Traced Slices) (Unit {0})) (f g : Bool) (lent : Lent) (e : Entry) (v : Writer (List ℕ)) (y : Out (Traced Slices) (Unit {0})) → f ≡ (lent.lists && g) → y ≡ obind o (λ m. note_if_n f lent.room e m)
    → x ≡ obind y (λ m. with_entries m.entries (line_in v m.mach)) → x ≡ obind o (λ m. line_n lent g e v m)
unfolding line_n
line_shown o x f g lent e v y fg ey ex =
    then o (λ m. note_if_n f lent.room e m) (λ m. with_entries m.entries (line_in v m.mach)) y x ey ex
    ∙ obind_same o (λ m. obind (note_if_n f lent.room e m) (λ k. with_entries k.entries (line_in v k.mach))) (λ m. line (λ z. tt) (up_to lent.room) f e (λ k. line_in v k) m) (λ m. line_is f lent.room e v m)
    ∙ ap (λ (z : Bool). obind o (λ m. line (λ z. tt) (up_to lent.room) z e (λ k. line_in v k) m)) fg

-- a list of the same length has the same room
abbrev pub lent_length : Bool → ℕ → Lent
lent_length lists i = record { lists = lists; room = i / 12 }

pub same_lent : (lists : Bool) (i j : ℕ) → i ≡ j → lent_length lists i ≡ lent_length lists j
same_lent lists i j e = ap (lent_length lists) e

pub and_true : (f : Bool) → f ≡ (f && true)
and_true f = sym (and-true f)

-- ---- what is kept where a call ended with a pen
pub kept_by : {X : Type 0} → (P : List ℕ → X) (n : ℕ) (a : Pen) (t₁ w₁ l₁ w : List ℕ) → Stays P w (traced_out n (Ok a) t₁ w₁ l₁) → P w₁ ≡ P w
kept_by P n a t₁ w₁ l₁ w h = go (traced_out n (Ok a) t₁ w₁ l₁) h (goes n a t₁ w₁ l₁)
  where
    same_wrote : (m m' : Traced Slices) → ◌≡◌ {A = Out (Traced Slices) (Unit {0})} (wrote m) (wrote m') → m ≡ m'
    same_wrote m m' e = cc

    no : (h : Unit {0}) (c : ℕ) (m : Traced Slices) → stuck h c ≡ wrote m → ⊥
    no h c m e = let k : ◌≡◌ {A = ℕ} 0 1 = cc in omega arith

    go : (o : Out (Traced Slices) (Unit {0})) → Stays P w o → o ≡ wrote (traced_at n a t₁ w₁ l₁) → P w₁ ≡ P w
    go (wrote m) (on e) q = ap (λ (y : Traced Slices). P y.mach.work) (sym (same_wrote m (traced_at n a t₁ w₁ l₁) q)) ∙ e
    go (stuck h c) off q = absurd (no h c (traced_at n a t₁ w₁ l₁) q)

-- ---- the table after a call is the table before it
module _ (b : TypeTable) (s : List ℕ) where
  pub same_table : (n : ℕ) (a : Penned) (t₁ w₁ l₁ w : List ℕ) (k : Rules → Traced Slices → Out (Traced Slices) (Unit {0})) → Stays (btf_of b s) w (traced_out n a t₁ w₁ l₁)
      → obind (traced_out n a t₁ w₁ l₁) (k (btf_of b s w₁)) ≡ obind (traced_out n a t₁ w₁ l₁) (k (btf_of b s w))
  same_table n a t₁ w₁ l₁ w k h = at_slices n a t₁ w₁ l₁ (k (btf_of b s w₁)) (k (btf_of b s w))
      (λ q e. ap (λ (B : Rules). k B (traced_at n q t₁ w₁ l₁)) (kept_by (btf_of b s) n q t₁ w₁ l₁ w (subst (λ (r : Penned). Stays (btf_of b s) w (traced_out n r t₁ w₁ l₁)) e h)))

  pub entry_stays : {X : Type 0} → (P : List ℕ → X) (n : ℕ) (p : Pen) (t w l : List ℕ) → Stays P w (traced_out n (Ok p) t w l)
  entry_stays P n p t w l = subst (Stays P w) (sym (goes n p t w l)) (on refl)

  pub called_stays : (n : ℕ) (p : Pen) (t w l : List ℕ) (a : Penned) (t₁ w₁ l₁ : List ℕ) (B : Rules) (lent : Lent) (why : ℕ → Entry) (y left cont : ℕ)
      → traced_out n a t₁ w₁ l₁ ≡ obind (traced_out n (Ok p) t w l) (λ m. emit_n b B lent why left cont m y) → Stays (btf_of b s) w (traced_out n a t₁ w₁ l₁)
  called_stays n p t w l a t₁ w₁ l₁ B lent why y left cont e =
      subst (Stays (btf_of b s) w) (sym e) (stays_then (btf_of b s) w (traced_out n (Ok p) t w l) (λ m. emit_n b B lent why left cont m y) (entry_stays (btf_of b s) n p t w l) (λ m. table_emit b s B lent why left m y cont))
