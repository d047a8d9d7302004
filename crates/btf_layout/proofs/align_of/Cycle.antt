-- What each return of align_once and members_once comes to. Assumes nothing.
use Prim.Native.Nat.{ℕ, suc, ◌+◌, ◌-◌, ◌<◌, ◌≤◌}
use native.Mathlib.Omega.{arith}
use mathlib.Core.Path.{◌≡◌, refl, ap, ◌∙◌, sym, subst}
use mathlib.Core.List.{List}
use mathlib.Core.Logic.{⊎_elim}
use lib.ListN.{length}
use Rattle.std.proofs.lemmas.Bool.{cases_lt}
use Rattle.spec_c_dumper.specs.rules.Types.{Member, member_types, BtfType, Btf as Rules}
use Rattle.spec_type_table.specs.declared.types.TypeTable.{TypeTable}
use Rattle.spec_type_table.specs.declared.types.BtfType.{BtfType as Record}
use Rattle.spec_type_table.specs.declared.types.Entries.{Entries}
use Rattle.spec_type_table.specs.Records.{section_word, kind_of, vlen_of, member_at, member_of, record_by_id, entries_of}
use Rattle.spec_type_table.specs.Table.{from, rule_member, members_of, type_of, btf_of}
use Rattle.spec_type_table.specs.Nodes.{member_ids}
use Rattle.spec_type_table.proofs.KindLaws.{member_types_lem}
use Rattle.spec_c_dumper.specs.alignment_once.Once.{Remembered, Known, unknown, known, Keep, Once, found, refused, Asking, once_then, above, alone, widest, members_once, taken, type_once, keep_once, align_once, member_count}
use Rattle.spec_c_dumper.proofs.alignment_once.Right.{taken_found, taken_refused}
use Rattle.btf_layout.specs.declared.remembered.Seen.{Seen as Code}
use Rattle.std.specs.Prelude.{Option, Some, None, Result, Ok, Err}
use Rattle.spec_bytes.specs.declared.refusal.Refusal.{Refusal}
use Rattle.spec_bytes.specs.declared.refusal.Refusal.TheVariants.{TooDeep}
use Rattle.spec_type_table.specs.declared.kind.Kind.{Kind}
use Rattle.spec_type_table.specs.declared.kind.Kind.TheVariants.{Void, Int, Ptr, Array, Struct, Union, Enum, Fwd, Typedef, Volatile, Const, Restrict, Func, FuncProto, Var, Datasec, Float, DeclTag, TypeTag, Enum64, Unknown}
use Rattle.spec_type_table.specs.Kinds.{kind_named}
use Rattle.spec_type_table.proofs.KindTypes.{type_as, type_is}
use Rattle.spec_type_table.proofs.Laws.{length_from}
use Rattle.btf_layout.specs.declared.align_of.Step.{Step}
use Rattle.btf_layout.specs.declared.align_of.Step.TheVariants.{Own, Through, Members}
use Rattle.btf_layout.specs.remembered.Words.{seen_word, decoded, coded, remembered, work_keep, once_of, height_of, taken_by, forget, once_with, anew_with, ids_once, ids_with, kept_with, seen_is, known_of, step_by, step_at}
use Rattle.btf_layout.proofs.remembered.Laws.{taken_over, taken_fits}
use Rattle.btf_layout.proofs.remembered.Keeps.{table_keeps}
use Rattle.btf_layout.proofs.remembered.Turns.{members_ids, next, then_next, forget_ids, forget_align, Held, held_forget, ids_held, align_held}

abbrev Answer : Type 0
Answer = Result Code Refusal

-- ---- the table and the heights after a call
module _ (b : TypeTable) (s : List ℕ) where
  held_answer : (left : ℕ) (w : List ℕ) (r : Answer) (u : List ℕ) → Held (btf_of b s) left w (once_of r u) → (height_of r ≤ left) × (btf_of b s u ≡ btf_of b s w)
  unfolding once_of height_of
  held_answer left w (Ok x) u h = h
  held_answer left w (Err c) u h = h

  pub after_align : (types left id : ℕ) (w : List ℕ) (r : Answer) (u : List ℕ) → once_of r u ≡ once_with types (btf_of b s w) left id w → (height_of r ≤ left) × (btf_of b s u ≡ btf_of b s w)
  unfolding once_with
  after_align types left id w r u e =
      held_answer left w r u (subst (Held (btf_of b s) left w) (sym e)
      (held_forget (btf_of b s) left w (align_once (work_keep types (btf_of b s w)) left (btf_of b s w) id w 0) (align_held (btf_of b s) (work_keep types (btf_of b s w)) (table_keeps b s types (btf_of b s w)) (btf_of b s w) left id w 0)))

  pub after_members : (types left : ℕ) (ids : List ℕ) (w : List ℕ) (r : Answer) (u : List ℕ) → once_of r u ≡ ids_with types (btf_of b s w) left (alone 1) ids w → (height_of r ≤ left) × (btf_of b s u ≡ btf_of b s w)
  unfolding ids_with
  after_members types left ids w r u e =
      held_answer left w r u (subst (Held (btf_of b s) left w) (sym e)
      (held_forget (btf_of b s) left w (ids_once (λ x m k. align_once (work_keep types (btf_of b s w)) left (btf_of b s w) x m k) (alone 1) ids w 0)
      (ids_held (btf_of b s) left (λ x m k. align_once (work_keep types (btf_of b s w)) left (btf_of b s w) x m k) (λ x m k. align_held (btf_of b s) (work_keep types (btf_of b s w)) (table_keeps b s types (btf_of b s w)) (btf_of b s w) left x m k) ids (alone 1) w 0 (omega arith))))

-- ---- align_once
module _ (types : ℕ) (B : Rules) (left id : ℕ) (w : List ℕ) where
  pub once_deep : left ≡ 0 → once_of (Err TooDeep) w ≡ once_with types B left id w
  unfolding once_of once_with align_once forget
  once_deep e = rw e

  module _ (deep : left ≡ 0 → ⊥) where
    abbrev K : Keep (List ℕ)
    K = work_keep types B

    unroll : (q : Known) → decoded (seen_word types w id) ≡ q
        → once_with types B left id w ≡ forget {M = List ℕ} {A = Remembered} (elim q as (λ (q : Known). Once (List ℕ) Remembered) [ known x ↦ taken left x w 0 | unknown ↦ once_then (type_once B (λ t m k. align_once K (left - 1) B t m k) (B.type_by_id id) w 1) (keep_once K id) ])
    unfolding once_with align_once work_keep
    unroll q e =
        let z : left ≡ suc (left - 1) = omega arith in
        ap (λ (n : ℕ). forget (align_once K n B id w 0)) z
        ∙ ap (λ (n : ℕ). forget {M = List ℕ} {A = Remembered} (elim (decoded (seen_word types w id)) as (λ (q : Known). Once (List ℕ) Remembered) [ known x ↦ taken n x w 0 | unknown ↦ once_then (type_once B (λ t m k. align_once K (left - 1) B t m k) (B.type_by_id id) w 1) (keep_once K id) ])) (sym z)
        ∙ ap (λ (p : Known). forget {M = List ℕ} {A = Remembered} (elim p as (λ (q : Known). Once (List ℕ) Remembered) [ known x ↦ taken left x w 0 | unknown ↦ once_then (type_once B (λ t m k. align_once K (left - 1) B t m k) (B.type_by_id id) w 1) (keep_once K id) ])) e

    module _ (q : Option Code) (eq : known_of q ≡ decoded (seen_word types w id)) where
      pub once_taken : (x : Code) → q ≡ Some x → (r : Answer) → r ≡ taken_by x left → once_of r w ≡ once_with types B left id w
      unfolding once_of forget known_of
      once_taken x e r er =
          let u = unroll (known (seen_is x)) (sym eq ∙ ap known_of e) in
          ⊎_elim
          (λ l. ap (λ (a : Answer). once_of a w) (er ∙ sym (taken_over x left l)) ∙ sym (u ∙ ap forget (taken_refused left (seen_is x) w 0 l)))
          (λ l. ap (λ (a : Answer). once_of a w) (er ∙ sym (taken_fits x left l)) ∙ sym (u ∙ ap forget (taken_found left (seen_is x) w 0 l)))
          (cases_lt left x.height)

      pub once_anew : q ≡ None → once_with types B left id w ≡ anew_with types B (left - 1) id w
      unfolding known_of anew_with
      once_anew e = unroll unknown (sym eq ∙ ap known_of e)

-- ---- the record of a type, by its kind
module _ {M : Type 0} (ask : ℕ → Asking M Remembered) (ms : List Member) where
  pub step_once : Step → Asking M Remembered
  step_once (Own a) m k = found (alone a) m k
  step_once (Through x) m k = ask x m k
  step_once (Members e) m k = members_once ask (alone 1) ms m k

pub step_count : List Member → Step → ℕ
step_count ms (Own a) = 0
step_count ms (Through x) = 0
step_count ms (Members e) = length ms

pub entries_in : Entries → Step → Entries
entries_in d (Own a) = d
entries_in d (Through x) = d
entries_in d (Members e) = e

module _ (b : TypeTable) (s w : List ℕ) (t : Record) (ask : ℕ → Asking (List ℕ) Remembered) (m : List ℕ) (k : ℕ) where
  abbrev Like : BtfType → Step → Type 0
  Like T S = (type_once (btf_of b s w) ask T m k ≡ step_once ask (members_of b s t) S m k) × (member_count T ≡ step_count (members_of b s t) S) × (entries_in (entries_of t) S ≡ entries_of t)

  like : (y : Kind) → Like (type_as b s t y) (step_by b s t y)
  unfolding step_by type_once step_once member_count step_count entries_in btf_of
  like Void = (refl, refl, refl)
  like Int = (refl, refl, refl)
  like Ptr = (refl, refl, refl)
  like Array = (refl, refl, refl)
  like Struct = (refl, refl, refl)
  like Union = (refl, refl, refl)
  like Enum = (refl, refl, refl)
  like Fwd = (refl, refl, refl)
  like Typedef = (refl, refl, refl)
  like Volatile = (refl, refl, refl)
  like Const = (refl, refl, refl)
  like Restrict = (refl, refl, refl)
  like Func = (refl, refl, refl)
  like FuncProto = (refl, refl, refl)
  like Var = (refl, refl, refl)
  like Datasec = (refl, refl, refl)
  like Float = (refl, refl, refl)
  like DeclTag = (refl, refl, refl)
  like TypeTag = (refl, refl, refl)
  like Enum64 = (refl, refl, refl)
  like Unknown = (refl, refl, refl)

  pub step_like : Like (type_of b s t) (step_at b s t)
  unfolding step_at
  step_like = subst (λ (T : BtfType). Like T (step_at b s t)) (sym (type_is b s t _ refl _ refl)) (like (kind_named (kind_of t.info)))

-- ---- what was found is remembered
module _ (types id n : ℕ) where
  kept_of : Once (List ℕ) Remembered → Once (List ℕ) Remembered
  kept_of (found x m k) = found (above x) (remembered types id (coded (above x)) n m) 0
  kept_of (refused c m k) = refused c m 0

  kept_is : (r : Answer) (u : List ℕ) → kept_with types id n r u ≡ kept_of (once_of r u)
  unfolding kept_with kept_of once_of
  kept_is (Ok x) u = refl
  kept_is (Err c) u = refl

  then_keep : (B : Rules) → member_count (B.type_by_id id) ≡ n → (X : Once (List ℕ) Remembered) → forget (once_then X (keep_once (work_keep types B) id)) ≡ kept_of (forget X)
  unfolding forget once_then keep_once work_keep kept_of
  then_keep B e (found x m k) = ap (λ (c : ℕ). found (above x) (remembered types id (coded (above x)) c m) 0) e
  then_keep B e (refused c m k) = refl

module _ (b : TypeTable) (s w : List ℕ) (left id : ℕ) (t : Record) (et : t ≡ record_by_id b s w id) (S : Step) (es : S ≡ step_at b s t) where
  abbrev B : Rules
  B = btf_of b s w

  abbrev ask : ℕ → Asking (List ℕ) Remembered
  ask x m k = align_once (work_keep b.types B) left B x m k

  named : B.type_by_id id ≡ type_of b s t
  unfolding btf_of
  named = ap (type_of b s) (sym et)

  typed : type_once B ask (B.type_by_id id) w 1 ≡ step_once ask (members_of b s t) S w 1
  typed = ap (λ (T : BtfType). type_once B ask T w 1) named ∙ (step_like b s w t ask w 1).0 ∙ ap (λ (x : Step). step_once ask (members_of b s t) x w 1) (sym es)

  members_are : member_count (B.type_by_id id) ≡ step_count (members_of b s t) S
  members_are = ap member_count named ∙ (step_like b s w t ask w 1).1 ∙ ap (step_count (members_of b s t)) (sym es)

  module _ (n : ℕ) (en : member_count (B.type_by_id id) ≡ n) (r : Answer) (u : List ℕ) (er : once_of r u ≡ forget (step_once ask (members_of b s t) S w 1)) (q : Answer) (u' : List ℕ) (eq : once_of q u' ≡ kept_with b.types id n r u) where
    kept : once_of q u' ≡ anew_with b.types B left id w
    unfolding anew_with
    kept =
        eq ∙ kept_is b.types id n r u ∙ ap (kept_of b.types id n) (er ∙ ap forget (sym typed))
        ∙ sym (then_keep b.types id n B en (type_once B ask (B.type_by_id id) w 1))

  pub once_own : (a : ℕ) → S ≡ Own a → (q : Answer) (u' : List ℕ) → once_of q u' ≡ kept_with b.types id 0 (Ok (record { align = a; height = 0 })) w → once_of q u' ≡ anew_with b.types B left id w
  unfolding once_of forget step_once step_count
  once_own a e q u' eq =
      kept 0 (members_are ∙ ap (step_count (members_of b s t)) e) (Ok (record { align = a; height = 0 })) w (sym (ap (λ (x : Step). forget (step_once ask (members_of b s t) x w 1)) e)) q u' eq

  pub once_through : (x : ℕ) → S ≡ Through x → (r : Answer) (u : List ℕ) → once_of r u ≡ once_with b.types B left x w → (q : Answer) (u' : List ℕ) → once_of q u' ≡ kept_with b.types id 0 r u
      → once_of q u' ≡ anew_with b.types B left id w
  unfolding step_once step_count once_with
  once_through x e r u er q u' eq =
      kept 0 (members_are ∙ ap (step_count (members_of b s t)) e) r u
      (er ∙ sym (forget_align (work_keep b.types B) B left x w 1) ∙ sym (ap (λ (y : Step). forget (step_once ask (members_of b s t) y w 1)) e)) q u' eq

  pub once_members : (e : Entries) → S ≡ Members e → (r : Answer) (u : List ℕ) → once_of r u ≡ ids_with b.types B left (alone 1) (member_ids b s e) w → (q : Answer) (u' : List ℕ) → once_of q u' ≡ kept_with b.types id e.vlen r u
      → once_of q u' ≡ anew_with b.types B left id w
  unfolding step_once step_count ids_with entries_in
  once_members e m r u er q u' eq =
      kept e.vlen (members_are ∙ ap (step_count (members_of b s t)) m ∙ length_from (λ i. rule_member b s (member_of b s t i)) 0 (vlen_of t.info) ∙ ap (λ (x : Entries). x.vlen) (sym own)) r u
      (er ∙ ap (λ (l : List ℕ). forget (ids_once ask (alone 1) l w 0)) (ap (member_ids b s) own ∙ sym (member_types_lem b s t))
      ∙ sym (forget_ids ask (forget_align (work_keep b.types B) B left) (member_types (members_of b s t)) (alone 1) w 1)
      ∙ sym (ap forget (members_ids ask (members_of b s t) (alone 1) w 1))
      ∙ sym (ap (λ (y : Step). forget (step_once ask (members_of b s t) y w 1)) m)) q u' eq
    where
      own : e ≡ entries_of t
      own = ap (entries_in (entries_of t)) (sym m ∙ es) ∙ (step_like b s w t ask w 1).2

-- ---- the loop of members_once
module _ (types : ℕ) (B : Rules) (left : ℕ) (b : TypeTable) (s : List ℕ) (e : Entries) where
  -- what the members from k on make of what is seen so far
  pub ids_rest : Remembered → ℕ → List ℕ → Once (List ℕ) Remembered
  ids_rest x k w = ids_with types B left x (from (λ i. section_word b s (member_at e.at i + 4)) k (e.vlen - k)) w

  pub ids_start : (w : List ℕ) → ids_with types B left (alone 1) (member_ids b s e) w ≡ ids_rest (alone 1) 0 w
  unfolding ids_rest member_ids
  ids_start w = let z : e.vlen ≡ e.vlen - 0 = omega arith in ap (λ (n : ℕ). ids_with types B left (alone 1) (from (λ i. section_word b s (member_at e.at i + 4)) 0 n) w) z

  module _ (y : Remembered) (k p x : ℕ) (w : List ℕ) (l : k < e.vlen) (ep : p ≡ member_at e.at k) (ex : x ≡ section_word b s (p + 4)) (r : Answer) (u : List ℕ) (er : once_of r u ≡ once_with types B left x w) where
    abbrev more : Remembered → Asking (List ℕ) Remembered
    more t m j = ids_once (λ y m' k'. align_once (work_keep types B) left B y m' k') (widest y t) (from (λ i. section_word b s (member_at e.at i + 4)) (k + 1) (e.vlen - (k + 1))) m j

    ids_step : ids_rest y k w ≡ next more (once_of r u)
    unfolding ids_rest ids_with once_with from ids_once
    ids_step =
        let z : e.vlen - k ≡ suc (e.vlen - (k + 1)) = omega arith in
        ap (λ (n : ℕ). ids_with types B left y (from (λ i. section_word b s (member_at e.at i + 4)) k n) w) z
        ∙ ap (λ (y : ℕ). forget (once_then (align_once (work_keep types B) left B y w 1) more)) (ap (λ (q : ℕ). section_word b s (q + 4)) (sym ep) ∙ sym ex)
        ∙ then_next more (λ t m j. forget_ids (λ y m' k'. align_once (work_keep types B) left B y m' k') (forget_align (work_keep types B) B left) (from (λ i. section_word b s (member_at e.at i + 4)) (k + 1) (e.vlen - (k + 1))) (widest y t) m j) (align_once (work_keep types B) left B x w 1)
        ∙ ap (next more) (forget_align (work_keep types B) B left x w 1 ∙ sym er)

    pub ids_more : (T : Once (List ℕ) Remembered) (c : Code) (v : Remembered) → T ≡ ids_rest y k w → r ≡ Ok c → v ≡ widest y (seen_is c) → T ≡ ids_rest v (k + 1) u
    unfolding once_of next ids_rest ids_with
    ids_more T c v i g ev = i ∙ ids_step ∙ ap (λ (z : Answer). next more (once_of z u)) g ∙ ap (λ (z : Remembered). ids_rest z (k + 1) u) (sym ev)

    pub ids_refused : (T : Once (List ℕ) Remembered) (c : Refusal) → T ≡ ids_rest y k w → r ≡ Err c → once_of (Err c) u ≡ T
    unfolding once_of next
    ids_refused T c i g = sym (i ∙ ids_step ∙ ap (λ (z : Answer). next more (once_of z u)) g)

  pub ids_end : (T : Once (List ℕ) Remembered) (x : Code) (k : ℕ) (w : List ℕ) → T ≡ ids_rest (seen_is x) k w → e.vlen ≤ k → once_of (Ok x) w ≡ T
  unfolding ids_rest ids_with from ids_once once_of forget
  ids_end T x k w i l =
      let z : e.vlen - k ≡ 0 = omega arith in
      sym (i ∙ ap (λ (n : ℕ). ids_with types B left (seen_is x) (from (λ i. section_word b s (member_at e.at i + 4)) k n) w) z)

-- the table of the loop's work is that of the first
pub turned : (types left x : ℕ) (w : List ℕ) (B B' : Rules) (r : Answer) (u : List ℕ) → once_of r u ≡ once_with types B' left x w → B' ≡ B → once_of r u ≡ once_with types B left x w
turned types left x w B B' r u e q = e ∙ ap (λ (C : Rules). once_with types C left x w) q
