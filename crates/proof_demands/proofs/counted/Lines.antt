-- A line over the work, and the same line of the definition, with a memory that is a function: where both recall the same of every type before it, they do
-- after it. Assumes nothing.
use Prim.Native.Nat.{ℕ, ◌+◌, ◌*◌, ◌/◌, ◌≤◌}
use native.Mathlib.Omega.{arith}
use mathlib.Core.Path.{◌≡◌, refl, ap, ◌∙◌, sym, subst}
use mathlib.Core.Bool.{Bool, true, false, ◌&&◌}
use mathlib.Core.List.{List}
use mathlib.Core.Logic.{⊎_elim, ◌≢◌}
use lib.ListN.{length}
use lib.Dec.{ltb, eqb}
use borrow.Author.Tests.{le-ltb}
use Rattle.std.proofs.lemmas.Bool.{cases_lt}
use Rattle.spec_bytes.specs.words.Words.{get_word}
use Rattle.spec_bytes.proofs.words.Laws.{put_length, get_put_other}
use Rattle.spec_c_dumper.specs.rules.Writer.{Writer}
use Rattle.spec_c_dumper.specs.rules.Types.{Member, Btf as Rules}
use Rattle.spec_c_dumper.specs.rules.Layout.{Pad}
use Rattle.spec_c_dumper.specs.rules.Names.{Resolved, Names, Naming}
use Rattle.spec_c_dumper.proofs.rules.Related.{RelSaid, RelW, RelNaming, rel_stop, rel_closed}
use Rattle.spec_type_table.specs.declared.types.TypeTable.{TypeTable}
use Rattle.spec_type_table.specs.Cells.{get_field, put_field, class_p, count_p, count_raised}
use Rattle.spec_type_table.specs.Numbers.{number_at}
use Rattle.spec_type_table.specs.Table.{btf_of, work_naming, type_version_in, value_version_in, enumerator_of}
use Rattle.spec_type_table.proofs.Frame.{counted_other}
use Rattle.proof_demands.specs.name_counts.Indexed.{NameFits, FitsValue}
use Rattle.proof_demands.specs.name_counts.Alike.{Alike}
use Rattle.proof_demands.proofs.name_counts.Table.{fits_table}
use Rattle.spec_c_dumper.specs.alignment_once.Once.{Remembered, Known, unknown, known, Keep, Once, Asking, Tells, Right, Table, table_keep}
use Rattle.spec_c_dumper.specs.alignment_once.Steps.{padding_once, body_once}
use Rattle.spec_c_dumper.specs.alignment_once.Writers.{answered, given_once, definition_once, forward_once, Remembering, remembering_names, carried, remembering_asks}
use Rattle.spec_c_dumper.proofs.alignment_once.Right.{same_or}
use Rattle.spec_c_dumper.proofs.alignment_once.Tables.{table_lawful}
use Rattle.btf_layout.specs.remembered.Words.{seen_word, decoded, work_keep}
use Rattle.btf_layout.proofs.remembered.Lawful.{HoldsTypes, FitsWord, work_lawful, tells_fits}
use Rattle.btf_layout.specs.asked.Asked.{work_asks}
use Rattle.btf_layout.proofs.refusals.InWork.{remember_keeps}
use Rattle.proof_demands.specs.alignment_memory.Work.{Agree, Sane}
use Rattle.proof_demands.proofs.alignment_memory.Work.{count_apart}
use Rattle.proof_demands.proofs.demands.Lines.{alike_agree}
use Rattle.proof_demands.proofs.counted.Questions.{SameOnce, same_found, same_refused, same_padding, same_body}
use Rattle.proof_demands.proofs.counted.Emitters.{both_definition, both_forward}

-- ---- naming leaves words 15 of types as they are
module _ (types : ℕ) (some : 1 ≤ types) where
  not_count : (j c : ℕ) → j * 16 + 15 ≢ count_p types c
  not_count j c q = (count_apart types some c).0 (omega (arith, q))

  type_aligned : (id : ℕ) (v : List ℕ) (j : ℕ) → get_field (type_version_in types id v).names j 15 ≡ get_field v j 15
  unfolding type_version_in
  type_aligned id v j = go (eqb (get_field v id 4) 0)
    where
      n : ℕ
      n = number_at types v id

      u : List ℕ
      u = count_raised (class_p types) (count_p types) v id

      go : (t : Bool) → get_field (elim t as (λ z. Resolved (List ℕ)) [ false ↦ record { passes = false; version = get_field v id 4; names = v } | true ↦ record { passes = false; version = n; names = put_field u id 4 n } ]).names j 15 ≡ get_field v j 15
      go false = refl
      go true = get_put_other u (id * 16 + 4) (j * 16 + 15) n (λ q. omega (arith, q)) ∙ counted_other types v id (j * 16 + 15) (not_count j)

  value_aligned : (k : ℕ) (v : List ℕ) (j : ℕ) → get_field (value_version_in types k v).names j 15 ≡ get_field v j 15
  unfolding value_version_in
  value_aligned k v j = go (ltb (types + k) 4294967296)
    where
      go : (t : Bool) → get_field (elim t as (λ z. Resolved (List ℕ)) [ true ↦ record { passes = false; version = number_at types v (types + k); names = count_raised (class_p types) (count_p types) v (types + k) } | false ↦ record { passes = false; version = 0; names = v } ]).names j 15 ≡ get_field v j 15
      go false = refl
      go true = counted_other types v (types + k) (j * 16 + 15) (not_count j)

-- ---- a type past the count is remembered by neither
module _ (n id : ℕ) (l : n ≤ id) where
  work_past : (B : Rules) (v : List ℕ) → (work_keep n B).recall v id ≡ unknown
  unfolding work_keep seen_word decoded
  work_past B v = ap (λ (t : Bool). decoded (elim t as (λ (x : Bool). ℕ) [ true ↦ get_field v id 15 | false ↦ 0 ])) (le-ltb id n l)

  table_past : (s : Remembered) (f : Table) → (table_keep n).remember id s f id ≡ f id
  table_past s f = ap (λ (t : Bool). elim (eqb id id && t) as (λ (x : Bool). Known) [ true ↦ known s | false ↦ f id ]) (le-ltb id n l) ∙ off (eqb id id)
    where
      off : (t : Bool) → (elim (t && false) as (λ (x : Bool). Known) [ true ↦ known s | false ↦ f id ]) ≡ f id
      off true = refl
      off false = refl

-- w is the work after opening, N are names that are alike those in the work
module _ (b : TypeTable) (e : ℕ) (s w : List ℕ) (Z : Sane b (btf_of b s w)) (room : HoldsTypes b.types w) (N : Naming Names) (R : RelNaming (Alike b e s w) (NameFits b s w) (FitsValue b s w) (work_naming b) N) where
  abbrev B : Rules
  B = btf_of b s w

  abbrev n : ℕ
  n = b.types

  abbrev K : Keep (List ℕ)
  K = work_keep n B

  -- v is the work now, u the names of the definition, f its memory
  abbrev Linked : Names → List ℕ → Table → Type 0
  Linked u v f = Alike b e s w v u × Right K B v × ((id : ℕ) → K.recall v id ≡ f id)

  abbrev pub Pair : List ℕ → Remembering Names Table → Type 0
  Pair v u = Linked u.names v u.memory

  agree : (id : ℕ) (x : Remembered) (v : List ℕ) → Agree (K.remember id x v) v
  agree id x v = record {
    long = remember_keeps (λ (u : List ℕ). length u) (λ u c. lengths u 0 2 c) (λ u y c. lengths u y 15 c) b B id x v;
    words = λ i p q. remember_keeps (λ (u : List ℕ). get_word u i) (λ u c. get_put_other u (0 * 16 + 2) i c (λ z. q (omega (arith, z)))) (λ u y c. get_put_other u (y * 16 + 15) i c (λ z. p (omega (arith, z)))) b B id x v;
  }
    where
      lengths : (u : List ℕ) (y f c : ℕ) → length (put_field u y f c) ≡ length u
      lengths u y f c = put_length u (y * 16 + f) c

  pub recall_moved : (v v' : List ℕ) → ((j : ℕ) → get_field v' j 15 ≡ get_field v j 15) → (id : ℕ) → K.recall v' id ≡ K.recall v id
  unfolding work_keep seen_word
  recall_moved v v' h id = ap (λ (x : ℕ). decoded (elim (ltb id n) as (λ (t : Bool). ℕ) [ true ↦ x | false ↦ 0 ])) (h id)

  -- ---- what is remembered
  keeps : (u : Names) (id : ℕ) (x : Remembered) (v : List ℕ) (f : Table) → Linked u v f → Tells B id x → x.height ≤ 512 → Right K B (K.remember id x v) → Linked u (K.remember id x v) ((table_keep n).remember id x f)
  keeps u id x v f p t h r = (
    alike_agree b e s w Z.some (K.remember id x v) v u (agree id x v) p.0,
    r,
    λ d. same_or d id (λ q. subst (λ (y : ℕ). K.recall (K.remember id x v) y ≡ (table_keep n).remember id x f y) (sym q) here) (λ ne. (work_lawful n B).other id x v d ne ∙ p.2 d ∙ sym ((table_lawful n).other id x f d ne)),
  )
    where
      long : HoldsTypes n v
      long = subst (λ (k : ℕ). n * 16 ≤ k / 4) (sym p.0.kept.long) room

      here : K.recall (K.remember id x v) id ≡ (table_keep n).remember id x f id
      here =
          ⊎_elim
          (λ l. (work_lawful n B).same id x v (tells_fits B Z.small id x t h) long l ∙ sym ((table_lawful n).same id x f tt tt l))
          (λ l. work_past n id l B (K.remember id x v) ∙ sym (work_past n id l B v) ∙ p.2 id ∙ sym (table_past n id l x f))
          (cases_lt id n)

  -- ---- naming
  moved : (u : Remembering Names Table) (v v' : List ℕ) (u' : Names) → Pair v u → ((j : ℕ) → get_field v' j 15 ≡ get_field v j 15) → Alike b e s w v' u' → Linked u' v' u.memory
  moved u v v' u' p h a = (a, λ id x q. p.1 id x (sym (recall_moved v v' h id) ∙ q), λ id. recall_moved v v' h id ∙ p.2 id)

  named : RelNaming Pair (NameFits b s w) (FitsValue b s w) (work_naming b) (remembering_names N)
  unfolding work_naming
  named = record {
    rel_type = λ space id name fit q v u p. let r = R.rel_type space id name fit q v u.names p.0 in (r.0, r.1, moved u v _ _ p (type_aligned n Z.some id v) r.2);
    rel_value = λ id i name fit v u p. let r = R.rel_value id i name fit v u.names p.0 in (r.0, r.1, moved u v _ _ p (value_aligned n Z.some (enumerator_of v id i) v) r.2);
    rel_leaving = λ h x r v u p. (R.rel_leaving h x.names r.0 v u.names p.0, p.1, p.2);
  }

  -- ---- questions
  module _ {A : Type 0} (ask₁ : Asking (List ℕ) A) (ask₂ : Asking Table A) (h : (u : Names) (v : List ℕ) (f : Table) (k₁ k₂ : ℕ) → Linked u v f → SameOnce (Linked u) (ask₁ v k₁) (ask₂ f k₂)) where
    given_same : (f : A → Writer (List ℕ)) (g : A → Writer (Remembering Names Table)) → ((a : A) → RelW Pair (f a) (g a))
        → RelW Pair (given_once (λ v. ask₁ v (get_field v 0 2)) f) (given_once (λ u. carried u (ask₂ u.memory u.visits)) g)
    unfolding given_once answered carried
    given_same f g on v u p = by (h u.names v u.memory (get_field v 0 2) u.visits p)
      where
        by : {r₁ : Once (List ℕ) A} {r₂ : Once Table A} → SameOnce (Linked u.names) r₁ r₂ → RelSaid Pair (answered r₁ f v) (answered (carried u r₂) g u)
        by (same_found a m₁ m₂ k₁ k₂ q) = on a m₁ (record { names = u.names; memory = m₂; visits = k₂ }) q
        by (same_refused c m₁ m₂ k₁ k₂) = rel_stop Pair c v u p

  on_body : (is_struct : Bool) (id sz : ℕ) (ms : List Member) (f : Bool → Writer (List ℕ)) (g : Bool → Writer (Remembering Names Table)) → ((p : Bool) → RelW Pair (f p) (g p))
      → RelW Pair (given_once ((work_asks n B).body is_struct id sz ms) f) (given_once ((remembering_asks (table_keep n) B).body is_struct id sz ms) g)
  on_body is_struct id sz ms = given_same (body_once K B is_struct id sz ms) (body_once (table_keep n) B is_struct id sz ms)
      (λ u. same_body (Linked u) K (table_keep n) B n (HoldsTypes n) FitsWord (work_lawful n B) (λ v f p. p.2) (λ v f p. p.1) (keeps u) is_struct id sz ms)

  on_pads : (offset : ℕ) (x : Member) (packed : Bool) (f : List Pad → Writer (List ℕ)) (g : List Pad → Writer (Remembering Names Table)) → ((p : List Pad) → RelW Pair (f p) (g p))
      → RelW Pair (given_once ((work_asks n B).padding offset x packed) f) (given_once ((remembering_asks (table_keep n) B).padding offset x packed) g)
  on_pads offset x packed = given_same (padding_once K B offset x packed) (padding_once (table_keep n) B offset x packed)
      (λ u. same_padding (Linked u) K (table_keep n) B n (HoldsTypes n) FitsWord (work_lawful n B) (λ v f p. p.2) (λ v f p. p.1) (keeps u) offset x packed)

  -- ---- the lines
  pub definition_pair : (x : ℕ) → RelW Pair (definition_once (work_asks n B) (work_naming b) B x (B.type_by_id x)) (definition_once (remembering_asks (table_keep n) B) (remembering_names N) B x (B.type_by_id x))
  definition_pair x =
      both_definition (work_asks n B) (remembering_asks (table_keep n) B) (work_naming b) (remembering_names N) (NameFits b s w) (FitsValue b s w) (λ w₁ w₂. RelW Pair w₁ w₂) (rel_closed Pair (NameFits b s w) (FitsValue b s w) (work_naming b) (remembering_names N) named) B (fits_table b s w) on_body on_pads x (B.type_by_id x) (fits_table b s w x)

  pub forward_pair : (x : ℕ) → RelW Pair (forward_once (work_asks n B) (work_naming b) B x (B.type_by_id x)) (forward_once (remembering_asks (table_keep n) B) (remembering_names N) B x (B.type_by_id x))
  forward_pair x =
      both_forward (work_asks n B) (remembering_asks (table_keep n) B) (work_naming b) (remembering_names N) (NameFits b s w) (FitsValue b s w) (λ w₁ w₂. RelW Pair w₁ w₂) (rel_closed Pair (NameFits b s w) (FitsValue b s w) (work_naming b) (remembering_names N) named) B (fits_table b s w) on_body on_pads x (B.type_by_id x) (fits_table b s w x)
