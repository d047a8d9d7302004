-- What no version of a name and no alignment that is remembered changes: the table, and the chains in it. So emitters keep both. Assumes nothing.
use Prim.Native.Nat.{ℕ, zero, suc, ◌+◌, ◌*◌}
use mathlib.Core.Path.{◌≡◌, refl, ap, ap₂, ◌∙◌, sym, subst}
use mathlib.Core.Bool.{Bool, true, false}
use mathlib.Core.List.{List, ◌∷◌}
use native.Mathlib.Omega.{arith}
use lib.Dec.{ltb, leb, eqb}
use Rattle.spec_bytes.specs.text.Placed.{Placed, placed}
use Rattle.spec_c_dumper.specs.rules.Writer.{Writer, ◌⨾◌}
use Rattle.spec_c_dumper.specs.rules.Types.{Name, Member, Btf as Rules}
use Rattle.spec_c_dumper.specs.rules.Names.{Space, Resolved}
use Rattle.spec_c_dumper.specs.rules.Decl.{Entry, link_of}
use Rattle.spec_c_dumper.specs.rules.Chain.{entry_by}
use Rattle.spec_c_dumper.specs.rules.Place.{Wrote, out_of, put_said}
use Rattle.spec_c_dumper.proofs.rules.Writing.{put_then, put_then_kept, names_left, said_ended}
use Rattle.spec_c_dumper.proofs.rules.Keeps.{Keeps}
use Rattle.spec_type_table.specs.declared.types.TypeTable.{TypeTable}
use Rattle.spec_type_table.specs.declared.types.BtfType.{BtfType as Record}
use Rattle.spec_type_table.specs.Cells.{get_field, put_field, class_p, count_p, count_raised}
use Rattle.spec_type_table.specs.Numbers.{number_at}
use Rattle.spec_type_table.specs.Records.{record_by_id}
use Rattle.spec_type_table.specs.Table.{type_of, btf_of, work_naming, type_version_in, value_version_in, enumerator_of}
use Rattle.spec_type_table.proofs.Frame.{field_other, count_0, record_same, counted_other, table_type_version, table_value_version}
use Rattle.c_dumper_bodies.specs.chain.Chains.{next_of, entry_of, path_at, chain_at, only_links}
use Rattle.spec_c_dumper.specs.alignment_once.Once.{Remembered as Alignment, Once, found, refused, memory_after, member_count}
use Rattle.btf_layout.specs.remembered.Words.{coded, with_visits as visited, remembered, work_keep}
use Rattle.btf_layout.proofs.remembered.Keeps.{table_keeps}
use Rattle.btf_layout.specs.asked.Asked.{ask_in, work_asks}
use Rattle.btf_layout.proofs.asked.Stays.{Stays, stays_forget, stays_padding, stays_body}
use Rattle.c_dumper_padding.specs.placing.Steps.{body_in}
use Rattle.std.specs.Prelude.{Result, Ok, Err, IsErrAnd, IfOk, ⊤}
use Rattle.spec_bytes.specs.declared.refusal.Refusal.{Refusal}

-- a writer, and the names that it begins with
abbrev pub Begun : Type 0
Begun = Writer (List ℕ) × List ℕ

abbrev pub put_begun : List ℕ → Placed → Begun → Wrote (List ℕ) ⊤
put_begun t at s = put_said t at s.0 s.1

module _ (b : TypeTable) (s : List ℕ) where
  module _ (u w : List ℕ) (h : (id : ℕ) → record_by_id b s u id ≡ record_by_id b s w id) where
    entry_same : (id : ℕ) → entry_of b s u id ≡ entry_of b s w id
    unfolding entry_of
    entry_same id = ap (λ (t : Record). entry_by id (link_of (type_of b s t))) (h id)

    path_same : (start n : ℕ) → path_at b s u start n ≡ path_at b s w start n
    unfolding path_at
    path_same start zero = refl
    path_same start (suc n) = ap (next_of b s) (h (path_at b s u start n) ∙ ap (record_by_id b s w) (path_same start n))

    chain_same : (start n : ℕ) → chain_at b s u start n ≡ chain_at b s w start n
    unfolding chain_at
    chain_same start zero = refl
    chain_same start (suc n) =
        ap₂ (λ (e : Entry) (c : List Entry). e ∷ c) (entry_same (path_at b s u start n) ∙ ap (entry_of b s w) (path_same start n)) (chain_same start n)

  -- what emitters see of the work, beside names
  abbrev pub Seen : Type 0
  Seen = Rules × (ℕ → ℕ → List Entry)

  unfoldable pub seen : List ℕ → Seen
  seen w = (btf_of b s w, chain_at b s w)

  seen_same : (u w : List ℕ) → btf_of b s u ≡ btf_of b s w → ((j : ℕ) → get_field u j 0 ≡ get_field w j 0) → seen u ≡ seen w
  unfolding seen
  seen_same u w e h = λ i. (e i, λ start n. chain_same u w (record_same u w b s h) start n i)

  place_type : (w : List ℕ) (id j : ℕ) → get_field (type_version_in b.types id w).names j 0 ≡ get_field w j 0
  unfolding type_version_in
  place_type w id j = go (eqb (get_field w id 4) 0)
    where
      n : ℕ
      n = number_at b.types w id

      u : List ℕ
      u = count_raised (class_p b.types) (count_p b.types) w id

      go : (t : Bool) → get_field (elim t as (λ z. Resolved (List ℕ)) [ false ↦ record { passes = false; version = get_field w id 4; names = w } | true ↦ record { passes = false; version = n; names = put_field u id 4 n } ]).names j 0 ≡ get_field w j 0
      go false = refl
      go true = field_other u id 4 n j 0 (omega arith) (omega arith) (λ e. omega arith) ∙ counted_other b.types w id (j * 16 + 0) (λ c. count_0 b.types c j)

  place_value : (w : List ℕ) (e j : ℕ) → get_field (value_version_in b.types e w).names j 0 ≡ get_field w j 0
  unfolding value_version_in
  place_value w e j = go (ltb (b.types + e) 4294967296)
    where
      n : ℕ
      n = number_at b.types w (b.types + e)

      u : List ℕ
      u = count_raised (class_p b.types) (count_p b.types) w (b.types + e)

      go : (t : Bool) → get_field (elim t as (λ z. Resolved (List ℕ)) [ true ↦ record { passes = false; version = n; names = u } | false ↦ record { passes = false; version = 0; names = w } ]).names j 0 ≡ get_field w j 0
      go false = refl
      go true = counted_other b.types w (b.types + e) (j * 16 + 0) (λ c. count_0 b.types c j)

  pub keeps_type : (space : Space) (id : ℕ) (name : Name) (u : List ℕ) → seen ((work_naming b).type_version space id name u).names ≡ seen u
  unfolding work_naming
  keeps_type space id name u = seen_same (type_version_in b.types id u).names u (table_type_version b s u id) (place_type u id)

  pub keeps_value : (id i : ℕ) (name : Name) (u : List ℕ) → seen ((work_naming b).value_version id i name u).names ≡ seen u
  unfolding work_naming
  keeps_value id i name u =
      seen_same (value_version_in b.types (enumerator_of u id i) u).names u (table_value_version b s u (enumerator_of u id i)) (place_value u (enumerator_of u id i))

  -- ---- nor does remembering an alignment
  place_remember : (B : Rules) (id : ℕ) (x : Alignment) (w : List ℕ) (j : ℕ) → get_field ((work_keep b.types B).remember id x w) j 0 ≡ get_field w j 0
  unfolding work_keep remembered visited
  place_remember B id x w j = go (eqb (coded x) 0) (leb b.types id)
    where
      u : List ℕ
      u = visited (member_count (B.type_by_id id)) w

      go : (p q : Bool) → get_field (elim p as (λ (z : Bool). List ℕ) [ true ↦ w | false ↦ elim q as (λ (z : Bool). List ℕ) [ true ↦ w | false ↦ put_field u id 15 (coded x) ] ]) j 0 ≡ get_field w j 0
      go true q = refl
      go false true = refl
      go false false = field_other u id 15 (coded x) j 0 (omega arith) (omega arith) (λ e. omega arith) ∙ field_other w 0 2 _ j 0 (omega arith) (omega arith) (λ e. omega arith)

  keeps_remember : (B : Rules) (id : ℕ) (x : Alignment) (w : List ℕ) → seen ((work_keep b.types B).remember id x w) ≡ seen w
  keeps_remember B id x w = seen_same ((work_keep b.types B).remember id x w) w (table_keeps b s b.types B id x w) (place_remember B id x w)

  memory_stays : {A : Type 0} (w : List ℕ) (r : Once (List ℕ) A) → Stays seen w r → seen (memory_after r) ≡ seen w
  unfolding memory_after
  memory_stays w (found a m k) h = h
  memory_stays w (refused c m k) h = h

  pub keeps_padding : (B : Rules) (offset : ℕ) (x : Member) (packed : Bool) (w : List ℕ) → seen (memory_after ((work_asks b.types B).padding offset x packed w)) ≡ seen w
  keeps_padding B offset x packed w = memory_stays w _ (stays_padding seen (work_keep b.types B) B (keeps_remember B) offset x packed w (get_field w 0 2))

  pub keeps_body : (B : Rules) (is_struct : Bool) (id sz : ℕ) (ms : List Member) (w : List ℕ) → seen (memory_after ((work_asks b.types B).body is_struct id sz ms w)) ≡ seen w
  keeps_body B is_struct id sz ms w = memory_stays w _ (stays_body seen (work_keep b.types B) B (keeps_remember B) is_struct id sz ms w (get_field w 0 2))

  told_body : (w : List ℕ) (y : Result Bool Refusal) (u : List ℕ) → Stays seen w (ask_in y u) → seen u ≡ seen w
  unfolding ask_in
  told_body w (Ok p) u h = h
  told_body w (Err c) u h = h

  pub body_seen : (is_struct : Bool) (id sz : ℕ) (ms : List Member) (w : List ℕ) (y : Result Bool Refusal) (u : List ℕ) → ask_in y u ≡ body_in b.types (btf_of b s w) is_struct id sz ms w → seen u ≡ seen w
  unfolding body_in
  body_seen is_struct id sz ms w y u e =
      told_body w y u (subst (Stays seen w) (sym e) (stays_forget seen w _ (stays_body seen (work_keep b.types (btf_of b s w)) (btf_of b s w) (keeps_remember (btf_of b s w)) is_struct id sz ms w 0)))

  -- v, and then what is written with what is seen
  pub then_on : (x : Seen → Writer (List ℕ)) (t : List ℕ) (at : Placed) (v : Writer (List ℕ)) (u : List ℕ) (n : Placed) (t' u' : List ℕ) (r : Placed) (t'' u'' : List ℕ)
      → Keeps seen v → out_of n t' u' ≡ put_said t at v u → out_of r t'' u'' ≡ put_said t' n (x (seen u')) u' → out_of r t'' u'' ≡ put_said t at (v ⨾ x (seen u)) u
  then_on x t at v u n t' u' r t'' u'' k e₁ e₂ = put_then_kept _ seen x t at v u n t' u' r t'' u'' (k u) e₁ e₂

  -- so chains that are seen stay, where v has come to a place
  pub links_kept : (v : Writer (List ℕ)) (t : List ℕ) (at : Placed) (u : List ℕ) (n : ℕ) (t' u' : List ℕ) (id m : ℕ) → Keeps seen v → out_of (Ok n) t' u' ≡ put_said t at v u
      → only_links (chain_at b s u id m) ≡ true → only_links (chain_at b s u' id m) ≡ true
  unfolding seen
  links_kept v t at u n t' u' id m k o l = ap (λ (x : Seen). only_links (x.1 id m)) (ap seen (names_left _ t at v u n t' u' o) ∙ (k u).0) ∙ l

  -- ---- a loop: what is left is the whole
  pub Leads : List ℕ → Placed → Begun → List ℕ → Placed → Begun → Type 0
  Leads t₀ at₀ s₀ t at s₁ = (r : Placed) (t' u' : List ℕ) → out_of r t' u' ≡ put_begun t at s₁ → out_of r t' u' ≡ put_begun t₀ at₀ s₀

  pub leads_start : (t : List ℕ) (at : Placed) (s₀ : Begun) → Leads t at s₀ t at s₀
  unfolding Leads
  leads_start t at s₀ r t' u' e = e

  pub leads_end : (t₀ : List ℕ) (at₀ : Placed) (s₀ : Begun) (t : List ℕ) (at : Placed) (s₁ : Begun) (r : Placed) (t' u' : List ℕ)
      → Leads t₀ at₀ s₀ t at s₁ → out_of r t' u' ≡ put_begun t at s₁ → out_of r t' u' ≡ put_begun t₀ at₀ s₀
  unfolding Leads
  leads_end t₀ at₀ s₀ t at s₁ r t' u' l e = l r t' u' e

  -- a turn v, and then the rest
  pub leads_turn : (x : Seen → Writer (List ℕ)) (t₀ : List ℕ) (at₀ : Placed) (s₀ : Begun) (t : List ℕ) (at : Placed) (s₁ : Begun) (v : Writer (List ℕ)) (u : List ℕ) (n : Placed) (t' u' : List ℕ)
      → Leads t₀ at₀ s₀ t at s₁ → s₁ ≡ (v ⨾ x (seen u), u) → Keeps seen v → out_of n t' u' ≡ put_said t at v u → Leads t₀ at₀ s₀ t' n (x (seen u'), u')
  unfolding Leads
  leads_turn x t₀ at₀ s₀ t at s₁ v u n t' u' l e k o r t'' u'' q = l r t'' u'' (then_on x t at v u n t' u' r t'' u'' k o q ∙ ap (put_begun t at) (sym e))

  -- a turn that a refusal stopped has stopped the whole
  pub leads_halt : (t₀ : List ℕ) (at₀ : Placed) (s₀ : Begun) (t : List ℕ) (at : Placed) (s₁ : Begun) (v w : Writer (List ℕ)) (u : List ℕ) (c : Refusal) (t' u' : List ℕ) (r : Placed)
      → Leads t₀ at₀ s₀ t at s₁ → s₁ ≡ (v ⨾ w, u) → Keeps seen v → out_of (Err c) t' u' ≡ put_said t at v u → IsErrAnd r (λ e. e ≡ c) → out_of r t' u' ≡ put_begun t₀ at₀ s₀
  leads_halt t₀ at₀ s₀ t at s₁ v w u c t' u' r l e k o i =
      leads_end t₀ at₀ s₀ t at s₁ r t' u' l (put_then _ t at v w u (Err c) t' u' r t' u' (k u).1 o (said_ended _ t' r c w u' i) ∙ ap (put_begun t at) (sym e))

-- ---- where a function answers more than a place: the `?` that hands on a refusal tells of the text only
pub halted : {A U : Type 0} (at_of : A → ℕ) (P : A → Type 0) (o : Wrote U ⊤) (t' : List ℕ) (u' : U) (c : Refusal) (r : Result A Refusal)
    → out_of (Err c) t' u' ≡ o → IsErrAnd r (λ e. e ≡ c) → (out_of (placed at_of r) t' u' ≡ o) × IfOk r P
halted at_of P o t' u' c (Ok x) e i = absurd i
halted at_of P o t' u' c (Err d) e i = (ap (λ k. out_of (Err k) t' u') i ∙ e, tt)
