-- The table that opening gives and the table that the section describes: with any way of keeping names the machines of the rules over both are the same.
-- Assumes nothing but that opening accepts the section, and that the section is bytes.
use Prim.Native.Nat.{ℕ, zero, suc, ◌+◌, ◌-◌, ◌/◌, ◌%◌, ◌<◌, ◌≤◌}
use native.Mathlib.Omega.{arith}
use mathlib.Core.Path.{◌≡◌, refl, sym, ◌∙◌, ap, ap₂, subst, fun_ext}
use mathlib.Core.Bool.{Bool, true, false, not, ◌&&◌, true≢false}
use mathlib.Core.List.Memᴰ
use mathlib.Core.List.{List, [], ◌∷◌, map, Memᴰ}
use mathlib.Core.Logic.{◌⊎◌, inl, inr}
use lib.ListN.{length, get_or, get_or-eq_default, length-map}
use lib.Dec.{eqb}
use borrow.Author.Tests.{eqb-true, lt-ltb}
use Rattle.std.proofs.lemmas.Bool.{cases_lt}
use Rattle.std.proofs.lemmas.List.{get_or-map}
use Rattle.spec_bytes.specs.words.Words.{pick}
use Rattle.spec_linux_btf.specs.Documentation.{Described}
use Rattle.spec_linux_btf.specs.Reading.{Bytes}
use Rattle.spec_linux_btf.specs.Section.{word_of, strings_at}
use Rattle.spec_c_dumper.specs.rules.Types.{BtfType, Void, node_of, Btf as Rules, table_of}
use Rattle.spec_c_dumper.specs.rules.Order.{Table}
use Rattle.spec_c_dumper.specs.rules.Machine.{Machine}
use Rattle.spec_c_dumper.specs.rules.Listed.{tags_id, tags_from}
use Rattle.spec_c_dumper.specs.rules.Names.{Naming}
use Rattle.spec_c_dumper.specs.rules.Writer.{Said, said}
use Rattle.spec_c_dumper.specs.rules.Emit.{definition, forward}
use Rattle.spec_c_dumper.proofs.rules.Related.{RelAll, no_byte, one_byte, RelSaid, same}
use Rattle.spec_type_table.specs.Documented.{kept}
use Rattle.spec_type_table.specs.Table as btf
use Rattle.btf_open_causes.specs.header.Header as header
use Rattle.btf_open_causes.proofs.header.Headers.{read4, read16}
use Rattle.btf_open_causes.specs.references.References.{BadReference}
use Rattle.btf_open_causes.proofs.references.BadIds.{bad_reference}
use Rattle.spec_opening.specs.Table.{described_in, types_of, index_of}
use Rattle.spec_opening.specs.Causes as causes
use Rattle.spec_opening.specs.Causes.{cause1, cause6, opening_number}
use Rattle.spec_opening.proofs.Order.{sound_none}
use Rattle.spec_opening.proofs.Claims.{HeaderIs, cause_3}
use Rattle.spec_opening.proofs.ReadBack.{header_ok, types_ok, section_short}
use Rattle.spec_c_dumper.specs.needs.Needs.{WF, kids}
use Rattle.spec_c_dumper.specs.needs.Lists.{Lines, Ls, list_machine}
use Rattle.spec_c_dumper.specs.needs.Session.{Known, line_of, lines_by, machine_by}
use Rattle.spec_c_dumper.specs.origins.Causes.{shows_in}
use Rattle.spec_cut.specs.section.Kept.{followed_ids, void_type, type_of, is_decl_tag}
use Rattle.spec_cut.specs.section.Stands as S
use Rattle.spec_cut.specs.section.Stands.{with_types, NoTag, Each, none, more, Followed, Stands}
use Rattle.spec_cut.proofs.section.Tables.{no_tag}
use Rattle.spec_cut.proofs.section.Claims.{GoodReferences}
use Rattle.spec_cut.proofs.section.Lines.{SameNaming, definition_same, forward_same}
use Rattle.proof_demands.specs.demands.Table.{header_of, opened_table, is_tag_for, tag_ids}
use Rattle.proof_demands.specs.demands.Claims.{Documents}
use Rattle.proof_demands.proofs.demands.Claims.{opened_documents, opening_gives}
use Rattle.spec_cut.proofs.reopened.Followed.{seen}
use Rattle.spec_cut.proofs.reopened.Causes.{references}
use Rattle.spec_opening.specs.Described.{type_list, table_in}
use Rattle.proof_calls.proofs.described.Types.{same_self, tag_alike, kids_are}

-- ---- a list of types

-- its DECL_TAGs on an id
tags_list : (f : ℕ → BtfType) (id : ℕ) (l : List BtfType) (i : ℕ) → ((k : ℕ) → k < length l → f (i + k) ≡ get_or l k Void) → tag_ids f id i (length l) ≡ tags_from id i l
unfolding tag_ids tags_from
tags_list f id [] i h = refl
tags_list f id (t ∷ l) i h =
    let e : i + 1 ≡ suc i = omega arith in
    ap₂ (λ (b : Bool) (r : List ℕ). elim b as (λ c. List ℕ) [ true ↦ i ∷ r | false ↦ r ]) (ap (is_tag_for id) (first (h 0 (omega arith))) ∙ tag_alike id t) (tags_list f id l (suc i) (λ k q. next k (h (suc k) (omega (arith, q)))) ∙ ap (λ (j : ℕ). tags_from id j l) (sym e))
  where
    first : f (i + 0) ≡ t → f i ≡ t
    first q = let z : i ≡ i + 0 = omega arith in ap f z ∙ q

    next : (k : ℕ) → f (i + suc k) ≡ get_or l k Void → f (suc i + k) ≡ get_or l k Void
    next k q = let z : suc i + k ≡ i + suc k = omega arith in ap f z ∙ q

-- the same names, the same text, and the same names at each of its bytes
held_same : {U : Type 0} {k m : List U} → RelAll (λ (u v : U). u ≡ v) k m → k ≡ m
held_same no_byte = refl
held_same (one_byte u v k m r p) = ap₂ (λ (x : _) (l : List _). x ∷ l) r (held_same p)

said_same : {U : Type 0} {a b : Said U} → RelSaid (λ (u v : U). u ≡ v) a b → a ≡ b
said_same (same u v t k m r p) = ap₂ (λ (w : _) (l : List _). said w t l) r (held_same p)

-- "pointer size not 4 or 8" is refused
pub pointer_is : (p : ℕ) → cause1 p ≡ false → pick (eqb p 4) 4 8 ≡ p
unfolding cause1
pointer_is p e = go (eqb p 4) (eqb p 8) refl refl e
  where
    go : (a b : Bool) → eqb p 4 ≡ a → eqb p 8 ≡ b → (not a && not b) ≡ false → pick a 4 8 ≡ p
    go true b x y z = sym (eqb-true p 4 x)
    go false true x y z = sym (eqb-true p 8 y)
    go false false x y z = absurd (true≢false z)

-- ---- the section

module _ (p modes : ℕ) (s : List ℕ) (n : ℕ) (y : Bytes s) (ok : opening_number p s n ≡ 0) where
  abbrev B : Rules
  B = opened_table p modes s n

  abbrev ts : List Described
  ts = described_in s

  abbrev l : List BtfType
  l = type_list s

  d : Documents p modes s n
  d = opened_documents p modes s n ok y

  wf : WF (table_of B)
  wf = (opening_gives p modes s n ok).well_formed

  -- the place of the strings, as the code reads it
  long_header : HeaderIs s
  long_header = (cause_3 s).0 ((sound_none p s n).0 ok).1.1.0

  pub strings_are : (header_of p modes s).strs ≡ strings_at s
  unfolding header.btf_of header.strings_at
  strings_are =
      let e : word_of s 4 + word_of s 16 ≡ strings_at s = ap₂ ◌+◌ (read4 s long_header.long) (read16 s long_header.long) in
      ap (λ (o : Bool). pick o (word_of s 4 + word_of s 16) 4294967295)
      (lt-ltb (word_of s 4 + word_of s 16) 4294967296 (omega (arith, e, long_header.strings_inside, section_short p modes s n ok)))
      ∙ e

  long : length (map (kept (strings_at s) s) ts) ≡ length ts
  long = length-map ts (kept (strings_at s) s)

  all : types_of s ≡ suc (length ts)
  unfolding types_of
  all = refl

  type_suc : (i : ℕ) → i < length ts → B.type_by_id (suc i) ≡ kept (strings_at s) s (get_or ts i void_type)
  type_suc i q =
      let z : suc i - 1 ≡ i = omega arith in
      d.type (suc i) (omega arith) (omega (arith, q, all)) void_type ∙ ap₂ (λ (at k : ℕ). kept at s (get_or ts k void_type)) strings_are z

  pub type_list_lem : (id : ℕ) → B.type_by_id id ≡ get_or l id Void
  type_list_lem zero = d.zero_void
  type_list_lem (suc i) = go (cases_lt i (length ts))
    where
      go : (i < length ts) ⊎ (length ts ≤ i) → B.type_by_id (suc i) ≡ get_or (map (kept (strings_at s) s) ts) i Void
      go (inl q) = type_suc i q ∙ sym (get_or-map (kept (strings_at s) s) ts i void_type Void q)
      go (inr q) = d.past_void (suc i) (omega (arith, q, all)) ∙ sym (get_or-eq_default (map (kept (strings_at s) s) ts) Void (omega (arith, q, long)))

  pub count_list : B.type_cnt ≡ length l
  count_list = d.count ∙ ap suc (sym long)

  abbrev tags : ℕ → List ℕ
  tags id = tags_from id 0 l

  tag_list : (id : ℕ) → id < B.type_cnt → B.decl_tags id ≡ tag_ids B.type_by_id id 1 (length ts)
  tag_list id q =
      let z : types_of s - 1 ≡ length ts = omega (arith, all) in
      d.tags id (omega (arith, q, all, d.count)) ∙ ap (tag_ids B.type_by_id id 1) z

  tags_are : (id : ℕ) → tag_ids B.type_by_id id 1 (length ts) ≡ tags id
  unfolding tags_from tags_id
  tags_are id = ap (tag_ids B.type_by_id id 1) (sym long) ∙ tags_list B.type_by_id id (map (kept (strings_at s) s) ts) 1 (λ k q. at k)
    where
      at : (k : ℕ) → B.type_by_id (1 + k) ≡ get_or (map (kept (strings_at s) s) ts) k Void
      at k = let z : 1 + k ≡ suc k = omega arith in ap B.type_by_id z ∙ type_list_lem (suc k)

  pub tags_same : (id : ℕ) → id < (table_in p modes s).type_cnt → B.decl_tags id ≡ (table_in p modes s).decl_tags id
  tags_same id q = tag_list id (omega (arith, q, count_list)) ∙ tags_are id

  -- ---- each id stands for itself

  abbrev Same : ℕ → ℕ → Type 0
  Same x x' = (x ≡ x') × (x < B.type_cnt)

  good : GoodReferences ts
  unfolding cause6
  good = references (causes.table_of p s) s (index_of s) ts (seen p s y (header_ok p modes s n ok) (types_ok p modes s n ok)) none_6
    where
      none_6 : BadReference (causes.table_of p s) s (index_of s) → ⊥
      none_6 r = true≢false (sym ((bad_reference (causes.table_of p s) s (index_of s)).1 r) ∙ ((sound_none p s n).0 ok).1.1.1.1.1.0)

  -- what a type follows is no DECL_TAG
  untagged : (x z : ℕ) → Memᴰ z (kids (node_of (B.type_by_id x))) → NoTag (B.type_by_id z)
  untagged x z h = go z (good.below x z (follows x h)) (good.no_tags x z (follows x h))
    where
      nothing : (t : BtfType) → t ≡ Void → Memᴰ z (kids (node_of t)) → ⊥
      nothing t e k = Memᴰ.not-nil (subst (λ (u : BtfType). Memᴰ z (kids (node_of u))) e k)

      follows : (v : ℕ) → Memᴰ z (kids (node_of (B.type_by_id v))) → Memᴰ z (followed_ids (type_of ts v))
      follows zero k = absurd (nothing (B.type_by_id 0) d.zero_void k)
      follows (suc i) k = by (cases_lt i (length ts))
        where
          by : (i < length ts) ⊎ (length ts ≤ i) → Memᴰ z (followed_ids (get_or ts i void_type))
          by (inl q) = subst (Memᴰ z) (kids_are (strings_at s) s (get_or ts i void_type)) (subst (λ (u : BtfType). Memᴰ z (kids (node_of u))) (type_suc i q) k)
          by (inr q) = absurd (nothing (B.type_by_id (suc i)) (d.past_void (suc i) (omega (arith, q, all))) k)

      go : (v : ℕ) → v ≤ length ts → is_decl_tag (type_of ts v) ≡ false → NoTag (B.type_by_id v)
      go zero q e = subst NoTag (sym d.zero_void) tt
      go (suc j) q e = subst NoTag (sym (type_suc j (omega (arith, q)))) (no_tag (strings_at s) s (get_or ts j void_type) e)

  tag_each : (f : ℕ → BtfType) (id x k : ℕ) → x + k ≤ B.type_cnt → Each Same (tag_ids f id x k) (tag_ids f id x k)
  unfolding tag_ids
  tag_each f id x zero q = none
  tag_each f id x (suc k) q = go (is_tag_for id (f x)) (tag_each f id (suc x) k (omega (arith, q)))
    where
      go : (c : Bool) {r : List ℕ} → Each Same r r → Each Same (elim c [ true ↦ x ∷ r | false ↦ r ]) (elim c [ true ↦ x ∷ r | false ↦ r ])
      go true e = let below : x < B.type_cnt = omega (arith, q) in more {x = x} {x' = x} (refl, below) e
      go false e = e

  stands : Stands B B.type_cnt B.type_by_id tags Same
  stands = record {
    zero_kept = (refl, omega (arith, d.count));
    inside = λ x x' i. (i.1, subst (λ (k : ℕ). k < B.type_cnt) i.0 i.1);
    one_number = λ x x' z z' i j e. sym i.0 ∙ e ∙ j.0;
    one_id = λ x x' z z' i j e. i.0 ∙ e ∙ sym j.0;
    same_type = λ x x' i.
        subst (λ (k : ℕ). S.SameType (Followed B Same) (B.type_by_id x) (B.type_by_id k)) i.0
        (same_self (Followed B Same) (B.type_by_id x) (λ z h. ((refl, wf.below x z h), untagged x z h)));
    same_tags = λ x x' i t.
        subst (λ (k : ℕ). Each Same (B.decl_tags x) (tags k)) i.0
        (subst (λ (k : List ℕ). Each Same k (tags x)) (sym (tag_list x i.1))
        (subst (Each Same (tag_ids B.type_by_id x 1 (length ts))) (tags_are x)
        (tag_each B.type_by_id x 1 (length ts) (omega (arith, d.count)))));
  }

  -- the table with the tags of the list, which is the described one
  abbrev pub C : Rules
  C = with_types B B.type_cnt B.type_by_id tags

  pub table_is : C ≡ table_in p modes s
  unfolding btf.btf_of header.btf_of
  table_is i = record {
    ptr_sz = pointer_is p ((sound_none p s n).0 ok).0 i;
    union_as_struct = eqb (modes % 2) 1;
    strong_arrays = eqb (modes / 2 % 2) 1;
    placing = eqb (modes / 4 % 2) 1;
    type_cnt = count_list i;
    type_by_id = fun_ext type_list_lem i;
    decl_tags = tags;
  }

  -- ---- the lines, with any way of keeping names
  module _ {U : Type 0} (N : Naming U) where
    abbrev Eq : U → U → Type 0
    Eq u v = u ≡ v

    naming_same : SameNaming Eq Same N N
    naming_same = record {
      s_type = λ space x x' name i u v r. (λ j. (N.type_version space (i.0 j) name (r j)).passes, λ j. (N.type_version space (i.0 j) name (r j)).version, λ j. (N.type_version space (i.0 j) name (r j)).names);
      s_value = λ x x' k name i u v r. (λ j. (N.value_version (i.0 j) k name (r j)).passes, λ j. (N.value_version (i.0 j) k name (r j)).version, λ j. (N.value_version (i.0 j) k name (r j)).names);
    }

    past : (id : ℕ) → B.type_cnt ≤ id → B.type_by_id id ≡ Void
    past id q = d.past_void id (omega (arith, q, all, d.count))

    pub definitions : (id : ℕ) → definition N B id (B.type_by_id id) ≡ definition N C id (B.type_by_id id)
    unfolding definition
    definitions id = go (cases_lt id B.type_cnt)
      where
        go : (id < B.type_cnt) ⊎ (B.type_cnt ≤ id) → definition N B id (B.type_by_id id) ≡ definition N C id (B.type_by_id id)
        go (inl q) = fun_ext (λ u. said_same (definition_same B B.type_cnt B.type_by_id tags Same stands Eq N N naming_same id id (refl, q) u u refl))
        go (inr q) = subst (λ (t : BtfType). definition N B id t ≡ definition N C id t) (sym (past id q)) refl

    pub forwards : (id : ℕ) → forward N B id (B.type_by_id id) ≡ forward N C id (B.type_by_id id)
    unfolding forward
    forwards id = go (cases_lt id B.type_cnt)
      where
        go : (id < B.type_cnt) ⊎ (B.type_cnt ≤ id) → forward N B id (B.type_by_id id) ≡ forward N C id (B.type_by_id id)
        go (inl q) = fun_ext (λ u. said_same (forward_same B B.type_cnt B.type_by_id tags Same stands Eq N N naming_same id id (refl, q) u u refl))
        go (inr q) = subst (λ (t : BtfType). forward N B id t ≡ forward N C id t) (sym (past id q)) refl

    lines_same : lines_by N B ≡ lines_by N C
    lines_same i = record {
      fwd = λ room k id. line_of room k.text_len (forwards id i k.names);
      alias' = λ room k id. line_of room k.text_len (forwards id i k.names);
      leaf' = λ room k id. line_of room k.text_len (definitions id i k.names);
      body' = λ room k id. line_of room k.text_len (definitions id i k.names);
      held' = λ k. k.names;
      leaving' = λ held k. record { names = N.leaving held k.names; text_len = k.text_len };
    }

    -- what is said of the machine, the types and their count over the table that opening gives holds over the described one
    pub over_described : (P : Machine (Ls (Known U)) U → Table → ℕ → Type 0) → P (machine_by N B) (table_of B) B.type_cnt → P (machine_by N (table_in p modes s)) (table_of (table_in p modes s)) (table_in p modes s).type_cnt
    over_described P h =
        subst (λ (X : Rules). P (machine_by N X) (table_of X) X.type_cnt) table_is
        (subst (λ (L : Lines (Known U) U). P (list_machine L) (table_of B) B.type_cnt) lines_same h)

    -- and of which lines print anything
    pub over_shown : (P : Machine (Ls (Known U)) U → Table → ℕ → (ℕ → Bool) → Type 0) → P (machine_by N B) (table_of B) B.type_cnt (shows_in B)
        → P (machine_by N (table_in p modes s)) (table_of (table_in p modes s)) (table_in p modes s).type_cnt (shows_in (table_in p modes s))
    over_shown P h =
        subst (λ (X : Rules). P (machine_by N X) (table_of X) X.type_cnt (shows_in X)) table_is
        (subst (λ (L : Lines (Known U) U). P (list_machine L) (table_of B) B.type_cnt (shows_in B)) lines_same h)

  pub described_wf : WF (table_of (table_in p modes s))
  described_wf = subst (λ (X : Rules). WF (table_of X)) table_is wf
