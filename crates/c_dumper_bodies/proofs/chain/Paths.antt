-- The walks of a chain, and what stays of it when the qualifiers on top are popped. Assumes nothing.
use Prim.Native.Nat.{ℕ, zero, suc, ◌+◌, ◌-◌, ◌<◌, ◌≤◌}
use mathlib.Core.Path.{◌≡◌, refl, ap, ap₂, ◌∙◌, sym}
use Rattle.std.specs.Prelude.{Some, None}
use Rattle.std.specs.List.{fold, range_with_len}
use mathlib.Core.List.{List, [], ◌∷◌, ◌++◌}
use mathlib.Core.Bool.{Bool, true, false, not}
use native.Mathlib.Omega.{arith}
use native.Mathlib.Numerals.{add-one}
use lib.ListN.{length}
use borrow.Author.Tests.{lt-ltb, le-ltb, not-true, not-false}
use Rattle.spec_bytes.specs.text.Text.{ascii, whole, join}
use Rattle.spec_bytes.specs.text.Placed.{Placed, put_out, put_text}
use Rattle.spec_bytes.proofs.text.TextLaws.{put_seq, put_same, put_empty, join_on}
use Rattle.spec_c_dumper.specs.rules.Writer.{got}
use Rattle.spec_c_dumper.specs.rules.Decl.{Entry, base, ends, leads, link_of, chain_on, chain_of, qualifier, mods, no_mods}
use Rattle.spec_type_table.specs.declared.types.TypeTable.{TypeTable}
use Rattle.spec_type_table.specs.declared.types.BtfType.{BtfType as Record}
use Rattle.spec_type_table.specs.declared.kind.Kind.{Kind}
use Rattle.spec_type_table.specs.Kinds.{kind_named}
use Rattle.spec_type_table.specs.Records.{kind_of, record_by_id}
use Rattle.spec_type_table.specs.Table.{type_of, btf_of}
use Rattle.c_dumper_bodies.specs.chain.Chains.{is_link, is_qualifier, qualifier_of, next_of, entry_of, path_at, chain_at, chain_is, RecordIs, kind_at, skipped, mods_down}
use Rattle.c_dumper_bodies.proofs.chain.Linked.{link_leads, link_ends, stays_on, no_words, entry_qual}

module _ (b : TypeTable) (s w : List ℕ) (start : ℕ) where
  -- ---- path_at
  pub path_more : (i id : ℕ) (t : Record) (x : ℕ) → id ≡ path_at b s w start i → t ≡ record_by_id b s w id → x ≡ next_of b s t → x ≡ path_at b s w start (i + 1)
  unfolding path_at
  path_more i id t x e et ex = rw add-one (ex ∙ ap (next_of b s) (et ∙ ap (record_by_id b s w) e))

  path_on : (j n a : ℕ) → fold (λ id x. next_of b s (record_by_id b s w id)) (path_at b s w start j) (range_with_len a n) ≡ path_at b s w start (j + n)
  path_on j zero a = ap (path_at b s w start) (omega arith)
  path_on j (suc n) a =
      ap (λ (id : ℕ). fold (λ id x. next_of b s (record_by_id b s w id)) id (range_with_len (a + 1) n)) (path_more j _ _ _ refl refl refl)
      ∙ path_on (j + 1) n (a + 1)
      ∙ ap (path_at b s w start) (omega arith)

  pub path_walk : (k : ℕ) → fold (λ id x. next_of b s (record_by_id b s w id)) start (range_with_len 0 k) ≡ path_at b s w start k
  unfolding path_at
  path_walk k = path_on 0 k 0 ∙ ap (path_at b s w start) (omega arith)

  -- ---- kind_at
  pub kind_reads : (n id : ℕ) (t : Record) (k : Kind) → id ≡ path_at b s w start n → t ≡ record_by_id b s w id → k ≡ kind_named (kind_of t.info) → k ≡ kind_at b s w start n
  unfolding kind_at
  kind_reads n id t k e et ek = ek ∙ ap (λ (x : Record). kind_named (kind_of x.info)) (et ∙ ap (record_by_id b s w) e)

  -- ---- chain_base: m entries were walked, f more may come, and the chain from here is the whole
  pub ChainLeft : ℕ → ℕ → Type 0
  ChainLeft id n =
      (m : ℕ)
      × (f : ℕ)
      × (n ≡ m)
      × (f + n ≡ 512)
      × (id ≡ path_at b s w start m)
      × (chain_of f (btf_of b s w) id (chain_at b s w start m) ≡ chain_of 512 (btf_of b s w) start [])

  pub len_start : ChainLeft start 0
  unfolding ChainLeft path_at chain_at
  len_start = (0, 512, refl, refl, refl, refl)

  chain_leads : (f id : ℕ) (c : List Entry) → link_of (type_of b s (record_by_id b s w id)) ≡ leads (entry_of b s w id) (next_of b s (record_by_id b s w id))
      → chain_of (suc f) (btf_of b s w) id c ≡ chain_of f (btf_of b s w) (next_of b s (record_by_id b s w id)) (entry_of b s w id ∷ c)
  unfolding chain_of chain_on btf_of
  chain_leads f id c e = ap (chain_on (chain_of f (btf_of b s w)) id c) e

  chain_ends : (f id : ℕ) (c : List Entry) → link_of (type_of b s (record_by_id b s w id)) ≡ ends → chain_of (suc f) (btf_of b s w) id c ≡ got (base id ∷ c)
  unfolding chain_of chain_on btf_of
  chain_ends f id c e = ap (chain_on (chain_of f (btf_of b s w)) id c) e

  leads_on : (id : ℕ) → is_link (kind_named (kind_of (record_by_id b s w id).info)) ≡ true → link_of (type_of b s (record_by_id b s w id)) ≡ leads (entry_of b s w id) (next_of b s (record_by_id b s w id))
  unfolding entry_of
  leads_on id h = link_leads b s (record_by_id b s w id) id h

  chain_next : (m id : ℕ) → id ≡ path_at b s w start m → entry_of b s w id ∷ chain_at b s w start m ≡ chain_at b s w start (suc m)
  unfolding chain_at
  chain_next m id e = ap (λ (x : ℕ). entry_of b s w x ∷ chain_at b s w start m) e

  path_next : (m id : ℕ) → id ≡ path_at b s w start m → next_of b s (record_by_id b s w id) ≡ path_at b s w start (suc m)
  unfolding path_at
  path_next m id e = ap (λ (x : ℕ). next_of b s (record_by_id b s w x)) e

  module _ (id n : ℕ) (t : Record) (et : t ≡ record_by_id b s w id) (k : Kind) (ek : k ≡ kind_named (kind_of t.info)) (l : Bool) (el : l ≡ is_link k) where
    is_kind : is_link (kind_named (kind_of (record_by_id b s w id).info)) ≡ l
    is_kind = sym (el ∙ ap is_link (ek ∙ ap (λ (x : Record). kind_named (kind_of x.info)) et))

    pub len_turn : (x : ℕ) → ChainLeft id n → n < 512 → not l ≡ false → x ≡ next_of b s t → ChainLeft x (n + 1)
    unfolding ChainLeft
    len_turn x (m, zero, en, ef, ei, ec) h hl ex = absurd (omega arith)
    len_turn x (m, suc f, en, ef, ei, ec) h hl ex =
        let q : x ≡ next_of b s (record_by_id b s w id) = ex ∙ ap (next_of b s) et in
        let a : n + 1 ≡ suc m = omega arith in
        let c : f + (n + 1) ≡ 512 = omega arith in (
          suc m,
          f,
          a,
          c,
          q ∙ path_next m id ei,
          ap₂ (λ (y : ℕ) (z : List Entry). chain_of f (btf_of b s w) y z) q (sym (chain_next m id ei))
              ∙ sym (chain_leads f id (chain_at b s w start m) (leads_on id (is_kind ∙ not-false l hl)))
              ∙ ec,
        )

    pub len_got : ChainLeft id n → n < 512 → not l ≡ true
        → (chain_is b s w start (Some (record { x = record { id = id; t = t }; n = n })) ≡ chain_of 512 (btf_of b s w) start []) × RecordIs b s w (Some (record { x = record { id = id; t = t }; n = n }))
    unfolding ChainLeft chain_is RecordIs
    len_got (m, zero, en, ef, ei, ec) h hl = absurd (omega arith)
    len_got (m, suc f, en, ef, ei, ec) h hl = (
      ap (λ (y : ℕ). got (base id ∷ chain_at b s w start y)) en
          ∙ sym (chain_ends f id (chain_at b s w start m) (link_ends b s (record_by_id b s w id) (is_kind ∙ not-true l hl)))
          ∙ ec,
      et,
    )

  pub len_deep : (id n : ℕ) → ChainLeft id n → 512 ≤ n → (chain_is b s w start None ≡ chain_of 512 (btf_of b s w) start []) × RecordIs b s w None
  unfolding ChainLeft chain_is RecordIs chain_of
  len_deep id n (m, zero, en, ef, ei, ec) h = (ec, tt)
  len_deep id n (m, suc f, en, ef, ei, ec) h = absurd (omega arith)

  -- ---- the top of a chain
  pub chain_top : (n : ℕ) → (n ≡ 0 → ⊥) → chain_at b s w start n ≡ entry_of b s w (path_at b s w start (n - 1)) ∷ chain_at b s w start (n - 1)
  chain_top n h = let q : n ≡ suc (n - 1) = omega arith in ap (chain_at b s w start) q ∙ sym (chain_next (n - 1) _ refl)

  pub chain_length : (n : ℕ) → length (chain_at b s w start n) ≡ n
  unfolding chain_at
  chain_length zero = refl
  chain_length (suc n) = ap suc (chain_length n)

  -- ---- qualifiers on top
  pub mods_none : no_mods (chain_at b s w start 0) ≡ chain_at b s w start 0
  unfolding no_mods chain_at
  mods_none = refl

  mods_stay : (n : ℕ) → is_qualifier (kind_at b s w start n) ≡ false → no_mods (chain_at b s w start (suc n)) ≡ chain_at b s w start (suc n)
  unfolding chain_at kind_at
  mods_stay n h = stays_on b s w (path_at b s w start n) _ refl (chain_at b s w start n) h

  mods_go : (n : ℕ) → is_qualifier (kind_at b s w start n) ≡ true → no_mods (chain_at b s w start (suc n)) ≡ no_mods (chain_at b s w start n)
  unfolding chain_at kind_at no_mods
  mods_go n h = ap (λ (x : Entry). no_mods (x ∷ chain_at b s w start n)) (entry_qual b s w (path_at b s w start n) _ refl h)

  words_none : (n : ℕ) → is_qualifier (kind_at b s w start n) ≡ false → mods (chain_at b s w start (suc n)) ≡ []
  unfolding chain_at kind_at
  words_none n h = no_words b s w (path_at b s w start n) _ refl (chain_at b s w start n) h

  words_go : (n : ℕ) → is_qualifier (kind_at b s w start n) ≡ true
      → mods (chain_at b s w start (suc n)) ≡ qualifier (qualifier_of (kind_at b s w start n)) ++ ascii " " ++ mods (chain_at b s w start n)
  unfolding chain_at kind_at mods
  words_go n h = ap (λ (x : Entry). mods (x ∷ chain_at b s w start n)) (entry_qual b s w (path_at b s w start n) _ refl h)

  -- ---- what skip_mods and emit_mods come to in the rules
  pub skip_go : (n : ℕ) → is_qualifier (kind_at b s w start n) ≡ true → skipped b s w start (suc n) ≡ skipped b s w start n
  unfolding skipped
  skip_go n h = ap length (mods_go n h)

  pub skip_stay : (n : ℕ) → is_qualifier (kind_at b s w start n) ≡ false → skipped b s w start (suc n) ≡ suc n
  unfolding skipped
  skip_stay n h = ap length (mods_stay n h) ∙ chain_length (suc n)

  pub skip_zero : skipped b s w start 0 ≡ 0
  unfolding skipped
  skip_zero = ap length mods_none ∙ chain_length 0

  pub skipped_le : (n : ℕ) → skipped b s w start n ≤ n
  skipped_le zero = let z = skip_zero in omega arith
  skipped_le (suc n) = go (is_qualifier (kind_at b s w start n)) refl (skipped_le n)
    where
      go : (q : Bool) → is_qualifier (kind_at b s w start n) ≡ q → skipped b s w start n ≤ n → skipped b s w start (suc n) ≤ suc n
      go true h l = let e = skip_go n h in omega arith
      go false h l = let e = skip_stay n h in omega arith

  -- what emit_mods, and an array, leave of a chain
  pub no_mods_skipped : (n : ℕ) → no_mods (chain_at b s w start n) ≡ chain_at b s w start (skipped b s w start n)
  no_mods_skipped zero = mods_none ∙ sym (ap (chain_at b s w start) skip_zero)
  no_mods_skipped (suc n) = go (is_qualifier (kind_at b s w start n)) refl (no_mods_skipped n)
    where
      go : (q : Bool) → is_qualifier (kind_at b s w start n) ≡ q → no_mods (chain_at b s w start n) ≡ chain_at b s w start (skipped b s w start n)
          → no_mods (chain_at b s w start (suc n)) ≡ chain_at b s w start (skipped b s w start (suc n))
      go true h l = mods_go n h ∙ l ∙ sym (ap (chain_at b s w start) (skip_go n h))
      go false h l = mods_stay n h ∙ sym (ap (chain_at b s w start) (skip_stay n h))

  down_zero : (m : ℕ) → mods_down b s w start m 0 ≡ []
  unfolding mods_down
  down_zero m = refl

  down_more : (m n : ℕ) → m < suc n → mods_down b s w start m (suc n) ≡ qualifier (qualifier_of (kind_at b s w start n)) ++ ascii " " ++ mods_down b s w start m n
  unfolding mods_down
  down_more m n h = rw (lt-ltb m (suc n) h, mods_down)

  down_end : (m n : ℕ) → n ≤ m → mods_down b s w start m n ≡ []
  unfolding mods_down
  down_end m zero h = refl
  down_end m (suc n) h = rw (le-ltb m (suc n) h, mods_down)

  mods_zero : mods (chain_at b s w start 0) ≡ []
  unfolding mods chain_at
  mods_zero = refl

  -- what emit_mods prints, down to the entries that stay
  pub mods_down_lem : (n : ℕ) → mods_down b s w start (skipped b s w start n) n ≡ mods (chain_at b s w start n)
  mods_down_lem zero = down_zero _ ∙ sym mods_zero
  mods_down_lem (suc n) = go (is_qualifier (kind_at b s w start n)) refl (mods_down_lem n)
    where
      go : (q : Bool) → is_qualifier (kind_at b s w start n) ≡ q → mods_down b s w start (skipped b s w start n) n ≡ mods (chain_at b s w start n)
          → mods_down b s w start (skipped b s w start (suc n)) (suc n) ≡ mods (chain_at b s w start (suc n))
      go true h l =
          let le = skipped_le n in
          let lt : skipped b s w start n < suc n = omega arith in
          ap (λ (m : ℕ). mods_down b s w start m (suc n)) (skip_go n h)
          ∙ down_more (skipped b s w start n) n lt
          ∙ ap (λ (x : List ℕ). qualifier (qualifier_of (kind_at b s w start n)) ++ ascii " " ++ x) l
          ∙ sym (words_go n h)
      go false h l =
          let e = skip_stay n h in
          down_end (skipped b s w start (suc n)) (suc n) (omega arith) ∙ sym (words_none n h)

  -- after emit_mods, where m entries stay
  pub put_mods : (t : List ℕ) (at r : Placed) (u : List ℕ) (m n : ℕ) → m ≡ skipped b s w start n → put_out r u ≡ put_text t at (whole (mods_down b s w start m n)) → put_out r u ≡ put_text t at (whole (mods (chain_at b s w start n)))
  put_mods t at r u m n e o = put_same t at _ _ r u (ap (λ (x : ℕ). mods_down b s w start x n) e ∙ mods_down_lem n) o

  -- ---- emit_mods' loop: what is left is the whole
  module _ (t₀ : List ℕ) (at : Placed) (m n : ℕ) (t : List ℕ) (p : Placed) (k : ℕ) (i : put_text t p (whole (mods_down b s w start m k)) ≡ put_text t₀ at (whole (mods_down b s w start m n))) where
    pub mods_end : k ≤ m → put_out p t ≡ put_text t₀ at (whole (mods_down b s w start m n))
    mods_end h = put_empty t p ∙ ap (λ (x : List ℕ). put_text t p (whole x)) (sym (down_end m k h)) ∙ i

    pub mods_turn : (j : ℕ) (x : Kind) (q : Placed) (t₁ : List ℕ) (r : Placed) (t₂ : List ℕ) → k ≡ suc j → m < k → x ≡ kind_at b s w start j
        → put_out q t₁ ≡ put_text t p (whole (qualifier (qualifier_of x))) → put_out r t₂ ≡ put_text t₁ q (whole (ascii " "))
        → put_text t₂ r (whole (mods_down b s w start m j)) ≡ put_text t₀ at (whole (mods_down b s w start m n))
    unfolding join
    mods_turn j x q t₁ r t₂ z h ex e₁ e₂ =
        let lt : m < suc j = omega arith in
        join_on t p (whole (qualifier (qualifier_of x) ++ ascii " ")) (whole (mods_down b s w start m j)) r t₂ (put_seq _ _ _ _ _ _ _ _ e₁ e₂)
        ∙ ap (λ (y : Kind). put_text t p (whole (qualifier (qualifier_of y) ++ ascii " " ++ mods_down b s w start m j))) ex
        ∙ ap (λ (y : List ℕ). put_text t p (whole y)) (sym (down_more m j lt) ∙ ap (mods_down b s w start m) (sym z))
        ∙ i
