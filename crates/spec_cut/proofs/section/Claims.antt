-- The theorem on sections cut down, over the definitions of specs/. Assumes nothing.
use Prim.Native.Nat.{ℕ, zero, suc, ◌<◌, ◌≤◌}
use native.Mathlib.Omega.{arith}
use mathlib.Core.Path.{◌≡◌, refl, sym, ◌∙◌, ap, subst}
use mathlib.Core.Bool.{Bool, true, false, true≢false}
use mathlib.Core.List.{List, Memᴰ}
use lib.ListN.{length, get_or}
use Rattle.spec_linux_btf.specs.Documentation.{int, ptr, array, struct, union, enum, fwd, typedef, volatile, const, restrict, func, func_proto, var, datasec, float, decl_tag, type_tag, enum64, Described, described}
use Rattle.spec_linux_btf.specs.Section.{string_area}
use Rattle.spec_c_dumper.specs.rules.Types.{Btf as Rules, table_of}
use Rattle.spec_c_dumper.specs.rules.Names.{Names}
use Rattle.spec_c_dumper.specs.rules.Machine.{Sess, Req, single}
use Rattle.spec_type_table.specs.declared.types.TypeTable.{TypeTable}
use Rattle.spec_type_table.specs.Names.{name_at, str_at}
use Rattle.spec_c_dumper.specs.needs.Lists.{Ls}
use Rattle.spec_c_dumper.specs.needs.Session.{Known, machine, opened, dump_types}
use Rattle.spec_cut.specs.section.Kept.{followed_ids, void_type, type_of, Reached, onward, is_decl_tag, third, Kept, reached, its_tag, Tells}
use Rattle.spec_cut.specs.section.Renumbered.{kept_to}
use Rattle.spec_cut.specs.section.Strings.{mentions, all_mentions, first_names}
use Rattle.spec_cut.specs.section.Section.{types_of, old_types, new_names, new_offset, new_types, new_strings}
use Rattle.spec_cut.specs.section.Stands.{with_types, Stands, Renumbered}
use Rattle.spec_cut.specs.section.Table.{Reads}
use Rattle.spec_cut.proofs.section.Numbers.{Stays, is_void, is_kept_lem, type_at, new_below, new_kept}
use Rattle.spec_cut.proofs.section.Names.{all_has, mention_in, name_no_zero, name_placed, place_below}
use Rattle.spec_cut.proofs.section.Tables.{Number, cut_stands}
use Rattle.spec_cut.proofs.section.Steps.{BothSess, BothAnswer}
use Rattle.spec_cut.proofs.section.Sessions.{SameState, opened_same, request_same, same_dump}

tag_follows : (t : Described) → is_decl_tag t ≡ true → (y : ℕ) → Memᴰ y (followed_ids t) → ⊥
tag_follows (described n f z (int v a c d e g)) h y k = true≢false (sym h)
tag_follows (described n f z (ptr v)) h y k = true≢false (sym h)
tag_follows (described n f z (array v t i j)) h y k = true≢false (sym h)
tag_follows (described n f z (struct ms)) h y k = true≢false (sym h)
tag_follows (described n f z (union ms)) h y k = true≢false (sym h)
tag_follows (described n f z (enum es)) h y k = true≢false (sym h)
tag_follows (described n f z (fwd v)) h y k = true≢false (sym h)
tag_follows (described n f z (typedef v)) h y k = true≢false (sym h)
tag_follows (described n f z (volatile v)) h y k = true≢false (sym h)
tag_follows (described n f z (const v)) h y k = true≢false (sym h)
tag_follows (described n f z (restrict v)) h y k = true≢false (sym h)
tag_follows (described n f z (func v)) h y k = true≢false (sym h)
tag_follows (described n f z (func_proto ps)) h y k = true≢false (sym h)
tag_follows (described n f z (var v l)) h y k = true≢false (sym h)
tag_follows (described n f z (datasec ss)) h y k = true≢false (sym h)
tag_follows (described n f z (float v)) h y k = true≢false (sym h)
tag_follows (described n f z (decl_tag v c)) h y k = mathlib.Core.List.Memᴰ.not-nil k
tag_follows (described n f z (type_tag v)) h y k = true≢false (sym h)
tag_follows (described n f z (enum64 es)) h y k = true≢false (sym h)

-- not cause 6 of opening, of described types: a followed id is below the count, and of no kind that is not followed (here: no DECL_TAG)
pub record GoodReferences (ts : List Described) : Type 0 where
  pub below : (x y : ℕ) → Memᴰ y (followed_ids (type_of ts x)) → y ≤ length ts
  pub no_tags : (x y : ℕ) → Memᴰ y (followed_ids (type_of ts x)) → is_decl_tag (type_of ts y) ≡ false

module _ (ts : List Described) (given : List ℕ) (m : ℕ → Bool) (tells : Tells ts given m) where
  stays_if : (y : ℕ) → Kept ts given y → Stays m y
  stays_if zero k = is_void
  stays_if (suc i) k = is_kept_lem i ((tells (suc i)).1 k)

  -- what a kept type follows is kept
  pub kept_closed : GoodReferences ts → (x : ℕ) → Stays m x → x ≤ length ts → (y : ℕ) → Memᴰ y (followed_ids (type_of ts x)) → Stays m y × (y ≤ length ts) × (is_decl_tag (type_of ts y) ≡ false)
  kept_closed g _ is_void l y k = absurd (mathlib.Core.List.Memᴰ.not-nil k)
  kept_closed g _ (is_kept_lem i e) l y k = (go ((tells (suc i)).0 e), g.below (suc i) y k, g.no_tags (suc i) y k)
    where
      go : Kept ts given (suc i) → Stays m y
      go (reached r) = stays_if y (reached (onward r k))
      go (its_tag t r nz nt) = absurd (tag_follows (type_of ts (suc i)) t y k)

  -- the tags on what is kept, tags of tags and of void excepted, are kept
  pub kept_tags : (i : ℕ) → i < length ts → is_decl_tag (get_or ts i void_type) ≡ true → Stays m (third (get_or ts i void_type)) → (third (get_or ts i void_type) ≡ 0 → ⊥)
      → is_decl_tag (type_of ts (third (get_or ts i void_type))) ≡ false → m (suc i) ≡ true
  kept_tags i l t st nz nt = (tells (suc i)).1 (its_tag t (go (third (get_or ts i void_type)) st nz nt) nz nt)
    where
      by : (x : ℕ) → is_decl_tag (type_of ts x) ≡ false → Kept ts given x → Reached ts given x
      by x q (reached r) = r
      by x q (its_tag h r a c) = absurd (true≢false (sym h ∙ q))

      go : (x : ℕ) → Stays m x → (x ≡ 0 → ⊥) → is_decl_tag (type_of ts x) ≡ false → Reached ts given x
      go _ is_void a q = absurd (a refl)
      go _ (is_kept_lem j e) a q = by (suc j) q ((tells (suc j)).0 e)

-- The names that a kept type mentions are the same in the new strings. b, b': headers; the last two say that names stand in the string areas.
module _ (m : ℕ → Bool) (s s' : List ℕ) (b b' : TypeTable)
    (in_area_lem : (n : ℕ) → Memᴰ n (all_mentions (old_types m s)) → str_at b s n ≡ name_at (string_area s) n)
    (in_new : (n : ℕ) → n < length (new_strings m s) → str_at b' s' n ≡ name_at (new_strings m s) n) where
  pub same_names : (i : ℕ) → i < length (types_of s) → m (suc i) ≡ true → (n : ℕ) → Memᴰ n (mentions (get_or (types_of s) i void_type)) → str_at b s n ≡ str_at b' s' (new_offset m s n)
  same_names i l e n k =
      let ml : kept_to m i < length (old_types m s) = omega (arith, new_below m (types_of s) (suc i) (is_kept_lem i e) (omega (arith, l)), new_kept m i e) in
      let mn : Memᴰ n (all_mentions (old_types m s)) = mention_in (old_types m s) (kept_to m i) void_type ml n (subst (λ (t : Described). Memᴰ n (mentions t)) (sym (type_at m i (types_of s) void_type l e)) k) in
      let h = all_has (string_area s) (all_mentions (old_types m s)) first_names n mn in
      in_area_lem n mn ∙ sym (in_new (new_offset m s n) (place_below (new_names m s) (name_at (string_area s) n) h) ∙ name_placed (new_names m s) (name_at (string_area s) n) (name_no_zero (string_area s) n) h)

-- THE THEOREM. m tells which ids are kept of the section s for the given ids; B is its table and B' that of the new types, under the same settings.
-- "the new section gives for the renumbered requests the same text and refusals as the old": the numbers, the text's length after each request and the
-- text are equal, for all lists of requests for kept ids, each lent the same room, with the names of the Rust ("the old naming mode", "a new ledger").
module _ (given : List ℕ) (m : ℕ → Bool) (s s' : List ℕ) (b b' : TypeTable) (B B' : Rules) (tells : Tells (types_of s) given m) (good : GoodReferences (types_of s))
    (old : Reads B b s (types_of s)) (cut : Reads B' b' s' (new_types m s))
    (in_area_lem : (n : ℕ) → Memᴰ n (all_mentions (old_types m s)) → str_at b s n ≡ name_at (string_area s) n)
    (in_new : (n : ℕ) → n < length (new_strings m s) → str_at b' s' n ≡ name_at (new_strings m s) n)
    (same_pointer : B.ptr_sz ≡ B'.ptr_sz) (same_union : B.union_as_struct ≡ B'.union_as_struct) (same_strong : B.strong_arrays ≡ B'.strong_arrays) (same_placing : B.placing ≡ B'.placing) where
  abbrev pub NewNumber : ℕ → ℕ → Type 0
  NewNumber x x' = Number m (new_offset m s) (types_of s) B B' b b' s s' old cut (kept_closed (types_of s) given m tells good) (kept_tags (types_of s) given m tells) (same_names m s s' b b' in_area_lem in_new) x x'

  pub stands : Stands B B'.type_cnt B'.type_by_id B'.decl_tags NewNumber
  stands = cut_stands m (new_offset m s) (types_of s) B B' b b' s s' old cut (kept_closed (types_of s) given m tells good) (kept_tags (types_of s) given m tells) (same_names m s s' b b' in_area_lem in_new)

  settings : with_types B B'.type_cnt B'.type_by_id B'.decl_tags ≡ B'
  settings i = record {
    ptr_sz = same_pointer i;
    union_as_struct = same_union i;
    strong_arrays = same_strong i;
    placing = same_placing i;
    type_cnt = B'.type_cnt;
    type_by_id = B'.type_by_id;
    decl_tags = B'.decl_tags;
  }

  pub same_answers : {rs rs' : List Req} → Renumbered NewNumber rs rs' → dump_types B rs ≡ dump_types B' rs'
  same_answers {rs} {rs'} r = same_dump B B'.type_cnt B'.type_by_id B'.decl_tags NewNumber stands r ∙ ap (λ (C : Rules). dump_types C rs') settings

  -- the same, request by request: two sessions of the rules that go alike
  abbrev pub SameStates : Ls (Known Names) → Ls (Known Names) → Type 0
  SameStates t t' = SameState B B'.type_cnt B'.type_by_id B'.decl_tags NewNumber stands t t'

  abbrev pub Alike : Sess (Ls (Known Names)) → Sess (Ls (Known Names)) → Type 0
  Alike S S' = BothSess SameStates NewNumber S S'

  pub opened_alike : Alike (opened B) (opened B')
  opened_alike = subst (λ (C : Rules). Alike (opened B) (opened C)) settings (opened_same B B'.type_cnt B'.type_by_id B'.decl_tags NewNumber stands)

  pub request_alike : (S S' : Sess (Ls (Known Names))) → Alike S S' → (room x x' : ℕ) → NewNumber x x'
      → BothAnswer SameStates NewNumber (single (machine B) (table_of B) room S x) (single (machine B') (table_of B') room S' x')
  request_alike S S' h room x x' i =
      subst (λ (C : Rules). BothAnswer SameStates NewNumber (single (machine B) (table_of B) room S x) (single (machine C) (table_of C) room S' x')) settings
      (request_same B B'.type_cnt B'.type_by_id B'.decl_tags NewNumber stands S S' h room x x' i)
