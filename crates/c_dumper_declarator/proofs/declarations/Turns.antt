-- A loop of the rules is its first turn and then the rest; the three with a depth, unrolled. Assumes nothing.
use Prim.Native.Nat.{ℕ, zero, suc, ◌+◌, ◌-◌, ◌≤◌}
use mathlib.Core.Path.{◌≡◌, refl, ap, ◌∙◌, sym}
use mathlib.Core.Bool.{Bool, true, false}
use mathlib.Core.List.{List, [], ◌∷◌}
use native.Mathlib.Omega.{arith}
use lib.ListN.{length}
use Rattle.spec_bytes.specs.text.Text.{ascii, pfx}
use Rattle.spec_c_dumper.specs.rules.Writer.{Ask, got, no, Writer, ◌⨾◌, put, stop, nothing, given}
use Rattle.spec_c_dumper.specs.rules.Types.{Name, Member, Param, BtfType, Void, Int, Ptr, Array, Composite, Enum, Enum64, Fwd, Typedef, Mod, Func, Var, Datasec, FuncProto, Float, DeclTag, TypeTag, Btf}
use Rattle.spec_c_dumper.specs.rules.Names.{Naming}
use Rattle.spec_c_dumper.specs.rules.Layout.{Pad, end_of}
use Rattle.spec_c_dumper.specs.rules.Decl.{Entry, base, star, qual, array, proto, tag, no_mods, no_params, emit_name, pads, bit_size_of, emit_decl_tags, emit_params, chain_of, base_word, chain_loop}
use Rattle.spec_c_dumper.specs.alignment_once.Writers.{Asks, given_once, emit_members_once, composite_def_once, emit_type_decl_once, emit_type_chain_once, emit_composite_def_once}
use Rattle.spec_c_dumper.proofs.rules.Chains.{no_mods_length}
use Rattle.c_dumper_bodies.specs.bodies.Pieces.{entry_left, entry_star, entry_named, star_text, word_below, loop_below, entry_text, chain_rest, param_text, member_tail, member_text, members_below, end_from, comma}
use Rattle.c_dumper_declarator.proofs.declarations.Sequences.{then_assoc, then_nothing, stop_then}

module _ {U : Type 0} (Q : Asks U) (N : Naming U) (B : Btf) (below : ℕ) (fname : Name) (lvl : ℕ) where
  -- the loop ends by itself: any number of turns that is no less than the entries gives the same
  loop_enough : (f g : ℕ) (p : Bool) (c : List Entry) → length c ≤ f → length c ≤ g → loop_below Q N B below fname lvl f p c ≡ loop_below Q N B below fname lvl g p c
  unfolding chain_loop
  loop_enough zero zero p c h k = refl
  loop_enough zero (suc g) p [] h k = refl
  loop_enough zero (suc g) p (e ∷ c) h k = absurd (omega arith)
  loop_enough (suc f) zero p [] h k = refl
  loop_enough (suc f) zero p (e ∷ c) h k = absurd (omega arith)
  loop_enough (suc f) (suc g) p [] h k = refl
  loop_enough (suc f) (suc g) p (base id ∷ c) h k =
      let l : length (no_mods c) ≤ length c = no_mods_length c in
      ap (◌⨾◌ _) (ap (◌⨾◌ _) (loop_enough f g false (no_mods c) (omega arith) (omega arith)))
  loop_enough (suc f) (suc g) p (star ∷ c) h k = ap (◌⨾◌ _) (loop_enough f g true c (omega arith) (omega arith))
  loop_enough (suc f) (suc g) p (qual q ∷ c) h k = ap (◌⨾◌ _) (loop_enough f g false c (omega arith) (omega arith))
  loop_enough (suc f) (suc g) p (array n ∷ c) h k = refl
  loop_enough (suc f) (suc g) p (proto ps ∷ c) h k = refl
  loop_enough (suc f) (suc g) p (tag a n ∷ c) h k =
      let l : length (no_mods c) ≤ length c = no_mods_length c in
      ap (◌⨾◌ _) (ap (◌⨾◌ _) (loop_enough f g false (no_mods c) (omega arith) (omega arith)))

  -- a chain with an entry on top: what the entry prints, then what is left
  pub chain_turn : (p : Bool) (e : Entry) (c : List Entry)
      → chain_rest Q N B below fname lvl false p (e ∷ c) ≡ entry_text Q N B below fname lvl p (e ∷ c) ⨾ chain_rest Q N B below fname lvl (entry_named (e ∷ c)) (entry_star (e ∷ c)) (entry_left (e ∷ c))
  unfolding chain_rest chain_loop entry_text entry_named entry_star entry_left star_text
  chain_turn p (base id) c =
      sym (then_assoc _ _ _) ∙ ap (◌⨾◌ _) (loop_enough (length c) (length (no_mods c)) false (no_mods c) (no_mods_length c) (omega arith))
  chain_turn p star c = refl
  chain_turn p (qual q) c = refl
  chain_turn p (array k) c = sym (then_nothing _)
  chain_turn p (proto ps) c = sym (then_nothing _)
  chain_turn p (tag a name) c =
      sym (then_assoc _ _ _) ∙ ap (◌⨾◌ _) (loop_enough (length c) (length (no_mods c)) false (no_mods c) (no_mods_length c) (omega arith))

  -- no entry left: the name, unless it stands
  pub chain_done : (p : Bool) → chain_rest Q N B below fname lvl false p [] ≡ emit_name fname p
  unfolding chain_rest chain_loop
  chain_done p = refl

  pub chain_named : (p : Bool) (c : List Entry) → chain_rest Q N B below fname lvl true p c ≡ nothing
  unfolding chain_rest
  chain_named p c = refl

  -- the base's own words say nothing of the declared name
  pub word_any : (id : ℕ) (t : BtfType)
      → base_word N B (emit_type_decl_once Q N B below) (emit_type_chain_once Q N B below) (emit_composite_def_once Q N B below) fname lvl id t ≡ word_below Q N B below lvl id t
  unfolding base_word
  word_any id Void = refl
  word_any id (Int n b) = refl
  word_any id (Ptr t) = refl
  word_any id (Array t k) = refl
  word_any id (Composite s n z ms) = refl
  word_any id (Enum s n z vs) = refl
  word_any id (Enum64 s n z vs) = refl
  word_any id (Fwd u n) = refl
  word_any id (Typedef n t) = refl
  word_any id (Mod q t) = refl
  word_any id (Func n) = refl
  word_any id (Var n) = refl
  word_any id (Datasec n) = refl
  word_any id (FuncProto r ps) = refl
  word_any id (Float n z) = refl
  word_any id (DeclTag a n t k) = refl
  word_any id (TypeTag a n t) = refl

-- a parameter and those after it
pub params_turn : {U : Type 0} → (decl : ℕ → Name → Writer U) (first : Bool) (p : Param) (ps : List Param)
    → emit_params decl first (p ∷ ps) ≡ param_text decl first p (no_params ps) ⨾ emit_params decl false ps
unfolding emit_params param_text comma
params_turn decl first p ps = sym (then_assoc _ _ _)

module _ {U : Type 0} (Q : Asks U) (N : Naming U) (B : Btf) (below : ℕ) (id : ℕ) where
  tail_then : (i : ℕ) (m : Member) (k : ℕ → Writer U) (a : Ask ℕ) → end_of B m ≡ a
      → given a (λ end. emit_decl_tags B id i ⨾ put (ascii ";") ⨾ k end) ≡ given a (λ end. emit_decl_tags B id i ⨾ put (ascii ";")) ⨾ k (end_from a)
  unfolding given end_from
  tail_then i m k (got end) e = sym (then_assoc _ _ _)
  tail_then i m k (no c) e = sym (stop_then c _)

  -- a member and those after it
  pub members_turn : (tail : ℕ → List Pad) (lvl : ℕ) (packed : Bool) (i offset : ℕ) (m : Member) (ms : List Member)
      → members_below Q N B below id tail lvl packed i offset (m ∷ ms) ≡ member_text Q N B below id lvl packed i offset m ⨾ members_below Q N B below id tail lvl packed (i + 1) (end_from (end_of B m)) ms
  unfolding emit_members_once member_text member_tail
  members_turn tail lvl packed i offset m ms =
      ap (λ (w : Writer U). given_once (Q.padding offset m packed) (λ ps. put (pads lvl ps)) ⨾ put (ascii "\n") ⨾ put (pfx lvl) ⨾ emit_type_decl_once Q N B below m.type_id m.name lvl ⨾ put (bit_size_of m) ⨾ w)
      (tail_then i m (λ end. members_below Q N B below id tail lvl packed (i + 1) end ms) (end_of B m) refl)
      ∙ sym (then_assoc _ _ _ ∙ ap (◌⨾◌ _) (then_assoc _ _ _ ∙ ap (◌⨾◌ _) (then_assoc _ _ _ ∙ ap (◌⨾◌ _) (then_assoc _ _ _ ∙ ap (◌⨾◌ _) (then_assoc _ _ _)))))

-- ---- the three, unrolled
module _ {U : Type 0} (Q : Asks U) (N : Naming U) (B : Btf) where
  pub decl_none : (left id : ℕ) (fname : Name) (lvl : ℕ) → left ≡ 0 → emit_type_decl_once Q N B left id fname lvl ≡ stop 12
  unfolding emit_type_decl_once
  decl_none left id fname lvl e = rw e

  pub chain_none : (left : ℕ) (c : List Entry) (fname : Name) (lvl : ℕ) → left ≡ 0 → emit_type_chain_once Q N B left c fname lvl ≡ stop 12
  unfolding emit_type_chain_once
  chain_none left c fname lvl e = rw e

  pub def_none : (left id : ℕ) (is_struct : Bool) (name : Name) (sz : ℕ) (ms : List Member) (lvl : ℕ) → left ≡ 0 → emit_composite_def_once Q N B left id is_struct name sz ms lvl ≡ stop 12
  unfolding emit_composite_def_once
  def_none left id is_struct name sz ms lvl e = rw e

  pub decl_some : (left id : ℕ) (fname : Name) (lvl : ℕ) → (left ≡ 0 → ⊥)
      → emit_type_decl_once Q N B left id fname lvl ≡ given (chain_of 512 B id []) (λ c. emit_type_chain_once Q N B (left - 1) c fname lvl)
  unfolding emit_type_decl_once
  decl_some left id fname lvl h = let e : left ≡ suc (left - 1) = omega arith in ap (λ (n : ℕ). emit_type_decl_once Q N B n id fname lvl) e

  pub chain_some : (left : ℕ) (c : List Entry) (fname : Name) (lvl : ℕ) → (left ≡ 0 → ⊥)
      → emit_type_chain_once Q N B left c fname lvl ≡ chain_rest Q N B (left - 1) fname lvl false true c
  unfolding emit_type_chain_once chain_rest
  chain_some left c fname lvl h = let e : left ≡ suc (left - 1) = omega arith in ap (λ (n : ℕ). emit_type_chain_once Q N B n c fname lvl) e

  pub def_some : (left id : ℕ) (is_struct : Bool) (name : Name) (sz : ℕ) (ms : List Member) (lvl : ℕ) → (left ≡ 0 → ⊥)
      → emit_composite_def_once Q N B left id is_struct name sz ms lvl ≡ composite_def_once Q N B (emit_type_decl_once Q N B (left - 1)) id is_struct name sz ms lvl
  unfolding emit_composite_def_once
  def_some left id is_struct name sz ms lvl h = let e : left ≡ suc (left - 1) = omega arith in ap (λ (n : ℕ). emit_composite_def_once Q N B n id is_struct name sz ms lvl) e
