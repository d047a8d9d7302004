-- The parts of emitters keep what is seen of the work beside names: the table and the chains. Assumes nothing.
use Prim.Native.Nat.{ℕ}
use mathlib.Core.Path.{◌≡◌, ap, ◌∙◌, sym}
use mathlib.Core.Bool.{Bool}
use mathlib.Core.List.{List, [], ◌∷◌}
use Rattle.spec_bytes.specs.text.Text.{whole}
use Rattle.spec_bytes.specs.text.Placed.{put_out, put_text, Placed}
use Rattle.spec_c_dumper.specs.rules.Writer.{Ask, got, no, Writer, put, given}
use Rattle.spec_c_dumper.specs.rules.Types.{Name, Member, Param, BtfType, Btf as Rules}
use Rattle.spec_c_dumper.specs.rules.Names.{Naming}
use Rattle.spec_c_dumper.specs.rules.Layout.{end_of}
use Rattle.spec_c_dumper.specs.rules.Decl.{Entry, base, star, qual, array, proto, tag, no_mods, pads, emit_name, base_word}
use Rattle.spec_c_dumper.specs.rules.Place.{out_of, put_said}
use Rattle.spec_c_dumper.proofs.rules.Writing.{put_only, said_alike}
use Rattle.spec_c_dumper.proofs.rules.Keeps.{Keeps, keeps_put, keeps_stop, keeps_then, keeps_emit_param, keeps_base_word, keeps_emit_array, keeps_emit_proto, keeps_param_list}
use Rattle.spec_c_dumper.specs.alignment_once.Writers.{Asks, given_once, emit_type_decl_once, emit_type_chain_once, emit_composite_def_once}
use Rattle.spec_c_dumper.proofs.alignment_once.Keeps.{keeps_asked, keeps_decl, keeps_chain, keeps_composite}
use Rattle.btf_layout.specs.asked.Asked.{work_asks}
use Rattle.spec_type_table.specs.declared.types.TypeTable.{TypeTable}
use Rattle.spec_type_table.specs.Table.{btf_of, work_naming}
use Rattle.c_dumper_name_versions.specs.names.Spelling.{name_after}
use Rattle.c_dumper_name_versions.proofs.names.Spellings.{emit_name_is}
use Rattle.c_dumper_bodies.specs.bodies.Pieces.{array_below, proto_below, param_list_below, entry_text, param_text, member_tail, member_text}
use Rattle.c_dumper_declarator.proofs.declarations.Kept.{seen, keeps_type, keeps_value, keeps_padding, keeps_body}

-- the same writer, said in another way
pub said_as : {U : Type 0} → (t : List ℕ) (at : Placed) (v w : Writer U) (u : U) (r : Placed) (t' : List ℕ) (u' : U) → v ≡ w → out_of r t' u' ≡ put_said t at v u → out_of r t' u' ≡ put_said t at w u
said_as t at v w u r t' u' e o = o ∙ ap (λ x. put_said t at x u) e

-- a name, after a star or not
pub put_emit_name : {U : Type 0} → (t : List ℕ) (at : Placed) (fname : Name) (p : Bool) (u : U) (r : Placed) (t' : List ℕ) → put_out r t' ≡ put_text t at (whole (name_after fname p)) → out_of r t' u ≡ put_said t at (emit_name fname p) u
put_emit_name t at fname p u r t' e = put_only _ t at (name_after fname p) u r t' e ∙ said_alike _ t at _ _ u (sym (emit_name_is fname p u))

module _ (b : TypeTable) (s : List ℕ) where
  abbrev pub N : Naming (List ℕ)
  N = work_naming b

  abbrev pub Q : Rules → Asks (List ℕ)
  Q B = work_asks b.types B

  abbrev pub T : List ℕ → Rules
  T w = btf_of b s w

  -- ---- what is kept
  abbrev pub KeptBy : Writer (List ℕ) → Type 0
  KeptBy v = Keeps (seen b s) v

  pub kept_decl : (B : Rules) (left id : ℕ) (fname : Name) (lvl : ℕ) → KeptBy (emit_type_decl_once (Q B) N B left id fname lvl)
  kept_decl B left id fname lvl = keeps_decl (Q B) N (seen b s) (keeps_type b s) (keeps_value b s) (keeps_padding b s B) (keeps_body b s B) B left id fname lvl

  pub kept_chain : (B : Rules) (left : ℕ) (c : List Entry) (fname : Name) (lvl : ℕ) → KeptBy (emit_type_chain_once (Q B) N B left c fname lvl)
  kept_chain B left c fname lvl = keeps_chain (Q B) N (seen b s) (keeps_type b s) (keeps_value b s) (keeps_padding b s B) (keeps_body b s B) B left c fname lvl

  pub kept_def : (B : Rules) (left id : ℕ) (is_struct : Bool) (name : Name) (sz : ℕ) (ms : List Member) (lvl : ℕ) → KeptBy (emit_composite_def_once (Q B) N B left id is_struct name sz ms lvl)
  kept_def B left id is_struct name sz ms lvl = keeps_composite (Q B) N (seen b s) (keeps_type b s) (keeps_value b s) (keeps_padding b s B) (keeps_body b s B) B left id is_struct name sz ms lvl

  module _ (B : Rules) (below : ℕ) (fname : Name) (lvl : ℕ) where
    pub kept_word : (id : ℕ) (t : BtfType) → KeptBy (base_word N B (emit_type_decl_once (Q B) N B below) (emit_type_chain_once (Q B) N B below) (emit_composite_def_once (Q B) N B below) fname lvl id t)
    kept_word id t = keeps_base_word N (seen b s) (keeps_type b s) (keeps_value b s) B (emit_type_decl_once (Q B) N B below) (kept_decl B below) (emit_type_chain_once (Q B) N B below) (kept_chain B below) (emit_composite_def_once (Q B) N B below) (kept_def B below) fname lvl id t

    pub kept_array : (p : Bool) (c : List Entry) → KeptBy (array_below (Q B) N B below fname lvl p c)
    kept_array p c = keeps_emit_array N (seen b s) (keeps_type b s) (keeps_value b s) B (emit_type_decl_once (Q B) N B below) (kept_decl B below) (emit_type_chain_once (Q B) N B below) (kept_chain B below) (emit_composite_def_once (Q B) N B below) (kept_def B below) fname lvl p c

    pub kept_proto : (p : Bool) (c : List Entry) → KeptBy (proto_below (Q B) N B below fname lvl p c)
    kept_proto p c = keeps_emit_proto N (seen b s) (keeps_type b s) (keeps_value b s) B (emit_type_decl_once (Q B) N B below) (kept_decl B below) (emit_type_chain_once (Q B) N B below) (kept_chain B below) (emit_composite_def_once (Q B) N B below) (kept_def B below) fname lvl p c

    pub kept_params : (ps : List Param) → KeptBy (param_list_below (Q B) N B below fname lvl ps)
    kept_params ps = keeps_param_list N (seen b s) (keeps_type b s) (keeps_value b s) B (emit_type_decl_once (Q B) N B below) (kept_decl B below) (emit_type_chain_once (Q B) N B below) (kept_chain B below) (emit_composite_def_once (Q B) N B below) (kept_def B below) fname lvl ps

    pub kept_entry : (p : Bool) (c : List Entry) → KeptBy (entry_text (Q B) N B below fname lvl p c)
    unfolding entry_text
    kept_entry p [] = keeps_put (seen b s) []
    kept_entry p (base id ∷ c) = keeps_then (seen b s) _ _ (keeps_put (seen b s) _) (kept_word id (B.type_by_id id))
    kept_entry p (star ∷ c) = keeps_put (seen b s) _
    kept_entry p (qual q ∷ c) = keeps_put (seen b s) _
    kept_entry p (array k ∷ c) = keeps_then (seen b s) _ _ (kept_array p (no_mods c)) (keeps_put (seen b s) _)
    kept_entry p (proto ps ∷ c) = keeps_then (seen b s) _ _ (keeps_put (seen b s) _) (keeps_then (seen b s) _ _ (kept_proto p (no_mods c)) (kept_params ps))
    kept_entry p (tag a n ∷ c) = keeps_then (seen b s) _ _ (keeps_put (seen b s) _) (keeps_put (seen b s) _)

  pub kept_given : {A : Type 0} → (a : Ask A) (k : A → Writer (List ℕ)) → ((x : A) → KeptBy (k x)) → KeptBy (given a k)
  unfolding given
  kept_given (got x) k h = h x
  kept_given (no c) k h = keeps_stop (seen b s) c

  pub kept_param : (B : Rules) (below lvl : ℕ) (first : Bool) (p : Param) (is_last : Bool) → KeptBy (param_text (λ id name. emit_type_decl_once (Q B) N B below id name lvl) first p is_last)
  unfolding param_text
  kept_param B below lvl first p is_last =
      keeps_then (seen b s) _ _ (keeps_put (seen b s) _) (keeps_emit_param N (seen b s) (keeps_type b s) (keeps_value b s) (λ id name. emit_type_decl_once (Q B) N B below id name lvl) (λ id name. kept_decl B below id name lvl) p is_last)

  pub kept_tail : (B : Rules) (id i : ℕ) (m : Member) → KeptBy (member_tail B id i m)
  unfolding member_tail
  kept_tail B id i m = keeps_then (seen b s) _ _ (keeps_put (seen b s) _) (kept_given (end_of B m) _ (λ x. keeps_then (seen b s) _ _ (keeps_put (seen b s) _) (keeps_put (seen b s) _)))

  pub kept_pads : (B : Rules) (lvl : ℕ) (packed : Bool) (offset : ℕ) (m : Member) → KeptBy (given_once ((Q B).padding offset m packed) (λ ps. put (pads lvl ps)))
  kept_pads B lvl packed offset m = keeps_asked (seen b s) ((Q B).padding offset m packed) _ (keeps_padding b s B offset m packed) (λ ps. keeps_put (seen b s) _)

  pub kept_member : (B : Rules) (below id lvl : ℕ) (packed : Bool) (i offset : ℕ) (m : Member) → KeptBy (member_text (Q B) N B below id lvl packed i offset m)
  unfolding member_text
  kept_member B below id lvl packed i offset m =
      keeps_then (seen b s) _ _ (kept_pads B lvl packed offset m)
      (keeps_then (seen b s) _ _ (keeps_put (seen b s) _)
      (keeps_then (seen b s) _ _ (keeps_put (seen b s) _)
      (keeps_then (seen b s) _ _ (kept_decl B below m.type_id m.name lvl) (kept_tail B id i m))))
