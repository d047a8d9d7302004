-- The loops of the rules (Decl, and crates/spec_c_dumper/specs/alignment_once/Writers) turn by turn: what one entry of a chain, one
-- parameter, one member prints, and what stands
-- after it. That a loop is its first turn and then the rest is proved (crates/c_dumper_declarator/proofs/declarations/Turns.antt); only
-- private functions promise
-- what is defined here.
use Rattle.std.specs.Prelude.{ℕ, Bool, true, false, not, ◌&&◌, List, [], ◌∷◌, ◌++◌, length, eqb}
use Rattle.spec_bytes.specs.text.Text.{ascii, pfx}
use Rattle.spec_bytes.specs.text.Decimal.{decimal}
use Rattle.spec_c_dumper.specs.rules.Writer.{Ask, got, no, Writer, ◌⨾◌, put, nothing, given}
use Rattle.spec_c_dumper.specs.rules.Types.{Name, is_empty, Member, Param, Enumerator, BtfType, Btf}
use Rattle.spec_c_dumper.specs.rules.Names.{Naming}
use Rattle.spec_c_dumper.specs.rules.Layout.{Pad, end_of}
use Rattle.spec_c_dumper.specs.rules.Decl.{Entry, base, star, qual, array, proto, tag, mods, no_mods, qualifier, attribute, brackets, pads}
use Rattle.spec_c_dumper.specs.rules.Decl.{bit_size_of, emit_decl_tags, emit_enum_def, enum_word, emit_param, emit_params, base_word}
use Rattle.spec_c_dumper.specs.rules.Decl.{emit_array}
use Rattle.spec_c_dumper.specs.rules.Decl.{emit_proto, param_list, chain_loop}
use Rattle.spec_c_dumper.specs.alignment_once.Writers.{Asks, given_once, emit_members_once, emit_type_decl_once, emit_type_chain_once}
use Rattle.spec_c_dumper.specs.alignment_once.Writers.{emit_composite_def_once}

-- ---- the chain: the entry on top of it

-- what is left of the entries
unfoldable pub entry_left : List Entry → List Entry
entry_left [] = []
entry_left (base id ∷ c) = no_mods c
entry_left (star ∷ c) = c
entry_left (qual q ∷ c) = c
entry_left (array k ∷ c) = []
entry_left (proto ps ∷ c) = []
entry_left (tag a name ∷ c) = no_mods c

-- whether it was a star
unfoldable pub entry_star : List Entry → Bool
entry_star [] = false
entry_star (base id ∷ c) = false
entry_star (star ∷ c) = true
entry_star (qual q ∷ c) = false
entry_star (array k ∷ c) = false
entry_star (proto ps ∷ c) = false
entry_star (tag a name ∷ c) = false

-- whether the declared name stands with it: an array and a prototype print all that is left
unfoldable pub entry_named : List Entry → Bool
entry_named [] = false
entry_named (base id ∷ c) = false
entry_named (star ∷ c) = false
entry_named (qual q ∷ c) = false
entry_named (array k ∷ c) = true
entry_named (proto ps ∷ c) = true
entry_named (tag a name ∷ c) = false

-- ---- words between names

-- a space before a name that follows no star, where the chain that is left goes before an array's brackets
unfoldable pub gap : Name → Bool → List ℕ
gap fname last_was_ptr = elim (not (is_empty fname) && not last_was_ptr) [ true ↦ ascii " " | false ↦ [] ]

-- a star, after another star or not
unfoldable pub star_text : Bool → List ℕ
star_text last_was_ptr = elim last_was_ptr [ true ↦ ascii "*" | false ↦ ascii " *" ]

-- what stands before a parameter
unfoldable pub comma : Bool → List ℕ
comma first = elim first [ true ↦ [] | false ↦ ascii ", " ]

-- what stands after the last of vlen members
unfoldable pub line_end : ℕ → List ℕ
line_end vlen = elim (eqb vlen 0) [ true ↦ [] | false ↦ ascii "\n" ]

-- what stands after the bracket of a struct that is packed
unfoldable pub packed_text : Bool → List ℕ
packed_text packed = elim packed [ true ↦ ascii " __attribute__((packed))" | false ↦ [] ]

-- the size of a bit field; 0 is no bit field
unfoldable pub size_text : ℕ → List ℕ
size_text bit_size = elim (eqb bit_size 0) [ true ↦ [] | false ↦ ascii ": " ++ decimal bit_size ]

-- ---- the parts of chain_loop with the three that they call. `below` is how many more of the three may be open.
module _ {U : Type 0} (Q : Asks U) (N : Naming U) (B : Btf) (below : ℕ) where
  -- the base's own words, which say nothing of the declared name
  abbrev pub word_below : ℕ → ℕ → BtfType → Writer U
  word_below lvl id t =
      base_word N B (emit_type_decl_once Q N B below) (emit_type_chain_once Q N B below) (emit_composite_def_once Q N B below) [] lvl id t

  -- the parameters in parentheses, those that are shown
  abbrev pub params_below : ℕ → List Param → Writer U
  params_below lvl ps = put (ascii "(") ⨾ emit_params (λ id name. emit_type_decl_once Q N B below id name lvl) true ps ⨾ put (ascii ")")

  module _ (fname : Name) (lvl : ℕ) where
    abbrev pub array_below : Bool → List Entry → Writer U
    array_below last_was_ptr c =
        emit_array N B (emit_type_decl_once Q N B below) (emit_type_chain_once Q N B below) (emit_composite_def_once Q N B below) fname
        lvl last_was_ptr c

    abbrev pub proto_below : Bool → List Entry → Writer U
    proto_below last_was_ptr c =
        emit_proto N B (emit_type_decl_once Q N B below) (emit_type_chain_once Q N B below) (emit_composite_def_once Q N B below) fname
        lvl last_was_ptr c

    abbrev pub param_list_below : List Param → Writer U
    param_list_below ps =
        param_list N B (emit_type_decl_once Q N B below) (emit_type_chain_once Q N B below)
        (emit_composite_def_once Q N B below) fname lvl ps

    abbrev pub loop_below : ℕ → Bool → List Entry → Writer U
    loop_below n last_was_ptr c =
        chain_loop N B (emit_type_decl_once Q N B below) (emit_type_chain_once Q N B below) (emit_composite_def_once Q N B below) fname lvl
        n last_was_ptr c

    -- what the entry on top prints: a turn of chain_loop
    unfoldable pub entry_text : Bool → List Entry → Writer U
    entry_text last_was_ptr [] = nothing
    entry_text last_was_ptr (base id ∷ c) =
        put (mods c)
        ⨾ base_word N B (emit_type_decl_once Q N B below) (emit_type_chain_once Q N B below) (emit_composite_def_once Q N B below) fname
        lvl id (B.type_by_id id)
    entry_text last_was_ptr (star ∷ c) = put (star_text last_was_ptr)
    entry_text last_was_ptr (qual q ∷ c) = put (ascii " " ++ qualifier q)
    entry_text last_was_ptr (array k ∷ c) = array_below last_was_ptr (no_mods c) ⨾ put (brackets k)
    entry_text last_was_ptr (proto ps ∷ c) = put (mods c) ⨾ proto_below last_was_ptr (no_mods c) ⨾ param_list_below ps
    entry_text last_was_ptr (tag a name ∷ c) = put (mods c) ⨾ put (attribute a (ascii "btf_type_tag") name)

    -- what has still to be printed: nothing once the name stands
    unfoldable pub chain_rest : Bool → Bool → List Entry → Writer U
    chain_rest is_named last_was_ptr c = elim is_named [ true ↦ nothing | false ↦ loop_below (length c) last_was_ptr c ]

-- ---- a parameter, with what stands before it
unfoldable pub param_text : {U : Type 0} → (ℕ → Name → Writer U) → Bool → Param → Bool → Writer U
param_text decl first p is_last = put (comma first) ⨾ emit_param decl p is_last

-- ---- a member: its pads, its declaration, the size of a bit field, its tags and the semicolon
unfoldable pub member_tail : {U : Type 0} → Btf → ℕ → ℕ → Member → Writer U
member_tail B id i m = put (bit_size_of m) ⨾ given (end_of B m) (λ end. emit_decl_tags B id i ⨾ put (ascii ";"))

module _ {U : Type 0} (Q : Asks U) (N : Naming U) (B : Btf) (below : ℕ) (id : ℕ) where
  unfoldable pub member_text : ℕ → Bool → ℕ → ℕ → Member → Writer U
  member_text lvl packed i offset m =
      given_once (Q.padding offset m packed) (λ ps. put (pads lvl ps))
      ⨾ put (ascii "\n") ⨾ put (pfx lvl)
      ⨾ emit_type_decl_once Q N B below m.type_id m.name lvl
      ⨾ member_tail B id i m

  abbrev pub members_below : (ℕ → List Pad) → ℕ → Bool → ℕ → ℕ → List Member → Writer U
  members_below tail lvl packed i offset ms = emit_members_once Q N B (emit_type_decl_once Q N B below) id tail lvl packed i offset ms

-- where the next member may begin; 0 where there is no answer, and no next member either
unfoldable pub end_from : Ask ℕ → ℕ
end_from (got end) = end
end_from (no c) = 0

-- composite_head and composite_end take the declaration of a member, and ask for none
abbrev pub no_decl : {U : Type 0} → ℕ → Name → ℕ → Writer U
no_decl id name lvl = nothing

-- an enum in a declaration: a nameless one is printed inline
module _ {U : Type 0} (N : Naming U) (B : Btf) where
  unfoldable pub enum_text : (ℕ → List ℕ) → ℕ → Name → List Enumerator → ℕ → Writer U
  enum_text str id name vs lvl = elim (is_empty name) [ true ↦ emit_enum_def N B str id name vs lvl | false ↦ enum_word N B id name ]
