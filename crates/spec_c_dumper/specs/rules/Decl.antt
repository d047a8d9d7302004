-- Declarations and definitions of c_dumper.rs: the text of a line, with the names that it takes.
use Rattle.std.specs.Prelude.{ℕ, zero, suc, ◌+◌, Bool, true, false, not, ◌&&◌, List, [], ◌∷◌, ◌++◌, length, ltb, eqb}
use Rattle.spec_bytes.specs.text.Text.{ascii, pfx}
use Rattle.spec_bytes.specs.text.Decimal.{decimal}
use Rattle.spec_bytes.specs.signed.Signed.{twos, signed, signed_ll}
use Rattle.spec_c_dumper.specs.rules.Writer.{Ask, got, no, too_deep, Writer, ◌⨾◌, put, stop, nothing, given}
use Rattle.spec_c_dumper.specs.rules.Types.{Name, is_empty, Member, Param, Enumerator, Qualifier, volatile, const, restrict, BtfType}
use Rattle.spec_c_dumper.specs.rules.Types.{Void, Int, Ptr, Array, Composite, Enum, Enum64, Fwd, Typedef, Mod, Func, Var, Datasec}
use Rattle.spec_c_dumper.specs.rules.Types.{FuncProto, Float, DeclTag, TypeTag, Btf}
use Rattle.spec_c_dumper.specs.rules.Layout.{PadUnit, long, int, short, char, Pad, bit_padding, end_of}
use Rattle.spec_c_dumper.specs.rules.Placing.{body_packed, tail_pads}
use Rattle.spec_c_dumper.specs.rules.Names.{tag_space, ident_space, Naming, resolve_type_name, resolve_name, builtin, escaped}

-- one level of indentation deeper; bodies are nested less than 512 deep, so the largest number is never met
unfoldable pub deeper : ℕ → ℕ
deeper lvl = elim (ltb lvl 4294967295) [ true ↦ lvl + 1 | false ↦ lvl ]

-- sep(name) and name
unfoldable pub sep_name : Name → List ℕ
sep_name name = elim (is_empty name) [ true ↦ [] | false ↦ ascii " " ++ name ]

unfoldable pub keyword : Btf → Bool → List ℕ
keyword B is_struct =
    elim is_struct [
      | true ↦ ascii "struct"
      | false ↦ elim B.union_as_struct [ true ↦ ascii "struct /*union*/" | false ↦ ascii "union" ]
    ]

-- what a DECL_TAG or a TYPE_TAG prints
unfoldable pub attribute : Bool → List ℕ → Name → List ℕ
attribute is_attr word name =
    elim is_attr [
      | true ↦ ascii " __attribute__((" ++ name ++ ascii "))"
      | false ↦ ascii " __attribute__((" ++ word ++ ascii "(\"" ++ escaped name ++ ascii "\")))"
    ]

-- what a tag with component index comp prints; -1 is 4294967295
unfoldable pub decl_tag : ℕ → BtfType → List ℕ
decl_tag comp Void = []
decl_tag comp (Int n b) = []
decl_tag comp (Ptr t) = []
decl_tag comp (Array t k) = []
decl_tag comp (Composite s n z ms) = []
decl_tag comp (Enum s n z vs) = []
decl_tag comp (Enum64 s n z vs) = []
decl_tag comp (Fwd u n) = []
decl_tag comp (Typedef n t) = []
decl_tag comp (Mod q t) = []
decl_tag comp (Func n) = []
decl_tag comp (Var n) = []
decl_tag comp (Datasec n) = []
decl_tag comp (FuncProto r ps) = []
decl_tag comp (Float n z) = []
decl_tag comp (DeclTag a n t k) = elim (eqb k comp) [ true ↦ attribute a (ascii "btf_decl_tag") n | false ↦ [] ]
decl_tag comp (TypeTag a n t) = []

unfoldable pub decl_tags : Btf → ℕ → List ℕ → List ℕ
decl_tags B comp [] = []
decl_tags B comp (x ∷ xs) = decl_tag comp (B.type_by_id x) ++ decl_tags B comp xs

-- emit_decl_tags
abbrev pub emit_decl_tags : {U : Type 0} → Btf → ℕ → ℕ → Writer U
emit_decl_tags B id comp = put (decl_tags B comp (B.decl_tags id))

unfoldable pub qualifier : Qualifier → List ℕ
qualifier volatile = ascii "volatile"
qualifier const = ascii "const"
qualifier restrict = ascii "restrict"

-- value_str of an enumerator, given by its bits
unfoldable pub enum_value : Bool → ℕ → List ℕ
enum_value is_signed v = elim is_signed [ true ↦ signed (twos 2147483648 v) | false ↦ decimal v ]

unfoldable pub enum64_value : Bool → ℕ → List ℕ
enum64_value is_signed v = elim is_signed [ true ↦ signed_ll (twos 9223372036854775808 v) | false ↦ decimal v ++ ascii "ULL" ]

-- What a chain is made of, as far as the declarator sees it.
pub data Entry : Type 0 where
  base : ℕ → Entry
  star : Entry
  qual : Qualifier → Entry
  array : ℕ → Entry
  proto : List Param → Entry
  tag : Bool → Name → Entry

-- a type in a chain: an entry and the id that it leads to, or the chain's end
pub data Link : Type 0 where
  ends : Link
  leads : Entry → ℕ → Link

abbrev pub link_of : BtfType → Link
link_of Void = ends
link_of (Int n b) = ends
link_of (Ptr t) = leads star t
link_of (Array t k) = leads (array k) t
link_of (Composite s n z ms) = ends
link_of (Enum s n z vs) = ends
link_of (Enum64 s n z vs) = ends
link_of (Fwd u n) = ends
link_of (Typedef n t) = ends
link_of (Mod q t) = leads (qual q) t
link_of (Func n) = ends
link_of (Var n) = ends
link_of (Datasec n) = ends
link_of (FuncProto r ps) = leads (proto ps) r
link_of (Float n z) = ends
link_of (DeclTag a n t k) = ends
link_of (TypeTag a n t) = leads (tag a n) t

-- The loop of emit_type_decl: each entry goes on top of the chain, so that the base comes out on top. At most `most` entries.
unfoldable pub chain_on : (ℕ → List Entry → Ask (List Entry)) → ℕ → List Entry → Link → Ask (List Entry)
chain_on walk id chain ends = got (base id ∷ chain)
chain_on walk id chain (leads e t) = walk t (e ∷ chain)

unfoldable pub chain_of : ℕ → Btf → ℕ → List Entry → Ask (List Entry)
chain_of zero B id chain = no too_deep
chain_of (suc most) B id chain = chain_on (chain_of most B) id chain (link_of (B.type_by_id id))

-- emit_mods: what it prints, and what it leaves of the chain
unfoldable pub mods : List Entry → List ℕ
mods [] = []
mods (base x ∷ c) = []
mods (star ∷ c) = []
mods (qual q ∷ c) = qualifier q ++ ascii " " ++ mods c
mods (array n ∷ c) = []
mods (proto ps ∷ c) = []
mods (tag a n ∷ c) = []

unfoldable pub no_mods : List Entry → List Entry
no_mods [] = []
no_mods (base x ∷ c) = base x ∷ c
no_mods (star ∷ c) = star ∷ c
no_mods (qual q ∷ c) = no_mods c
no_mods (array n ∷ c) = array n ∷ c
no_mods (proto ps ∷ c) = proto ps ∷ c
no_mods (tag a n ∷ c) = tag a n ∷ c

abbrev pub is_array : Entry → Bool
is_array (base x) = false
is_array star = false
is_array (qual q) = false
is_array (array n) = true
is_array (proto ps) = false
is_array (tag a n) = false

abbrev pub no_params : List Param → Bool
no_params [] = true
no_params (p ∷ ps) = false

-- no parameter for a single one of type void
unfoldable pub shown_params : List Param → List Param
shown_params [] = []
shown_params (p ∷ ps) = elim (no_params ps && eqb p.type_id 0) [ true ↦ [] | false ↦ p ∷ ps ]

-- emit_bit_padding's lines
unfoldable pub unit_word : PadUnit → List ℕ
unit_word long = ascii "long"
unit_word int = ascii "int"
unit_word short = ascii "short"
unit_word char = ascii "char"

unfoldable pub pads : ℕ → List Pad → List ℕ
pads lvl [] = []
pads lvl (p ∷ ps) = ascii "\n" ++ pfx lvl ++ unit_word p.unit ++ ascii ": " ++ decimal p.width ++ ascii ";" ++ pads lvl ps

-- what stands between the last member and the closing bracket
unfoldable pub last_newline : List Member → List ℕ
last_newline [] = []
last_newline (m ∷ ms) = ascii "\n"

-- the pads after the last of i members; where there is none, the closing bracket too gets a line of its own
unfoldable pub own_line : ℕ → List Pad → List ℕ
own_line i [] = []
own_line i (p ∷ ps) = elim (eqb i 0) [ true ↦ ascii "\n" | false ↦ [] ]

unfoldable pub tail_text : ℕ → ℕ → List Pad → List ℕ
tail_text lvl i ps = pads lvl ps ++ own_line i ps

unfoldable pub bit_size_of : Member → List ℕ
bit_size_of m = elim (eqb m.bit_size 0) [ true ↦ [] | false ↦ ascii ": " ++ decimal m.bit_size ]

module _ {U : Type 0} (N : Naming U) (B : Btf) where
  unfoldable pub emit_composite_fwd : ℕ → Bool → Name → Writer U
  emit_composite_fwd id is_struct name =
      elim (builtin name) [
        | true ↦ nothing
        | false ↦ resolve_type_name N tag_space id name (λ n. put (keyword B is_struct) ⨾ put (ascii " ") ⨾ put n)
      ]

  unfoldable pub emit_fwd_def : ℕ → Bool → Name → Writer U
  emit_fwd_def id is_union name = emit_composite_fwd id (not is_union) name

  -- the mention of a named enum
  unfoldable pub enum_word : ℕ → Name → Writer U
  enum_word id name = resolve_type_name N tag_space id name (λ n. put (ascii "enum ") ⨾ put n)

  -- the values of enum id from the i-th on
  unfoldable pub emit_values : (ℕ → List ℕ) → ℕ → ℕ → ℕ → List Enumerator → Writer U
  emit_values str id lvl i [] = nothing
  emit_values str id lvl i (v ∷ vs) =
      resolve_name N id i v.name (λ n. put (ascii "\n") ⨾ put (pfx lvl) ⨾ put n ⨾ put (ascii " = ") ⨾ put (str v.value)
      ⨾ put (ascii ","))
      ⨾ emit_values str id lvl (i + 1) vs

  unfoldable pub enum_body : (ℕ → List ℕ) → ℕ → ℕ → List Enumerator → Writer U
  enum_body str id lvl [] = nothing
  enum_body str id lvl (v ∷ vs) =
      put (ascii " {") ⨾ emit_values str id (deeper lvl) 0 (v ∷ vs) ⨾ put (ascii "\n") ⨾ put (pfx lvl) ⨾ put (ascii "}")

  -- emit_enum_def and emit_enum64_def, which differ in how a value is written
  unfoldable pub emit_enum_def : (ℕ → List ℕ) → ℕ → Name → List Enumerator → ℕ → Writer U
  emit_enum_def str id name vs lvl =
      elim (builtin name) [
        | true ↦ nothing
        | false ↦ resolve_type_name N tag_space id name (λ n. put (ascii "enum") ⨾ put (sep_name n)) ⨾ enum_body str id lvl vs
      ]

unfoldable pub emit_name : {U : Type 0} → Name → Bool → Writer U
emit_name fname last_was_ptr = elim last_was_ptr [ true ↦ put fname | false ↦ put (sep_name fname) ]

-- `[n]`
unfoldable pub brackets : ℕ → List ℕ
brackets n = ascii "[" ++ decimal n ++ ascii "]"

unfoldable pub parens : {U : Type 0} → Bool → Writer U → Writer U
parens b w = elim b [ true ↦ put (ascii "(") ⨾ w ⨾ put (ascii ")") | false ↦ w ]

-- one parameter; the last, if void, is `...`
unfoldable pub emit_param : {U : Type 0} → (ℕ → Name → Writer U) → Param → Bool → Writer U
emit_param decl p is_last = elim (is_last && eqb p.type_id 0) [ true ↦ put (ascii "...") | false ↦ decl p.type_id p.name ]

unfoldable pub emit_params : {U : Type 0} → (ℕ → Name → Writer U) → Bool → List Param → Writer U
emit_params decl first [] = nothing
emit_params decl first (p ∷ ps) =
    put (elim first [ true ↦ [] | false ↦ ascii ", " ]) ⨾ emit_param decl p (no_params ps) ⨾ emit_params decl false ps

-- The group of three, each given the two or three that it calls. Depth is counted where they are tied together, below.

-- emit_type_chain
module _ {U : Type 0} (N : Naming U) (B : Btf) (decl : ℕ → Name → ℕ → Writer U) (chain : List Entry → Name → ℕ → Writer U)
    (def : ℕ → Bool → Name → ℕ → List Member → ℕ → Writer U) (fname : Name) (lvl : ℕ) where
  -- the base's own words
  unfoldable pub base_word : ℕ → BtfType → Writer U
  base_word id Void = put (ascii "void")
  base_word id (Int n b) = put n
  base_word id (Ptr t) = nothing
  base_word id (Array t k) = nothing
  base_word id (Composite s n z ms) = elim (is_empty n) [ true ↦ def id s n z ms lvl | false ↦ emit_composite_fwd N B id s n ]
  base_word id (Enum s n z vs) = elim (is_empty n) [ true ↦ emit_enum_def N B (enum_value s) id n vs lvl | false ↦ enum_word N B id n ]
  base_word id (Enum64 s n z vs) = elim (is_empty n) [ true ↦ emit_enum_def N B (enum64_value s) id n vs lvl | false ↦ enum_word N B id n ]
  base_word id (Fwd u n) = emit_fwd_def N B id u n
  base_word id (Typedef n t) = resolve_type_name N ident_space id n put
  base_word id (Mod q t) = nothing
  base_word id (Func n) = nothing
  base_word id (Var n) = nothing
  base_word id (Datasec n) = nothing
  base_word id (FuncProto r ps) = nothing
  base_word id (Float n z) = put n
  base_word id (DeclTag a n t k) = nothing
  base_word id (TypeTag a n t) = nothing

  -- an ARRAY, its qualifiers dropped: the rest of the chain goes before the brackets
  unfoldable pub emit_array : Bool → List Entry → Writer U
  emit_array last_was_ptr [] = emit_name fname last_was_ptr
  emit_array last_was_ptr (e ∷ c) =
      put (elim (not (is_empty fname) && not last_was_ptr) [ true ↦ ascii " " | false ↦ [] ])
      ⨾ parens (not (is_array e)) (chain (e ∷ c) fname lvl)

  -- a FUNC_PROTO, its qualifiers printed
  unfoldable pub emit_proto : Bool → List Entry → Writer U
  emit_proto last_was_ptr [] = emit_name fname last_was_ptr
  emit_proto last_was_ptr (e ∷ c) = put (ascii " (") ⨾ chain (e ∷ c) fname lvl ⨾ put (ascii ")")

  -- the parameters in parentheses
  unfoldable pub param_list : List Param → Writer U
  param_list ps = put (ascii "(") ⨾ emit_params (λ id name. decl id name lvl) true (shown_params ps) ⨾ put (ascii ")")

  -- the loop; the first number is no less than the entries left
  unfoldable pub chain_loop : ℕ → Bool → List Entry → Writer U
  chain_loop zero last_was_ptr c = emit_name fname last_was_ptr
  chain_loop (suc n) last_was_ptr [] = emit_name fname last_was_ptr
  chain_loop (suc n) last_was_ptr (base id ∷ c) = put (mods c) ⨾ base_word id (B.type_by_id id) ⨾ chain_loop n false (no_mods c)
  chain_loop (suc n) last_was_ptr (star ∷ c) = put (elim last_was_ptr [ true ↦ ascii "*" | false ↦ ascii " *" ]) ⨾ chain_loop n true c
  chain_loop (suc n) last_was_ptr (qual q ∷ c) = put (ascii " " ++ qualifier q) ⨾ chain_loop n false c
  chain_loop (suc n) last_was_ptr (array k ∷ c) = emit_array last_was_ptr (no_mods c) ⨾ put (brackets k)
  chain_loop (suc n) last_was_ptr (proto ps ∷ c) = put (mods c) ⨾ emit_proto last_was_ptr (no_mods c) ⨾ param_list ps
  chain_loop (suc n) last_was_ptr (tag a name ∷ c) =
      put (mods c) ⨾ put (attribute a (ascii "btf_type_tag") name) ⨾ chain_loop n false (no_mods c)

-- emit_composite_def
module _ {U : Type 0} (N : Naming U) (B : Btf) (decl : ℕ → Name → ℕ → Writer U) (id : ℕ) where
  -- member i and those after it, then what `tail` has after i members of which the last ended at offset; lvl is the members' level
  unfoldable pub emit_members : (ℕ → List Pad) → ℕ → Bool → ℕ → ℕ → List Member → Writer U
  emit_members tail lvl packed i offset [] = put (tail_text lvl i (tail offset))
  emit_members tail lvl packed i offset (m ∷ ms) =
      given (bit_padding B offset m packed) (λ ps. put (pads lvl ps))
      ⨾ put (ascii "\n") ⨾ put (pfx lvl)
      ⨾ decl m.type_id m.name lvl
      ⨾ put (bit_size_of m)
      ⨾ given (end_of B m) (λ end. emit_decl_tags B id i ⨾ put (ascii ";") ⨾ emit_members tail lvl packed (i + 1) end ms)

  unfoldable pub composite_head : Bool → Name → Writer U
  composite_head is_struct name =
      resolve_type_name N tag_space id name (λ n. put (keyword B is_struct) ⨾ put (sep_name n) ⨾ put (ascii " {"))

  unfoldable pub composite_end : ℕ → List Member → Bool → Writer U
  composite_end lvl ms packed =
      put (last_newline ms) ⨾ put (pfx lvl) ⨾ put (ascii "}")
      ⨾ put (elim packed [ true ↦ ascii " __attribute__((packed))" | false ↦ [] ])
      ⨾ emit_decl_tags B id 4294967295

  unfoldable pub composite_body : Bool → Name → ℕ → List Member → ℕ → Bool → Writer U
  composite_body is_struct name sz ms lvl packed =
      composite_head is_struct name ⨾ emit_members (tail_pads B.placing B.ptr_sz is_struct sz) (deeper lvl) packed 0 0 ms
      ⨾ composite_end lvl ms packed

  unfoldable pub composite_def : Bool → Name → ℕ → List Member → ℕ → Writer U
  composite_def is_struct name sz ms lvl =
      elim (builtin name) [ true ↦ nothing | false ↦ given (body_packed B is_struct sz ms) (composite_body is_struct name sz ms lvl) ]

-- The three together: each call is one deeper, and the one that finds nothing left is refused by 12.
module _ {U : Type 0} (N : Naming U) (B : Btf) where
  unfoldable mutual
    pub emit_type_decl : ℕ → ℕ → Name → ℕ → Writer U
    emit_type_decl zero id fname lvl = stop too_deep
    emit_type_decl (suc left) id fname lvl = given (chain_of 512 B id []) (λ c. emit_type_chain left c fname lvl)

    pub emit_type_chain : ℕ → List Entry → Name → ℕ → Writer U
    emit_type_chain zero c fname lvl = stop too_deep
    emit_type_chain (suc left) c fname lvl =
        chain_loop N B (λ id n l. emit_type_decl left id n l) (λ d n l. emit_type_chain left d n l)
        (λ id s n z ms l. emit_composite_def left id s n z ms l)
        fname lvl (length c) true c

    pub emit_composite_def : ℕ → ℕ → Bool → Name → ℕ → List Member → ℕ → Writer U
    emit_composite_def zero id is_struct name sz ms lvl = stop too_deep
    emit_composite_def (suc left) id is_struct name sz ms lvl =
        composite_def N B (λ t n l. emit_type_decl left t n l) id is_struct name sz ms lvl

  -- emit_typedef_def
  unfoldable pub emit_typedef_def : ℕ → Name → ℕ → Writer U
  emit_typedef_def id name t =
      resolve_type_name N ident_space id name (λ n. put (ascii "typedef ") ⨾ emit_type_decl 512 t n 0) ⨾ emit_decl_tags B id 4294967295
