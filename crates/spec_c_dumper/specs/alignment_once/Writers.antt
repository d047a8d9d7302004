-- The emitters by the remembering way: the clauses of crates/spec_c_dumper/specs/rules/Decl and Emit, where alignments are asked with a
-- memory beside the names; and a session
-- of them.
use Rattle.std.specs.Prelude.{ℕ, zero, suc, ◌+◌, Bool, true, false, List, [], ◌∷◌, ◌++◌, length}
use Rattle.spec_bytes.specs.text.Text.{ascii, pfx}
use Rattle.spec_c_dumper.specs.rules.Writer.{Writer, ◌⨾◌, put, stop, nothing, given, too_deep}
use Rattle.spec_c_dumper.specs.rules.Types.{Name, Member, BtfType, Void, Int, Ptr, Array, Composite, Enum, Enum64, Fwd, Typedef, Mod}
use Rattle.spec_c_dumper.specs.rules.Types.{Func, Var, Datasec, FuncProto, Float, DeclTag, TypeTag, Btf, table_of}
use Rattle.spec_c_dumper.specs.rules.Layout.{Pad, end_of}
use Rattle.spec_c_dumper.specs.rules.Placing.{tail_pads}
use Rattle.spec_c_dumper.specs.rules.Names.{ident_space, Resolved, Naming, resolve_type_name, builtin}
use Rattle.spec_c_dumper.specs.rules.Decl.{Entry, deeper, emit_decl_tags, chain_of, pads, tail_text, bit_size_of, emit_composite_fwd}
use Rattle.spec_c_dumper.specs.rules.Decl.{emit_fwd_def, enum_value, enum64_value, emit_enum_def, chain_loop, composite_head, composite_end}
use Rattle.spec_c_dumper.specs.rules.Emit.{line_end, shown}
use Rattle.spec_c_dumper.specs.rules.Machine.{Machine, Sess, Answer, Req, one, all, single, every}
use Rattle.spec_c_dumper.specs.needs.Lists.{Lines, Ls, list_machine}
use Rattle.spec_c_dumper.specs.needs.Session.{Known, line_of, Dump, dump, text_of}
use Rattle.spec_c_dumper.specs.alignment_once.Once.{Keep, Once, found, refused}
use Rattle.spec_c_dumper.specs.alignment_once.Steps.{padding_once, body_once}

-- What a body asks of a state that has the names and the memory: the pads before a member, and whether the body is packed.
pub record Asks (St : Type 0) : Type 0 where
  pub padding : ℕ → Member → Bool → St → Once St (List Pad)
  pub body : Bool → ℕ → ℕ → List Member → St → Once St Bool

module _ {St : Type 0} where
  -- `given`, with a memory; a refused question leaves it as it was, and so the visits of a refused request are not kept
  unfoldable pub answered : {A : Type 0} → Once St A → (A → Writer St) → Writer St
  answered (found a v k) f u = f a v
  answered (refused c v k) f u = stop c u

  unfoldable pub given_once : {A : Type 0} → (St → Once St A) → (A → Writer St) → Writer St
  given_once ask f v = answered (ask v) f v

module _ {St : Type 0} (Q : Asks St) (N : Naming St) (B : Btf) where
  -- emit_composite_def
  module _ (decl : ℕ → Name → ℕ → Writer St) (id : ℕ) where
    unfoldable pub emit_members_once : (ℕ → List Pad) → ℕ → Bool → ℕ → ℕ → List Member → Writer St
    emit_members_once tail lvl packed i offset [] = put (tail_text lvl i (tail offset))
    emit_members_once tail lvl packed i offset (m ∷ ms) =
        given_once (Q.padding offset m packed) (λ ps. put (pads lvl ps))
        ⨾ put (ascii "\n") ⨾ put (pfx lvl)
        ⨾ decl m.type_id m.name lvl
        ⨾ put (bit_size_of m)
        ⨾ given (end_of B m) (λ end. emit_decl_tags B id i ⨾ put (ascii ";") ⨾ emit_members_once tail lvl packed (i + 1) end ms)

    unfoldable pub composite_body_once : Bool → Name → ℕ → List Member → ℕ → Bool → Writer St
    composite_body_once is_struct name sz ms lvl packed =
        composite_head N B decl id is_struct name
        ⨾ emit_members_once (tail_pads B.placing B.ptr_sz is_struct sz) (deeper lvl) packed 0 0 ms
        ⨾ composite_end N B decl id lvl ms packed

    unfoldable pub composite_def_once : Bool → Name → ℕ → List Member → ℕ → Writer St
    composite_def_once is_struct name sz ms lvl =
        elim (builtin name) [
          | true ↦ nothing
          | false ↦ given_once (Q.body is_struct id sz ms) (composite_body_once is_struct name sz ms lvl)
        ]

  -- the three together
  unfoldable mutual
    pub emit_type_decl_once : ℕ → ℕ → Name → ℕ → Writer St
    emit_type_decl_once zero id fname lvl = stop too_deep
    emit_type_decl_once (suc left) id fname lvl = given (chain_of 512 B id []) (λ c. emit_type_chain_once left c fname lvl)

    pub emit_type_chain_once : ℕ → List Entry → Name → ℕ → Writer St
    emit_type_chain_once zero c fname lvl = stop too_deep
    emit_type_chain_once (suc left) c fname lvl =
        chain_loop N B (λ id n l. emit_type_decl_once left id n l) (λ d n l. emit_type_chain_once left d n l)
        (λ id s n z ms l. emit_composite_def_once left id s n z ms l)
        fname lvl (length c) true c

    pub emit_composite_def_once : ℕ → ℕ → Bool → Name → ℕ → List Member → ℕ → Writer St
    emit_composite_def_once zero id is_struct name sz ms lvl = stop too_deep
    emit_composite_def_once (suc left) id is_struct name sz ms lvl =
        composite_def_once (λ t n l. emit_type_decl_once left t n l) id is_struct name sz ms lvl

  unfoldable pub emit_typedef_def_once : ℕ → Name → ℕ → Writer St
  emit_typedef_def_once id name t =
      resolve_type_name N ident_space id name (λ n. put (ascii "typedef ") ⨾ emit_type_decl_once 512 t n 0) ⨾ emit_decl_tags B id 4294967295

  unfoldable pub definition_once : ℕ → BtfType → Writer St
  definition_once id Void = nothing
  definition_once id (Int n b) = nothing
  definition_once id (Ptr t) = nothing
  definition_once id (Array t k) = nothing
  definition_once id (Composite s n z ms) = emit_composite_def_once 512 id s n z ms 0 ⨾ line_end N B
  definition_once id (Enum s n z vs) = emit_enum_def N B (enum_value s) id n vs 0 ⨾ line_end N B
  definition_once id (Enum64 s n z vs) = emit_enum_def N B (enum64_value s) id n vs 0 ⨾ line_end N B
  definition_once id (Fwd u n) = emit_fwd_def N B id u n ⨾ line_end N B
  definition_once id (Typedef n t) = nothing
  definition_once id (Mod q t) = nothing
  definition_once id (Func n) = nothing
  definition_once id (Var n) = nothing
  definition_once id (Datasec n) = nothing
  definition_once id (FuncProto r ps) = nothing
  definition_once id (Float n z) = nothing
  definition_once id (DeclTag a n t k) = nothing
  definition_once id (TypeTag a n t) = nothing

  unfoldable pub forward_once : ℕ → BtfType → Writer St
  forward_once id Void = nothing
  forward_once id (Int n b) = nothing
  forward_once id (Ptr t) = nothing
  forward_once id (Array t k) = nothing
  forward_once id (Composite s n z ms) = shown N B n (emit_composite_fwd N B id s n)
  forward_once id (Enum s n z vs) = nothing
  forward_once id (Enum64 s n z vs) = nothing
  forward_once id (Fwd u n) = nothing
  forward_once id (Typedef n t) = shown N B n (emit_typedef_def_once id n t)
  forward_once id (Mod q t) = nothing
  forward_once id (Func n) = nothing
  forward_once id (Var n) = nothing
  forward_once id (Datasec n) = nothing
  forward_once id (FuncProto r ps) = nothing
  forward_once id (Float n z) = nothing
  forward_once id (DeclTag a n t k) = nothing
  forward_once id (TypeTag a n t) = nothing

  -- ---- a session (crates/spec_c_dumper/specs/needs/Session), with the memory beside the names
  abbrev pub lines_once : Lines (Known St) St
  lines_once = record {
    fwd = λ room k id. line_of room k.text_len (forward_once id (B.type_by_id id) k.names);
    alias' = λ room k id. line_of room k.text_len (forward_once id (B.type_by_id id) k.names);
    leaf' = λ room k id. line_of room k.text_len (definition_once id (B.type_by_id id) k.names);
    body' = λ room k id. line_of room k.text_len (definition_once id (B.type_by_id id) k.names);
    held' = λ k. k.names;
    leaving' = λ held k. record { names = N.leaving held k.names; text_len = k.text_len };
  }

  abbrev pub machine_once : Machine (Ls (Known St)) St
  machine_once = list_machine lines_once

  unfoldable pub answer_once : Sess (Ls (Known St)) → Req → Answer (Ls (Known St))
  answer_once S (one room x) = single machine_once (table_of B) room S x
  answer_once S (all room) = every machine_once (table_of B) room S S.is_open

  -- after a list of requests
  unfoldable pub after_once : List Req → Sess (Ls (Known St)) → Sess (Ls (Known St))
  after_once [] S = S
  after_once (r ∷ rs) S = after_once rs (answer_once S r).sess

  unfoldable pub dumped_once : List (ℕ × ℕ) → List Req → Sess (Ls (Known St)) → Dump
  dumped_once ns [] S = dump ns (text_of S.mach.pieces)
  dumped_once ns (r ∷ rs) S =
      dumped_once (ns ++ (((answer_once S r).number, (answer_once S r).sess.mach.known.text_len) ∷ [])) rs (answer_once S r).sess

-- ---- names and memory side by side
-- the names, what is remembered of alignments, and the visits that it took: "the counted visits .. are kept in the record"
pub record Remembering (U M : Type 0) : Type 0 where
  pub names : U
  pub memory : M
  pub visits : ℕ

module _ {U M : Type 0} where
  abbrev pub with_names : Remembering U M → Resolved U → Resolved (Remembering U M)
  with_names v r = record {
    passes = r.passes;
    version = r.version;
    names = record { names = r.names; memory = v.memory; visits = v.visits };
  }

  -- names are given as they are without a memory
  abbrev pub remembering_names : Naming U → Naming (Remembering U M)
  remembering_names N = record {
    type_version = λ space id name v. with_names v (N.type_version space id name v.names);
    value_version = λ id i name v. with_names v (N.value_version id i name v.names);
    leaving = λ held v. record { names = N.leaving held.names v.names; memory = v.memory; visits = v.visits };
  }

  unfoldable pub carried : {A : Type 0} → Remembering U M → Once M A → Once (Remembering U M) A
  carried v (found a m k) = found a (record { names = v.names; memory = m; visits = k }) k
  carried v (refused c m k) = refused c v k

  abbrev pub remembering_asks : Keep M → Btf → Asks (Remembering U M)
  remembering_asks K B = record {
    padding = λ offset x packed v. carried v (padding_once K B offset x packed v.memory v.visits);
    body = λ is_struct id sz ms v. carried v (body_once K B is_struct id sz ms v.memory v.visits);
  }

-- what opening leaves, with the names u and the memory m, in which nothing is remembered
abbrev pub no_visits : {U M : Type 0} → U → M → Remembering U M
no_visits u m = record { names = u; memory = m; visits = 0 }
