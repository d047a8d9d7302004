use Rattle.c_dumper_bodies.proofs.chain.Only.{links_chain}
use mathlib.Core.Path.{refl, ◌∙◌, sym}
use Rattle.spec_c_dumper.proofs.rules.Writing.{put_only, said_past, said_ended}
use Rattle.c_dumper_declarator.proofs.declarations.Kept.{leads_start, halted}
use Rattle.c_dumper_declarator.proofs.declarations.DeclLaws as chains
use Rattle.c_dumper_declarator.proofs.declarations.EntryLaws as entries
use Rattle.c_dumper_declarator.proofs.declarations.MemberLaws as members
use Rattle.spec_bytes.specs.text.Text.{whole}
use Rattle.spec_bytes.proofs.text.TextLaws.{put_past, put_ended}
use native.Mathlib.Omega.{arith}
use Rattle.std.specs.Prelude.{Ok}
use Rattle.c_dumper_declarator.proofs.declarations.+declarator.Goals as goal

pub emit_array-returns-then-c-eq0 : goal.emit_array-returns-then-c-eq0
emit_array-returns-then-c-eq0 t c = entries.array_name _ _ _ _ _ _ _ _ _ _ _ _ _ c.if-c-eq0.true c.emit_name.ensures

pub emit_array-returns-in-Array : goal.emit_array-returns-in-Array
emit_array-returns-in-Array t c = entries.array_array _ _ _ _ _ _ _ _ _ _ _ c.if-c-eq0.false _ _ _ _ _ _ c.kind_at.ensures c.in-Array.is c.in_ok-a.ensures c.emit_type_chain.ensures

pub emit_array-returns-in_ok-f-in_default : goal.emit_array-returns-in_ok-f-in_default
emit_array-returns-in_ok-f-in_default t c = entries.array_other _ _ _ _ _ _ _ _ _ _ _ c.if-c-eq0.false _ _ _ _ _ _ _ _ _ _ c.kind_at.ensures c.in_default.not-Array c.in_ok-a.ensures c.in_ok-e-in_default.ensures c.in_ok-f-in_default.ensures c.put_byte-in_default.ensures

pub emit_array-returns-in_err-a : goal.emit_array-returns-in_err-a
emit_array-returns-in_err-a t c = entries.array_halts _ _ _ _ _ _ _ _ _ _ _ c.if-c-eq0.false _ _ _ c.in_err-a.ensures c.from_residual.ensures.1

pub emit_array-returns-in_err-e-in_default : goal.emit_array-returns-in_err-e-in_default
emit_array-returns-in_err-e-in_default t c = entries.array_other _ _ _ _ _ _ _ _ _ _ _ c.if-c-eq0.false _ _ _ _ _ _ _ _ _ _ c.kind_at.ensures c.in_default.not-Array c.in_ok-a.ensures c.in_err-e-in_default.ensures (said_past _ _ _ _ _) (put_ended _ _ _ _ c.from_residual-in_err-e-in_default.ensures.1)

pub emit_array-returns-in_err-f-in_default : goal.emit_array-returns-in_err-f-in_default
emit_array-returns-in_err-f-in_default t c = entries.array_other _ _ _ _ _ _ _ _ _ _ _ c.if-c-eq0.false _ _ _ _ _ _ _ _ _ _ c.kind_at.ensures c.in_default.not-Array c.in_ok-a.ensures c.in_ok-e-in_default.ensures c.in_err-f-in_default.ensures (put_ended _ _ _ _ c.from_residual-in_err-f-in_default.ensures.1)

pub emit_base-returns-in-Int : goal.emit_base-returns-in-Int
emit_base-returns-in-Int t c = entries.word_name_lem _ _ _ _ _ _ _ _ c.of.ensures _ _ _ _ _ _ c.in-Int.is (put_only _ _ _ _ _ _ _ c.put_str.ensures)

pub emit_base-returns-in-Struct : goal.emit_base-returns-in-Struct
emit_base-returns-in-Struct t c = entries.word_composite _ _ _ _ _ _ _ _ c.of.ensures _ _ _ _ _ _ c.in-Struct.is c.emit_composite_word.ensures

pub emit_base-returns-in-Enum : goal.emit_base-returns-in-Enum
emit_base-returns-in-Enum t c = entries.word_enum _ _ _ _ _ _ _ _ c.of.ensures _ _ _ _ _ _ c.in-Enum.is c.emit_enum_word.ensures

pub emit_base-returns-in-Fwd : goal.emit_base-returns-in-Fwd
emit_base-returns-in-Fwd t c = entries.word_fwd _ _ _ _ _ _ _ _ c.of.ensures _ _ _ _ _ _ c.in-Fwd.is c.emit_fwd_def.ensures

pub emit_base-returns-in-Typedef : goal.emit_base-returns-in-Typedef
emit_base-returns-in-Typedef t c = entries.word_typedef _ _ _ _ _ _ _ _ c.of.ensures _ _ _ _ _ _ c.in-Typedef.is c.put_typedef_name.ensures

pub emit_base-returns-in-Void : goal.emit_base-returns-in-Void
emit_base-returns-in-Void t c = entries.word_void _ _ _ _ _ _ _ _ c.of.ensures _ _ _ _ _ _ c.in-Void.is c.put_word.ensures refl

pub emit_base-returns-in_default : goal.emit_base-returns-in_default
emit_base-returns-in_default t c = entries.word_none _ _ _ _ _ _ _ _ _ _ _ c.of.ensures c.in_default.not-Int c.in_default.not-Float c.in_default.not-Struct c.in_default.not-Union c.in_default.not-Enum c.in_default.not-Enum64 c.in_default.not-Fwd c.in_default.not-Typedef c.in_default.not-Void c.in_default.not-Unknown

pub emit_based-returns-then-left-eq0 : goal.emit_based-returns-then-left-eq0
emit_based-returns-then-left-eq0 t c = chains.chain_zero _ _ _ _ _ _ _ _ _ c.if-left-eq0.true

pub emit_based-returns-then-m-eq0 : goal.emit_based-returns-then-m-eq0
emit_based-returns-then-m-eq0 t c = entries.based_name _ _ _ _ _ _ _ _ _ c.if-left-eq0.false _ _ c.requires.0 _ _ c.skip_mods-m.ensures.0 _ _ c.in_ok-a.ensures _ _ _ c.in_ok-e.ensures _ _ c.if-m-eq0.true c.emit_name.ensures

pub emit_based-emit_links-requires : goal.emit_based-emit_links-requires
emit_based-emit_links-requires t c = (omega arith, entries.links_based _ _ _ _ _ _ _ _ _ _ c.skip_mods-m.ensures.0 _ _ _ _ _ c.in_ok-e.ensures c.requires.1)

pub emit_based-returns : goal.emit_based-returns
emit_based-returns t c = entries.based_on _ _ _ _ _ _ _ _ _ c.if-left-eq0.false _ _ c.requires.0 _ _ c.skip_mods-m.ensures.0 _ _ c.in_ok-a.ensures _ _ _ c.in_ok-e.ensures _ _ _ c.emit_links.ensures

pub emit_based-returns-in_err-a : goal.emit_based-returns-in_err-a
emit_based-returns-in_err-a t c = entries.based_on _ _ _ _ _ _ _ _ _ c.if-left-eq0.false _ _ c.requires.0 _ _ c.skip_mods-m.ensures.0 _ _ c.in_err-a.ensures _ _ _ (said_past _ _ _ _ c.args.work.now) _ _ _ (said_ended _ _ _ _ _ _ c.from_residual.ensures.1)

pub emit_based-returns-in_err-e : goal.emit_based-returns-in_err-e
emit_based-returns-in_err-e t c = entries.based_on _ _ _ _ _ _ _ _ _ c.if-left-eq0.false _ _ c.requires.0 _ _ c.skip_mods-m.ensures.0 _ _ c.in_ok-a.ensures _ _ _ c.in_err-e.ensures _ _ _ (said_ended _ _ _ _ _ _ c.from_residual-in_err-e.ensures.1)

pub emit_composite_word-returns-then-is_empty : goal.emit_composite_word-returns-then-is_empty
emit_composite_word-returns-then-is_empty t c = entries.composite_inline _ c.args.b.now.section.now _ _ _ _ _ _ _ _ _ _ _ _ _ _ (sym c.is_empty.ensures ∙ c.if-is_empty.true) c.emit_composite_def.ensures

pub emit_composite_word-returns : goal.emit_composite_word-returns
emit_composite_word-returns t c = entries.composite_named _ c.args.b.now.section.now _ _ _ _ _ _ _ _ _ _ _ _ _ _ (sym c.is_empty.ensures ∙ c.if-is_empty.false) c.emit_composite_fwd.ensures

pub emit_entry-emit_array-requires : goal.emit_entry-emit_array-requires
emit_entry-emit_array-requires t c = (omega arith, entries.links_rest _ _ _ _ _ _ c.requires.0 c.skip_mods-m.ensures.0 c.requires.1)

pub emit_entry-returns-in_ok-a-in-Ptr : goal.emit_entry-returns-in_ok-a-in-Ptr
emit_entry-returns-in_ok-a-in-Ptr t c = entries.arm_star _ _ _ _ _ _ _ c.args.c _ _ c.requires.0 _ c.path_at.ensures _ c.type_by_id-t.ensures _ c.of-kind.ensures _ _ _ c.in-Ptr.is c.in_ok-a-in-Ptr.ensures c.goes_on.ensures

pub emit_entry-returns-in_err-a-in-Ptr : goal.emit_entry-returns-in_err-a-in-Ptr
emit_entry-returns-in_err-a-in-Ptr t c = halted _ _ _ _ _ _ _ (entries.says_star _ _ _ _ _ _ _ c.args.c _ _ c.requires.0 _ c.path_at.ensures _ c.type_by_id-t.ensures _ c.of-kind.ensures _ _ c.in-Ptr.is c.in_err-a-in-Ptr.ensures) c.from_residual.ensures.1

pub emit_entry-returns-in_ok-e-in-Array : goal.emit_entry-returns-in_ok-e-in-Array
emit_entry-returns-in_ok-e-in-Array t c = entries.arm_array _ _ _ _ _ _ _ c.args.c _ _ c.requires.0 _ c.path_at.ensures _ c.type_by_id-t.ensures _ c.of-kind.ensures _ _ _ _ _ _ _ _ c.in-Array.is c.array_nelems-nelems.ensures c.skip_mods-m.ensures.0 c.in_ok-a-in-Array.ensures c.in_ok-e-in-Array.ensures c.named.ensures

pub emit_entry-returns-in_err-a-in-Array : goal.emit_entry-returns-in_err-a-in-Array
emit_entry-returns-in_err-a-in-Array t c = halted _ _ _ _ _ _ _ (entries.says_array _ _ _ _ _ _ _ c.args.c _ _ c.requires.0 _ c.path_at.ensures _ c.type_by_id-t.ensures _ c.of-kind.ensures _ _ _ _ _ _ _ c.in-Array.is c.array_nelems-nelems.ensures c.skip_mods-m.ensures.0 c.in_err-a-in-Array.ensures (put_past _ _ (whole _))) c.from_residual-in_err-a-in-Array.ensures.1

pub emit_entry-returns-in_err-e-in-Array : goal.emit_entry-returns-in_err-e-in-Array
emit_entry-returns-in_err-e-in-Array t c = halted _ _ _ _ _ _ _ (entries.says_array _ _ _ _ _ _ _ c.args.c _ _ c.requires.0 _ c.path_at.ensures _ c.type_by_id-t.ensures _ c.of-kind.ensures _ _ _ _ _ _ _ c.in-Array.is c.array_nelems-nelems.ensures c.skip_mods-m.ensures.0 c.in_ok-a-in-Array.ensures c.in_err-e-in-Array.ensures) c.from_residual-in_err-e-in-Array.ensures.1

pub emit_entry-returns-in_ok-a-in-FuncProto : goal.emit_entry-returns-in_ok-a-in-FuncProto
emit_entry-returns-in_ok-a-in-FuncProto t c = entries.arm_proto _ _ _ _ _ _ _ c.args.c _ _ c.requires.0 _ c.path_at.ensures _ c.type_by_id-t.ensures _ c.of-kind.ensures _ _ _ _ c.in-FuncProto.is c.in_ok-a-in-FuncProto.ensures c.named-in-FuncProto.ensures

pub emit_entry-returns-in_err-a-in-FuncProto : goal.emit_entry-returns-in_err-a-in-FuncProto
emit_entry-returns-in_err-a-in-FuncProto t c = halted _ _ _ _ _ _ _ (entries.says_proto _ _ _ _ _ _ _ c.args.c _ _ c.requires.0 _ c.path_at.ensures _ c.type_by_id-t.ensures _ c.of-kind.ensures _ _ _ c.in-FuncProto.is c.in_err-a-in-FuncProto.ensures) c.from_residual-in_err-a-in-FuncProto.ensures.1

pub emit_entry-returns-in_ok-e-in-Volatile : goal.emit_entry-returns-in_ok-e-in-Volatile
emit_entry-returns-in_ok-e-in-Volatile t c = entries.arm_qual _ _ _ _ _ _ _ c.args.c _ _ c.requires.0 _ c.path_at.ensures _ c.type_by_id-t.ensures _ c.of-kind.ensures _ _ _ _ _ c.in-Volatile.is c.in_ok-a-in-Volatile.ensures c.in_ok-e-in-Volatile.ensures c.goes_on-in-Volatile.ensures

pub emit_entry-returns-in_err-a-in-Volatile : goal.emit_entry-returns-in_err-a-in-Volatile
emit_entry-returns-in_err-a-in-Volatile t c = halted _ _ _ _ _ _ _ (entries.says_qual _ _ _ _ _ _ _ c.args.c _ _ c.requires.0 _ c.path_at.ensures _ c.type_by_id-t.ensures _ c.of-kind.ensures _ _ _ _ c.in-Volatile.is c.in_err-a-in-Volatile.ensures (put_past _ _ (whole _))) c.from_residual-in_err-a-in-Volatile.ensures.1

pub emit_entry-returns-in_err-e-in-Volatile : goal.emit_entry-returns-in_err-e-in-Volatile
emit_entry-returns-in_err-e-in-Volatile t c = halted _ _ _ _ _ _ _ (entries.says_qual _ _ _ _ _ _ _ c.args.c _ _ c.requires.0 _ c.path_at.ensures _ c.type_by_id-t.ensures _ c.of-kind.ensures _ _ _ _ c.in-Volatile.is c.in_ok-a-in-Volatile.ensures c.in_err-e-in-Volatile.ensures) c.from_residual-in_err-e-in-Volatile.ensures.1

pub emit_entry-returns-in_ok-e-in_default : goal.emit_entry-returns-in_ok-e-in_default
emit_entry-returns-in_ok-e-in_default t c = entries.arm_tag _ _ _ _ _ _ _ c.args.c _ _ c.requires.0 _ c.path_at.ensures _ c.type_by_id-t.ensures _ c.of-kind.ensures c.requires.1 c.in_default.not-Ptr c.in_default.not-Array c.in_default.not-Volatile c.in_default.not-Const c.in_default.not-Restrict c.in_default.not-FuncProto _ _ _ _ _ _ c.skip_mods-m-in_default.ensures c.in_ok-a-in_default.ensures c.in_ok-e-in_default.ensures c.goes_on-in_default.ensures

pub emit_entry-returns-in_err-a-in_default : goal.emit_entry-returns-in_err-a-in_default
emit_entry-returns-in_err-a-in_default t c = halted _ _ _ _ _ _ _ (entries.says_tag _ _ _ _ _ _ _ c.args.c _ _ c.requires.0 _ c.path_at.ensures _ c.type_by_id-t.ensures _ c.of-kind.ensures c.requires.1 c.in_default.not-Ptr c.in_default.not-Array c.in_default.not-Volatile c.in_default.not-Const c.in_default.not-Restrict c.in_default.not-FuncProto _ _ _ _ _ c.skip_mods-m-in_default.ensures.0 c.in_err-a-in_default.ensures (put_past _ _ (whole _))) c.from_residual-in_err-a-in_default.ensures.1

pub emit_entry-returns-in_err-e-in_default : goal.emit_entry-returns-in_err-e-in_default
emit_entry-returns-in_err-e-in_default t c = halted _ _ _ _ _ _ _ (entries.says_tag _ _ _ _ _ _ _ c.args.c _ _ c.requires.0 _ c.path_at.ensures _ c.type_by_id-t.ensures _ c.of-kind.ensures c.requires.1 c.in_default.not-Ptr c.in_default.not-Array c.in_default.not-Volatile c.in_default.not-Const c.in_default.not-Restrict c.in_default.not-FuncProto _ _ _ _ _ c.skip_mods-m-in_default.ensures.0 c.in_ok-a-in_default.ensures c.in_err-e-in_default.ensures) c.from_residual-in_err-e-in_default.ensures.1

pub emit_function-emit_proto-requires : goal.emit_function-emit_proto-requires
emit_function-emit_proto-requires t c = (omega arith, entries.links_rest _ _ _ _ _ _ c.requires.0 c.skip_mods-m.ensures.0 c.requires.1)

pub emit_function-returns : goal.emit_function-returns
emit_function-returns t c = entries.function_put _ _ _ _ _ _ _ _ _ _ _ _ _ _ _ _ _ _ _ _ c.args.t _ c.skip_mods-m.ensures.0 c.entries_of.ensures c.in_ok-a.ensures c.in_ok-f.ensures c.emit_params.ensures

pub emit_function-returns-in_err-a : goal.emit_function-returns-in_err-a
emit_function-returns-in_err-a t c = entries.function_put _ _ _ _ _ _ _ _ _ _ _ _ _ _ _ _ _ _ _ _ c.args.t _ c.skip_mods-m.ensures.0 refl c.in_err-a.ensures (said_past _ _ _ _ c.args.work.now) (said_ended _ _ _ _ _ _ c.from_residual.ensures.1)

pub emit_function-returns-in_err-f : goal.emit_function-returns-in_err-f
emit_function-returns-in_err-f t c = entries.function_put _ _ _ _ _ _ _ _ _ _ _ _ _ _ _ _ _ _ _ _ c.args.t _ c.skip_mods-m.ensures.0 refl c.in_ok-a.ensures c.in_err-f.ensures (said_ended _ _ _ _ _ _ c.from_residual-in_err-f.ensures.1)

pub emit_links-loop-rest-init : goal.emit_links-loop-rest-init
emit_links-loop-rest-init t c = (leads_start _ _ _ _ _, c.requires)

pub emit_links-returns-in_err-e : goal.emit_links-returns-in_err-e
emit_links-returns-in_err-e t c = chains.links_whole _ _ _ _ _ _ _ _ _ _ _ _ _ _ (chains.chain_stops _ _ _ _ _ _ _ _ _ _ _ _ _ _ _ _ _ c.loop-rest-test.true c.loop-rest.invariant.0 c.in_err-e.ensures c.from_residual.ensures.1)

pub emit_links-loop-rest-preserved : goal.emit_links-loop-rest-preserved
emit_links-loop-rest-preserved t c = (chains.chain_again _ _ _ _ _ _ _ _ _ _ _ _ _ _ _ _ _ c.in-Some.is c.loop-rest-test.true c.loop-rest.invariant.0 c.in_ok-e.ensures, chains.chain_links _ _ _ _ _ _ _ _ _ _ _ _ _ _ c.in-Some.is c.in_ok-e.ensures c.loop-rest.invariant.1)

pub emit_links-returns-in_default : goal.emit_links-returns-in_default
emit_links-returns-in_default t c = chains.links_whole _ _ _ _ _ _ _ _ _ _ _ _ _ _ (chains.chain_stands _ _ _ _ _ _ _ _ _ _ _ _ _ _ _ _ c.in_default.is c.loop-rest-test.true c.loop-rest.invariant.0 c.in_ok-e.ensures)

pub emit_links-returns : goal.emit_links-returns
emit_links-returns t c = chains.links_whole _ _ _ _ _ _ _ _ _ _ _ _ _ _ (chains.chain_ends _ _ _ _ _ _ _ _ _ _ _ _ _ _ _ c.loop-rest.invariant.0 (omega arith) c.emit_name.ensures)

pub emit_param-returns-then-is_any_more : goal.emit_param-returns-then-is_any_more
emit_param-returns-then-is_any_more t c = members.param_any _ _ _ _ _ _ _ _ _ _ _ _ c.param_place-p.ensures c.word-type_id.ensures _ c.is_any_more.ensures _ _ c.in_ok-a.ensures _ _ c.if-is_any_more.true c.put_word.ensures

pub emit_param-returns : goal.emit_param-returns
emit_param-returns t c = members.param_decl _ _ _ _ _ _ _ _ _ _ _ _ c.param_place-p.ensures c.word-type_id.ensures _ c.is_any_more.ensures _ _ c.in_ok-a.ensures _ _ _ _ _ c.if-is_any_more.false c.word.ensures c.bare.ensures c.emit_type_decl.ensures

pub emit_param-returns-in_err-a : goal.emit_param-returns-in_err-a
emit_param-returns-in_err-a t c = members.param_halts _ _ _ _ _ _ _ _ _ _ _ _ _ c.in_err-a.ensures c.from_residual.ensures.1

pub emit_params-loop-k-init : goal.emit_params-loop-k-init
emit_params-loop-k-init t c = leads_start _ _ _ _ _

pub emit_params-returns-in_err-p : goal.emit_params-returns-in_err-p
emit_params-returns-in_err-p t c = members.params_whole _ _ _ _ _ _ _ _ _ _ _ _ _ _ _ c.shown_params-shown.ensures c.in_err-p.ensures (members.params_stop _ _ _ _ _ _ _ _ _ _ c.from_residual.ensures.1)

pub emit_params-loop-k-preserved : goal.emit_params-loop-k-preserved
emit_params-loop-k-preserved t c = members.params_again _ _ _ _ _ _ _ _ _ _ _ _ _ _ _ _ c.loop-k-test.true c.loop-k.invariant c.in_ok-p-2.ensures

pub emit_params-returns : goal.emit_params-returns
emit_params-returns t c = members.params_whole _ _ _ _ _ _ _ _ _ _ _ _ _ _ _ c.shown_params-shown.ensures c.in_ok-p.ensures (members.params_end _ _ _ _ _ _ _ _ _ _ _ _ _ _ _ c.loop-k-test.false c.loop-k.invariant c.put_byte-2.ensures)

pub emit_params-returns-in_err-p-2 : goal.emit_params-returns-in_err-p-2
emit_params-returns-in_err-p-2 t c = members.params_whole _ _ _ _ _ _ _ _ _ _ _ _ _ _ _ c.shown_params-shown.ensures c.in_ok-p.ensures (members.params_halt _ _ _ _ _ _ _ _ _ _ _ _ _ _ _ _ _ c.loop-k-test.true c.loop-k.invariant c.in_err-p-2.ensures c.from_residual-in_err-p-2.ensures.1)

pub emit_proto-returns-then-c-eq0 : goal.emit_proto-returns-then-c-eq0
emit_proto-returns-then-c-eq0 t c = entries.proto_name _ _ _ _ _ _ _ _ _ _ _ _ _ c.if-c-eq0.true c.emit_name.ensures

pub emit_proto-returns : goal.emit_proto-returns
emit_proto-returns t c = entries.proto_some _ _ _ _ _ _ _ _ _ _ _ c.if-c-eq0.false _ _ _ _ _ _ _ c.in_ok-a.ensures c.in_ok-e.ensures c.put_byte.ensures

pub emit_proto-returns-in_err-a : goal.emit_proto-returns-in_err-a
emit_proto-returns-in_err-a t c = entries.proto_some _ _ _ _ _ _ _ _ _ _ _ c.if-c-eq0.false _ _ _ _ _ _ _ c.in_err-a.ensures (said_past _ _ _ _ _) (put_ended _ _ _ _ c.from_residual.ensures.1)

pub emit_proto-returns-in_err-e : goal.emit_proto-returns-in_err-e
emit_proto-returns-in_err-e t c = entries.proto_some _ _ _ _ _ _ _ _ _ _ _ c.if-c-eq0.false _ _ _ _ _ _ _ c.in_ok-a.ensures c.in_err-e.ensures (put_ended _ _ _ _ c.from_residual-in_err-e.ensures.1)

pub emit_type_chain-returns-then-left-eq0 : goal.emit_type_chain-returns-then-left-eq0
emit_type_chain-returns-then-left-eq0 t c = chains.chain_zero _ _ _ _ _ _ _ _ _ c.if-left-eq0.true

pub emit_type_chain-returns : goal.emit_type_chain-returns
emit_type_chain-returns t c = chains.chain_whole _ _ _ _ _ _ _ _ _ _ _ _ _ c.if-left-eq0.false c.emit_links.ensures

pub emit_type_decl-returns-then-left-eq0 : goal.emit_type_decl-returns-then-left-eq0
emit_type_decl-returns-then-left-eq0 t c = chains.decl_zero _ _ _ _ _ _ _ _ _ c.if-left-eq0.true

pub emit_type_decl-emit_based-requires : goal.emit_type_decl-emit_based-requires
emit_type_decl-emit_based-requires t c = (omega arith, (chains.decl_record _ _ _ _ _ c.chain_base.ensures.1 c.in_ok-base.ensures.ok_part, links_chain _ _ _ _ _ _ c.chain_base.ensures.0 c.in_ok-base.ensures.ok_part))

pub emit_type_decl-returns : goal.emit_type_decl-returns
emit_type_decl-returns t c = chains.decl_got _ _ _ _ _ _ _ _ _ c.if-left-eq0.false _ c.chain_base.ensures _ _ _ _ c.in_ok-base.ensures.ok_part c.emit_based.ensures

pub emit_type_decl-returns-in_err-base : goal.emit_type_decl-returns-in_err-base
emit_type_decl-returns-in_err-base t c = chains.decl_no _ _ _ _ _ _ _ _ _ c.if-left-eq0.false _ c.chain_base.ensures _ _ c.in_err-base.ensures.value c.from_residual.ensures.1

pub members::emit_composite_def-returns-then-left-eq0 : goal.members::emit_composite_def-returns-then-left-eq0
members::emit_composite_def-returns-then-left-eq0 t c = members.def_zero _ _ _ _ _ _ _ _ _ _ _ _ c.if-left-eq0.true

pub members::emit_composite_def-returns-then-is_builtin : goal.members::emit_composite_def-returns-then-is_builtin
members::emit_composite_def-returns-then-is_builtin t c = members.def_builtin _ _ _ _ _ _ _ _ _ _ _ _ _ c.if-left-eq0.false refl (sym c.is_builtin.ensures ∙ c.if-is_builtin.true)

pub members::emit_composite_def-returns : goal.members::emit_composite_def-returns
members::emit_composite_def-returns t c = members.def_body _ _ _ _ _ _ _ _ _ _ _ _ _ c.if-left-eq0.false (sym c.is_builtin.ensures ∙ c.if-is_builtin.false) _ _ c.in_ok-packed.ensures _ _ _ _ _ _ _ _ _ refl refl c.in_ok-a.ensures c.in_ok-c.ensures c.emit_composite_end.ensures

pub members::emit_composite_def-returns-in_err-a : goal.members::emit_composite_def-returns-in_err-a
members::emit_composite_def-returns-in_err-a t c = members.def_body _ _ _ _ _ _ _ _ _ _ _ _ _ c.if-left-eq0.false (sym c.is_builtin.ensures ∙ c.if-is_builtin.false) _ _ c.in_ok-packed.ensures _ _ _ _ _ _ _ _ _ refl refl c.in_err-a.ensures (said_past _ _ _ _ _) (said_ended _ _ _ _ _ _ c.from_residual-in_err-a.ensures.1)

pub members::emit_composite_def-returns-in_err-c : goal.members::emit_composite_def-returns-in_err-c
members::emit_composite_def-returns-in_err-c t c = members.def_body _ _ _ _ _ _ _ _ _ _ _ _ _ c.if-left-eq0.false (sym c.is_builtin.ensures ∙ c.if-is_builtin.false) _ _ c.in_ok-packed.ensures _ _ _ _ _ _ _ _ _ refl refl c.in_ok-a.ensures c.in_err-c.ensures (said_ended _ _ _ _ _ _ c.from_residual-in_err-c.ensures.1)

pub members::emit_composite_def-returns-in_err-packed : goal.members::emit_composite_def-returns-in_err-packed
members::emit_composite_def-returns-in_err-packed t c = members.def_refused _ _ _ _ _ _ _ _ _ _ _ _ c.if-left-eq0.false (sym c.is_builtin.ensures ∙ c.if-is_builtin.false) _ _ c.in_err-packed.ensures _ _ refl c.from_residual.ensures.1

pub members::emit_member-returns : goal.members::emit_member-returns
members::emit_member-returns t c = (members.member_said _ _ _ _ _ _ _ _ _ _ _ _ _ _ _ _ _ _ _ _ _ _ _ _ _ _ c.load_member-m.ensures c.bare.ensures c.deeper-lvl.ensures c.in_ok-a.ensures c.in_ok-c.ensures c.in_ok-e.ensures c.in_ok-f.ensures (members.placed_as _ _ _ _ _ c.in_ok-at.was c.emit_member_end-end.ensures.0), members.member_ends _ _ _ _ _ _ (Ok (record { at = c.in_ok-at.at; offset = c.emit_member_end-end.result.offset })) c.load_member-m.ensures c.emit_member_end-end.ensures.1)

pub members::emit_member-returns-in_err-a : goal.members::emit_member-returns-in_err-a
members::emit_member-returns-in_err-a t c = halted _ _ _ _ _ _ _ (members.member_said _ _ _ _ _ _ _ _ _ _ _ _ _ _ _ _ _ _ _ _ _ _ _ _ _ _ c.load_member-m.ensures c.bare.ensures c.deeper-lvl.ensures c.in_err-a.ensures (put_past _ _ (whole _)) (put_past _ _ (whole _)) (said_past _ _ _ _ _) (said_past _ _ _ _ _)) c.from_residual.ensures.1

pub members::emit_member-returns-in_err-c : goal.members::emit_member-returns-in_err-c
members::emit_member-returns-in_err-c t c = halted _ _ _ _ _ _ _ (members.member_said _ _ _ _ _ _ _ _ _ _ _ _ _ _ _ _ _ _ _ _ _ _ _ _ _ _ c.load_member-m.ensures c.bare.ensures c.deeper-lvl.ensures c.in_ok-a.ensures c.in_err-c.ensures (put_past _ _ (whole _)) (said_past _ _ _ _ _) (said_past _ _ _ _ _)) c.from_residual-in_err-c.ensures.1

pub members::emit_member-returns-in_err-e : goal.members::emit_member-returns-in_err-e
members::emit_member-returns-in_err-e t c = halted _ _ _ _ _ _ _ (members.member_said _ _ _ _ _ _ _ _ _ _ _ _ _ _ _ _ _ _ _ _ _ _ _ _ _ _ c.load_member-m.ensures c.bare.ensures c.deeper-lvl.ensures c.in_ok-a.ensures c.in_ok-c.ensures c.in_err-e.ensures (said_past _ _ _ _ _) (said_past _ _ _ _ _)) c.from_residual-in_err-e.ensures.1

pub members::emit_member-returns-in_err-f : goal.members::emit_member-returns-in_err-f
members::emit_member-returns-in_err-f t c = halted _ _ _ _ _ _ _ (members.member_said _ _ _ _ _ _ _ _ _ _ _ _ _ _ _ _ _ _ _ _ _ _ _ _ _ _ c.load_member-m.ensures c.bare.ensures c.deeper-lvl.ensures c.in_ok-a.ensures c.in_ok-c.ensures c.in_ok-e.ensures c.in_err-f.ensures (said_past _ _ _ _ _)) c.from_residual-in_err-f.ensures.1

pub members::emit_member-returns-in_err-at : goal.members::emit_member-returns-in_err-at
members::emit_member-returns-in_err-at t c = halted _ _ _ _ _ _ _ (members.member_said _ _ _ _ _ _ _ _ _ _ _ _ _ _ _ _ _ _ _ _ _ _ _ _ _ _ c.load_member-m.ensures c.bare.ensures c.deeper-lvl.ensures c.in_ok-a.ensures c.in_ok-c.ensures c.in_ok-e.ensures c.in_ok-f.ensures (members.placed_as _ _ _ _ _ c.in_err-at.was c.emit_member_end-end.ensures.0)) c.from_residual-in_err-at.ensures.1

pub members::emit_members-loop-k-init : goal.members::emit_members-loop-k-init
members::emit_members-loop-k-init t c = leads_start _ _ _ _ _

pub members::emit_members-returns-in_err-s : goal.members::emit_members-returns-in_err-s
members::emit_members-returns-in_err-s t c = members.members_whole _ _ _ _ _ _ _ _ _ _ _ _ _ _ _ _ c.vlen_of-vlen.ensures (members.members_halt _ _ _ _ _ _ _ _ _ _ _ _ _ _ _ _ _ _ _ _ _ c.loop-k-test.true c.loop-k.invariant c.in_err-s.ensures.0 c.from_residual.ensures.1)

pub members::emit_members-loop-k-preserved : goal.members::emit_members-loop-k-preserved
members::emit_members-loop-k-preserved t c = members.members_again _ _ _ _ _ _ _ _ _ _ _ _ _ _ _ _ _ _ _ _ _ c.loop-k-test.true c.loop-k.invariant c.in_ok-s.ensures

pub members::emit_members-returns : goal.members::emit_members-returns
members::emit_members-returns t c = members.members_whole _ _ _ _ _ _ _ _ _ _ _ _ _ _ _ _ c.vlen_of-vlen.ensures (members.members_end _ _ _ _ _ _ _ _ _ _ _ _ _ _ _ _ _ _ _ _ (omega arith) c.deeper.ensures c.loop-k.invariant c.emit_tail_padding.ensures)
