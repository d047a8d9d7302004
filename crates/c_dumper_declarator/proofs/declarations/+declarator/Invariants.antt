use mathlib.Core.Bool.{true}
use Rattle.c_dumper_bodies.specs.chain.Chains.{chain_at, only_links}
use mathlib.Core.Path.{◌≡◌}
use Rattle.std.specs.Prelude.{Ok}
use Rattle.spec_type_table.specs.Records.{member_of, kind_of}
use Rattle.spec_c_dumper.specs.rules.Placing.{tail_pads}
use Rattle.spec_c_dumper.specs.rules.Decl.{deeper}
use lib.Dec.{eqb}
use Rattle.spec_type_table.specs.Table.{param_of, rule_member}
use Rattle.c_dumper_name_versions.specs.names.Spelling.{name_text}
use Rattle.c_dumper_declarator.proofs.declarations.Kept.{Leads}
use Rattle.c_dumper_declarator.proofs.declarations.DeclLaws.{chain_left}
use Rattle.c_dumper_declarator.proofs.declarations.MemberLaws.{params_left, members_left}
use Prim.Native.Nat.{◌+◌, ◌*◌}
use Rattle.c_dumper_declarator.proofs.declarations.+declarator.Given as goal

abbrev pub decreases-emit_array : goal.decreases-emit_array
decreases-emit_array l = 8 * l.below + 4

abbrev pub decreases-emit_base : goal.decreases-emit_base
decreases-emit_base l = 8 * l.below + 5

abbrev pub decreases-emit_based : goal.decreases-emit_based
decreases-emit_based l = 8 * l.left

abbrev pub decreases-emit_composite_word : goal.decreases-emit_composite_word
decreases-emit_composite_word l = 8 * l.below + 4

abbrev pub decreases-emit_entry : goal.decreases-emit_entry
decreases-emit_entry l = 8 * l.below + 6

abbrev pub decreases-emit_function : goal.decreases-emit_function
decreases-emit_function l = 8 * l.below + 5

abbrev pub decreases-emit_links : goal.decreases-emit_links
decreases-emit_links l = 8 * l.below + 7

abbrev pub decreases-emit_param : goal.decreases-emit_param
decreases-emit_param l = 8 * l.below + 3

abbrev pub decreases-emit_params : goal.decreases-emit_params
decreases-emit_params l = 8 * l.below + 4

abbrev pub decreases-emit_proto : goal.decreases-emit_proto
decreases-emit_proto l = 8 * l.below + 4

abbrev pub decreases-emit_type_chain : goal.decreases-emit_type_chain
decreases-emit_type_chain l = 8 * l.left

abbrev pub decreases-emit_type_decl : goal.decreases-emit_type_decl
decreases-emit_type_decl l = 8 * l.left

abbrev pub decreases-members::emit_composite_def : goal.decreases-members::emit_composite_def
decreases-members::emit_composite_def l = 8 * l.left

abbrev pub decreases-members::emit_member : goal.decreases-members::emit_member
decreases-members::emit_member l = 8 * l.below + 4

abbrev pub decreases-members::emit_members : goal.decreases-members::emit_members
decreases-members::emit_members l = 8 * l.below + 5

abbrev pub invariant-emit_links-loop-rest : goal.invariant-emit_links-loop-rest
invariant-emit_links-loop-rest l = (Leads l.b.head l.b.section.now l.initial.text (Ok l.initial.p) (chain_left l.b.head l.b.section.now l.below l.d.id (name_text l.b.head l.b.section.now l.d.name) l.d.lvl l.initial.rest l.initial.work) l.text (Ok l.p) (chain_left l.b.head l.b.section.now l.below l.d.id (name_text l.b.head l.b.section.now l.d.name) l.d.lvl l.rest l.work))
    × (only_links (chain_at l.b.head l.b.section.now l.work l.d.id l.rest.n) ≡ true)

abbrev pub decreases-emit_links-loop-rest : goal.decreases-emit_links-loop-rest
decreases-emit_links-loop-rest l = l.rest.n

abbrev pub invariant-emit_params-loop-k : goal.invariant-emit_params-loop-k
invariant-emit_params-loop-k l = Leads l.b.head l.b.section.now l.initial.text (Ok l.initial.p) (params_left l.b.head l.b.section.now l.below l.lvl (param_of l.b.head l.b.section.now l.shown.at) l.shown.vlen 0 l.initial.work) l.text (Ok l.p) (params_left l.b.head l.b.section.now l.below l.lvl (param_of l.b.head l.b.section.now l.shown.at) l.shown.vlen l.k l.work)

abbrev pub invariant-members::emit_members-loop-k : goal.invariant-members::emit_members-loop-k
invariant-members::emit_members-loop-k l = Leads l.b.head l.b.section.now l.initial.text (Ok l.initial.s.at) (members_left l.b.head l.b.section.now l.below l.body.x.id (tail_pads l.b.head.placing l.b.head.ptr_sz (eqb (kind_of l.body.x.t.info) 4) l.body.x.t.type_id) (deeper l.body.lvl) l.body.packed (λ j. rule_member l.b.head l.b.section.now (member_of l.b.head l.b.section.now l.body.x.t j)) l.vlen 0 l.initial.s.offset l.initial.work) l.text (Ok l.s.at) (members_left l.b.head l.b.section.now l.below l.body.x.id (tail_pads l.b.head.placing l.b.head.ptr_sz (eqb (kind_of l.body.x.t.info) 4) l.body.x.t.type_id) (deeper l.body.lvl) l.body.packed (λ j. rule_member l.b.head l.b.section.now (member_of l.b.head l.b.section.now l.body.x.t j)) l.vlen l.k l.s.offset l.work)
