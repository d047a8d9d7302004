use Rattle.std.proofs.Common.{rules, tests, ℕ, ◌%◌, ◌/◌}
use Rattle.std.proofs.lemmas.Iterator.{first_from_Range}
use Rattle.btf_open_causes.specs.references.Followed.{id_at}
use Rattle.btf_open_causes.specs.loops.Loops.{graph_of}
use Rattle.btf_open_causes.specs.loops.Walk.{Safe, Open}
use Rattle.btf_open_causes.proofs.loops.pass.Goals as goal

pub returns : goal.returns
returns c =
    let to = id_at c.args.i.now.table.head c.args.i.now.table.section.now (c.args.e.word % 32) (c.args.e.word / 32) in
    first_from_Range _ _ _ c.find.result (λ (k : ℕ). Open c.args.st.now (to k)) (λ (k : ℕ). Safe (graph_of c.args.i.now.table.head c.args.i.now.table.section.now c.args.i.now.start.now) (to k)) c.find.ensures.ran
    (λ x q k. search (rules, tests)) (λ x q k. search (rules, tests))
