use lib.ListN.{drop}
use mathlib.Core.Path.{◌≡◌}
use Rattle.session_declaration_reader.specs.bases.Items.{placing, qual_items}
use Rattle.session_declaration_reader.specs.bases.Looking.{quals_in}
use Rattle.session_declaration_reader.proofs.bases.items.Chain.put_quals.Given as goal

-- what is left to store gives the whole
abbrev pub invariant-loop-qualifier : goal.invariant-loop-qualifier
invariant-loop-qualifier l =
    (placing l.self.words.now l.self.n (qual_items (quals_in (drop l.qualifier-index l.fn.q.list)))
    ≡ placing l.initial.self.words.now l.initial.self.n (qual_items (quals_in l.fn.q.list)))
    × (l.self.words.ghost_name ≡ l.initial.self.words.ghost_name)
