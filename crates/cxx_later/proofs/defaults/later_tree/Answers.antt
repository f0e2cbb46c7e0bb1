use Rattle.std.proofs.Common.{subst}
use Rattle.cxx_cursor.specs.Making.{GrowsTree}
use Rattle.cxx_later.proofs.Gathered.{later_made}
use Rattle.cxx_reading.specs.Trees.{CxxTree}
use Rattle.cxx_tree.specs.Answered.{scope_of_option}
use Rattle.cxx_tree.specs.Arena.{number_of_option}
use Rattle.cxx_later.proofs.defaults.later_tree.Goals as goal

pub returns : goal.returns
returns c =
    subst (λ (made : CxxTree). GrowsTree c.args.state.now c.later_in.new.state c.later_in.result made)
    (later_made c.args.state.now c.node-node.result.now c.args.one (scope_of_option c.args.list) (number_of_option c.args.number) c.own_number-target.result c.span_of-span.result c.node-node.ensures.tree c.span_of-span.ensures c.own_number-target.ensures)
    c.later_in.ensures
