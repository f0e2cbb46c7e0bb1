use Rattle.cxx_tree.proofs.Wholes.{left, outside_there}
use Rattle.cxx_tree.proofs.state.State.leave_scope.Goals as goal

pub set_scope-requires : goal.set_scope-requires
set_scope-requires c = outside_there _ _ c.parent-outside.result c.self.view_is c.self.invariant.sound c.in_range.ensures (c.parent-outside.ensures c.self.inside.types)

pub returns-clause-is : goal.returns-clause-is
returns-clause-is c = left _ _ _ c.parent-outside.result c.self.view_is (c.parent-outside.ensures c.self.inside.types) c.set_scope.ensures.is
