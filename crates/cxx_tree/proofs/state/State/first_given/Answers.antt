use Rattle.std.proofs.Common.{length}
use Rattle.cxx_tree.specs.Held.{trees}
use Rattle.cxx_tree.proofs.Giving.{given_is}
use Rattle.cxx_tree.proofs.Keeping.{fallbacks_below}
use Rattle.cxx_tree.proofs.state.State.first_given.Goals as goal

pub returns-clause-is : goal.returns-clause-is
returns-clause-is c = given_is _ _ c.args.scope.0 c.args.function.0 c.args.index c.first_given.result c.as_slice.result.now c.self.view_is c.as_slice.ensures c.first_given.ensures.is

pub returns-clause-below : goal.returns-clause-below
returns-clause-below c = c.first_given.ensures.below (length (trees c.args.self.now)) (fallbacks_below _ _ c.as_slice.result.now c.self.view_is c.self.invariant.sound c.as_slice.ensures)
