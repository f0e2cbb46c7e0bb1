use Rattle.std.proofs.Common.{length}
use Rattle.cxx_tree.specs.Held.{trees}
use Rattle.cxx_declare.proofs.Giving.{offered_below, offered_is}
use Rattle.cxx_declare.proofs.functions.offered_by.Goals as goal

pub returns-clause-is : goal.returns-clause-is
returns-clause-is c = offered_is c.args.state.now c.args.list c.offers.result.now c.offered_of.result c.offers.ensures.is c.offered_of.ensures

pub returns-clause-below : goal.returns-clause-below
returns-clause-below c = offered_below (length (trees c.args.state.now)) c.args.list c.offers.result.now c.offered_of.result c.offers.ensures.below c.offered_of.ensures
