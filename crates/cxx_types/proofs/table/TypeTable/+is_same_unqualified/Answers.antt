use Rattle.std.proofs.Common.{length}
use Rattle.cxx_types.proofs.Reading.{bound-within}
use Rattle.cxx_types.proofs.table.TypeTable.+is_same_unqualified.Goals as goal

pub same_bound-requires-clause-one_below : goal.same_bound-requires-clause-one_below
same_bound-requires-clause-one_below t c = bound-within (length c.args.self.now) c.args.one.0 c.node.result.now c.in-Array.element c.in-Array.bound c.in-Array.is c.requires.one_known c.node.ensures.below

pub same_bound-requires-clause-two_below : goal.same_bound-requires-clause-two_below
same_bound-requires-clause-two_below t c = bound-within (length c.args.self.now) c.args.two.0 c.node-in-Array.result.now c.in-Array-node.other c.in-Array-node.end c.in-Array-node.is c.requires.two_known c.node-in-Array.ensures.below
