use Rattle.std.specs.BTreeSet.{contains}
use Rattle.std.specs.Ordering.{nat_cmp}
use Rattle.cxx_subobjects.specs.Reached.{IsWalk}
use Rattle.cxx_subobjects.proofs.reached.reached.Given as goal

abbrev pub invariant-loop-walk : goal.invariant-loop-walk
invariant-loop-walk l = IsWalk l.graph.facts l.class.0 l.walk.order.items l.walk.waiting.keys (contains nat_cmp l.walk.seen) l.bound l.bound

abbrev pub decreases-loop-walk : goal.decreases-loop-walk
decreases-loop-walk l = l.bound
