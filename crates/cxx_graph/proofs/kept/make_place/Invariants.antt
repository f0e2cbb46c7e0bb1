use Rattle.std.proofs.Common.{◌+◌, ◌-◌, length}
use Rattle.cxx_graph.specs.Kept.{AreSameHolders}
use Rattle.cxx_graph.proofs.kept.make_place.Given as goal

abbrev pub invariant-loop-number : goal.invariant-loop-number
invariant-loop-number l = AreSameHolders l.fn.holders.items l.holders.items

abbrev pub decreases-loop-number : goal.decreases-loop-number
decreases-loop-number l = l.number.0 + 1 - length l.holders.items
