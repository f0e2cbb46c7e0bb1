use Rattle.std.proofs.Common.{◌+◌, ◌-◌, length}
use Rattle.cxx_implicit.specs.Rows.{AreSameRows}
use Rattle.cxx_implicit.proofs.Rowed.{rows_of}
use Rattle.cxx_implicit.proofs.rows.Rows.reach.Given as goal

abbrev pub invariant-loop-self : goal.invariant-loop-self
invariant-loop-self l = AreSameRows l.fn.self (rows_of l.self-inside.rows.items)

abbrev pub decreases-loop-self : goal.decreases-loop-self
decreases-loop-self l = l.number + 1 - length l.self-inside.rows.items
