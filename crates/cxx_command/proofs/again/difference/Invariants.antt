-- what is left differs where the whole does
use Rattle.std.proofs.Common.{◌≡◌, ◌+◌, ◌≤◌, length}
use Rattle.cxx_command.specs.Again.{difference_from, difference_of}
use Rattle.cxx_command.proofs.again.difference.Given as goal

abbrev pub invariant-loop-left : goal.invariant-loop-left
invariant-loop-left l = (difference_from l.line l.left l.right ≡ difference_of l.one l.two) × (l.line + length l.left ≤ 1 + length l.one)

abbrev pub decreases-loop-left : goal.decreases-loop-left
decreases-loop-left l = length l.left
