use Rattle.std.proofs.Common.{◌≡◌, length}
use Rattle.cxx_expr.specs.Making.{AreTreesHeld, trees_held}
use Rattle.cxx_expr.specs.Operands.{any_open}
use Rattle.cxx_elaborate.proofs.open.any_open.Given as goal

abbrev pub invariant-loop-left : goal.invariant-loop-left
invariant-loop-left l = record {
  same : any_open (trees_held l.state l.left) ≡ any_open (trees_held l.state l.numbers);
  known : AreTreesHeld l.state l.left;
}

abbrev pub decreases-loop-left : goal.decreases-loop-left
decreases-loop-left l = length l.left
