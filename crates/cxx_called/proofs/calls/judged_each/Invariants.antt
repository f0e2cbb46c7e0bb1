use Rattle.std.proofs.Common.{◌≡◌, ◌++◌, drop, length}
use Rattle.cxx_tree.specs.Held.{meaning}
use Rattle.cxx_tree.specs.Later.{Later}
use Rattle.cxx_expr.specs.Making.{trees_held}
use Rattle.cxx_expr.specs.Operands.{judged_each}
use Rattle.cxx_expr.specs.Views.{AreOperandsBelow, operands_in}
use Rattle.cxx_called.proofs.calls.judged_each.Given as goal

abbrev pub invariant-loop-number : goal.invariant-loop-number
invariant-loop-number g l = record {
  later : Later l.fn.state l.state;
  same : meaning l.state ≡ meaning l.fn.state;
  below : AreOperandsBelow (length l.state.types) l.found;
  is : operands_in l.state.types l.found ++ judged_each (g.Q.Questions.asks l.questions) (trees_held l.fn.state (drop l.number-index l.numbers)) (meaning l.fn.state) ≡ judged_each (g.Q.Questions.asks l.questions) (trees_held l.fn.state l.numbers) (meaning l.fn.state);
}
