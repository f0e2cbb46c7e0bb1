use Rattle.std.proofs.Common.{◌≡◌, ◌∷◌, length}
use Rattle.cxx_model.specs.Choice.Better.{compared}
use Rattle.cxx_model.specs.Facts.Declarations.{graph_at}
use Rattle.cxx_model.specs.Types.Numbers.{AreTypesBelow}
use Rattle.cxx_overload.specs.Sequences.{is_better_by, order_between}
use Rattle.cxx_overload.specs.Views.{row_at, AreOperandsBelow}
use Rattle.cxx_overload.proofs.Loops.{verdict}
use Rattle.cxx_overload.proofs.order.is_better_function.Given as goal

abbrev pub invariant-loop-left : goal.invariant-loop-left
invariant-loop-left l = record {
  same : verdict l.has_better (compared (order_between (graph_at l.types l.graph)) (row_at l.types l.left l.ones l.by_ones) (row_at l.types l.left l.twos l.by_twos)) ≡ is_better_by (l.fn.before ∷ compared (order_between (graph_at l.types l.graph)) (row_at l.types l.operands l.fn.one.parameters.now l.fn.one.conversions.now) (row_at l.types l.operands l.fn.two.parameters.now l.fn.two.conversions.now));
  operands : AreOperandsBelow (length l.types) l.left;
  ones : AreTypesBelow (length l.types) l.ones;
  twos : AreTypesBelow (length l.types) l.twos;
}

abbrev pub decreases-loop-left : goal.decreases-loop-left
decreases-loop-left l = length l.left
