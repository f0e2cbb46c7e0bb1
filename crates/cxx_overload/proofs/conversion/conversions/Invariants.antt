use Rattle.std.proofs.Common.{◌≡◌, drop, length}
use Rattle.cxx_model.specs.Facts.Declarations.{graph_at}
use Rattle.cxx_model.specs.Types.Numbers.{AreTypesBelow}
use Rattle.cxx_overload.specs.Asking.{after}
use Rattle.cxx_overload.specs.Sequences.{sequences_of}
use Rattle.cxx_overload.specs.Views.{listed_at, operands_at, row_at}
use Rattle.cxx_overload.proofs.conversion.conversions.Given as goal

abbrev pub invariant-loop-operand : goal.invariant-loop-operand
invariant-loop-operand l = record {
  same : after (row_at l.types l.operands l.parameters l.found.items) (sequences_of (graph_at l.types l.graph) (operands_at l.types (drop l.operand-index l.operands)) (listed_at l.types l.left) l.ellipsis) ≡ sequences_of (graph_at l.types l.graph) (operands_at l.types l.operands) (listed_at l.types l.parameters) l.ellipsis;
  counted : length l.found.items ≡ l.operand-index;
  at_parameter : l.left ≡ drop l.operand-index l.parameters;
  parameters : AreTypesBelow (length l.types) l.left;
}
