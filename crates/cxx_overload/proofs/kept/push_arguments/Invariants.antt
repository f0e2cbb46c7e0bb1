use Rattle.std.proofs.Common.{◌≡◌, ◌++◌, length, map}
use Rattle.std.specs.List.{All}
use Rattle.cxx_model.specs.Types.Numbers.{AreTypesBelow}
use Rattle.cxx_standard.specs.Views.{sequence_at as standard_sequence_at, IsSequenceBelow}
use Rattle.cxx_overload.specs.Calls.{standards}
use Rattle.cxx_overload.specs.Views.{row_at, AreOperandsBelow}
use Rattle.cxx_overload.proofs.kept.push_arguments.Given as goal

abbrev pub invariant-loop-left : goal.invariant-loop-left
invariant-loop-left l = record {
  same : map (standard_sequence_at l.types) l.found.items ++ standards (row_at l.types l.left l.parameters l.conversions) ≡ map (standard_sequence_at l.types) l.initial.found.items ++ standards (row_at l.types l.operands l.fn.parameters l.fn.conversions);
  operands : AreOperandsBelow (length l.types) l.left;
  parameters : AreTypesBelow (length l.types) l.parameters;
  below : All (IsSequenceBelow (length l.types)) l.found.items;
}

abbrev pub decreases-loop-left : goal.decreases-loop-left
decreases-loop-left l = length l.left
