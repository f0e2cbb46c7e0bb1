use Rattle.std.proofs.Common.{◌≡◌, ◌++◌, drop, length}
use Rattle.cxx_found.specs.Associated.{given}
use Rattle.cxx_answers.specs.Answers.{types_of_operands}
use Rattle.cxx_expr.specs.Views.{operands_in}
use Rattle.cxx_model.specs.Types.Numbers.{AreTypesBelow}
use Rattle.cxx_answers.proofs.calls.types_of.Given as goal

abbrev pub invariant-loop-operand : goal.invariant-loop-operand
invariant-loop-operand l = record {
  is : given l.types l.of ++ types_of_operands (operands_in l.types (drop l.operand-index l.operands)) ≡ types_of_operands (operands_in l.types l.operands);
  below : AreTypesBelow (length l.types) l.of;
}
