use Rattle.cxx_constant_tests.specs.Units.{IsUnit}
use Rattle.cxx_constant_tests.proofs.rows.value_of.Given as goal

abbrev pub invariant-loop-word : goal.invariant-loop-word
invariant-loop-word l = IsUnit l.unit
