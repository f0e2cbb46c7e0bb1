use Rattle.cxx_library_tests.specs.Free.{IsFree}
use Rattle.cxx_library_tests.proofs.types.made.Given as goal

abbrev pub invariant-loop-letter : goal.invariant-loop-letter
invariant-loop-letter l = IsFree l.tree
