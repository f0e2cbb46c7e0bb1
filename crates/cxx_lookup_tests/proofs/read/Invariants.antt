use Rattle.cxx_lookup_tests.specs.Units.{IsUnit}
use Rattle.cxx_lookup_tests.proofs.read.Given as goal

abbrev pub invariant-loop-word : goal.invariant-loop-word
invariant-loop-word l = record { unit : IsUnit l.unit; next : (goal.iterator-loop-word).can_next l.word-iterator; ends : (goal.iterator-loop-word).is_finite l.word-iterator }
