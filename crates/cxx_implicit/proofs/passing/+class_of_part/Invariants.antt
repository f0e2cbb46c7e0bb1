use Rattle.cxx_implicit.proofs.passing.+class_of_part.Given as goal

abbrev pub decreases-class_of_part : goal.decreases-class_of_part
decreases-class_of_part l = l.of.0
