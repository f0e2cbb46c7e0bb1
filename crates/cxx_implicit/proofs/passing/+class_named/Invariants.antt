use Rattle.cxx_implicit.proofs.passing.+class_named.Given as goal

abbrev pub decreases-class_named : goal.decreases-class_named
decreases-class_named l = l.of.0
