use Rattle.cxx_declare.proofs.bases.+class_under.Given as goal

abbrev pub decreases-class_under : goal.decreases-class_under
decreases-class_under l = l.of.0
