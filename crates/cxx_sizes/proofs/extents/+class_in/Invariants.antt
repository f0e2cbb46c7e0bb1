use Rattle.cxx_sizes.proofs.extents.+class_in.Given as goal

abbrev pub decreases-class_in : goal.decreases-class_in
decreases-class_in l = l.of.0
