use Rattle.cxx_names.proofs.alike.+is_incomplete.Given as goal

abbrev pub decreases-is_incomplete : goal.decreases-is_incomplete
decreases-is_incomplete l = l.of.0
