use Rattle.cxx_standard.proofs.levels.+cv_of.Given as goal

abbrev pub decreases-cv_of : goal.decreases-cv_of
decreases-cv_of l = l.number.0
