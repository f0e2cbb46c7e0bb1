use Rattle.cxx_standard.proofs.levels.+are_within.Given as goal

abbrev pub decreases-are_within : goal.decreases-are_within
decreases-are_within l = l.one.0
