use Rattle.cxx_standard.proofs.levels.+may_widen.Given as goal

abbrev pub decreases-may_widen : goal.decreases-may_widen
decreases-may_widen l = l.one.0
