use Rattle.cxx_standard.proofs.levels.+pointee.Given as goal

abbrev pub decreases-pointee : goal.decreases-pointee
decreases-pointee l = l.number.0
