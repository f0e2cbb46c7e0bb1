use Rattle.cxx_standard.proofs.kinds.+kind_in.Given as goal

abbrev pub decreases-kind_in : goal.decreases-kind_in
decreases-kind_in l = l.number.0
