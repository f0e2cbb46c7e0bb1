use Rattle.cxx_knot.proofs.knot.+read.Given as goal

abbrev pub decreases-read : goal.decreases-read
decreases-read g l = l.room
