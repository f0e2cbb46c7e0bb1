use Rattle.cxx_statements.proofs.knot.+read.Given as goal

abbrev pub decreases-read : goal.decreases-read
decreases-read g l = l.room
