use Rattle.std.proofs.Common.{length}
use Rattle.cxx_candidates.proofs.answer.+needed.Given as goal

abbrev pub decreases-needed : goal.decreases-needed
decreases-needed l = length l.operands.now
