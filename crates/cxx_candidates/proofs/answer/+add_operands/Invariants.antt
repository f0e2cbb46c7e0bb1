use Rattle.std.proofs.Common.{length}
use Rattle.cxx_candidates.proofs.answer.+add_operands.Given as goal

abbrev pub decreases-add_operands : goal.decreases-add_operands
decreases-add_operands l = length l.operands.now
