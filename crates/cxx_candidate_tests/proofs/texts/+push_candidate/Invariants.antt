use Rattle.std.proofs.Common.{length}
use Rattle.cxx_candidate_tests.proofs.texts.+push_candidate.Given as goal

abbrev pub decreases-push_candidate : goal.decreases-push_candidate
decreases-push_candidate l = length l.list.now
