use Rattle.std.proofs.Common.{length}
use Rattle.cxx_candidate_tests.proofs.fits.+are_typed.Given as goal

abbrev pub decreases-are_typed : goal.decreases-are_typed
decreases-are_typed l = length l.operands.now
