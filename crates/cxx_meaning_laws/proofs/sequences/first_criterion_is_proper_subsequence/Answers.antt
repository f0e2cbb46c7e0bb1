use Rattle.cxx_meaning_laws.proofs.Subsequences.{better_exactly}
use Rattle.cxx_meaning_laws.proofs.sequences.first_criterion_is_proper_subsequence.Goals as goal

pub returns : goal.returns
returns c = better_exactly
