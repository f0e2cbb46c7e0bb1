use Rattle.cxx_meaning_laws.proofs.Subsequences.{proper_is_better}
use Rattle.cxx_meaning_laws.proofs.sequences.proper_subsequence_is_better.Goals as goal

pub returns : goal.returns
returns c = proper_is_better
