use Rattle.cxx_meaning_laws.proofs.Subsequences.{proper_then}
use Rattle.cxx_meaning_laws.proofs.sequences.proper_subsequences_chain.Goals as goal

pub returns : goal.returns
returns c = proper_then
