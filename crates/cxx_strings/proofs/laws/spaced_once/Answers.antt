use Rattle.cxx_strings.proofs.Spaced.{once}
use Rattle.cxx_strings.proofs.laws.spaced_once.Goals as goal

pub returns : goal.returns
returns c = once
