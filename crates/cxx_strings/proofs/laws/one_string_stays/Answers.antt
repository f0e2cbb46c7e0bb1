use Rattle.cxx_strings.proofs.Spaced.{one_stays}
use Rattle.cxx_strings.proofs.laws.one_string_stays.Goals as goal

pub returns : goal.returns
returns c = one_stays
