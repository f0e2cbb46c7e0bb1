use Rattle.cxx_strings.proofs.Spaced.{as_many}
use Rattle.cxx_strings.proofs.laws.each_string_is_counted.Goals as goal

pub returns : goal.returns
returns c = as_many
