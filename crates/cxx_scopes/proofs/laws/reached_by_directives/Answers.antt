use Rattle.cxx_meaning.proofs.Reached.{each_is_reached}
use Rattle.cxx_scopes.proofs.laws.reached_by_directives.Goals as goal

pub returns : goal.returns
returns c = each_is_reached
