use Rattle.cxx_meaning.proofs.Nearest.{first_is_found, nothing_is_none}
use Rattle.cxx_scopes.proofs.laws.first_scope_alone.Goals as goal

pub returns : goal.returns
returns c = record { first = first_is_found; none = nothing_is_none }
