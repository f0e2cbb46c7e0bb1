use Rattle.cxx_meaning.proofs.Searched.{each_is_searched}
use Rattle.cxx_scopes.proofs.laws.searched_by_directives.Goals as goal

pub returns : goal.returns
returns c = each_is_searched
