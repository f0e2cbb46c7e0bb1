use Rattle.cxx_meaning.proofs.Seen.{each_is_of_one}
use Rattle.cxx_members.proofs.laws.entities_of_declarations.Goals as goal

pub returns : goal.returns
returns c = each_is_of_one
