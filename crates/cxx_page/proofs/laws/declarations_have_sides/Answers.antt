use Rattle.cxx_page.proofs.Sides.{split}
use Rattle.cxx_page.proofs.laws.declarations_have_sides.Goals as goal

pub returns : goal.returns
returns c = split
