use Rattle.cxx_meaning_laws.proofs.Grouping.{usual_grouped}
use Rattle.cxx_meaning_laws.proofs.arithmetic.usual_groups.Goals as goal

pub returns : goal.returns
returns c = usual_grouped
