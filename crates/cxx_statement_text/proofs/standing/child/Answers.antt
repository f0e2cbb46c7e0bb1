use Rattle.cxx_phrase_text.proofs.Parts.{child_within}
use Rattle.cxx_statement_text.proofs.standing.child.Goals as goal

pub returns-clause-below : goal.returns-clause-below
returns-clause-below c = child_within c.args.end.0 c.args.parts.now c.args.index c.find.result c.requires c.find.ensures
