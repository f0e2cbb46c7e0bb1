use Rattle.cxx_called.proofs.Declared.{what_below}
use Rattle.cxx_called.proofs.facts.known_of.Goals as goal

pub returns-in-Some-clause-below : goal.returns-in-Some-clause-below
returns-in-Some-clause-below c = c.known_at.ensures.below _ (what_below c.args.state.now c.graph.result.now c.args.number.0 c.in-Some.fact.now c.graph.ensures.is c.graph.ensures.fitted c.in-Some.ensures)
