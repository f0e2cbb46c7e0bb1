use Rattle.cxx_called.proofs.Declared.{name_below}
use Rattle.cxx_called.proofs.facts.in_full_by.Goals as goal

pub in_full-requires-clause-name : goal.in_full-requires-clause-name
in_full-requires-clause-name c = name_below c.args.state.now c.graph.result.now c.args.target.0 c.in-Some.fact.now c.graph.ensures.is c.graph.ensures.fitted c.in-Some.ensures
