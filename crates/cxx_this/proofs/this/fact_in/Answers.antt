use Rattle.std.specs.Option.{option_copied}
use Rattle.cxx_this.proofs.Made.{there_is, what_below}
use Rattle.cxx_this.proofs.this.fact_in.Goals as goal

pub returns-clause-is : goal.returns-clause-is
returns-clause-is c = there_is c.args.state.now c.graph.result.now c.args.number.0 (option_copied c.fact_of.result) c.graph.ensures.is c.fact_of.ensures

pub returns-clause-below : goal.returns-clause-below
returns-clause-below c = what_below c.args.state.now c.graph.result.now c.args.number.0 (option_copied c.fact_of.result) c.graph.ensures.is c.graph.ensures.fitted c.fact_of.ensures
