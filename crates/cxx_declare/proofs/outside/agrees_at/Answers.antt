use Rattle.std.specs.Option.{option_copied}
use Rattle.std.proofs.Common.{ap, sym, ◌∙◌}
use Rattle.cxx_tree.specs.Held.{type_of}
use Rattle.cxx_declare.proofs.Agreeing.{agrees_none, agrees_one, entity_below}
use Rattle.cxx_declare.proofs.outside.agrees_at.Goals as goal

pub fact_agrees-requires-clause-below : goal.fact_agrees-requires-clause-below
fact_agrees-requires-clause-below c = entity_below c.args.state.now c.graph.result.now c.args.number.0 c.in-Some.fact.now c.graph.ensures.is c.graph.ensures.fitted (sym c.fact_of.ensures ∙ ap option_copied c.in-Some.is)

pub returns-in-Some : goal.returns-in-Some
returns-in-Some c = agrees_one c.args.state.now c.graph.result.now c.args.is_typedef (type_of c.args.state.now c.args.of) c.args.number.0 c.in-Some.fact.now c.fact_agrees.result c.graph.ensures.is (sym c.fact_of.ensures ∙ ap option_copied c.in-Some.is) c.fact_agrees.ensures

pub returns-in-None : goal.returns-in-None
returns-in-None c = agrees_none c.args.state.now c.graph.result.now c.args.is_typedef (type_of c.args.state.now c.args.of) c.args.number.0 c.graph.ensures.is (sym c.fact_of.ensures ∙ ap option_copied c.in-None.is)
