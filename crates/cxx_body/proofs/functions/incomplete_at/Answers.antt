use Rattle.std.proofs.Common.{ap, sym, ◌∙◌}
use Rattle.cxx_body.specs.Opened.{incomplete_by}
use Rattle.cxx_body.proofs.Incomplete.{entity_below}
use Rattle.cxx_body.proofs.functions.incomplete_at.Goals as goal

pub incomplete_place-requires-clause-below : goal.incomplete_place-requires-clause-below
incomplete_place-requires-clause-below c = entity_below c.args.types.now c.args.graph.now c.args.number.0 c.in-Some.fact.now c.requires (sym c.in-Some.ensures)

pub returns-in-Some : goal.returns-in-Some
returns-in-Some c = c.incomplete_place.ensures ∙ ap (incomplete_by c.args.graph.now c.args.types.now) c.in-Some.ensures

pub returns-in-None : goal.returns-in-None
returns-in-None c = ap (incomplete_by c.args.graph.now c.args.types.now) c.in-None.ensures
