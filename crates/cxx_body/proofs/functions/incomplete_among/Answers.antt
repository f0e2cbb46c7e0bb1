use Rattle.std.proofs.Common.{ap, arith, ◌∙◌}
use Rattle.std.proofs.lemmas.Grind.{common_steps}
use Rattle.cxx_body.specs.Opened.{first_incomplete}
use Rattle.cxx_body.proofs.Incomplete.{incomplete_are, incomplete_first, incomplete_next}
use Rattle.cxx_body.proofs.functions.incomplete_among.Goals as goal

pub returns-in-Some : goal.returns-in-Some
returns-in-Some c = grind (arith, common_steps, incomplete_first, incomplete_next, c.loop-number.invariant, c.in-Some.ensures)

pub loop-number-preserved : goal.loop-number-preserved
loop-number-preserved c = grind (arith, common_steps, incomplete_first, incomplete_next, c.loop-number.invariant, c.in_default.ensures)

pub loop-number-init : goal.loop-number-init
loop-number-init c = ap (first_incomplete c.args.graph.now c.args.types.now c.args.graph.now.facts) c.facts_of-number-items.ensures ∙ incomplete_are c.args.graph.now c.args.types.now c.args.list.0 c.args.graph.now.facts
