use Rattle.std.proofs.Common.{ap, arith, ◌∙◌}
use Rattle.std.proofs.lemmas.Grind.{common_steps}
use Rattle.cxx_model.specs.Facts.Declarations.{facts_at}
use Rattle.cxx_this.specs.Begun.{begun_each}
use Rattle.cxx_this.proofs.Begun.{begun_are, begun_first, begun_next}
use Rattle.cxx_this.proofs.this.begun_in.Goals as goal

pub returns-in-Some : goal.returns-in-Some
returns-in-Some c = λ types. grind (arith, common_steps, begun_first, begun_next, c.loop-number.invariant types, c.begun_at.ensures types)

pub loop-number-preserved : goal.loop-number-preserved
loop-number-preserved c = λ types. grind (arith, common_steps, begun_first, begun_next, c.loop-number.invariant types, c.begun_at.ensures types)

pub loop-number-init : goal.loop-number-init
loop-number-init c = λ types. ap (begun_each (facts_at types c.args.graph.now.facts)) c.facts_of-number-items.ensures ∙ begun_are types c.args.scope.0 c.args.graph.now.facts
