use Rattle.cxx_form.specs.Giving.{scope_of_part}
use Rattle.cxx_form.proofs.Holding.{held_more}
use Rattle.cxx_form.proofs.scoped.parts.Goals as goal

pub loop-number-preserved : goal.loop-number-preserved
loop-number-preserved c = held_more scope_of_part c.args.state.now.types c.args.state.now.graph.facts c.loop-number.number c.loop-number.rows c.hold_at.new.rows c.in_ok-hold_at.ensures c.loop-number.invariant
