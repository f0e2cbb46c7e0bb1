use Rattle.cxx_form.proofs.Holding.{held_more}
use Rattle.cxx_form.specs.Giving.{enumeration_of_fact}
use Rattle.cxx_form.proofs.enumerations.enumerators.Goals as goal

pub loop-number-preserved : goal.loop-number-preserved
loop-number-preserved c = held_more enumeration_of_fact c.args.state.now.types c.args.state.now.graph.facts c.loop-number.number c.loop-number.rows c.hold_at.new.rows c.in_ok-hold_at.ensures c.loop-number.invariant
