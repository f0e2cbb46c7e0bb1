use Rattle.cxx_space.proofs.Told.{asked_by}
use Rattle.cxx_space.proofs.unit.read_unit.Goals as goal

pub returns-clause-asked : goal.returns-clause-asked
returns-clause-asked g c = asked_by c.args.chooser c.in_ok-state.state c.unit_steps-ended.new.state c.whole.result c.in_ok-state.ensures.tells c.unit_steps-ended.ensures.later c.whole.ensures.same c.whole.ensures.asks
