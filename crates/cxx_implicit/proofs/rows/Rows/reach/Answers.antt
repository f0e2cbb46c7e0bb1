use Rattle.cxx_implicit.proofs.Rowed.{reached}
use Rattle.cxx_implicit.proofs.rows.Rows.reach.Goals as goal

pub loop-self-preserved : goal.loop-self-preserved
loop-self-preserved c = reached c.args.self.now c.loop-self.self-inside.rows.items c.push.new.self.items c.new.result c.loop-self.invariant c.new.ensures.items c.in_ok-push.ensures.items
