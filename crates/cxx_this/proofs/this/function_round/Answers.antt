use Rattle.std.proofs.Common.{◌-◌, ◌+◌, arith}
use Rattle.cxx_tree.specs.Held.{meaning}
use Rattle.cxx_this.proofs.Begun.{round_on}
use Rattle.cxx_this.proofs.this.function_round.Goals as goal

pub loop-turn-preserved : goal.loop-turn-preserved
loop-turn-preserved c = round_on (meaning c.args.state.now).graph (c.args.scope.0 - c.loop-turn.turn) (c.args.scope.0 - (c.loop-turn.turn + 1)) c.loop-turn.now.0 c.parent-now.result.0 _ (omega (arith, c.loop-turn-test.true)) c.in_default.ensures c.parent-now.ensures c.loop-turn.invariant
