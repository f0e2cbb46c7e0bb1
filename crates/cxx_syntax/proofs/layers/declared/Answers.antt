use Rattle.std.proofs.Common.{◌-◌, ◌+◌, length}
use Rattle.cxx_syntax.proofs.Layering.{declared_more}
use Rattle.cxx_syntax.proofs.layers.declared.Goals as goal

pub loop-turn-preserved : goal.loop-turn-preserved
loop-turn-preserved c = declared_more (length c.args.layers.now - c.loop-turn.turn) (length c.args.layers.now - (c.loop-turn.turn + 1)) c.args.layers.now c.before-in-loop-turn.result.now c.args.state.now c.loop-turn.state c.with_layer.new.state c.args.of c.loop-turn.made c.in-Ok.next c.with_layer.result c.loop-turn.invariant c.before-in-loop-turn.ensures c.requires.below c.with_layer.ensures c.in-Ok.is
