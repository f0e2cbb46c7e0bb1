use Rattle.std.proofs.Common.{◌-◌, ◌+◌, arith, length}
use Rattle.cxx_model.specs.Types.Numbers.{type_at}
use Rattle.cxx_syntax.proofs.Layering.{goes_on_at, stands_at, stops_at}
use Rattle.cxx_syntax.proofs.layers.refused_in_order.Goals as goal

pub loop-turn-init : goal.loop-turn-init
loop-turn-init c = stands_at (length c.args.layers.now - 0) c.args.types.now c.args.layers.now (type_at c.args.types.now c.args.of.0) c.footing_of-footing.result (omega arith) c.footing_of-footing.ensures

pub returns-in-Some : goal.returns-in-Some
returns-in-Some c = stops_at (length c.args.layers.now - c.loop-turn.turn) (length c.args.layers.now - (c.loop-turn.turn + 1)) c.args.types.now c.args.layers.now c.before-layer.result.now (type_at c.args.types.now c.args.of.0) c.loop-turn.footing c.in-Some.why c.loop-turn.invariant c.before-layer.ensures c.refused_on.ensures c.in-Some.is

pub loop-turn-preserved : goal.loop-turn-preserved
loop-turn-preserved c = goes_on_at (length c.args.layers.now - c.loop-turn.turn) (length c.args.layers.now - (c.loop-turn.turn + 1)) c.args.types.now c.args.layers.now c.before-layer.result.now (type_at c.args.types.now c.args.of.0) c.loop-turn.footing c.footing_on-footing.result c.loop-turn.invariant c.before-layer.ensures c.refused_on.ensures c.in-None.is c.footing_on-footing.ensures
