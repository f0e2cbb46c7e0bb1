use Rattle.std.proofs.Common.{◌-◌, ◌+◌, arith, sym, ◌∙◌}
use Rattle.cxx_model.specs.Facts.Declarations.{name_at}
use Rattle.cxx_answers.specs.Told.{graph_of}
use Rattle.cxx_answers.proofs.Told.{out_on}
use Rattle.cxx_answers.proofs.givers.Telling.outward.Goals as goal

pub loop-turn-preserved : goal.loop-turn-preserved
loop-turn-preserved c = out_on (graph_of c.args.self.now) c.args.function.0 (name_at c.args.self.now.types.now c.args.name.now) (c.args.scope.0 - c.loop-turn.turn) (c.args.scope.0 - (c.loop-turn.turn + 1)) c.loop-turn.now.0 c.parent-now.result.0 _ (omega (arith, c.loop-turn-test.true)) (sym (c.is_space.ensures c.args.self.now.types.now) ∙ c.if-is_space.false) (sym c.declares.ensures ∙ c.if-declares.false) (c.parent-now.ensures c.args.self.now.types.now) c.loop-turn.invariant
