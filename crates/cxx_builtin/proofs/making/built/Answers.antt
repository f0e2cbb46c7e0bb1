use Rattle.std.specs.Prelude.{◌∷◌}
use Rattle.cxx_builtin.specs.Plans.{second_at, sketch_at}
use Rattle.cxx_builtin.proofs.Drawing.{built_stopped, built_whole}
use Rattle.cxx_builtin.proofs.making.built.Goals as goal

pub returns-in_err-whole : goal.returns-in_err-whole
returns-in_err-whole c = built_stopped c.args.graph.now c.args.types.now c.listed_operands.new.types c.draw.new.types c.args.plan c.in_ok-operands.operands c.draw.result c.from_residual-in_err-whole.result (sketch_at c.args.types.now c.args.plan.first ∷ second_at c.args.types.now c.args.plan.second) c.in_ok-operands.ensures c.requires.below.result c.draw.ensures c.from_residual-in_err-whole.ensures.0

pub returns : goal.returns
returns c = built_whole c.args.graph.now c.args.types.now c.listed_operands.new.types c.draw.new.types c.args.plan c.in_ok-operands.operands c.in_ok-whole.whole c.in_ok-operands.ensures c.requires.below.result c.in_ok-whole.ensures
