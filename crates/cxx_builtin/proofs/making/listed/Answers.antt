use Rattle.std.specs.Prelude.{[], ◌∷◌}
use Rattle.cxx_builtin.specs.Plans.{sketch_at}
use Rattle.cxx_builtin.proofs.Drawing.{list_of_one, list_stopped}
use Rattle.cxx_builtin.proofs.making.listed.Goals as goal

pub returns-in_err-number : goal.returns-in_err-number
returns-in_err-number c = list_stopped c.args.graph.now c.args.types.now c.draw.new.types c.args.one c.draw.result c.from_residual.result (sketch_at c.args.types.now c.args.one ∷ []) c.requires.fitted c.requires.below c.draw.ensures c.from_residual.ensures.0

pub returns-in_err-push : goal.returns-in_err-push
returns-in_err-push c = list_stopped c.args.graph.now c.args.types.now c.draw.new.types c.args.one c.draw.result c.from_residual-in_err-push.result (sketch_at c.args.types.now c.args.one ∷ []) c.requires.fitted c.requires.below c.draw.ensures c.from_residual-in_err-push.ensures.0

pub returns : goal.returns
returns c = list_of_one c.args.graph.now c.args.types.now c.draw.new.types c.args.one c.in_ok-number.number _ c.push.new.self c.requires.fitted c.requires.below c.in_ok-number.ensures c.new-numbers.ensures c.in_ok-push.ensures.ok
