use Rattle.std.specs.Prelude.{[], ◌∷◌}
use Rattle.cxx_builtin.specs.Plans.{sketch_at}
use Rattle.cxx_builtin.proofs.Drawing.{list_then, list_then_stopped}
use Rattle.cxx_builtin.proofs.making.listed_two.Goals as goal

pub returns-in_err-number : goal.returns-in_err-number
returns-in_err-number c = list_then_stopped c.args.graph.now c.args.types.now c.listed.new.types c.draw.new.types c.args.two c.in_ok-numbers.numbers c.draw.result c.from_residual-in_err-number.result (sketch_at c.args.types.now c.args.one ∷ []) (sketch_at c.args.types.now c.args.one ∷ sketch_at c.args.types.now c.args.two ∷ []) c.in_ok-numbers.ensures c.requires.two_below c.draw.ensures c.from_residual-in_err-number.ensures.0

pub returns-in_err-push : goal.returns-in_err-push
returns-in_err-push c = list_then_stopped c.args.graph.now c.args.types.now c.listed.new.types c.draw.new.types c.args.two c.in_ok-numbers.numbers c.draw.result c.from_residual-in_err-push.result (sketch_at c.args.types.now c.args.one ∷ []) (sketch_at c.args.types.now c.args.one ∷ sketch_at c.args.types.now c.args.two ∷ []) c.in_ok-numbers.ensures c.requires.two_below c.draw.ensures c.from_residual-in_err-push.ensures.0

pub returns : goal.returns
returns c = list_then c.args.graph.now c.args.types.now c.listed.new.types c.draw.new.types c.args.two c.in_ok-numbers.numbers c.push.new.self c.in_ok-number.number (sketch_at c.args.types.now c.args.one ∷ []) c.in_ok-numbers.ensures c.requires.two_below c.in_ok-number.ensures c.in_ok-push.ensures.ok
