use Rattle.std.specs.Prelude.{[], ◌∷◌}
use Rattle.cxx_candidates.specs.Shapes.{formed, slot_at}
use Rattle.cxx_candidates.proofs.Made.{list_of_one, one_stopped}
use Rattle.cxx_candidates.proofs.making.listed_one.Goals as goal

pub returns-in_err-number : goal.returns-in_err-number
returns-in_err-number c = one_stopped c.args.graph.now c.args.types.now c.make_first.new.types c.args.form c.args.slot c.make_first.result c.from_residual.result (formed c.args.form (slot_at c.args.types.now c.args.slot) ∷ []) c.requires.fitted c.requires.known c.make_first.ensures c.from_residual.ensures.0

pub returns-in_err-push : goal.returns-in_err-push
returns-in_err-push c = one_stopped c.args.graph.now c.args.types.now c.make_first.new.types c.args.form c.args.slot c.make_first.result c.from_residual-in_err-push.result (formed c.args.form (slot_at c.args.types.now c.args.slot) ∷ []) c.requires.fitted c.requires.known c.make_first.ensures c.from_residual-in_err-push.ensures.0

pub returns : goal.returns
returns c = list_of_one c.args.graph.now c.args.types.now c.make_first.new.types c.args.form c.args.slot c.in_ok-number.number _ c.push.new.self c.requires.fitted c.requires.known c.in_ok-number.ensures c.new-numbers.ensures c.in_ok-push.ensures.ok
