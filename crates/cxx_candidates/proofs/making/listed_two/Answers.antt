use Rattle.std.specs.Prelude.{[], ◌∷◌}
use Rattle.cxx_candidates.specs.Shapes.{formed, slot_at}
use Rattle.cxx_candidates.proofs.Made.{list_of_two, two_stopped}
use Rattle.cxx_candidates.proofs.making.listed_two.Goals as goal

pub returns-in_err-number : goal.returns-in_err-number
returns-in_err-number c = two_stopped c.args.graph.now c.args.types.now c.listed_one.new.types c.make_slot.new.types c.args.other c.in_ok-numbers.numbers c.make_slot.result c.from_residual-in_err-number.result (formed c.args.form (slot_at c.args.types.now c.args.slot) ∷ []) (formed c.args.form (slot_at c.args.types.now c.args.slot) ∷ slot_at c.args.types.now c.args.other ∷ []) c.in_ok-numbers.ensures c.requires.other_known c.make_slot.ensures c.from_residual-in_err-number.ensures.0

pub returns-in_err-push : goal.returns-in_err-push
returns-in_err-push c = two_stopped c.args.graph.now c.args.types.now c.listed_one.new.types c.make_slot.new.types c.args.other c.in_ok-numbers.numbers c.make_slot.result c.from_residual-in_err-push.result (formed c.args.form (slot_at c.args.types.now c.args.slot) ∷ []) (formed c.args.form (slot_at c.args.types.now c.args.slot) ∷ slot_at c.args.types.now c.args.other ∷ []) c.in_ok-numbers.ensures c.requires.other_known c.make_slot.ensures c.from_residual-in_err-push.ensures.0

pub returns : goal.returns
returns c = list_of_two c.args.graph.now c.args.types.now c.listed_one.new.types c.make_slot.new.types c.args.other c.in_ok-numbers.numbers c.push.new.self c.in_ok-number.number (formed c.args.form (slot_at c.args.types.now c.args.slot) ∷ []) c.in_ok-numbers.ensures c.requires.other_known c.in_ok-number.ensures c.in_ok-push.ensures.ok
