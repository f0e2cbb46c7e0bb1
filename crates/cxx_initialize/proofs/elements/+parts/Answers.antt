use Rattle.std.proofs.Common.{rules, refl}
use Rattle.cxx_model.specs.Stops.{Stops}
use Rattle.cxx_tree.specs.Arena.{bound_of}
use Rattle.cxx_tree.specs.Held.{meaning, type_of}
use Rattle.cxx_tree.specs.Later.{Later}
use Rattle.cxx_expr.specs.Initializing.{elements, part}
use Rattle.cxx_expr.specs.Making.{trees_held}
use Rattle.cxx_expr.proofs.Kept.{later_trans}
use Rattle.cxx_initialize.proofs.Each.{each_fails, each_step}
use Rattle.cxx_initialize.proofs.elements.+parts.Goals as goal

pub elements-returns-in_err-element_more : goal.elements-returns-in_err-element_more
elements-returns-in_err-element_more g t c =
    let stops : Stops c.in_err-element_more.field-0.0 (elements c.args.place (part (g.Q.Questions.asks c.args.questions.now) (type_of c.args.state.now c.args.element)) (bound_of c.args.room) (trees_held c.args.state.now c.args.numbers.now) (meaning c.args.state.now)) =
    each_fails (g.Q.Questions.asks c.args.questions.now) c.args.place c.args.state.now c.loop-number.state c.args.element (bound_of c.loop-number.room) c.loop-number.done c.args.numbers.now c.loop-number.number-index _ _ _ c.in_err-element_more.field-0.0 c.loop-number.invariant.later c.requires.element c.requires.numbers c.loop-number-test.true refl c.loop-number.invariant.is c.in_err-element_more.ensures.is in
    let later : Later c.args.state.now c.element_more.new.state = later_trans _ _ _ c.loop-number.invariant.later c.element_more.ensures.later in
    search rules

pub elements-loop-number-preserved : goal.elements-loop-number-preserved
elements-loop-number-preserved g t c = record {
  later = later_trans _ _ _ c.loop-number.invariant.later c.element_more.ensures.later;
  below = c.in_ok-element_more.ensures.is.1;
  is = each_step (g.Q.Questions.asks c.args.questions.now) c.args.place c.args.state.now c.loop-number.state c.element_more.new.state c.args.element (bound_of c.loop-number.room) _ c.loop-number.done c.element_more.new.done c.args.numbers.now c.loop-number.number-index _ _ _ c.loop-number.invariant.later c.requires.element c.requires.numbers c.loop-number-test.true refl c.one_less-room.ensures c.in_ok-element_more.ensures.is.0 c.loop-number.invariant.is;
}
