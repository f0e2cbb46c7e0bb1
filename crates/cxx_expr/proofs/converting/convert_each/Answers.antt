use Rattle.std.proofs.Common.{rules, refl}
use Rattle.cxx_model.specs.Stops.{Stops}
use Rattle.cxx_tree.specs.Held.{meaning}
use Rattle.cxx_tree.specs.Later.{Later}
use Rattle.cxx_expr.specs.Converting.{convert_each}
use Rattle.cxx_expr.specs.Making.{trees_held}
use Rattle.cxx_expr.specs.Views.{types_in}
use Rattle.cxx_expr.proofs.Each.{each_fails, each_step}
use Rattle.cxx_expr.proofs.Kept.{later_trans}
use Rattle.cxx_expr.proofs.converting.convert_each.Goals as goal

pub returns-in_err-convert_more : goal.returns-in_err-convert_more
returns-in_err-convert_more g c =
    let stops : Stops c.in_err-convert_more.field-0.0 (convert_each (g.Q.Questions.asks c.args.questions.now) c.args.place (types_in c.args.state.now.types c.args.types.now) (trees_held c.args.state.now c.args.done) (trees_held c.args.state.now c.args.numbers.now) (meaning c.args.state.now)) =
    each_fails (g.Q.Questions.asks c.args.questions.now) c.args.place c.args.state.now c.loop-number.state c.loop-number.types.now c.loop-number.done c.args.numbers.now c.loop-number.number-index _ _ _ c.in_err-convert_more.field-0.0 c.loop-number.invariant.later c.loop-number.invariant.types c.requires.numbers c.loop-number-test.true refl c.loop-number.invariant.is c.in_err-convert_more.ensures.is in
    let later : Later c.args.state.now c.convert_more.new.state = later_trans _ _ _ c.loop-number.invariant.later c.convert_more.ensures.later in
    search rules

pub loop-number-preserved : goal.loop-number-preserved
loop-number-preserved g c = record {
  later = later_trans _ _ _ c.loop-number.invariant.later c.convert_more.ensures.later;
  below = c.in_ok-convert_more.ensures.is.1;
  types = c.types_after-types.ensures.below _ c.loop-number.invariant.types;
  is = each_step (g.Q.Questions.asks c.args.questions.now) c.args.place c.args.state.now c.loop-number.state c.convert_more.new.state c.loop-number.types.now _ c.loop-number.done c.convert_more.new.done c.args.numbers.now c.loop-number.number-index _ _ _ c.loop-number.invariant.later c.loop-number.invariant.types c.requires.numbers c.loop-number-test.true refl (c.types_after-types.ensures.is _) c.in_ok-convert_more.ensures.is.0 c.loop-number.invariant.is;
}
