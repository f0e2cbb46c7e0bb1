use Rattle.std.proofs.Common.{◌∙◌, refl}
use Rattle.cxx_expr.proofs.Kept.{later_trans}
use Rattle.cxx_called.proofs.Judged.{judged_step}
use Rattle.cxx_called.proofs.calls.judged_each.Goals as goal

pub loop-number-preserved : goal.loop-number-preserved
loop-number-preserved g c = record {
  later = later_trans _ _ _ c.loop-number.invariant.later c.push_judged.ensures.later;
  same = c.push_judged.ensures.same ∙ c.loop-number.invariant.same;
  below = c.in_ok-push_judged.ensures.made.0;
  is = judged_step (g.Q.Questions.asks c.args.questions.now) c.args.state.now c.loop-number.state c.push_judged.new.state c.loop-number.found c.push_judged.new.found c.args.numbers.now c.loop-number.number-index _ _ _ c.loop-number.invariant.later c.loop-number.invariant.same c.requires.numbers c.loop-number-test.true refl c.in_ok-push_judged.ensures.made.1 c.loop-number.invariant.is;
}
