use Rattle.std.proofs.Common.{◌-◌, rules}
use Rattle.cxx_model.specs.Stops.{Stops}
use Rattle.cxx_tree.specs.Arena.{path_at}
use Rattle.cxx_tree.specs.Held.{meaning}
use Rattle.cxx_tree.specs.Later.{Later}
use Rattle.cxx_expr.specs.Calls.{fallbacks}
use Rattle.cxx_expr.specs.Making.{trees_held}
use Rattle.cxx_expr.proofs.Each.{fallbacks_fails, fallbacks_step}
use Rattle.cxx_expr.proofs.Kept.{later_trans}
use Rattle.cxx_called.proofs.calls.fallbacks.Goals as goal

pub returns-in_err-fallback_more : goal.returns-in_err-fallback_more
returns-in_err-fallback_more g c =
    let stops : Stops c.in_err-fallback_more.field-0.0 (fallbacks (g.Q.Questions.asks c.args.questions.now) (path_at c.args.path.now) c.args.target.0 c.args.begin (trees_held c.args.state.now c.args.done) (c.args.end - c.args.begin) (meaning c.args.state.now)) =
    fallbacks_fails (g.Q.Questions.asks c.args.questions.now) (path_at c.args.path.now) c.args.target.0 c.loop-index.state c.loop-index.done c.loop-index.index c.args.end _ c.in_err-fallback_more.field-0.0 c.loop-index-test.true c.loop-index.invariant.is c.in_err-fallback_more.ensures.is in
    let later : Later c.args.state.now c.fallback_more.new.state = later_trans _ _ _ c.loop-index.invariant.later c.fallback_more.ensures.later in
    search rules

pub loop-index-preserved : goal.loop-index-preserved
loop-index-preserved g c = record {
  later = later_trans _ _ _ c.loop-index.invariant.later c.fallback_more.ensures.later;
  below = c.in_ok-fallback_more.ensures.is.1;
  is = fallbacks_step (g.Q.Questions.asks c.args.questions.now) (path_at c.args.path.now) c.args.target.0 c.loop-index.state c.fallback_more.new.state c.loop-index.done c.fallback_more.new.done c.loop-index.index c.args.end _ c.loop-index-test.true c.in_ok-fallback_more.ensures.is.0 c.loop-index.invariant.is;
}
