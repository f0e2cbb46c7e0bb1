use Rattle.std.proofs.Common.{◌≡◌, ◌-◌}
use Rattle.cxx_tree.specs.Arena.{path_at}
use Rattle.cxx_tree.specs.Held.{meaning}
use Rattle.cxx_tree.specs.Later.{Later}
use Rattle.cxx_expr.specs.Calls.{fallbacks}
use Rattle.cxx_expr.specs.Making.{AreTreesHeld, trees_held}
use Rattle.cxx_called.proofs.calls.fallbacks.Given as goal

abbrev pub invariant-loop-index : goal.invariant-loop-index
invariant-loop-index g l = record {
  later : Later l.fn.state l.state;
  below : AreTreesHeld l.state l.done;
  is : fallbacks (g.Q.Questions.asks l.questions) (path_at l.path) l.target.0 l.index (trees_held l.state l.done) (l.end - l.index) (meaning l.state) ≡ fallbacks (g.Q.Questions.asks l.questions) (path_at l.path) l.target.0 l.begin (trees_held l.fn.state l.fn.done) (l.end - l.begin) (meaning l.fn.state);
}
