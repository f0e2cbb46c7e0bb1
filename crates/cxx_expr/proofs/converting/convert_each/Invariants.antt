use Rattle.std.proofs.Common.{◌≡◌, drop, length}
use Rattle.cxx_model.specs.Types.Numbers.{AreTypesBelow}
use Rattle.cxx_tree.specs.Held.{meaning}
use Rattle.cxx_tree.specs.Later.{Later}
use Rattle.cxx_expr.specs.Converting.{convert_each}
use Rattle.cxx_expr.specs.Making.{AreTreesHeld, trees_held}
use Rattle.cxx_expr.specs.Views.{types_in}
use Rattle.cxx_expr.proofs.converting.convert_each.Given as goal

abbrev pub invariant-loop-number : goal.invariant-loop-number
invariant-loop-number g l = record {
  later : Later l.fn.state l.state;
  below : AreTreesHeld l.state l.done;
  types : AreTypesBelow (length l.fn.state.types) l.types;
  is : convert_each (g.Q.Questions.asks l.questions) l.place (types_in l.fn.state.types l.types) (trees_held l.state l.done) (trees_held l.fn.state (drop l.number-index l.numbers)) (meaning l.state) ≡ convert_each (g.Q.Questions.asks l.questions) l.place (types_in l.fn.state.types l.fn.types) (trees_held l.fn.state l.fn.done) (trees_held l.fn.state l.numbers) (meaning l.fn.state);
}
