use Rattle.std.proofs.Common.{◌≡◌, ◌+◌, ◌*◌, drop}
use Rattle.cxx_tree.specs.Arena.{bound_of}
use Rattle.cxx_tree.specs.Held.{meaning, type_of}
use Rattle.cxx_tree.specs.Later.{Later}
use Rattle.cxx_expr.specs.Initializing.{elements, part}
use Rattle.cxx_expr.specs.Making.{AreTreesHeld, trees_held}
use Rattle.cxx_initialize.specs.Behind.{elements_behind}
use Rattle.cxx_initialize.proofs.elements.+parts.Given as goal

abbrev pub decreases-element_in : goal.decreases-element_in
decreases-element_in g l = 8 * l.element.0 + 1

abbrev pub decreases-element_more : goal.decreases-element_more
decreases-element_more g l = 8 * l.element.0 + 2

abbrev pub decreases-elements : goal.decreases-elements
decreases-elements g l = 8 * l.element.0 + 3

abbrev pub decreases-list_part : goal.decreases-list_part
decreases-list_part g l = 8 * l.element.0 + 4

abbrev pub decreases-braces_part : goal.decreases-braces_part
decreases-braces_part g l = 8 * l.element.0 + 5

abbrev pub decreases-array_part : goal.decreases-array_part
decreases-array_part g l = 8 * l.element.0 + 6

abbrev pub decreases-part : goal.decreases-part
decreases-part g l = 8 * l.of.0

abbrev pub invariant-elements-loop-number : goal.invariant-elements-loop-number
invariant-elements-loop-number g l = record {
  later : Later l.fn.state l.state;
  below : AreTreesHeld l.state l.done;
  is : elements_behind l.place (part (g.Q.Questions.asks l.questions) (type_of l.fn.state l.element)) (bound_of l.room) (trees_held l.state l.done) (trees_held l.fn.state (drop l.number-index l.numbers)) (meaning l.state) ≡ elements l.place (part (g.Q.Questions.asks l.questions) (type_of l.fn.state l.element)) (bound_of l.fn.room) (trees_held l.fn.state l.numbers) (meaning l.fn.state);
}
