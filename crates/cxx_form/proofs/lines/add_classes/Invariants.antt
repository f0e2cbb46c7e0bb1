use Rattle.std.proofs.Common.{◌-◌, length}
use Rattle.cxx_form.specs.Order.{class_lines}
use Rattle.cxx_tree.specs.Held.{trees}
use Rattle.cxx_form.specs.Views.{facts_in}
use Rattle.cxx_form.proofs.Lined.{SoFar}
use Rattle.cxx_form.proofs.lines.add_classes.Given as goal

abbrev pub invariant-loop-class : goal.invariant-loop-class
invariant-loop-class l = SoFar (trees l.state) l.fn.lines.items l.lines.items (class_lines (facts_in l.state) l.class (length l.state.graph.classes - l.class)) (class_lines (facts_in l.state) 0 (length l.state.graph.classes))
