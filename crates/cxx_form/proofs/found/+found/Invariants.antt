use Rattle.std.proofs.Common.{◌+◌, ◌*◌, drop}
use Rattle.cxx_tree.specs.Arena.{trees_in}
use Rattle.cxx_tree.specs.Held.{trees}
use Rattle.cxx_form.specs.Found.{each_found}
use Rattle.cxx_form.proofs.InTrees.{SoFar}
use Rattle.cxx_form.proofs.found.+found.Given as goal

abbrev pub decreases-add_each : goal.decreases-add_each
decreases-add_each l = 3 * l.end.0

abbrev pub decreases-add_inside : goal.decreases-add_inside
decreases-add_inside l = 3 * l.number.0 + 1

abbrev pub decreases-add_in : goal.decreases-add_in
decreases-add_in l = 3 * l.number.0 + 2

abbrev pub invariant-add_each-loop-part : goal.invariant-add_each-loop-part
invariant-add_each-loop-part l = SoFar (trees l.state) l.fn.found.items l.found.items (each_found l.wanted l.passed (trees_in (trees l.state) (drop l.part-index l.parts))) (each_found l.wanted l.passed (trees_in (trees l.state) l.parts))
