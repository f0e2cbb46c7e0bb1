use Rattle.std.proofs.Common.{◌+◌, ◌*◌, drop}
use Rattle.cxx_cursor.specs.Views.{trees_held}
use Rattle.cxx_later.specs.FoundDefaults.{each_default}
use Rattle.cxx_later.proofs.AddingDefaults.{SoFar}
use Rattle.cxx_later.proofs.found.+found_defaults.Given as goal

abbrev pub decreases-add_each : goal.decreases-add_each
decreases-add_each l = 2 * l.end.0

abbrev pub decreases-add_in : goal.decreases-add_in
decreases-add_in l = 2 * l.number.0 + 1

abbrev pub invariant-add_each-loop-part : goal.invariant-add_each-loop-part
invariant-add_each-loop-part l = SoFar l.state l.fn.found.items l.found.items (each_default (trees_held l.state (drop l.part-index l.parts))) (each_default (trees_held l.state l.parts))
