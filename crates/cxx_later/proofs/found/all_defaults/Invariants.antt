use Rattle.std.proofs.Common.{[], drop}
use Rattle.cxx_cursor.specs.Views.{trees_held}
use Rattle.cxx_later.specs.FoundDefaults.{each_default}
use Rattle.cxx_later.proofs.AddingDefaults.{SoFar}
use Rattle.cxx_later.proofs.found.all_defaults.Given as goal

abbrev pub invariant-loop-number : goal.invariant-loop-number
invariant-loop-number l = SoFar l.state [] l.found.items (each_default (trees_held l.state (drop l.number-index l.trees))) (each_default (trees_held l.state l.trees))
