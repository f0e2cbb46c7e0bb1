use Rattle.std.proofs.Common.{[], drop}
use Rattle.cxx_cursor.specs.Views.{trees_held}
use Rattle.cxx_later.specs.Found.{each_waiting}
use Rattle.cxx_later.proofs.Adding.{SoFar}
use Rattle.cxx_later.proofs.waiting.all_waiting.Given as goal

abbrev pub invariant-loop-number : goal.invariant-loop-number
invariant-loop-number l = SoFar l.state [] l.found.items (each_waiting l.room (trees_held l.state (drop l.number-index l.trees))) (each_waiting l.room (trees_held l.state l.trees))
