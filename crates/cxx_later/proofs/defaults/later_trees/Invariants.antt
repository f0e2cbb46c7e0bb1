use Rattle.std.proofs.Common.{drop}
use Rattle.cxx_later.specs.Defaults.{later_trees}
use Rattle.cxx_later.proofs.Gathered.{SoFarKept}
use Rattle.cxx_tree.specs.Answered.{scope_of_option}
use Rattle.cxx_tree.specs.Arena.{number_of_option}
use Rattle.cxx_tree.specs.Held.{offers_at, trees}
use Rattle.cxx_later.proofs.defaults.later_trees.Given as goal

abbrev pub invariant-loop-one : goal.invariant-loop-one
invariant-loop-one l = SoFarKept l.fn.state l.state l.fn.found l.found (later_trees (scope_of_option l.list) (number_of_option l.number) (offers_at (trees l.fn.state) (drop l.one-index l.offers))) (later_trees (scope_of_option l.list) (number_of_option l.number) (offers_at (trees l.fn.state) l.offers))
