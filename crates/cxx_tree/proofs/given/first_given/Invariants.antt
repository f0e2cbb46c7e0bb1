use Rattle.std.proofs.Common.{ℕ, ◌≡◌, List, drop}
use Rattle.cxx_model.specs.Facts.Declarations.{facts_at}
use Rattle.cxx_model.specs.Types.Trees.{CxxType}
use Rattle.cxx_reading.specs.Trees.{CxxTree}
use Rattle.cxx_tree.specs.Defaults.{first_given}
use Rattle.cxx_tree.specs.Held.{AreFallbacksBelow, fallbacks_at}
use Rattle.cxx_tree.proofs.given.first_given.Given as goal

abbrev pub invariant-loop-one : goal.invariant-loop-one
invariant-loop-one l = ((types : List CxxType) (trees : List CxxTree) → first_given (facts_at types l.graph.facts) l.scope.0 l.function.0 l.index (fallbacks_at trees (drop l.one-index l.all)) ≡ first_given (facts_at types l.graph.facts) l.scope.0 l.function.0 l.index (fallbacks_at trees l.all)) × ((count : ℕ) → AreFallbacksBelow count l.all → AreFallbacksBelow count (drop l.one-index l.all))
