use Rattle.std.proofs.Common.{◌≡◌, ◌-◌, List}
use Rattle.cxx_model.specs.Facts.Declarations.{facts_at}
use Rattle.cxx_model.specs.Types.Trees.{CxxType}
use Rattle.cxx_names.proofs.Outer.{open_from}
use Rattle.cxx_names.proofs.names.Names.open_scope.Given as goal

abbrev pub invariant-loop-turn : goal.invariant-loop-turn
invariant-loop-turn l = (types : List CxxType) → open_from (facts_at types l.graph.facts) (l.fn.scope.0 - l._turn) l.now.0 ≡ open_from (facts_at types l.graph.facts) l.fn.scope.0 l.fn.scope.0
