use Rattle.std.proofs.Common.{◌≡◌, List, drop}
use Rattle.cxx_model.specs.Facts.Declarations.{graph_at, spelled}
use Rattle.cxx_model.specs.Types.Trees.{CxxType}
use Rattle.cxx_reading.specs.Spaces.{opened_among}
use Rattle.cxx_names.specs.Looked.{looked_up}
use Rattle.cxx_names.proofs.names.Names.first_opened.Given as goal

abbrev pub invariant-loop-number : goal.invariant-loop-number
invariant-loop-number l = (types : List CxxType) → opened_among (graph_at types l.graph) l.scope.0 (spelled l.word) (looked_up types l.graph.facts (drop l.number-index l.numbers)) ≡ opened_among (graph_at types l.graph) l.scope.0 (spelled l.word) (looked_up types l.graph.facts l.numbers)
