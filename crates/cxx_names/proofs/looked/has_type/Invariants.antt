use Rattle.std.proofs.Common.{◌≡◌, List, drop}
use Rattle.cxx_model.specs.Facts.Declarations.{graph_at}
use Rattle.cxx_model.specs.Types.Trees.{CxxType}
use Rattle.cxx_reading.specs.Seen.{any_type}
use Rattle.cxx_names.specs.Looked.{looked_up}
use Rattle.cxx_names.proofs.looked.has_type.Given as goal

abbrev pub invariant-loop-number : goal.invariant-loop-number
invariant-loop-number l = (types : List CxxType) → any_type (graph_at types l.graph) (looked_up types l.graph.facts (drop l.number-index l.numbers)) ≡ any_type (graph_at types l.graph) (looked_up types l.graph.facts l.numbers)
