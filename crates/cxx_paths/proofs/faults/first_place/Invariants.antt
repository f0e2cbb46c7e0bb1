use Rattle.std.proofs.Common.{◌≡◌, List, drop}
use Rattle.cxx_model.specs.Facts.Declarations.{graph_at}
use Rattle.cxx_model.specs.Types.Trees.{CxxType}
use Rattle.cxx_reading.specs.Seen.{fact_numbers, numbered_at, place_of_first}
use Rattle.cxx_paths.proofs.faults.first_place.Given as goal

abbrev pub invariant-loop-number : goal.invariant-loop-number
invariant-loop-number l = (types : List CxxType) → place_of_first (numbered_at (graph_at types l.graph) (fact_numbers (drop l.number-index l.numbers))) ≡ place_of_first (numbered_at (graph_at types l.graph) (fact_numbers l.numbers))
