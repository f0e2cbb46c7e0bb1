use Rattle.std.proofs.Common.{◌≡◌, List, drop}
use Rattle.cxx_model.specs.Facts.Declarations.{graph_at}
use Rattle.cxx_model.specs.Types.Trees.{CxxType}
use Rattle.cxx_reading.specs.Seen.{fact_numbers, numbered_at}
use Rattle.cxx_reading.specs.Usings.{space_among}
use Rattle.cxx_declare.specs.Brought.{place_of_space}
use Rattle.cxx_declare.proofs.usings.first_space.Given as goal

abbrev pub invariant-loop-number : goal.invariant-loop-number
invariant-loop-number l = (types : List CxxType) → place_of_space (space_among (numbered_at (graph_at types l.graph) (fact_numbers (drop l.number-index l.numbers)))) ≡ place_of_space (space_among (numbered_at (graph_at types l.graph) (fact_numbers l.numbers)))
