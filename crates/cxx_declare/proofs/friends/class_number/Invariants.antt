use Rattle.std.proofs.Common.{◌≡◌, List, drop}
use Rattle.cxx_model.specs.Facts.Declarations.{graph_at}
use Rattle.cxx_model.specs.Types.Trees.{CxxType}
use Rattle.cxx_reading.specs.Seen.{fact_numbers, numbered_at}
use Rattle.cxx_declare.specs.Friends.{class_number}
use Rattle.cxx_declare.proofs.friends.class_number.Given as goal

abbrev pub invariant-loop-number : goal.invariant-loop-number
invariant-loop-number l = (types : List CxxType) → class_number (numbered_at (graph_at types l.graph) (fact_numbers (drop l.number-index l.numbers))) ≡ class_number (numbered_at (graph_at types l.graph) (fact_numbers l.numbers))
