use Rattle.std.proofs.Common.{◌≡◌, List, drop}
use Rattle.cxx_model.specs.Facts.Declarations.{graph_at}
use Rattle.cxx_model.specs.Types.Trees.{CxxType}
use Rattle.cxx_reading.specs.Seen.{fact_numbers, numbered_at}
use Rattle.cxx_declare.specs.Friends.{any_brings}
use Rattle.cxx_declare.proofs.friends.any_brings.Given as goal

abbrev pub invariant-loop-by : goal.invariant-loop-by
invariant-loop-by l = (types : List CxxType) → any_brings l.number.0 (numbered_at (graph_at types l.graph) (fact_numbers (drop l.by-index l.numbers))) ≡ any_brings l.number.0 (numbered_at (graph_at types l.graph) (fact_numbers l.numbers))
