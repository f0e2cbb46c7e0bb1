use Rattle.std.proofs.Common.{◌≡◌, drop}
use Rattle.cxx_model.specs.Facts.Declarations.{graph_at}
use Rattle.cxx_reading.specs.Paths.{first_meant}
use Rattle.cxx_reading.specs.Seen.{fact_numbers, numbered_at}
use Rattle.cxx_paths.proofs.classes.first_meant.Given as goal

abbrev pub invariant-loop-number : goal.invariant-loop-number
invariant-loop-number l = first_meant (numbered_at (graph_at l.types l.graph) (fact_numbers (drop l.number-index l.numbers))) ≡ first_meant (numbered_at (graph_at l.types l.graph) (fact_numbers l.numbers))
