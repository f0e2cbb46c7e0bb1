use Rattle.std.proofs.Common.{◌≡◌, drop}
use Rattle.cxx_model.specs.Facts.Declarations.{fact_at, graph_at}
use Rattle.cxx_names.specs.Clashes.{conflict_in}
use Rattle.cxx_names.specs.Looked.{looked_up}
use Rattle.cxx_names.proofs.names.Names.first_of.Given as goal

abbrev pub invariant-loop-number : goal.invariant-loop-number
invariant-loop-number l = conflict_in (graph_at l.types l.graph) (fact_at l.types l.new) (looked_up l.types l.graph.facts (drop l.number-index l.numbers)) ≡ conflict_in (graph_at l.types l.graph) (fact_at l.types l.new) (looked_up l.types l.graph.facts l.numbers)
