use Rattle.std.proofs.Common.{◌≡◌, drop}
use Rattle.cxx_model.specs.Facts.Declarations.{facts_at, graph_at}
use Rattle.cxx_language.specs.Bodies.{incomplete_among}
use Rattle.cxx_body.specs.Opened.{first_incomplete}
use Rattle.cxx_body.proofs.functions.incomplete_among.Given as goal

abbrev pub invariant-loop-number : goal.invariant-loop-number
invariant-loop-number l = first_incomplete l.graph l.types l.graph.facts (drop l.number-index l.number-items) ≡ incomplete_among (graph_at l.types l.graph) l.fn.list.0 (facts_at l.types l.graph.facts)
