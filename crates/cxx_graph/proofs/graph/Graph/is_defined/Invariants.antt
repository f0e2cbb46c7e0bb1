use Rattle.std.proofs.Common.{◌≡◌, [], drop, false}
use Rattle.cxx_model.specs.Facts.Declarations.{facts_at, graph_at}
use Rattle.cxx_model.specs.Facts.Pending.{defining_classes, is_defined_since}
use Rattle.cxx_graph.proofs.graph.Graph.is_defined.Given as goal

abbrev pub invariant-loop-fact : goal.invariant-loop-fact
invariant-loop-fact l = is_defined_since (defining_classes (graph_at [] l.self) l.template.0) l.class.0 l.so_far (facts_at [] (drop l.fact-index l.fact-items)) ≡ is_defined_since (defining_classes (graph_at [] l.self) l.template.0) l.class.0 false (facts_at [] l.self.facts)
