use Rattle.std.proofs.Common.{◌≡◌, [], drop}
use Rattle.std.specs.List.{list_any}
use Rattle.cxx_model.specs.Facts.Declarations.{facts_at}
use Rattle.cxx_model.specs.Facts.Pending.{begins_or_ends}
use Rattle.cxx_graph.proofs.graph.Graph.has_begun.Given as goal

abbrev pub invariant-loop-fact : goal.invariant-loop-fact
invariant-loop-fact l = list_any (λ fact. begins_or_ends l.class.0 fact.what) (facts_at [] (drop l.fact-index l.fact-items)) ≡ list_any (λ fact. begins_or_ends l.class.0 fact.what) (facts_at [] l.self.facts)
