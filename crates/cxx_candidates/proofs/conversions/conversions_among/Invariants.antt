use Rattle.std.proofs.Common.{◌≡◌, take, length}
use Rattle.cxx_model.specs.Facts.Declarations.{facts_at}
use Rattle.cxx_candidates.specs.Shapes.{conversions_at, AreConversionsKnown}
use Rattle.cxx_candidates.specs.Sources as definition
use Rattle.std.specs.List.{filter_map}
use Rattle.cxx_candidates.proofs.conversions.conversions_among.Given as goal

abbrev pub invariant-loop-fact : goal.invariant-loop-fact
invariant-loop-fact l = record { is : conversions_at l.types l.list.items ≡ filter_map (definition.conversion_in (length l.graph.classes) l.scopes) (facts_at l.types (take l.fact-index l.graph.facts)); known : AreConversionsKnown l.graph (length l.types) l.list.items }
