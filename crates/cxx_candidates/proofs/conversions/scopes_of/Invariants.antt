use Rattle.std.proofs.Common.{◌≡◌, take}
use Rattle.cxx_model.specs.Facts.Declarations.{facts_at}
use Rattle.cxx_model.specs.Facts.Entities.{scope_kinds}
use Rattle.cxx_candidates.proofs.conversions.scopes_of.Given as goal

abbrev pub invariant-loop-fact : goal.invariant-loop-fact
invariant-loop-fact l = l.kinds.items ≡ scope_kinds (facts_at l.types (take l.fact-index l.graph.facts))
