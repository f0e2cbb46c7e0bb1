use Rattle.std.proofs.Common.{◌≡◌, take, false}
use Rattle.cxx_model.specs.Facts.Declarations.{graph_at}
use Rattle.cxx_candidates.specs.Shapes.{conversion_at, conversions_at}
use Rattle.cxx_candidates.specs.Sources as definition
use Rattle.std.specs.List.{list_any}
use Rattle.cxx_candidates.proofs.conversions.is_hidden.Given as goal

abbrev pub invariant-loop-other : goal.invariant-loop-other
invariant-loop-other l = list_any (definition.is_hidden_by (graph_at l.types l.graph) (conversion_at l.types l.one)) (conversions_at l.types (take l.other-index l.all)) ≡ false
