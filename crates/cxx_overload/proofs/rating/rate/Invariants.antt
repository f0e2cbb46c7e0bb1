use Rattle.std.proofs.Common.{◌≡◌, drop, map, length}
use Rattle.std.specs.List.{All}
use Rattle.cxx_model.specs.Facts.Declarations.{graph_at}
use Rattle.cxx_overload.specs.Asking.{after}
use Rattle.cxx_overload.specs.Viability.{rated}
use Rattle.cxx_overload.specs.Views.{candidate_at, object_at, operands_at, passed, rated_at, IsRatedBelow}
use Rattle.cxx_overload.proofs.rating.rate.Given as goal

abbrev pub invariant-loop-candidate : goal.invariant-loop-candidate
invariant-loop-candidate l = record {
  same : after (map (rated_at l.types l.object l.operands l.conversions.items) l.all.items) (rated (graph_at l.types l.graph) (object_at l.types l.object) (operands_at l.types l.operands) (map (candidate_at l.types) (drop l.candidate-index l.candidates))) ≡ rated (graph_at l.types l.graph) (object_at l.types l.object) (operands_at l.types l.operands) (map (candidate_at l.types) l.candidates);
  below : All (IsRatedBelow (length l.types) (length (passed l.object l.operands)) (length l.conversions.items)) l.all.items;
}
