use Rattle.std.proofs.Common.{◌≡◌, ◌++◌, drop, map}
use Rattle.std.specs.List.{filter_map}
use Rattle.cxx_overload.specs.Choices.{refusal}
use Rattle.cxx_overload.specs.Views.{rated_at}
use Rattle.cxx_overload.proofs.contender.refusals.Given as goal

abbrev pub invariant-loop-one : goal.invariant-loop-one
invariant-loop-one l = l.evidence.items ++ filter_map refusal (map (rated_at l.types l.object l.operands l.conversions) (drop l.one-index l.ratings.all.items)) ≡ filter_map refusal (map (rated_at l.types l.object l.operands l.conversions) l.ratings.all.items)
