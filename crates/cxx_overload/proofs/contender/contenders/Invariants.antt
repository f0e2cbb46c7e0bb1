use Rattle.std.proofs.Common.{◌≡◌, ◌++◌, drop, map, length}
use Rattle.std.specs.List.{All}
use Rattle.cxx_overload.specs.Contests.{contenders_at, IsContenderBelow}
use Rattle.cxx_overload.specs.Viability.{viable}
use Rattle.cxx_overload.specs.Views.{rated_at}
use Rattle.cxx_overload.proofs.contender.contenders.Given as goal

abbrev pub invariant-loop-one : goal.invariant-loop-one
invariant-loop-one l = record {
  same : contenders_at l.types l.object l.operands l.found.items ++ viable (map (rated_at l.types l.object l.operands l.conversions) (drop l.one-index l.ratings.all.items)) ≡ viable (map (rated_at l.types l.object l.operands l.conversions) l.ratings.all.items);
  below : All (IsContenderBelow (length l.types)) l.found.items;
}
