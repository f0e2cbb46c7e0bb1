use Rattle.std.proofs.Common.{◌≡◌, length, map}
use Rattle.std.specs.List.{All}
use Rattle.cxx_overload.specs.Gathering.{changed, with_defaults}
use Rattle.cxx_overload.specs.Views.{candidate_at, IsCandidateBelow}
use Rattle.cxx_overload.proofs.candidate.declare_again.Given as goal

abbrev pub invariant-loop-one : goal.invariant-loop-one
invariant-loop-one l = record {
  same : map (candidate_at l.types) l.one-items ≡ changed (with_defaults l.first.0 l.defaults) l.one-index (map (candidate_at l.types) l.initial.one-items);
  count : length l.one-items ≡ length l.initial.one-items;
  below : All (IsCandidateBelow (length l.types)) l.initial.one-items → All (IsCandidateBelow (length l.types)) l.one-items;
}
