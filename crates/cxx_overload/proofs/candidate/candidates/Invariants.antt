use Rattle.std.proofs.Common.{◌≡◌, ◌≤◌, [], length, drop, map}
use Rattle.std.specs.List.{All}
use Rattle.cxx_model.specs.declared.limits.TheConstants as limits
use Rattle.cxx_model.specs.Facts.Declarations.{graph_at}
use Rattle.cxx_overload.specs.Gathering.{so_far}
use Rattle.cxx_overload.specs.Views.{candidate_at, numbered_in, IsCandidateBelow}
use Rattle.cxx_overload.proofs.candidate.candidates.Given as goal

abbrev pub invariant-loop-number : goal.invariant-loop-number
invariant-loop-number l = record {
  same : so_far (map (candidate_at l.types) l.all.items) (numbered_in (graph_at l.types l.graph) (drop l.number-index l.found)) ≡ so_far [] (numbered_in (graph_at l.types l.graph) l.found);
  few : length l.all.items ≤ limits.MOST_CANDIDATES;
  below : All (IsCandidateBelow (length l.types)) l.all.items;
}
