use Rattle.std.proofs.Common.{◌≡◌, ◌≤◌, ◌++◌, length}
use Rattle.cxx_subobjects.specs.Steps.{path_at, paths_of}
use Rattle.cxx_subobjects.proofs.steps.path.Given as goal

abbrev pub invariant-loop-at : goal.invariant-loop-at
invariant-loop-at l = record {
  within : l.at ≤ length l.steps;
  so_far : l.path.items ++ path_at (paths_of l.steps) l.at ≡ path_at (paths_of l.steps) l.fn.number;
}

abbrev pub decreases-loop-at : goal.decreases-loop-at
decreases-loop-at l = l.at
