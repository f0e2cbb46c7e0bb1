use Rattle.std.proofs.Common.{◌≡◌, ◌<◌, ◌++◌, length}
use Rattle.cxx_members.specs.Ways.{path_at}
use Rattle.cxx_inherited.specs.Paths.{paths_of}
use Rattle.cxx_inherited.proofs.paths.Paths.path.Given as goal

abbrev pub invariant-loop-number : goal.invariant-loop-number
invariant-loop-number l = record {
  known : l.number < length l.self;
  so_far : l.path.items ++ path_at l.self l.number ≡ path_at l.self l.fn.number;
}

abbrev pub decreases-loop-number : goal.decreases-loop-number
decreases-loop-number l = l.number
