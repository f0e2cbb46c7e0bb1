use Rattle.std.proofs.Common.{length, ◌-◌, ◌≤◌}
use Rattle.std.specs.Io.KnownBytes.{Consumes}
use Rattle.cxx_edge.proofs.source.read_all.Given as goal

abbrev pub invariant-loop-count : goal.invariant-loop-count
invariant-loop-count g l = record {
  within : length l.bytes.items ≤ l.limit;
  later : g.S.Source.faults l.initial.source ≤ g.S.Source.faults l.source;
  so_far : Consumes (g.S.Source.left l.initial.source) (g.S.Source.left l.source) l.bytes.items;
}

-- a turn that goes on took a byte
abbrev pub decreases-loop-count : goal.decreases-loop-count
decreases-loop-count g l = l.limit - length l.bytes.items
