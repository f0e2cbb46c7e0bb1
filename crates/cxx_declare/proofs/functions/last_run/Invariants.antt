use Rattle.std.proofs.Common.{◌≡◌, ◌≤◌, ◌+◌, ◌-◌}
use Rattle.cxx_declare.specs.Functions.{has_default, last_run}
use Rattle.cxx_tree.specs.Held.{meaning, offers_at, trees}
use Rattle.cxx_declare.proofs.functions.last_run.Given as goal

abbrev pub invariant-loop-run : goal.invariant-loop-run
invariant-loop-run l = record {
  within : l.run ≤ l.count;
  is : l.run + last_run (has_default (meaning l.state) l.first (offers_at (trees l.state) l.offers)) (l.count - l.run) ≡ last_run (has_default (meaning l.state) l.first (offers_at (trees l.state) l.offers)) l.count;
}

abbrev pub decreases-loop-run : goal.decreases-loop-run
decreases-loop-run l = l.count - l.run
