use Rattle.std.proofs.Common.{◌≡◌, ◌+◌}
use Rattle.cxx_champion.specs.Contests.{BeatsBelow, others_below}
use Rattle.cxx_champion.proofs.counter_below.Given as goal

abbrev pub invariant-loop-other : goal.invariant-loop-other
invariant-loop-other g l = record {
  beaten : BeatsBelow (g.C.Contest.wins l.contest) l.member l.other;
  counted : l.steps ≡ l.initial.steps + others_below l.member l.other;
}
