use Rattle.std.proofs.Common.{◌≡◌, ◌+◌}
use Rattle.cxx_champion.specs.Contests.{IsStanding}
use Rattle.cxx_champion.proofs.standing.Given as goal

abbrev pub invariant-loop-challenger : goal.invariant-loop-challenger
invariant-loop-challenger g l = record {
  stands : IsStanding (g.C.Contest.wins l.contest) (g.C.Contest.count l.contest) l.challenger l.champion;
  counted : l.steps + 1 ≡ l.initial.steps + l.challenger;
}
