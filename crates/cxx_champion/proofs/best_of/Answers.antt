use Rattle.std.proofs.Common.{subst}
use Rattle.cxx_champion.specs.Contests.{IsLeastCounter}
use Rattle.cxx_champion.specs.declared.Verdict.TheVariants.{NoBest}
use Rattle.cxx_champion.proofs.Champions.{none_where_beaten, best_answered}
use Rattle.cxx_champion.proofs.best_of.Goals as goal

pub returns-in-Some-clause-verdict : goal.returns-in-Some-clause-verdict
returns-in-Some-clause-verdict g c =
    let beats = g.C.Contest.wins c.args.contest.now in
    none_where_beaten beats (g.C.Contest.count c.args.contest.now) c.in_ok-champion.champion c.in-Some.counter c.in_ok-champion.ensures.answer
    (subst (IsLeastCounter beats c.in_ok-champion.champion c.in_ok-champion.champion) c.in-Some.is c.in_ok-counter_below.ensures.answer)

pub returns-in-Some-clause-best : goal.returns-in-Some-clause-best
returns-in-Some-clause-best g c =
    best_answered (g.C.Contest.wins c.args.contest.now) (g.C.Contest.count c.args.contest.now) (NoBest c.in_ok-champion.champion c.in-Some.counter) (g.met.C.Contest.asymmetric c.args.contest.now)
    (returns-in-Some-clause-verdict g c)
