use Rattle.std.proofs.Common.{◌≡◌, ◌+◌, ◌<◌, subst, sym, arith}
use Rattle.cxx_champion.specs.Contests.{IsStanding}
use Rattle.cxx_champion.proofs.Champions.{standing_more}
use Rattle.cxx_champion.proofs.standing.Goals as goal

pub loop-challenger-preserved : goal.loop-challenger-preserved
loop-challenger-preserved g c =
    let beats = g.C.Contest.wins c.args.contest.now in
    let size = g.C.Contest.count c.args.contest.now in
    let below : c.loop-challenger.challenger < size = omega arith in
    record {
      stands =
          subst (IsStanding beats size (c.loop-challenger.challenger + 1)) (sym c.in_ok-champion.ensures.answer)
          (standing_more beats size c.loop-challenger.challenger c.loop-challenger.champion (g.met.C.Contest.asymmetric c.args.contest.now) below c.loop-challenger.invariant.stands);
      counted = omega arith;
    }

pub returns-clause-answer : goal.returns-clause-answer
returns-clause-answer g c =
    let size = g.C.Contest.count c.args.contest.now in
    let all : c.loop-challenger.challenger ≡ size = omega arith in
    subst (λ compared. IsStanding (g.C.Contest.wins c.args.contest.now) size compared c.loop-challenger.champion) all c.loop-challenger.invariant.stands
