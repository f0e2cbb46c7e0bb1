use Rattle.std.proofs.Common.{refl, sym, ◌∙◌}
use Rattle.cxx_model.specs.Facts.Declarations.{graph_at}
use Rattle.cxx_overload.specs.Contests.{contenders_at}
use Rattle.cxx_overload.proofs.Contests.{contender_here, tie_by_least}
use Rattle.cxx_overload.proofs.champion.tie.Goals as goal

pub returns-clause-is : goal.returns-clause-is
returns-clause-is g c =
    let types = c.args.types.now in
    c.line.ensures
    ∙ sym (tie_by_least (graph_at types c.args.graph.now) (contenders_at types c.args.object c.args.operands.now c.args.viable.now) c.args.place _ c.in_ok-rival.rival c.requires.numbered
    (contender_here types c.args.object c.args.operands.now c.args.viable.now c.args.place _ _ c.requires.place refl) c.in_ok-rival.ensures.least)
