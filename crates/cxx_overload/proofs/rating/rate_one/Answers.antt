use Rattle.std.proofs.Common.{subst}
use Rattle.cxx_meaning.specs.Conversions.Asking.{Gives}
use Rattle.cxx_model.specs.Facts.Declarations.{graph_at}
use Rattle.cxx_overload.specs.Views.{object_at, rated_at}
use Rattle.cxx_overload.proofs.InTurn.{fits_same, misfit_means}
use Rattle.cxx_overload.proofs.rating.rate_one.Goals as goal

pub returns-in-Some-clause-is : goal.returns-in-Some-clause-is
returns-in-Some-clause-is c =
    misfit_means (graph_at c.args.types.now c.args.graph.now) c.args.types.now c.args.object c.args.operands.now c.args.candidate.now c.args.conversions_of_all.now.items c.in-Some.reason c.put_aside.result c.in-Some.ensures c.put_aside.ensures

pub returns-in-None-clause-is : goal.returns-in-None-clause-is
returns-in-None-clause-is c =
    subst (λ asked. Gives (rated_at c.args.types.now c.args.object c.args.operands.now c.rate_fitting.new.conversions_of_all.items) c.rate_fitting.result asked)
    (fits_same (graph_at c.args.types.now c.args.graph.now) c.args.types.now (object_at c.args.types.now c.args.object) c.args.operands.now c.args.candidate.now c.in-None.ensures)
    c.rate_fitting.ensures.is
