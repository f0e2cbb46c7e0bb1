use Rattle.cxx_model.specs.Facts.Declarations.{graph_at}
use Rattle.cxx_overload.specs.Views.{first_at}
use Rattle.cxx_overload.proofs.InTurn.{aside_means, kept_below, kept_means}
use Rattle.cxx_overload.proofs.rating.rate_converted.Goals as goal

pub returns-in-None-clause-is : goal.returns-in-None-clause-is
returns-in-None-clause-is c =
    kept_means (graph_at c.args.types.now c.args.graph.now) c.args.types.now c.args.object c.args.first c.args.operands.now c.args.candidate.now c.in_ok-found.found.items c.deref.result.now c.deref-in-None.result.now c.args.conversions_of_all.now.items c.keep.new.conversions.items c.in_ok-keep-in-None.field-0 c.requires.first c.in_ok-found.ensures.is c.in_ok-found.ensures.count c.deref.ensures.value c.in-None.ensures c.deref-in-None.ensures.value c.in_ok-keep-in-None.ensures.is c.in_ok-keep-in-None.ensures.grows

pub returns-in-None-clause-below : goal.returns-in-None-clause-below
returns-in-None-clause-below c =
    kept_below _ c.args.object c.args.first c.args.operands.now c.args.candidate.now c.in_ok-found.found.items c.deref-in-None.result.now c.args.conversions_of_all.now.items c.keep.new.conversions.items c.in_ok-keep-in-None.field-0 c.requires.first c.in_ok-found.ensures.count c.deref-in-None.ensures.value c.requires.candidate c.in_ok-keep-in-None.ensures.is c.in_ok-keep-in-None.ensures.grows

pub returns-clause-is : goal.returns-clause-is
returns-clause-is c =
    aside_means (graph_at c.args.types.now c.args.graph.now) c.args.types.now c.args.object c.args.operands.now c.args.candidate.now (first_at c.args.types.now c.args.object c.args.candidate.now c.args.first) c.in_ok-found.found.items c.deref.result.now c.args.conversions_of_all.now.items c.in-Some.argument c.put_aside.result c.in_ok-found.ensures.is c.in_ok-found.ensures.count c.deref.ensures.value c.in-Some.ensures c.put_aside.ensures
