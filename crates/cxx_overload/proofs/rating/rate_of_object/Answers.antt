use Rattle.std.proofs.Common.{◌≡◌, true, Some, Ok, ap, ◌∙◌, arith, subst}
use Rattle.std.proofs.lemmas.Result.{err_from_is_err_and}
use Rattle.cxx_meaning.specs.Conversions.Asking.{Gives}
use Rattle.cxx_model.specs.Facts.Declarations.{graph_at}
use Rattle.cxx_standard.specs.Views.{operand_at}
use Rattle.cxx_overload.specs.Objects.{is_nonstatic}
use Rattle.cxx_overload.specs.Views.{candidate_at, operands_at, rated_at}
use Rattle.cxx_overload.proofs.InTurn.{object_refused, object_taken, object_waits}
use Rattle.cxx_overload.proofs.rating.rate_of_object.Goals as goal

pub returns-in_err-steps_between-clause-is : goal.returns-in_err-steps_between-clause-is
returns-in_err-steps_between-clause-is c =
    let p = err_from_is_err_and c.from_residual.result c.from_residual.ensures.1 in
    let nonstatic : is_nonstatic c.args.candidate.now.member ≡ true = grind (arith, c.is_nonstatic.ensures) in
    rw (p.1, p.2) (object_waits (graph_at c.args.types.now c.args.graph.now) (operand_at c.args.types.now c.args.object.operand) (operands_at c.args.types.now c.args.operands.now) (candidate_at c.args.types.now c.args.candidate.now) _ c.in_err-steps_between.field-0.0 _ nonstatic c.parameter_of-parameter.ensures.leads c.in_err-steps_between.ensures)

pub returns-in-None-clause-is : goal.returns-in-None-clause-is
returns-in-None-clause-is c =
    let nonstatic : is_nonstatic c.args.candidate.now.member ≡ true = grind (arith, c.is_nonstatic.ensures) in
    object_refused _ c.args.types.now c.args.object c.args.operands.now c.args.candidate.now c.args.conversions_of_all.now.items _ _ c.put_aside.result nonstatic c.parameter_of-parameter.ensures.leads (c.in_ok-steps_between.ensures ∙ ap (λ found. Ok found) c.in-None.is) c.put_aside.ensures

pub returns-in-Some-clause-is : goal.returns-in-Some-clause-is
returns-in-Some-clause-is c =
    let nonstatic : is_nonstatic c.args.candidate.now.member ≡ true = grind (arith, c.is_nonstatic.ensures) in
    subst (λ asked. Gives (rated_at c.args.types.now (Some c.args.object) c.args.operands.now c.rate_converted-in-Some.new.conversions_of_all.items) c.rate_converted-in-Some.result asked)
    (object_taken (graph_at c.args.types.now c.args.graph.now) c.args.types.now c.args.object c.args.operands.now c.args.candidate.now c.parameter_of-parameter.result c.in-Some.steps _ nonstatic c.parameter_of-parameter.ensures.is c.parameter_of-parameter.ensures.leads (c.in_ok-steps_between.ensures ∙ ap (λ found. Ok found) c.in-Some.is))
    c.rate_converted-in-Some.ensures.is
