use Rattle.std.proofs.Common.{◌≡◌, [], ◌+◌, refl, ap, sym, subst, ◌∙◌, arith, map, drop, length}
use Rattle.std.specs.List.{All}
use Rattle.std.proofs.lemmas.Grind.{common_steps}
use Rattle.std.proofs.lemmas.Result.{err_from_is_err_and}
use Rattle.cxx_model.specs.Facts.Declarations.{graph_at}
use Rattle.cxx_overload.specs.Asking.{after}
use Rattle.cxx_overload.specs.Viability.{rated}
use Rattle.cxx_overload.specs.Views.{candidate_at, object_at, operands_at, passed, rated_at, IsRatedBelow}
use Rattle.cxx_overload.proofs.InTurn.{all_below, rated_end, rated_numbered, rated_step, rated_stop}
use Rattle.cxx_overload.proofs.rating.rate.Goals as goal

pub returns-in_err-one-clause-is : goal.returns-in_err-one-clause-is
returns-in_err-one-clause-is c =
    let types = c.args.types.now in
    let p = err_from_is_err_and c.from_residual.result c.from_residual.ensures.1 in
    rw (p.1, p.2) (rated_stop types (graph_at types c.args.graph.now) (object_at types c.args.object) (operands_at types c.args.operands.now) c.args.candidates.now (map (rated_at types c.args.object c.args.operands.now c.loop-candidate.conversions.items) c.loop-candidate.all.items) c.loop-candidate.candidate-index _ _ c.in_err-one.field-0.0 _ c.loop-candidate-test.true refl c.loop-candidate.invariant.same c.in_err-one.ensures.is)

pub loop-candidate-preserved : goal.loop-candidate-preserved
loop-candidate-preserved c =
    let types = c.args.types.now in
    let graph = graph_at types c.args.graph.now in
    let object = c.args.object in
    let operands = c.args.operands.now in
    let new = c.rate_one.new.conversions_of_all.items in
    record {
      same =
          ap (λ xs. after (map (rated_at types object operands new) xs) (rated graph (object_at types object) (operands_at types operands) (map (candidate_at types) (drop (c.loop-candidate.candidate-index + 1) c.args.candidates.now)))) c.in_ok-push.ensures.items
          ∙ sym (rated_step types graph object operands c.args.candidates.now c.loop-candidate.all.items c.loop-candidate.conversions.items new c.loop-candidate.candidate-index _ _ c.in_ok-one.one c.loop-candidate-test.true refl c.in_ok-one.ensures.is c.loop-candidate.invariant.below c.in_ok-one.ensures.grows)
          ∙ c.loop-candidate.invariant.same;
      below =
          subst (All (IsRatedBelow (length types) (length (passed object operands)) (length new))) (sym c.in_ok-push.ensures.items)
          (all_below (length types) (length (passed object operands)) c.loop-candidate.conversions.items new c.loop-candidate.all.items c.in_ok-one.one c.in_ok-one.ensures.grows c.loop-candidate.invariant.below c.in_ok-one.ensures.below);
    }

pub returns-clause-is : goal.returns-clause-is
returns-clause-is c =
    let types = c.args.types.now in
    let past : map (candidate_at types) (drop c.loop-candidate.candidate-index c.args.candidates.now) ≡ [] = grind (arith, common_steps) in
    rated_end (graph_at types c.args.graph.now) (object_at types c.args.object) (operands_at types c.args.operands.now) (map (rated_at types c.args.object c.args.operands.now c.loop-candidate.conversions.items) c.loop-candidate.all.items) _ _ past c.loop-candidate.invariant.same

pub returns-clause-numbered : goal.returns-clause-numbered
returns-clause-numbered c n = rated_numbered (graph_at c.args.types.now c.args.graph.now) (object_at c.args.types.now c.args.object) (operands_at c.args.types.now c.args.operands.now) (map (candidate_at c.args.types.now) c.args.candidates.now) _ 1 (returns-clause-is c) n
