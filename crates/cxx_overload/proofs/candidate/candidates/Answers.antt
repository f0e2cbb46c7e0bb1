use Rattle.std.proofs.Common.{◌≡◌, ◌≤◌, [], length, drop, map, refl, subst, sym, ◌∙◌, arith}
use Rattle.std.proofs.lemmas.Grind.{common_steps}
use Rattle.std.proofs.lemmas.List.{length-map}
use Rattle.std.proofs.lemmas.Result.{err_from_is_err_and}
use Rattle.cxx_model.specs.declared.limits.TheConstants as limits
use Rattle.cxx_model.specs.Facts.Declarations.{graph_at}
use Rattle.cxx_overload.specs.Candidates.{candidates_from}
use Rattle.cxx_overload.specs.Gathering.{AreNumbered, place_among, so_far}
use Rattle.cxx_overload.specs.Views.{candidate_at, numbered_in}
use Rattle.cxx_overload.proofs.Gathering.{stops_at, gathered, gathered_all, gathered_step, candidates_numbered}
use Rattle.cxx_overload.proofs.candidate.candidates.Goals as goal

pub returns-in_err-see-clause-is : goal.returns-in_err-see-clause-is
returns-in_err-see-clause-is c =
    let types = c.args.types.now in
    let p = err_from_is_err_and c.from_residual.result c.from_residual.ensures.1 in
    rw (p.1, p.2) (stops_at (graph_at types c.args.graph.now) c.args.found.now (map (candidate_at types) c.loop-number.all.items) (map (candidate_at types) c.see.new.all.items) c.loop-number.number-index _ _ c.in_err-see.field-0.0 c.loop-number-test.true refl c.loop-number.invariant.same c.in_err-see.ensures.sees)

pub loop-number-preserved : goal.loop-number-preserved
loop-number-preserved c =
    let types = c.args.types.now in
    record {
      same =
          sym (gathered_step (graph_at types c.args.graph.now) c.args.found.now (map (candidate_at types) c.loop-number.all.items) (map (candidate_at types) c.see.new.all.items) c.loop-number.number-index _ _ c.loop-number-test.true refl c.in_ok-see.ensures.sees)
          ∙ c.loop-number.invariant.same;
      few = c.in_ok-see.ensures.few;
      below = c.in_ok-see.ensures.below c.loop-number.invariant.below;
    }

whole : (c : goal.After-loop-number) → so_far (map (candidate_at c.args.types.now) c.loop-number.all.items) [] ≡ so_far [] (numbered_in (graph_at c.args.types.now c.args.graph.now) c.args.found.now)
whole c =
    let graph = graph_at c.args.types.now c.args.graph.now in
    let past : drop c.loop-number.number-index c.args.found.now ≡ [] = grind (arith, common_steps) in
    subst (λ xs. so_far (map (candidate_at c.args.types.now) c.loop-number.all.items) (numbered_in graph xs) ≡ so_far [] (numbered_in graph c.args.found.now)) past c.loop-number.invariant.same

pub returns-clause-is : goal.returns-clause-is
returns-clause-is c =
    let few : length (map (candidate_at c.args.types.now) c.loop-number.all.items) ≤ limits.MOST_CANDIDATES = omega (arith, c.loop-number.invariant.few, length-map c.loop-number.all.items (candidate_at c.args.types.now)) in
    gathered (graph_at c.args.types.now c.args.graph.now) c.args.found.now (map (candidate_at c.args.types.now) c.loop-number.all.items) (whole c) few

pub returns-clause-numbered : goal.returns-clause-numbered
returns-clause-numbered c =
    let is : map (candidate_at c.args.types.now) c.loop-number.all.items ≡ candidates_from (numbered_in (graph_at c.args.types.now c.args.graph.now) c.args.found.now) 1 = sym (gathered_all (graph_at c.args.types.now c.args.graph.now) c.args.found.now (map (candidate_at c.args.types.now) c.loop-number.all.items) (whole c)) in
    subst (AreNumbered place_among 1) (sym is) (candidates_numbered (numbered_in (graph_at c.args.types.now c.args.graph.now) c.args.found.now) 1)
