use Rattle.std.proofs.Common.{◌≡◌, ◌<◌, refl, ap, ◌∙◌, arith, length, map, take, drop, ◌++◌}
use Rattle.std.proofs.lemmas.Grind.{common_steps}
use Rattle.std.proofs.lemmas.List.{length-map, length-set}
use Rattle.std.proofs.lemmas.List.Elements.{All-set}
use Rattle.cxx_overload.specs.Gathering.{with_defaults}
use Rattle.cxx_overload.specs.Views.{candidate_at, IsCandidateBelow}
use Rattle.cxx_overload.proofs.Gathering.{changed_all, changed_step}
use Rattle.cxx_overload.proofs.candidate.declare_again.Goals as goal

pub loop-one-preserved : goal.loop-one-preserved
loop-one-preserved c =
    let types = c.args.types.now in
    let inside : c.loop-one.one-index < length c.loop-one.one-items = omega (arith, c.loop-one-test.true, c.loop-one.auto.one-items) in
    record {
      same = changed_step (candidate_at types) (with_defaults c.args.first.0 c.args.defaults) c.loop-one.one-items (map (candidate_at types) c.deref_mut-one-items.result.now) c.loop-one.one-index _ _ c.redeclared.result inside c.loop-one.invariant.same refl c.redeclared.ensures.is;
      count = length-set c.loop-one.one-items c.loop-one.one-index c.redeclared.result ∙ c.loop-one.invariant.count;
      below = λ h. All-set (IsCandidateBelow (length types)) c.loop-one.one-items c.loop-one.one-index c.redeclared.result (c.redeclared.ensures.below (c.loop-one.invariant.below h c.loop-one.one-index _ inside)) (c.loop-one.invariant.below h);
    }

pub returns-clause-is : goal.returns-clause-is
returns-clause-is c =
    let types = c.args.types.now in
    let whole : take c.args.all.now.len (c.loop-one.one-items ++ drop (length c.loop-one.one-items) c.args.all.now.items) ≡ c.loop-one.one-items = grind (arith, common_steps) in
    ap (map (candidate_at types)) whole
    ∙ c.loop-one.invariant.same
    ∙ changed_all (with_defaults c.args.first.0 c.args.defaults) (map (candidate_at types) c.deref_mut-one-items.result.now) c.loop-one.one-index (omega (arith, c.loop-one-test.false, length-map c.deref_mut-one-items.result.now (candidate_at types)))
    ∙ ap (λ xs. map (with_defaults c.args.first.0 c.args.defaults) (map (candidate_at types) xs)) c.deref_mut-one-items.ensures.value
