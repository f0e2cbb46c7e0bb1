use Rattle.std.proofs.Common.{◌<◌, ◌+◌, ◌++◌, ap, sym, ◌∙◌, arith, drop, length}
use Rattle.std.specs.List.{filter_map}
use Rattle.std.proofs.lemmas.Grind.{common_steps}
use Rattle.cxx_model.specs.Facts.Declarations.{graph_at}
use Rattle.cxx_overload.specs.Choices.{tie}
use Rattle.cxx_overload.specs.Contests.{contenders_at}
use Rattle.cxx_overload.proofs.Contests.{ties_step}
use Rattle.cxx_overload.proofs.champion.ties.Goals as goal

pub loop-place-preserved : goal.loop-place-preserved
loop-place-preserved g c =
    let types = c.args.types.now in
    let graph = graph_at types c.args.graph.now in
    let all = contenders_at types c.args.object c.args.operands.now c.args.viable.now in
    let inside : c.loop-place.place < length all = grind (arith, common_steps) in
    record {
      same =
          ap (λ xs. xs ++ filter_map (tie graph all) (drop (c.loop-place.place + 1) all)) c.in_ok-push_some.ensures
          ∙ sym (ties_step graph all c.loop-place.evidence.items c.loop-place.place c.in_ok-tie.field-0 inside c.in_ok-tie.ensures.is)
          ∙ c.loop-place.invariant.same;
      counted = omega (arith, c.loop-place.invariant.counted, c.in_ok-tie.ensures.most);
    }
