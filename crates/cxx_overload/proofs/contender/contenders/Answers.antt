use Rattle.std.proofs.Common.{refl, sym, ◌∙◌, length, subst}
use Rattle.std.specs.List.{All}
use Rattle.cxx_overload.specs.Contests.{contender_at, IsContenderBelow}
use Rattle.cxx_overload.specs.Views.{rated_at}
use Rattle.cxx_overload.proofs.Contests.{all_with, contended_step}
use Rattle.cxx_overload.proofs.contender.contenders.Goals as goal

pub loop-one-preserved : goal.loop-one-preserved
loop-one-preserved c =
    let types = c.args.types.now in
    record {
      same =
          contended_step (contender_at types c.args.object c.args.operands.now) (rated_at types c.args.object c.args.operands.now c.as_slice-conversions.result.now) c.loop-one.found.items c.push_some.new.items.items c.deref-one-items.result.now c.args.ratings.now.all.items c.loop-one.one-index _ _ c.contender_of.result c.deref-one-items.ensures.value c.loop-one-test.true refl c.contender_of.ensures.is c.in_ok-push_some.ensures
          ∙ c.loop-one.invariant.same;
      below = subst (All (IsContenderBelow (length types))) (sym c.in_ok-push_some.ensures) (all_with (IsContenderBelow (length types)) c.loop-one.found.items c.contender_of.result c.loop-one.invariant.below c.contender_of.ensures.below);
    }
