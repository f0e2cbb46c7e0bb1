use Rattle.std.proofs.Common.{length, refl, subst, sym}
use Rattle.cxx_tree.specs.Held.{AreRowsBelow}
use Rattle.cxx_answers.proofs.Records.{rows_below_more, rows_step}
use Rattle.cxx_answers.proofs.record.rows.Goals as goal

pub loop-one-preserved : goal.loop-one-preserved
loop-one-preserved c = record {
  same = rows_step c.args.types.now c.args.object c.args.operands.now c.loop-one.found c.push.new.self c.in_ok-row.row c.args.viable.now c.loop-one.one-index _ _ _ c.loop-one-test.true refl c.in_ok-row.ensures.is c.in_ok-push.ensures.ok c.loop-one.invariant.same;
  below = subst (AreRowsBelow (length c.args.types.now)) (sym c.in_ok-push.ensures.ok) (rows_below_more (length c.args.types.now) c.loop-one.found c.in_ok-row.row c.loop-one.invariant.below c.in_ok-row.ensures.below);
}
