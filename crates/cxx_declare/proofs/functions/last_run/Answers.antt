use Rattle.std.proofs.Common.{arith, sym}
use Rattle.cxx_declare.specs.Functions.{has_default}
use Rattle.cxx_tree.specs.Held.{meaning, offers_at, trees}
use Rattle.cxx_declare.proofs.Giving.{run_more}
use Rattle.cxx_declare.proofs.functions.last_run.Goals as goal

pub loop-run-preserved : goal.loop-run-preserved
loop-run-preserved c = record {
  within = omega (arith, c.loop-run-test.true);
  is = run_more (has_default (meaning c.args.state.now) c.args.first (offers_at (trees c.args.state.now) c.args.offers.now)) c.args.count c.loop-run.run c.loop-run-test.true (sym c.if-has_default.ensures) c.loop-run.invariant.is;
}
