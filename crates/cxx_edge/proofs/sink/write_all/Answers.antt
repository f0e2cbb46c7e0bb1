use Rattle.std.proofs.Common.{arith}
use Rattle.cxx_edge.proofs.Bytes.{appends_more, appends_part_more}
use Rattle.cxx_edge.proofs.sink.write_all.Goals as goal

pub loop-at-preserved : goal.loop-at-preserved
loop-at-preserved g c = record {
  within = omega (arith, c.in-Ok.ensures.bound);
  later = omega (arith, c.in-Ok.ensures.cause);
  so_far = appends_more _ _ _ c.args.text.now c.loop-at.at c.in-Ok.count c.loop-at.invariant.so_far c.in-Ok.ensures.bytes;
}

pub returns-in-Err-clause-bytes : goal.returns-in-Err-clause-bytes
returns-in-Err-clause-bytes g c = appends_part_more _ _ _ c.args.text.now c.loop-at.at c.loop-at.invariant.so_far c.in-Err.ensures.bytes
