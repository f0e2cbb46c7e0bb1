use Rattle.std.proofs.Common.{length}
use Rattle.cxx_form.proofs.Signed.{below_at}
use Rattle.cxx_form.proofs.mark.ends_of.Goals as goal

pub end_of-requires : goal.end_of-requires
end_of-requires c = below_at (length c.args.types.now) c.args.numbers.now c.loop-number.number-index (record { 0 = 0 }) c.requires c.loop-number-test.true
