use Rattle.std.proofs.Common.{length}
use Rattle.cxx_types.proofs.Reading.{number-inside}
use Rattle.cxx_types.proofs.table.TypeTable.most_levels.Goals as goal

pub levels-requires : goal.levels-requires
levels-requires c = number-inside (length c.args.self.now) c.args.numbers.now c.loop-number.number-index (record { 0 = 0 }) c.loop-number-test.true c.requires
