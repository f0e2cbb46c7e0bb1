use Rattle.std.proofs.Common.{◌≡◌, ◌<◌, ◌+◌, ◌^◌, drop, max}
use Rattle.cxx_model.specs.Types.Numbers.{types_at}
use Rattle.cxx_types.specs.Levels.{level_counts}
use Rattle.cxx_types.proofs.table.TypeTable.most_levels.Given as goal

abbrev pub invariant-loop-number : goal.invariant-loop-number
invariant-loop-number l = (max l.most (level_counts (types_at l.self (drop l.number-index l.numbers))) ≡ level_counts (types_at l.self l.numbers)) × (l.most + 1 < 2 ^ 64)
