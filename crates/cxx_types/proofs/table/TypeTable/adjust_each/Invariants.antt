use Rattle.std.proofs.Common.{take}
use Rattle.cxx_model.specs.Types.Numbers.{types_at}
use Rattle.cxx_types.specs.Parameters.{adjusted_types}
use Rattle.cxx_types.proofs.Making.{AreMadeSoFar}
use Rattle.cxx_types.proofs.table.TypeTable.adjust_each.Given as goal

abbrev pub invariant-loop-number : goal.invariant-loop-number
invariant-loop-number l = AreMadeSoFar l.fn.self l.self l.adjusted (adjusted_types (types_at l.fn.self (take l.number-index l.numbers))) (adjusted_types (types_at l.fn.self l.numbers))
