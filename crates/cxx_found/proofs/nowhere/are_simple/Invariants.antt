use Rattle.std.proofs.Common.{◌≡◌, drop}
use Rattle.cxx_model.specs.Types.Numbers.{types_at}
use Rattle.cxx_found.specs.Nowhere.{are_simple}
use Rattle.cxx_found.proofs.nowhere.are_simple.Given as goal

abbrev pub invariant-loop-number : goal.invariant-loop-number
invariant-loop-number l = are_simple (types_at l.types (drop l.number-index l.numbers)) ≡ are_simple (types_at l.types l.numbers)
