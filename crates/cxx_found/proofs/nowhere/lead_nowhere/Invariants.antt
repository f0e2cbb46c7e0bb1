use Rattle.std.proofs.Common.{◌≡◌, drop}
use Rattle.cxx_found.specs.Associated.{given}
use Rattle.cxx_found.specs.Nowhere.{lead_nowhere}
use Rattle.cxx_found.proofs.nowhere.lead_nowhere.Given as goal

abbrev pub invariant-loop-number : goal.invariant-loop-number
invariant-loop-number l = lead_nowhere (given l.types (drop l.number-index l.numbers)) ≡ lead_nowhere (given l.types l.numbers)
