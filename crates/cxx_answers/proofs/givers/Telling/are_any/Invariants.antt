use Rattle.std.proofs.Common.{◌≡◌, drop}
use Rattle.cxx_answers.specs.Told.{are_some, those_in}
use Rattle.cxx_answers.proofs.givers.Telling.are_any.Given as goal

abbrev pub invariant-loop-number : goal.invariant-loop-number
invariant-loop-number l = are_some (those_in l.self (drop l.number-index l.numbers)) ≡ are_some (those_in l.self l.numbers)
