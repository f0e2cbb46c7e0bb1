use Rattle.std.proofs.Common.{◌≡◌, ◌++◌, drop}
use Rattle.cxx_answers.specs.Told.{AreNumbersBelow, count_in, those_in}
use Rattle.cxx_answers.proofs.givers.Telling.known.Given as goal

abbrev pub invariant-loop-number : goal.invariant-loop-number
invariant-loop-number l = record {
  is : those_in l.self l.found ++ those_in l.self (drop l.number-index l.numbers) ≡ those_in l.self l.numbers;
  below : AreNumbersBelow (count_in l.self) l.found;
}
