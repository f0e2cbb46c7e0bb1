use Rattle.std.proofs.Common.{◌≡◌, ◌++◌, drop}
use Rattle.cxx_answers.specs.Answers.{fresh_among}
use Rattle.cxx_answers.specs.Told.{those_in}
use Rattle.cxx_reading.specs.Seen.{fact_numbers}
use Rattle.cxx_answers.proofs.givers.Telling.fresh_among.Given as goal

abbrev pub invariant-loop-number : goal.invariant-loop-number
invariant-loop-number l = fact_numbers l.found ++ fresh_among (those_in l.self l.functions) (drop l.number-index l.numbers) ≡ fresh_among (those_in l.self l.functions) l.numbers
