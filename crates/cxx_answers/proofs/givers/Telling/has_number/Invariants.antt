use Rattle.std.proofs.Common.{◌≡◌, drop}
use Rattle.cxx_answers.specs.Answers.{has_number}
use Rattle.cxx_answers.specs.Told.{those_in}
use Rattle.cxx_answers.proofs.givers.Telling.has_number.Given as goal

abbrev pub invariant-loop-one : goal.invariant-loop-one
invariant-loop-one l = has_number l.number.0 (those_in l.self (drop l.one-index l.functions)) ≡ has_number l.number.0 (those_in l.self l.functions)
