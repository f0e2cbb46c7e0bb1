use Rattle.std.proofs.Common.{◌≡◌, drop}
use Rattle.cxx_model.specs.Facts.Declarations.{name_at}
use Rattle.cxx_answers.specs.Told.{are_some, named_in, those_in}
use Rattle.cxx_answers.proofs.givers.Telling.any_named.Given as goal

abbrev pub invariant-loop-number : goal.invariant-loop-number
invariant-loop-number l = are_some (those_in l.self (named_in l.self (name_at l.self.types.now l.name) (drop l.number-index l.numbers))) ≡ are_some (those_in l.self (named_in l.self (name_at l.self.types.now l.name) l.numbers))
