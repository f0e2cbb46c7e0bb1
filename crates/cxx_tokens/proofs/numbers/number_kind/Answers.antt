use Rattle.cxx_literals.specs.Integers.{parts_of}
use Rattle.cxx_tokens.specs.Pieces.{spelled}
use Rattle.cxx_literals.proofs.Amounts.{kind_some, kind_none}
use Rattle.cxx_tokens.proofs.numbers.number_kind.Goals as goal

pub returns-in-Some : goal.returns-in-Some
returns-in-Some c = kind_some c.args.text.now (parts_of c.in-Some.parts) c.integer_type.result (spelled c.integer_by.result) c.in-Some.ensures c.integer_type.ensures c.integer_by.ensures

pub returns-in-None : goal.returns-in-None
returns-in-None c = kind_none c.args.text.now (spelled c.no_integer.result) c.in-None.ensures c.no_integer.ensures
