use Rattle.cxx_literals.specs.Integers.{parts_of}
use Rattle.cxx_model.specs.Text.Spelling.{integer_parts}
use Rattle.cxx_literals.proofs.Amounts.{typed}
use Rattle.cxx_tokens.proofs.numbers.type_of.Goals as goal

pub returns-in-Some : goal.returns-in-Some
returns-in-Some c = typed (integer_parts c.args.text.now) (parts_of c.in-Some.parts) c.integer_type.result c.in-Some.ensures c.integer_type.ensures
