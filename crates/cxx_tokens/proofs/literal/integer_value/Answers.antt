use Rattle.cxx_literals.specs.Integers.{parts_of}
use Rattle.cxx_tokens.proofs.Signs.{integer_value_is}
use Rattle.cxx_tokens.proofs.literal.integer_value.Goals as goal

pub returns-in-Some : goal.returns-in-Some
returns-in-Some c = integer_value_is c.args.text.now (parts_of c.in-Some.parts) c.signed.result c.requires c.in-Some.ensures c.signed.ensures
