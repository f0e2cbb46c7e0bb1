use Rattle.cxx_tokens.proofs.Signs.{integer_law, character_law}
use Rattle.cxx_tokens.proofs.literal.each_literal_has_a_value.Goals as goal

pub returns-clause-integer : goal.returns-clause-integer
returns-clause-integer c = integer_law

pub returns-clause-character : goal.returns-clause-character
returns-clause-character c = character_law
