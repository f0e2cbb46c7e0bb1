-- What is noted of an object behind its initializer, given what is known of it.
use Rattle.std.specs.Prelude.{ℕ, ℤ, ◌||◌, if◌then◌else◌, Option, Some, None, Ok}
use Rattle.cxx_model.specs.Facts.Declarations.{CxxGraph, spelled}
use Rattle.cxx_model.specs.Stops.{◌>>=◌}
use Rattle.cxx_model.specs.Text.Lexemes.{Lexeme}
use Rattle.cxx_model.specs.Types.Trees.{CxxType}
use Rattle.cxx_constant.specs.Constants.{constant}
use Rattle.cxx_reading.specs.Declaring.{added, fact_here}
use Rattle.cxx_reading.specs.Reads.{Asks}
use Rattle.cxx_reading.specs.State.{CxxState}
use Rattle.cxx_reading.specs.Trees.{CxxTree}
use Rattle.cxx_reading.specs.Units.{is_unbounded}
use Rattle.cxx_answers.specs.Typed.{entity_number}
use Rattle.cxx_language.specs.Known.{is_some_value, known_answer, known_object, value_of}

-- 5.19: the value of what initializes the object, where that is one part
abbrev pub value_of_one : CxxGraph → Option CxxTree → Option ℤ
value_of_one graph None = None
value_of_one graph (Some one) = value_of (constant graph one)

-- a further declaration of the object, with its type and its value
abbrev pub noted_with : Lexeme → ℕ → CxxType → Option ℤ → Asks CxxState (Unit {0})
noted_with name number of value state = added (fact_here state (spelled name.spelling) name.place (known_object (entity_number state number) of value)) state >>= λ answer. Ok (known_answer answer)

-- where the value is known, or the bound of what is declared without one
abbrev pub note_with : Lexeme → ℕ → CxxType → CxxType → Option ℤ → Asks CxxState (Unit {0})
note_with name number of known value state = if is_unbounded of || is_some_value value then noted_with name number known value state else Ok (tt, state)
