-- The functions that the calls of a reading name, each as the plain form declares it, in the order of the text.
use Rattle.std.specs.Prelude.{ℕ, Bool, false, ◌||◌, nat_lt, List, [], ◌∷◌, ◌++◌, flat_map, length, map}
use Rattle.std.specs.List.{slice_get}
use Rattle.cxx_model.specs.declared.limits.TheConstants as limits
use Rattle.cxx_model.specs.Facts.Declarations.{CxxGraph}
use Rattle.cxx_phrase_text.specs.declared.calls.ListedCall.{ListedCall}
use Rattle.cxx_reading.specs.Declarators.{no_cv}
use Rattle.cxx_reading.specs.Plain.{type_of_function, NamesOfText}
use Rattle.cxx_form.specs.Definitions.{function_name_words}
use Rattle.cxx_form.specs.Order.{names_of_text}
use Rattle.cxx_reading.specs.State.{CxxState}
use Rattle.cxx_reading.specs.Units.{CxxReading}
use Rattle.cxx_reading.specs.Words.{declared, line_text, semicolon_word, Word}
use Rattle.cxx_form.specs.Text.{plain_text, printed_calls}

-- the functions that the calls name, by their declarations, in the order of the text
unfoldable pub targets : CxxState → List ℕ
targets state = map (λ call. call.target) (printed_calls state)

abbrev pub target_of : ListedCall → ℕ
target_of call = call.target.0

-- the declaration of a function, whose name stands behind its class (9.3)
abbrev pub called_words : NamesOfText → CxxGraph → ℕ → List Word
called_words names graph number = declared names.tags no_cv (type_of_function (slice_get graph.facts number)) (function_name_words names graph number) ++ semicolon_word ∷ []

-- The line by which the plain form declares a function: its type, and the name with the number that it has there. That of a
-- function of a class has its class before the name, since functions of several classes have one number; the line in its class
-- has spaces, `static` (9.4) and `virtual` (10.3) in front, and the 0 of a pure function (10.4) at its end.
unfoldable pub function_text : CxxState → ℕ → List ℕ
function_text state number = line_text (called_words (names_of_text state) state.graph number)

abbrev pub functions_from : CxxState → List ℕ → List ℕ
functions_from state numbers = flat_map (function_text state) numbers

-- a line for each call
unfoldable pub functions_text : CxxReading → List ℕ
functions_text reading = functions_from reading.state (targets reading.state)

abbrev pub is_long : List ℕ → Bool
is_long text = nat_lt limits.MOST_OUTPUT (length text)

abbrev pub any_long : CxxState → List ℕ → Bool
any_long state [] = false
any_long state (number ∷ others) = is_long (function_text state number) || any_long state others

-- The plain form, or a line of it that declares a function which a call names, is longer than a text may be.
unfoldable pub is_past_output : CxxReading → Bool
is_past_output reading = is_long (plain_text reading) || any_long reading.state (targets reading.state)
