-- What is asked while a unit is read, and the readers behind brackets.
use Rattle.std.specs.Prelude.{ℕ}
use Rattle.cxx_reading.specs.State.{CxxState}
use Rattle.cxx_phrases.specs.Phrases.{Phrases}
use Rattle.cxx_expr.specs.Questions.{Questions}
use Rattle.cxx_answers.specs.Answers.{questions}
use Rattle.cxx_knot.specs.Readers.{Asking, Both, both, here}
use Rattle.cxx_language.specs.Answers.{asking}

abbrev pub answers : Questions
answers = questions

abbrev pub asked : ℕ → Asking CxxState
asked room = asking room

abbrev pub inner_at : ℕ → Both CxxState
inner_at room = both asked room

abbrev pub phrases_at : ℕ → Phrases CxxState
phrases_at room = here (asked room) (inner_at room) room
