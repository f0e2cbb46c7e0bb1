-- The words of marker lines.
use Rattle.std.specs.Prelude.{ℕ, Bool, ◌||◌, List}
use Rattle.cxx_model.specs.Text.Spelling.{begins_with_digit, is_marker_word}

-- behind `#` and blanks, this run of letters, digits and `_` makes a marker line
abbrev pub makes_marker : List ℕ → Bool
makes_marker word = begins_with_digit word || is_marker_word word
