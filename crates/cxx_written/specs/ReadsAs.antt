-- When a text reads as lines of words.
use Rattle.std.specs.Prelude.{◌≡◌, ◌⊎◌, false, List, [], ◌∷◌, ◌++◌, map, flat_map, Result, Ok, Err, ℕ, Some}
use Rattle.cxx_model.specs.declared.token.Token.{Token}
use Rattle.cxx_model.specs.declared.token.TokenKind.TheVariants.{Text, End}
use Rattle.cxx_model.specs.Text.Lexemes.{lexemes}
use Rattle.cxx_model.specs.Text.Spelling.{Good, spelling_of}
use Rattle.cxx_model.specs.Text.Tokens.{Unread, BadAt, PastTokens}
use Rattle.cxx_model.specs.Printing.Written.{Written, written}
use Rattle.cxx_reading.specs.Words.{Word, line_text}
use Rattle.cxx_written.specs.Line.{written_of}

-- the end of the unit, which is its last token
abbrev pub end_word : Written
end_word = record { kind = End; spelling = [] }

-- the text of lines
abbrev pub text_of : List (List Word) → List ℕ
text_of lines = flat_map line_text lines

-- the words of a line, and of lines, as the tokens that they spell
abbrev pub line_as : List Word → List Written
line_as words = map written_of words

abbrev pub lines_as : List (List Word) → List Written
lines_as lines = flat_map line_as lines

-- The tokens of the text are these words, each spelled as it is written. No place is bad, and where the text has more
-- tokens than may be read nothing is asked.
abbrev pub ReadsAsWords : Result (List Token) Unread → List ℕ → List Written → Type 0
ReadsAsWords (Ok tokens) text words = map written (lexemes text tokens) ≡ words
ReadsAsWords (Err (BadAt place reason)) text words = ⊥
ReadsAsWords (Err PastTokens) text words = Unit {0}

-- the words of the lines, and the end
abbrev pub ReadsAs : Result (List Token) Unread → List ℕ → List (List Word) → Type 0
ReadsAs answer text lines = ReadsAsWords answer text (lines_as lines ++ end_word ∷ [])

-- it is spelled as what it is
pub record IsSpelledAs (word : Written) : Type 0 where
  pub spelled : spelling_of false word.spelling ≡ Some (Good word.kind)

-- A word that was read: it is spelled as what it is, or is a string, which may have been joined of several, or the end.
abbrev pub IsReadWord : Written → Type 0
IsReadWord word = IsSpelledAs word ⊎ ((word.kind ≡ Text) ⊎ (word ≡ end_word))
