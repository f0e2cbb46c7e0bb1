-- Which bytes may stand directly behind a word, and words that may stand in one line.
use Rattle.std.specs.Prelude.{ℕ, Bool, true, false, not, ◌&&◌, ◌||◌, ◌==◌, List, [], ◌∷◌, codes}
use Rattle.std.specs.Option.{is_some}
use Rattle.std.specs.Str.{bytes_eq}
use Rattle.cxx_model.specs.declared.token.TokenKind.{TokenKind}
use Rattle.cxx_model.specs.declared.token.TokenKind.TheVariants.{Name, Keyword, Punct, Integer, Character, Text, End}
use Rattle.cxx_model.specs.Text.Continuing.{operator_goes_on}
use Rattle.cxx_model.specs.Text.Spelling.{is_word, is_quote, is_sign, is_exponent, number_in, operators}
use Rattle.cxx_reading.specs.Words.{Word, has_gap}
use Rattle.cxx_written.specs.Line.{kind_in}

-- the last byte is `e` or `E`, behind which a number goes on with a sign
abbrev pub ends_in_exponent : List ℕ → Bool
ends_in_exponent [] = false
ends_in_exponent (b ∷ []) = is_exponent b
ends_in_exponent (b ∷ c ∷ text) = ends_in_exponent (c ∷ text)

-- the primary spelling of an operator
abbrev pub is_operator : List ℕ → Bool
is_operator text = is_some (number_in operators text)

-- A name or a keyword ends before any byte that is no letter, digit or `_`, and the name `L` not before a quote, with
-- which it begins a wide literal; a number not before a dot either, and not before a sign where it ends in `e` or `E`; a
-- character literal before any byte; an operator in its primary spelling before a byte that makes no longer token of it.
abbrev pub ends_before : TokenKind → List ℕ → ℕ → Bool
ends_before Name text b = not (is_word b) && not (is_quote b && bytes_eq text (codes "L"))
ends_before (Keyword n) text b = not (is_word b)
ends_before (Punct n) text b = is_operator text && not (operator_goes_on text b)
ends_before Integer text b = not (is_word b || b == 46 || (is_sign b && ends_in_exponent text))
ends_before Character text b = true
ends_before Text text b = false
ends_before End text b = false

abbrev pub word_ends_before : Word → ℕ → Bool
word_ends_before word b = ends_before (kind_in word.spelling) word.spelling b

-- ---- neighbours

-- the word ends before this spelling
abbrev pub ends_before_spelling : Word → List ℕ → Bool
ends_before_spelling word [] = true
ends_before_spelling word (b ∷ spelling) = word_ends_before word b

-- a gap is printed between the word and the next, or the word ends before the next
abbrev pub is_apart : Word → List Word → Bool
is_apart word [] = true
is_apart word (next ∷ others) = has_gap word.role next.role || ends_before_spelling word next.spelling

-- each word ends before white space, and before the next where no gap is printed
abbrev pub are_apart : List Word → Bool
are_apart [] = true
are_apart (word ∷ others) = word_ends_before word 32 && (word_ends_before word 10 && (is_apart word others && are_apart others))
