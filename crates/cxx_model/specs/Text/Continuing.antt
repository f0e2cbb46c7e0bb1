-- What can go on with a token, and what an operator can begin with.
use Rattle.std.specs.Prelude.{◌≡◌, ◌≤◌, ◌<◌, ℕ, Bool, true, false, ◌&&◌, ◌||◌, ◌==◌, List, [], ◌∷◌, ◌++◌, length, take, Option, Some, None}
use Rattle.std.specs.List.{list_any}
use Rattle.std.specs.Char.{is_ascii_digit}
use Rattle.cxx_model.specs.Text.Spelling.{Spelled, Ending, comment_by, comment_ending, is_white, is_word, begins_word, begins_number, is_sign, is_exponent, is_quote, operators, digraphs}

-- the first byte of a text passes a test
abbrev pub starts : (ℕ → Bool) → List ℕ → Bool
starts test [] = false
starts test (b ∷ text) = test b

-- a byte goes on with a number that ends in `last`
abbrev pub number_goes_on : ℕ → ℕ → Bool
number_goes_on last b = is_word b || b == 46 || (is_sign b && is_exponent last)

-- the last byte of `first` and a text
abbrev pub last_of : ℕ → List ℕ → ℕ
last_of first [] = first
last_of first (b ∷ text) = last_of b text

-- a byte that makes a comment of the slash before it
abbrev pub begins_comment : ℕ → Bool
begins_comment b = b == 47 || b == 42

abbrev pub is_colon : ℕ → Bool
is_colon b = b == 58

-- a byte that begins neither white space nor a word, a number, a literal, a comment, a marker line or a directive
pub record BeginsOperator (b : ℕ) (rest : List ℕ) : Type 0 where
  pub black : is_white b ≡ false
  pub no_word : begins_word b ≡ false
  pub no_number : begins_number b rest ≡ false
  pub no_quote : is_quote b ≡ false
  pub no_hash : (b == 35) ≡ false
  pub no_comment : (b == 47 && starts begins_comment rest) ≡ false
  pub no_backslash : (b == 92) ≡ false
  pub no_directive : (b == 37 && starts is_colon rest) ≡ false

-- by this rule the longest front of a text that spells something has so many bytes, and spells this
pub record IsLongestBy (rule : List ℕ → Option Spelled) (text : List ℕ) (len : ℕ) (spells : Spelled) : Type 0 where
  pub fits : len ≤ length text
  pub spelled : rule (take len text) ≡ Some spells
  pub longest : (n : ℕ) → len < n → n ≤ length text → rule (take n text) ≡ None

-- behind these bytes one scan goes on as another
abbrev pub Goes : (List ℕ → Ending) → (List ℕ → Ending) → List ℕ → Type 0
Goes whole later done = (text : List ℕ) → whole (done ++ text) ≡ later text

-- what stands behind `/*`, up to and with `*/`
abbrev pub comment : List ℕ → Option Spelled
comment text = comment_by (comment_ending false text)

-- ---- operators before other bytes

abbrev pub starts_with : List ℕ → List ℕ → Bool
starts_with [] entry = true
starts_with (b ∷ text) [] = false
starts_with (b ∷ text) (c ∷ entry) = b == c && starts_with text entry

-- a dot before a digit, a slash before what makes a comment of it, and `%` before `:`
abbrev pub alone_goes_on : List ℕ → ℕ → Bool
alone_goes_on [] c = false
alone_goes_on (b ∷ []) c = (b == 46 && is_ascii_digit c) || ((b == 47 && begins_comment c) || (b == 37 && is_colon c))
alone_goes_on (b ∷ d ∷ text) c = false

-- a byte directly after an operator may make a longer token of it
abbrev pub operator_goes_on : List ℕ → ℕ → Bool
operator_goes_on text c =
    list_any (λ entry. starts_with (text ++ c ∷ []) entry) operators || (list_any (λ entry. starts_with (text ++ c ∷ []) entry.0) digraphs || alone_goes_on text c)
