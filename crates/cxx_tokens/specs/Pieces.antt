-- The pieces of the code as those of the definitions.
use Rattle.std.specs.Prelude.{◌≡◌, ℕ, Bool, false, ◌==◌, ◌&&◌, ◌||◌, List, [], ◌∷◌, length, take, nat_le, if◌then◌else◌, Option, Some, None}
use Rattle.cxx_model.specs.Text.Spelling as spelling
use Rattle.cxx_model.specs.Text.Spelling.{operator, operators, digraphs, first_of, number_in, number_beside, is_white, begins_word, is_quote, begins_number}
use Rattle.cxx_model.specs.Text.Continuing.{BeginsOperator, starts}
use Rattle.cxx_model.specs.Text.Tokens as tokens
use Rattle.cxx_tokens.specs.declared.piece.Spelled.{Spelled}
use Rattle.cxx_tokens.specs.declared.piece.Spelled.TheVariants.{Blank, Good, Ill}
use Rattle.cxx_tokens.specs.declared.piece.Piece.{Piece}
use Rattle.cxx_tokens.specs.declared.width.Width.{Width}
use Rattle.cxx_tokens.specs.declared.width.Width.TheVariants.{Narrow, Wide}

abbrev pub spelled : Spelled → spelling.Spelled
spelled Blank = spelling.Blank
spelled (Good kind) = spelling.Good kind
spelled (Ill reason) = spelling.Ill reason

abbrev pub piece_of : Piece → tokens.Piece
piece_of piece = record { len = piece.len; spells = spelled piece.spells }

abbrev pub spelled_option : Option Spelled → Option spelling.Spelled
spelled_option None = None
spelled_option (Some spells) = Some (spelled spells)

-- what a text of operators spells, other pieces aside
abbrev pub operator_of : List ℕ → Option spelling.Spelled
operator_of [] = None
operator_of (b ∷ rest) = operator b rest

-- what the first bytes spell as an operator, where there are so many
abbrev pub operator_at : List ℕ → ℕ → Option spelling.Spelled
operator_at text len = if nat_le len (length text) then operator_of (take len text) else None

-- a byte is the second of some operator
abbrev pub comes_second : ℕ → Bool
comes_second b = b == 37 || b == 38 || b == 42 || b == 43 || b == 45 || b == 46 || b == 58 || b == 60 || b == 61 || b == 62 || b == 124

-- the first byte begins a number
abbrev pub begins_numeral : List ℕ → Bool
begins_numeral [] = false
begins_numeral (b ∷ rest) = begins_number b rest

abbrev pub IsOperatorText : List ℕ → Type 0
IsOperatorText [] = ⊥
IsOperatorText (b ∷ rest) = BeginsOperator b rest

-- `L` and a quote
abbrev pub begins_wide : List ℕ → Bool
begins_wide [] = false
begins_wide (b ∷ rest) = b == 76 && starts is_quote rest

-- the number of an operator by either spelling
abbrev pub operator_number : List ℕ → Option ℕ
operator_number text = first_of (number_in operators text) (number_beside digraphs text)

-- the first byte is this one
abbrev pub begins_with : ℕ → List ℕ → Bool
begins_with first text = starts (λ b. b == first) text

-- the first byte begins neither white space nor a word, a number or a quote
pub record IsOther (b : ℕ) (rest : List ℕ) : Type 0 where
  pub black : is_white b ≡ false
  pub no_word : begins_word b ≡ false
  pub no_number : begins_number b rest ≡ false
  pub no_quote : is_quote b ≡ false

abbrev pub IsOtherText : List ℕ → Type 0
IsOtherText [] = ⊥
IsOtherText (b ∷ rest) = IsOther b rest

-- ---- strings

abbrev pub width_seen : Option Width → Option tokens.Width
width_seen None = None
width_seen (Some Narrow) = Some tokens.Narrow
width_seen (Some Wide) = Some tokens.Wide
