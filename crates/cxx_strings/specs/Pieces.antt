-- The pieces of a text as the code finds them: white space, strings, and what is neither.
use Rattle.std.specs.Prelude.{◌≡◌, ◌==◌, ◌&&◌, ◌+◌, if◌then◌else◌, not, ℕ, Bool, true, false, List, [], ◌∷◌, length, Option, Some, None}
use Rattle.std.specs.List.{list_any}
use Rattle.cxx_model.specs.declared.token.TokenKind.TheVariants.{Text as TextKind}
use Rattle.cxx_model.specs.Text.Continuing.{IsLongestBy, starts}
use Rattle.cxx_model.specs.Text.Spelling as spelling
use Rattle.cxx_model.specs.Text.Spelling.{Spelled, is_bad_letter, is_universal_letter, letters}
use Rattle.cxx_model.specs.Text.Tokens as tokens
use Rattle.cxx_model.specs.Text.Tokens.{IsLongest, is_text}
use Rattle.cxx_strings.specs.declared.piece.Piece.{Piece}
use Rattle.cxx_strings.specs.declared.piece.Piece.TheVariants.{Blank, Text, Other}

-- neither white space nor a string
abbrev pub is_other : Spelled → Bool
is_other spelling.Blank = false
is_other (spelling.Good kind) = not (is_text kind)
is_other (spelling.Ill reason) = true

-- by a rule, what is neither stands at the front of a text
pub record FindsOther (rule : List ℕ → Option Spelled) (text : List ℕ) : Type 0 where
  pub len : ℕ
  pub spells : Spelled
  pub longest : IsLongestBy rule text len spells
  pub other : is_other spells ≡ true

-- by a rule, so many bytes at the front of a text spell this, or what is neither stands there
abbrev pub Finds : (List ℕ → Option Spelled) → List ℕ → Spelled → Option ℕ → Type 0
Finds rule text spells None = FindsOther rule text
Finds rule text spells (Some len) = IsLongestBy rule text len spells

-- what is neither stands at the front of a text
pub record BeginsOther (fresh : Bool) (text : List ℕ) : Type 0 where
  pub piece : tokens.Piece
  pub longest : IsLongest fresh text piece
  pub other : is_other piece.spells ≡ true

-- the front of a text is this piece
abbrev pub Begins : Bool → List ℕ → Piece → Type 0
Begins fresh text (Blank len) = IsLongest fresh text (record { len = len; spells = spelling.Blank })
Begins fresh text (Text len) = IsLongest fresh text (record { len = len; spells = spelling.Good TextKind })
Begins fresh text Other = BeginsOther fresh text

-- `L` and a `"`
abbrev pub begins_wide : List ℕ → Bool
begins_wide [] = false
begins_wide (b ∷ rest) = b == 76 && starts (λ c. c == 34) rest

-- ---- the characters of a string

abbrev pub is_sound : Bool → List ℕ → Bool
is_sound wide body = not (list_any (is_bad_letter wide) (letters 0 body)) && not (list_any is_universal_letter (letters 0 body))

abbrev pub closed_len : Bool → List ℕ → Option ℕ
closed_len wide body = if is_sound wide body then Some (length body + 1) else None
