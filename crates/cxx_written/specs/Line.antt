-- Words that stand in the lines of a printed text, each where it is read as it is written.
use Rattle.std.specs.Prelude.{◌≡◌, ◌≢◌, ℕ, Bool, false, List, [], ◌∷◌, ◌++◌, length, Option, Some}
use Rattle.cxx_model.specs.declared.token.TokenKind.{TokenKind}
use Rattle.cxx_model.specs.declared.token.TokenKind.TheVariants.{Name, Text, End}
use Rattle.cxx_model.specs.Text.Spelling.{Spelled, Good, spelling_of}
use Rattle.cxx_model.specs.Text.Tokens.{IsLongest}
use Rattle.cxx_model.specs.Printing.Written.{Written}
use Rattle.cxx_reading.specs.Words.{Word, has_gap}

-- ---- kinds

abbrev pub kind_by : Option Spelled → TokenKind
kind_by (Some (Good kind)) = kind
kind_by _ = End

-- the kind of token that a text spells by itself; the end where it spells none
abbrev pub kind_in : List ℕ → TokenKind
kind_in text = kind_by (spelling_of false text)

-- a word as the token that it spells
abbrev pub written_of : Word → Written
written_of word = record { kind = kind_in word.spelling; spelling = word.spelling }

-- ---- words

-- Before this byte the word is the longest front, whatever comes behind the byte and wherever on its line it stands.
pub record MayStandBefore (word : Word) (b : ℕ) : Type 0 where
  pub longest : (fresh : Bool) (rest : List ℕ) → IsLongest fresh (word.spelling ++ b ∷ rest) (record { len = length word.spelling; spells = Good (kind_in word.spelling) })

-- it spells a token
pub record IsSpelled (word : Word) : Type 0 where
  pub spelled : spelling_of false word.spelling ≡ Some (Good (kind_in word.spelling))

-- It spells a token, which is no string, and may stand before a space and before a newline.
pub record IsWord (word : Word) : Type 0 where
  pub spelled : spelling_of false word.spelling ≡ Some (Good (kind_in word.spelling))
  pub no_text : kind_in word.spelling ≢ Text
  pub before_space : MayStandBefore word 32
  pub before_newline : MayStandBefore word 10

-- ---- lines

-- the word may stand directly before this spelling
abbrev pub MayTouch : Word → List ℕ → Type 0
MayTouch word [] = Unit {0}
MayTouch word (b ∷ spelling) = MayStandBefore word b

-- Where no gap is printed between the word and the next, it may stand directly before it.
abbrev pub MayPrecede : Word → List Word → Type 0
MayPrecede word [] = Unit {0}
MayPrecede word (next ∷ others) = has_gap word.role next.role ≡ false → MayTouch word next.spelling

-- what may be printed in one line
abbrev pub IsLine : List Word → Type 0
IsLine [] = Unit {0}
IsLine (word ∷ others) = IsWord word × MayPrecede word others × IsLine others

-- a text that spells a name
pub record IsName (text : List ℕ) : Type 0 where
  pub spelled : spelling_of false text ≡ Some (Good Name)
