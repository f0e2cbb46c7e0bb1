-- Strings side by side are one string, whatever white space stands between them (2.1, 2.13.4).
use Rattle.std.specs.Prelude.{ℕ, zero, suc, pred, Bool, false, if◌then◌else◌, List, [], ◌∷◌, ◌++◌, take, Option, Some, None}
use Rattle.cxx_model.specs.Text.Spelling.{Spelled, Blank, Good, Ill}
use Rattle.cxx_model.specs.Text.Tokens.{Piece, front, fresh_after, is_text}

-- the strings of a text, or none where something else stands in it
abbrev pub Strings : Type 0
Strings = Option (List (List ℕ))

abbrev pub with_string : List ℕ → Strings → Strings
with_string string None = None
with_string string (Some others) = Some (string ∷ others)

-- a piece before others: white space, a string, or something else
abbrev pub before : Spelled → List ℕ → Strings → Strings
before Blank text others = others
before (Good kind) text others = if is_text kind then with_string text others else None
before (Ill reason) text others = None

abbrev pub strings_by : Option Piece → List ℕ → (ℕ → Strings) → Strings
strings_by None text go = None
strings_by (Some piece) text go = before piece.spells (take piece.len text) (go (pred piece.len))

-- the strings of a text, after so many bytes that belong to the piece before; each piece is the longest where it begins
unfoldable pub strings_from : ℕ → Bool → List ℕ → Strings
strings_from skip fresh [] = Some []
strings_from (suc skip) fresh (b ∷ text) = strings_from skip (fresh_after b fresh) text
strings_from zero fresh (b ∷ text) = strings_by (front fresh (b ∷ text)) (b ∷ text) (λ skip. strings_from skip (fresh_after b fresh) text)

-- one space between two
abbrev pub spaced : List (List ℕ) → List ℕ
spaced [] = []
spaced (string ∷ []) = string
spaced (string ∷ next ∷ others) = string ++ 32 ∷ spaced (next ∷ others)

abbrev pub spaced_or : List ℕ → Strings → List ℕ
spaced_or text None = text
spaced_or text (Some strings) = spaced strings

-- The strings of a text alone, with one space between two; a text in which something else stands stays as it is. It
-- begins behind something on its line, as no string begins a marker line.
unfoldable pub side_by_side : List ℕ → List ℕ
side_by_side text = spaced_or text (strings_from 0 false text)
