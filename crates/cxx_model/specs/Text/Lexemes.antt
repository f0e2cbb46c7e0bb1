-- Places of bytes, and tokens together with the bytes that spell them (2.1, 2.6).
use Rattle.std.specs.Prelude.{ℕ, ◌+◌, ◌-◌, List, [], ◌∷◌, take, drop, map, if◌then◌else◌, ◌==◌}
use Rattle.cxx_model.specs.declared.place.Place.{Place}
use Rattle.cxx_model.specs.declared.token.Token.{Token}
use Rattle.cxx_model.specs.declared.token.TokenKind.{TokenKind}
use Rattle.cxx_model.specs.declared.token.TokenKind.TheVariants.{End}

-- lines and columns count from 1, and a column counts bytes
abbrev pub first_place : Place
first_place = record { line = 1; column = 1 }

-- what is nowhere in the text
abbrev pub nowhere : Place
nowhere = record { line = 0; column = 0 }

-- the place after a byte; the byte 10 ends a line
abbrev pub after : ℕ → Place → Place
after b place = if b == 10 then record { line = place.line + 1; column = 1 } else record { line = place.line; column = place.column + 1 }

-- the place after a text
abbrev pub past : List ℕ → Place → Place
past [] place = place
past (b ∷ text) place = past text (after b place)

-- a token, with the bytes that spell it in place of where they stand
pub record Lexeme : Type 0 where
  pub kind : TokenKind
  pub place : Place
  pub spelling : List ℕ

abbrev pub spelling_in : List ℕ → Token → List ℕ
spelling_in bytes token = take (token.to - token.from) (drop token.from bytes)

abbrev pub lexeme_of : List ℕ → Token → Lexeme
lexeme_of bytes token = record { kind = token.kind; place = token.place; spelling = spelling_in bytes token }

abbrev pub lexemes : List ℕ → List Token → List Lexeme
lexemes bytes tokens = map (lexeme_of bytes) tokens

-- what stands ahead: where the list is at its end, that is the end of the unit
abbrev pub kind_of : List Lexeme → TokenKind
kind_of [] = End
kind_of (l ∷ ls) = l.kind

abbrev pub place_of : List Lexeme → Place
place_of [] = nowhere
place_of (l ∷ ls) = l.place

abbrev pub spelling_ahead : List Lexeme → List ℕ
spelling_ahead [] = []
spelling_ahead (l ∷ ls) = l.spelling
