-- Words of a printed text, and how they stand in a line.
use Rattle.std.specs.Prelude.{ℕ, List}
use Rattle.cxx_model.specs.declared.token.TokenKind.{TokenKind}
use Rattle.cxx_model.specs.Text.Lexemes.{Lexeme}

-- a token without its place
pub record Written : Type 0 where
  pub kind : TokenKind
  pub spelling : List ℕ

abbrev pub written : Lexeme → Written
written token = record { kind = token.kind; spelling = token.spelling }
