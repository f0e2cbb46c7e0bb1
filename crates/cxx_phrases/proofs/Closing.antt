-- The first token that closes no bracket (13.3.1.1.1).
use Rattle.std.specs.Prelude.{◌≡◌, ◌<◌, Bool, true, false, if◌then◌else◌, List, [], ◌∷◌, length, refl}
use Rattle.std.proofs.Common.{ap, sym, arith}
use Rattle.cxx_model.specs.declared.place.Place.{Place}
use Rattle.cxx_model.specs.declared.punct.TheConstants as punct
use Rattle.cxx_model.specs.Text.Lexemes.{Lexeme}
use Rattle.cxx_phrases.specs.Forms.{opens_behind}
use Rattle.cxx_reading.specs.Reads.{Ahead, behind, kind_ahead}
use Rattle.cxx_reading.specs.Tokens.{is_punct}

passed_of : (last : Place) (tokens : List Lexeme) → is_punct punct.RIGHT_PARENTHESIS (kind_ahead (record { last = last; tokens = tokens })) ≡ true → opens_behind (behind (record { last = last; tokens = tokens })).tokens ≡ opens_behind tokens
passed_of last [] closes = refl
passed_of last (token ∷ tokens) closes = sym (ap (λ (b : Bool). if b then opens_behind tokens else is_punct punct.LEFT_PARENTHESIS token.kind) closes)

-- one that closes is passed
pub passed : (ahead : Ahead) → is_punct punct.RIGHT_PARENTHESIS (kind_ahead ahead) ≡ true → opens_behind (behind ahead).tokens ≡ opens_behind ahead.tokens
passed ahead closes = passed_of ahead.last ahead.tokens closes

stopped_of : (last : Place) (tokens : List Lexeme) → is_punct punct.RIGHT_PARENTHESIS (kind_ahead (record { last = last; tokens = tokens })) ≡ false → is_punct punct.LEFT_PARENTHESIS (kind_ahead (record { last = last; tokens = tokens })) ≡ opens_behind tokens
unfolding is_punct
stopped_of last [] other = refl
stopped_of last (token ∷ tokens) other = sym (ap (λ (b : Bool). if b then opens_behind tokens else is_punct punct.LEFT_PARENTHESIS token.kind) other)

-- what closes none says it
pub stopped : (ahead : Ahead) → is_punct punct.RIGHT_PARENTHESIS (kind_ahead ahead) ≡ false → is_punct punct.LEFT_PARENTHESIS (kind_ahead ahead) ≡ opens_behind ahead.tokens
stopped ahead other = stopped_of ahead.last ahead.tokens other

shorter_of : (last : Place) (tokens : List Lexeme) → is_punct punct.RIGHT_PARENTHESIS (kind_ahead (record { last = last; tokens = tokens })) ≡ true → length (behind (record { last = last; tokens = tokens })).tokens < length tokens
unfolding is_punct
shorter_of last [] closes = absurd cc
shorter_of last (token ∷ tokens) closes = omega arith

pub shorter : (ahead : Ahead) → is_punct punct.RIGHT_PARENTHESIS (kind_ahead ahead) ≡ true → length (behind ahead).tokens < length ahead.tokens
shorter ahead closes = shorter_of ahead.last ahead.tokens closes
