-- Names with their qualifiers, as they are passed: one token at a time.
use Rattle.std.specs.Prelude.{ℕ, ◌≡◌, ◌+◌, ◌++◌, Bool, true, false, List, [], ◌∷◌, Option, None, Some}
use Rattle.cxx_model.specs.declared.punct.TheConstants as punct
use Rattle.cxx_model.specs.declared.token.TokenKind.{TokenKind}
use Rattle.cxx_model.specs.declared.tree.PathPart.{PathPart}
use Rattle.cxx_reading.specs.Reads.{Ahead, count_ahead}
use Rattle.cxx_reading.specs.Tokens.{Passed, is_name, is_punct, part_of, passed_from, token_in}
use Rattle.cxx_reading.specs.Trees.{CxxPathPart, no_part}
use Rattle.cxx_tree.specs.Arena.{path_part_at}

-- whether a name goes on with a token: with a part where one is wanted, else with `::`
abbrev pub goes_on : Bool → TokenKind → Bool
goes_on true kind = is_name kind
goes_on false kind = is_punct punct.SCOPE kind

abbrev pub passed_at : Bool → Ahead → Passed
passed_at wanted ahead = passed_from wanted ahead.last ahead.tokens

-- what the token ahead adds to the parts
abbrev pub part_there : Bool → Ahead → List CxxPathPart
part_there true ahead = part_of (token_in ahead.tokens) ∷ []
part_there false ahead = []

-- What is left of a name gives what the whole name gives, and so many tokens are left for the turns.
pub record IsPassing (wanted : Bool) (left : Ahead) (whole : Passed) (turn end : ℕ) : Type 0 where
  pub rest : (passed_at wanted left).rest ≡ whole.rest
  pub is_whole : (passed_at wanted left).is_whole ≡ whole.is_whole
  pub count : count_ahead left + turn ≡ end

-- the same of the parts
pub record IsCollecting (so_far : List CxxPathPart) (wanted : Bool) (left : Ahead) (whole : Passed) (turn end : ℕ) : Type 0 where
  pub parts : so_far ++ (passed_at wanted left).parts ≡ whole.parts
  pub count : count_ahead left + turn ≡ end

-- a part of a name; where there is none, one without a word
abbrev pub part_or : Option PathPart → CxxPathPart
part_or None = no_part
part_or (Some part) = path_part_at part
