-- The bodies that were passed over in a class.
use Rattle.std.specs.Prelude.{ℕ, zero, suc, nat_eq, if◌then◌else◌, List, [], ◌∷◌, ◌++◌, Option, Some, None}
use Rattle.cxx_model.specs.declared.token.TokenKind.TheVariants.{Name}
use Rattle.cxx_model.specs.Text.Lexemes.{Lexeme}
use Rattle.cxx_model.specs.Types.Trees.{CxxType}
use Rattle.cxx_reading.specs.Productions as production
use Rattle.cxx_reading.specs.Trees.{CxxPath, CxxPathPart, CxxTree, CxxTrees, Label, last_part, no_part, no_trees, tree_then}
use Rattle.cxx_later.specs.Passing.{passed_body}

-- A body that was passed over: the declarator of its function, with the type and the declaration of that, the scope of its list
-- of parameters, how many tokens are left before it and behind it, and with room for how many more brackets it stands.
pub record Waiting : Type 0 where
  pub declarator : CxxTree
  pub of : CxxType
  pub number : ℕ
  pub list : ℕ
  pub first : ℕ
  pub last : ℕ
  pub room : ℕ

abbrev pub waiting_with : ℕ → Label → CxxTree → Option CxxType → Option ℕ → Option ℕ → List Waiting
waiting_with room label declarator (Some of) (Some number) (Some list) = record { declarator = declarator; of = of; number = number; list = list; first = label.first; last = label.last; room = room } ∷ []
waiting_with room label declarator of number list = []

abbrev pub waiting_by : ℕ → Label → CxxTrees → List Waiting
waiting_by room label no_trees = []
waiting_by room label (tree_then declarator parts next) = waiting_with room label (record { label = declarator; children = parts }) declarator.of declarator.target label.target

abbrev pub less_one : ℕ → ℕ
less_one zero = zero
less_one (suc room) = room

-- in the list of a class there is less room
abbrev pub room_in : Label → ℕ → ℕ
room_in label room = if nat_eq label.production production.class_definition then less_one room else room

-- those in trees, in order
abbrev pub waiting_in : ℕ → CxxTrees → List Waiting
waiting_in room no_trees = []
waiting_in room (tree_then label children next) =
    if nat_eq label.production passed_body then waiting_by room label children ++ waiting_in room next else (
    if nat_eq label.production production.declarator then waiting_in room next else
    waiting_in (room_in label room) children ++ waiting_in room next)

-- the name that a declarator declares
abbrev pub last_of_path : Option CxxPath → CxxPathPart
last_of_path None = no_part
last_of_path (Some path) = last_part path.parts

abbrev pub name_declared : CxxTree → Lexeme
name_declared declarator = record { kind = Name; place = declarator.label.place; spelling = (last_of_path declarator.label.path).word }
