-- The trees of a reading: what was read, and what each part of it means. There is one kind of tree for all productions.
use Rattle.std.specs.Prelude.{ℕ, Bool, true, false, not, ◌&&◌, List, [], ◌∷◌, Option, None}
use Rattle.cxx_model.specs.declared.place.Place.{Place}
use Rattle.cxx_model.specs.Text.Lexemes.{nowhere}
use Rattle.cxx_model.specs.Types.Trees.{CxxType}
use Rattle.cxx_meaning.specs.Conversions.Standard.{CxxOperand}

-- one name of a path; 14.2: how many of the first children of its tree are its arguments
pub record CxxPathPart : Type 0 where
  pub word : List ℕ
  pub place : Place
  pub arguments : Option ℕ

-- 3.4.3: a name as it is written, with its qualifiers
pub record CxxPath : Type 0 where
  pub global : Bool
  pub parts : List CxxPathPart

-- a part without a word
abbrev pub no_part : CxxPathPart
no_part = record { word = []; place = nowhere; arguments = None }

-- the last of some parts, which is looked up behind the others
abbrev pub last_part : List CxxPathPart → CxxPathPart
last_part [] = no_part
last_part (part ∷ []) = part
last_part (part ∷ next ∷ others) = last_part (next ∷ others)

abbrev pub is_alone : List CxxPathPart → Bool
is_alone (part ∷ []) = true
is_alone _ = false

-- 3.4.1: a name without qualifiers
abbrev pub is_plain_path : CxxPath → Bool
is_plain_path path = not path.global && is_alone path.parts

-- What stands at the top of a tree.
pub record Label : Type 0 where
  -- the number of the production
  pub production : ℕ
  -- the spelling of a literal, of an operator, or of the keyword that tells the forms of a production apart
  pub spelling : List ℕ
  -- how many tokens are left before its first token, and behind its last one
  pub first : ℕ
  pub last : ℕ
  -- the place of its first token, and that of its questions
  pub start : Place
  pub place : Place
  -- the name that was read
  pub path : Option CxxPath
  -- what an expression gives
  pub operand : Option CxxOperand
  -- the type that was read
  pub of : Option CxxType
  -- the number of the declaration to which a name was bound
  pub target : Option ℕ
  -- the number of its call, from 0
  pub call : Option ℕ

-- Trees in turn: the label of the first, its children, and what comes after it.
pub data CxxTrees : Type 0 where
  no_trees : CxxTrees
  tree_then : Label → CxxTrees → CxxTrees → CxxTrees

pub record CxxTree : Type 0 where
  pub label : Label
  pub children : CxxTrees

abbrev pub in_turn : List CxxTree → CxxTrees
in_turn [] = no_trees
in_turn (tree ∷ others) = tree_then tree.label tree.children (in_turn others)

abbrev pub each_tree : CxxTrees → List CxxTree
each_tree no_trees = []
each_tree (tree_then label children next) = record { label = label; children = children } ∷ each_tree next

abbrev pub children_of : CxxTree → List CxxTree
children_of tree = each_tree tree.children

abbrev pub tree_of : Label → List CxxTree → CxxTree
tree_of label children = record { label = label; children = in_turn children }
