-- What the readers of the code answer, given the types and trees of a state.
use Rattle.std.specs.Prelude.{◌<◌, length, List, Option, Some, None}
use Rattle.cxx_model.specs.declared.types.TreeId.{TreeId}
use Rattle.cxx_model.specs.declared.types.TypeId.{TypeId}
use Rattle.cxx_model.specs.Facts.Declarations.{type_of_option}
use Rattle.cxx_model.specs.Facts.Fitted.{IsTypeNumberBelow}
use Rattle.cxx_model.specs.Types.Trees.{CxxType}
use Rattle.cxx_phrases.specs.declared.initializer.Initializer.{Initializer}
use Rattle.cxx_phrases.specs.Initializers as definition
use Rattle.cxx_reading.specs.Reads as reads
use Rattle.cxx_reading.specs.Reads.{Ahead}
use Rattle.cxx_reading.specs.Tokens.{path_ahead}
use Rattle.cxx_reading.specs.Trees.{CxxPath, CxxTree}
use Rattle.cxx_cursor.specs.declared.turn.Turn.{Turn}
use Rattle.cxx_cursor.specs.Asking.{IsTreeKnown}
use Rattle.cxx_cursor.specs.Views.{AreTreesHeld, IsTurn, trees_held, turn_at}
use Rattle.cxx_tree.specs.Held.{Held, tree, type_of}

-- a type, with the trees of what it is written of
abbrev pub written_of : Held → TypeId × List TreeId → CxxType × List CxxTree
written_of held both = (type_of held both.0, trees_held held both.1)

pub record IsWritten (held : Held) (both : TypeId × List TreeId) : Type 0 where
  pub of : both.0.0 < length held.types
  pub parts : AreTreesHeld held both.1

-- 5.3.3: a type, where one is written, with its trees, or else that of the operand
abbrev pub sized_of : Held → Option TypeId × List TreeId → Option CxxType × List CxxTree
sized_of held both = (type_of_option held.types both.0, trees_held held both.1)

pub record IsSized (held : Held) (both : Option TypeId × List TreeId) : Type 0 where
  pub of : IsTypeNumberBelow (length held.types) both.0
  pub parts : AreTreesHeld held both.1

abbrev pub tree_turn : Held → Turn TreeId TreeId → reads.Turn CxxTree CxxTree
tree_turn held = turn_at (tree held) (tree held)

abbrev pub IsTreeTurn : Held → Turn TreeId TreeId → Type 0
IsTreeTurn held = IsTurn (IsTreeKnown held) (IsTreeKnown held)

-- 8.5
abbrev pub initializer_of : Held → Initializer → definition.Initializer
initializer_of held one = record { form = one.form; parts = trees_held held one.parts }

abbrev pub IsInitializer : Held → Initializer → Type 0
IsInitializer held one = AreTreesHeld held one.parts

-- the path of a name, where there is one, from what is ahead where it begins
abbrev pub path_in : Option Ahead → Option CxxPath
path_in None = None
path_in (Some ahead) = Some (path_ahead ahead)
