-- What a declarator leads to, given the trees of a state.
use Rattle.std.specs.Prelude.{◌<◌, length, List, [], ◌∷◌, Option, Some, None}
use Rattle.cxx_model.specs.declared.types.TreeId.{TreeId}
use Rattle.cxx_space.specs.declared.bodies.Declared.{Declared}
use Rattle.cxx_language.specs.Later.{Declares}
use Rattle.cxx_reading.specs.Trees.{CxxTree}
use Rattle.cxx_cursor.specs.Views.{AreTreesHeld, trees_held}
use Rattle.cxx_tree.specs.Held.{Held, tree, trees}

-- a body, where there is one
abbrev pub body_of : Held → Option TreeId → List CxxTree
body_of held None = []
body_of held (Some number) = tree held number ∷ []

abbrev pub IsBodyKnown : Held → Option TreeId → Type 0
IsBodyKnown held None = Unit {0}
IsBodyKnown held (Some number) = number.0 < length (trees held)

abbrev pub declares_of : Held → Declared → Declares
declares_of held one = record { tree = tree held one.tree; defaults = trees_held held one.defaults; body = body_of held one.body }

pub record IsDeclaredKnown (held : Held) (one : Declared) : Type 0 where
  pub tree : one.tree.0 < length (trees held)
  pub defaults : AreTreesHeld held one.defaults
  pub body : IsBodyKnown held one.body
