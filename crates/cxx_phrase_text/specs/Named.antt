-- A state whose trees are written, with what its text names things.
use Rattle.std.specs.Prelude.{ℕ, List, Option}
use Rattle.cxx_model.specs.declared.types.TypeId.{TypeId}
use Rattle.cxx_model.specs.Facts.Declarations.{type_of_option}
use Rattle.cxx_model.specs.Types.Trees.{CxxType}
use Rattle.cxx_reading.specs.Plain.{type_or_void}
use Rattle.cxx_reading.specs.Trees.{CxxTree}
use Rattle.cxx_reading.specs.Words.{Tags}
use Rattle.cxx_tree.specs.Held.{trees, Held}

pub record NamedState : Type 0 where
  pub held : Held
  -- the names of classes and enumerations
  pub tags : Tags
  -- the name of each declaration
  pub name : ℕ → List ℕ

abbrev pub trees_of : NamedState → List CxxTree
trees_of named = trees named.held

-- the type with a number, and `void` without one
abbrev pub type_for : NamedState → Option TypeId → CxxType
type_for named of = type_or_void (type_of_option named.held.types of)
