-- A tree that names no type by number.
use Rattle.std.specs.Prelude.{ℕ, List}
use Rattle.cxx_model.specs.declared.types.TypeTree.{TypeTree}
use Rattle.cxx_model.specs.Types.Numbers.{tree_at, IsTreeBelow}
use Rattle.cxx_model.specs.Types.Proper.{IsProper}
use Rattle.cxx_model.specs.Types.Trees.{CxxType}

pub record IsFree (tree : TypeTree) : Type 0 where
  pub below : (count : ℕ) → IsTreeBelow count tree
  pub proper : (types : List CxxType) → IsProper (tree_at types tree)
