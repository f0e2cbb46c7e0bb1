-- The types of a list of trees.
use Rattle.std.specs.Prelude.{ℕ, List, [], ◌∷◌}
use Rattle.cxx_model.specs.declared.types.TypeTree.{TypeTree}
use Rattle.cxx_model.specs.Types.Trees.{CxxType, CxxTypes, no_types, type_then}
use Rattle.cxx_model.specs.Types.Numbers.{tree_at, IsTreeBelow}

abbrev pub trees_at : List CxxType → List TypeTree → CxxTypes
trees_at types [] = no_types
trees_at types (tree ∷ trees) = type_then (tree_at types tree) (trees_at types trees)

abbrev pub AreTreesBelow : ℕ → List TypeTree → Type 0
AreTreesBelow count [] = Unit {0}
AreTreesBelow count (tree ∷ trees) = IsTreeBelow count tree × AreTreesBelow count trees
