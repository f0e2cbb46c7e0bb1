-- How many parts a tree has.
use Rattle.std.specs.Prelude.{ℕ, ◌+◌, List, [], ◌∷◌}
use Rattle.cxx_model.specs.declared.types.TypeTree as tree
use Rattle.cxx_model.specs.declared.types.TypeTree.{TypeTree}

abbrev mutual
  pub tree_size : TypeTree → ℕ
  tree_size (tree.Plain base) = 0
  tree_size (tree.Class n) = 0
  tree_size (tree.Enum n) = 0
  tree_size (tree.Pointer' p t) = tree_size t + 1
  tree_size (tree.Reference' p t) = tree_size t + 1
  tree_size (tree.Array' p t bound) = tree_size t + 1
  tree_size (tree.Function' p r shape parameters ellipsis cv) = tree_size r + row_size parameters + 1
  tree_size (tree.Qualified' cv p t) = tree_size t + 1
  tree_size (tree.Parameter depth index) = 0
  tree_size (tree.Special n given) = 0
  tree_size (tree.Nested' p t word) = tree_size t + 1

  pub row_size : {m : _} → tree.Row_of-TypeTree m → ℕ
  row_size tree.end_of-TypeTree = 0
  row_size (tree.more_of-TypeTree t rest) = tree_size t + 1 + row_size rest

abbrev pub trees_size : List TypeTree → ℕ
trees_size [] = 0
trees_size (t ∷ ts) = tree_size t + 1 + trees_size ts
