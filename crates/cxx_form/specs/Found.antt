-- The trees of a production that are found in others.
use Rattle.std.specs.Prelude.{ℕ, ◌≡◌, nat_eq, if◌then◌else◌, List, [], ◌∷◌, ◌++◌, flat_map, length}
use Rattle.cxx_model.specs.declared.types.TreeId.{TreeId}
use Rattle.cxx_form.specs.Order.{found_in, found_of}
use Rattle.cxx_reading.specs.Trees.{CxxTree}
use Rattle.cxx_tree.specs.Arena.{AreTreesBelow, trees_in}

abbrev pub each_found : ℕ → ℕ → List CxxTree → List CxxTree
each_found wanted passed trees = flat_map (found_of wanted passed) trees

-- those in the parts of a tree, unless it is passed
abbrev pub found_inside : ℕ → ℕ → CxxTree → List CxxTree
found_inside wanted passed tree = if nat_eq tree.label.production passed then [] else found_in wanted passed tree.children

-- a tree, where it is of a production
abbrev pub if_wanted : ℕ → CxxTree → List CxxTree
if_wanted wanted tree = if nat_eq tree.label.production wanted then tree ∷ [] else []

-- Trees were added to a list of them.
pub record AddsTrees (trees : List CxxTree) (old new : List TreeId) (added : List CxxTree) : Type 0 where
  pub is : trees_in trees new ≡ trees_in trees old ++ added
  pub below : AreTreesBelow (length trees) old → AreTreesBelow (length trees) new

-- Trees that stand for those of a list, and are there.
pub record AreTrees (trees : List CxxTree) (numbers : List TreeId) (wanted : List CxxTree) : Type 0 where
  pub is : trees_in trees numbers ≡ wanted
  pub below : AreTreesBelow (length trees) numbers
