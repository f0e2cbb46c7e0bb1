-- Trees of bases.
use Rattle.std.specs.Prelude.{suc, ◌≡◌, length, List, [], ◌∷◌, refl}
use Rattle.std.proofs.Common.{ap}
use Rattle.cxx_model.specs.declared.types.TreeId.{TreeId}
use Rattle.cxx_reading.specs.Trees.{CxxTree}
use Rattle.cxx_tree.specs.Arena.{trees_in}

pub count_held : (all : List CxxTree) (numbers : List TreeId) → length (trees_in all numbers) ≡ length numbers
count_held all [] = refl
count_held all (number ∷ others) = ap suc (count_held all others)
