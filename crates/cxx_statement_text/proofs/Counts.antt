-- How many trees there are.
use Rattle.std.proofs.Common.{◌≡◌, ◌<◌, ◌≤◌, true, false, List, [], ◌∷◌, length, refl, arith}
use Rattle.cxx_model.specs.declared.types.TreeId.{TreeId}
use Rattle.cxx_reading.specs.Trees.{CxxTree}
use Rattle.cxx_tree.specs.Arena.{trees_in}
use Rattle.cxx_statement_text.specs.Statements.{has_none, has_several}

pub several : (all : List CxxTree) (numbers : List TreeId) → 2 ≤ length numbers → true ≡ has_several (trees_in all numbers)
several all [] many = absurd (omega arith)
several all (one ∷ []) many = absurd (omega arith)
several all (one ∷ two ∷ numbers) many = refl

pub not_several : (all : List CxxTree) (numbers : List TreeId) → length numbers < 2 → false ≡ has_several (trees_in all numbers)
not_several all [] few = refl
not_several all (one ∷ []) few = refl
not_several all (one ∷ two ∷ numbers) few = absurd (omega arith)

pub none : (all : List CxxTree) (numbers : List TreeId) → length numbers < 1 → true ≡ has_none (trees_in all numbers)
none all [] few = refl
none all (one ∷ numbers) few = absurd (omega arith)

pub some : (all : List CxxTree) (numbers : List TreeId) → 1 ≤ length numbers → false ≡ has_none (trees_in all numbers)
some all [] many = absurd (omega arith)
some all (one ∷ numbers) many = refl
