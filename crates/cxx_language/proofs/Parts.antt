-- The parts of an initializer.
use Rattle.std.specs.Prelude.{ℕ, ◌≡◌, ◌<◌, List, [], ◌∷◌, refl}
use Rattle.std.proofs.Common.{arith}
use Rattle.cxx_model.specs.declared.types.TreeId.{TreeId}
use Rattle.cxx_model.specs.Facts.Declarations.{CxxGraph}
use Rattle.cxx_expr.specs.Operands.{only}
use Rattle.cxx_language.specs.Known.{value_of_parts}
use Rattle.cxx_language.specs.Noting.{value_of_one}
use Rattle.cxx_reading.specs.Trees.{CxxTree}
use Rattle.cxx_tree.specs.Arena.{AreTreesBelow}
use Rattle.cxx_tree.proofs.Arenas.{below_later}

-- they are there
pub parts_known : (number count : ℕ) (parts : List TreeId) → number < count → AreTreesBelow number parts → AreTreesBelow count parts
parts_known number count parts less below = below_later number count parts (omega arith) below

pub parts_value : (graph : CxxGraph) (all : List CxxTree) → value_of_parts graph all ≡ value_of_one graph (only all)
parts_value graph [] = refl
parts_value graph (one ∷ []) = refl
parts_value graph (one ∷ two ∷ others) = refl
