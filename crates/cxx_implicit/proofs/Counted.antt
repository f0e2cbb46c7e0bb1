-- The parameters of a function.
use Rattle.std.specs.Prelude.{ℕ, ◌≡◌, ◌<◌, ◌≤◌, List, [], ◌∷◌, length, refl}
use Rattle.std.proofs.Common.{arith}
use Rattle.cxx_model.specs.declared.types.TypeId.{TypeId}
use Rattle.cxx_model.specs.Types.Trees.{CxxType}
use Rattle.cxx_model.specs.Types.Numbers.{AreTypesBelow, types_at}
use Rattle.cxx_model.proofs.TypeTrees.{types_later}
use Rattle.cxx_implicit.specs.Members.{count_types}

pub count_at : (types : List CxxType) (numbers : List TypeId) → count_types (types_at types numbers) ≡ length numbers
count_at types [] = refl
count_at types (n ∷ others) = let e : count_types (types_at types others) ≡ length others = count_at types others in omega arith

pub parameters_below : (of count : ℕ) (numbers : List TypeId) → AreTypesBelow of numbers → of < count → AreTypesBelow count numbers
parameters_below of count numbers below less = (let more : of ≤ count = omega arith in types_later of count numbers more below)
