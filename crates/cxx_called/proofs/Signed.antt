-- The types of functions by their numbers.
use Rattle.std.specs.Prelude.{ℕ, suc, ◌≡◌, ◌<◌, List, [], ◌∷◌, length, refl}
use Rattle.std.proofs.Common.{ap, arith}
use Rattle.cxx_model.specs.declared.types.TreeId.{TreeId}
use Rattle.cxx_model.specs.declared.types.TypeId.{TypeId}
use Rattle.cxx_model.specs.Types.Numbers.{AreTypesBelow, type_at, types_at}
use Rattle.cxx_model.specs.Types.Trees.{CxxType}
use Rattle.cxx_reading.specs.Choosing.{each_type}
use Rattle.cxx_tree.specs.Held.{Held}
use Rattle.cxx_expr.specs.Making.{trees_held}
use Rattle.cxx_expr.specs.Views.{types_in}

pub each_are : (types : List CxxType) (numbers : List TypeId) → types_in types numbers ≡ each_type (types_at types numbers)
each_are types [] = refl
each_are types (n ∷ numbers) = ap (λ ts. type_at types n.0 ∷ ts) (each_are types numbers)

pub below_more : (number count : ℕ) (numbers : List TypeId) → AreTypesBelow number numbers → number < count → AreTypesBelow count numbers
below_more number count [] ok less = tt
below_more number count (n ∷ numbers) ok less = (let first : n.0 < number = ok.0 in omega (arith, less), below_more number count numbers ok.1 less)

pub types_length : (types : List CxxType) (numbers : List TypeId) → length (types_in types numbers) ≡ length numbers
types_length types [] = refl
types_length types (n ∷ numbers) = ap suc (types_length types numbers)

pub trees_length : (held : Held) (numbers : List TreeId) → length (trees_held held numbers) ≡ length numbers
trees_length held [] = refl
trees_length held (n ∷ numbers) = ap suc (trees_length held numbers)
