-- What a copy has in common with what it copies.
use Rattle.std.specs.Prelude.{ℕ, ◌≡◌, List}
use Rattle.cxx_model.specs.declared.types.Bound.{Bound}
use Rattle.cxx_model.specs.declared.types.Formula.{Formula}
use Rattle.cxx_model.specs.declared.types.Argument.{Argument}
use Rattle.cxx_model.specs.Types.Trees.{CxxType}
use Rattle.cxx_model.specs.Types.Numbers.{formula_at, bound_at, argument_at, arguments_at, IsFormulaBelow, IsBoundBelow, IsArgumentBelow, AreArgumentsBelow}

pub record CopiesFormula (one two : Formula) : Type 0 where
  pub at : (types : List CxxType) → formula_at types two ≡ formula_at types one
  pub below : (count : ℕ) → IsFormulaBelow count one → IsFormulaBelow count two

pub record CopiesBound (one two : Bound) : Type 0 where
  pub at : (types : List CxxType) → bound_at types two ≡ bound_at types one
  pub below : (count : ℕ) → IsBoundBelow count one → IsBoundBelow count two

pub record CopiesArgument (one two : Argument) : Type 0 where
  pub at : (types : List CxxType) → argument_at types two ≡ argument_at types one
  pub below : (count : ℕ) → IsArgumentBelow count one → IsArgumentBelow count two

pub record CopiesArguments (one two : List Argument) : Type 0 where
  pub at : (types : List CxxType) → arguments_at types two ≡ arguments_at types one
  pub below : (count : ℕ) → AreArgumentsBelow count one → AreArgumentsBelow count two
