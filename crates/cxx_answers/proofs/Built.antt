-- The operands of an operator, as it is asked and as it is answered.
use Rattle.std.specs.Prelude.{ℕ, ◌≡◌, List, [], ◌∷◌, Result, refl}
use Rattle.std.proofs.Common.{ap, subst}
use Rattle.cxx_builtin.specs.Built.{Means}
use Rattle.cxx_builtin.specs.declared.answer.ResultFault.{ResultFault}
use Rattle.cxx_builtin.specs.Plans as plans
use Rattle.cxx_meaning.specs.Conversions.BuiltIn.{built_in_result}
use Rattle.cxx_meaning.specs.Conversions.Standard.{CxxOperand}
use Rattle.cxx_model.specs.declared.overload.BuiltIn.{BuiltIn}
use Rattle.cxx_model.specs.declared.sequence.Operand.{Operand}
use Rattle.cxx_model.specs.Facts.Declarations.{CxxGraph, graph_at}
use Rattle.cxx_model.specs.Types.Trees.{CxxType}
use Rattle.cxx_standard.specs.Views.{operand_at}
use Rattle.cxx_tree.specs.Held.{Held, meaning}
use Rattle.cxx_expr.specs.Views.{AreOperandsBelow, operands_in}

operands_same : (types : List CxxType) (operands : List Operand) → plans.operands_at types operands ≡ operands_in types operands
operands_same types [] = refl
operands_same types (one ∷ operands) = ap (λ os. operand_at types one ∷ os) (operands_same types operands)

pub operands_there : (count : ℕ) (operands : List Operand) → AreOperandsBelow count operands → plans.AreOperandsBelow count operands
operands_there count [] below = tt
operands_there count (one ∷ operands) below = (below.0, operands_there count operands below.1)

-- what was made of the operator is what it means in the state
pub operator_means : (old new : Held) (operator : ℕ) (operands : List Operand) (result : Result BuiltIn ResultFault) → Means new.types result (built_in_result (graph_at old.types old.graph) operator (plans.operands_at old.types operands)) → Means new.types result (built_in_result (meaning old).graph operator (operands_in old.types operands))
unfolding meaning
operator_means old new operator operands result means =
    let graph : CxxGraph = graph_at old.types old.graph in
    subst (λ (os : List CxxOperand). Means new.types result (built_in_result graph operator os)) (operands_same old.types operands) means
