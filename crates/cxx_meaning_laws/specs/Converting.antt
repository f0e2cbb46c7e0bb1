-- Operands that are converted to one type (clause 4, 5.9).
use Rattle.std.specs.Prelude.{◌≡◌, [], ◌∷◌, Some, Ok}
use Rattle.cxx_model.specs.Facts.Declarations.{CxxGraph}
use Rattle.cxx_model.specs.Types.Trees.{CxxType}
use Rattle.cxx_meaning.specs.Conversions.BuiltIn.{CxxBuiltIn}
use Rattle.cxx_meaning.specs.Conversions.Standard.{CxxOperand, CxxStandard, standard_sequence}
use Rattle.cxx_meaning_laws.specs.Subsequences.{steps_in}

-- 13.3.3.1.1: a standard conversion sequence leads from the expression to the type
abbrev pub IsConverted : CxxGraph → CxxOperand → CxxType → Type 0
IsConverted graph from to = (by : CxxStandard) × (standard_sequence graph from to ≡ Ok (Some by))

-- 5.9: standard conversion sequences bring both operands to the type
abbrev pub AreConverted : CxxGraph → CxxOperand → CxxOperand → CxxType → Type 0
AreConverted graph one two to = IsConverted graph one to × IsConverted graph two to

-- what an operator does begins with a conversion of both operands to one type
abbrev pub HasCommonType : CxxGraph → CxxOperand → CxxOperand → CxxBuiltIn → Type 0
HasCommonType graph one two whole = (common : CxxType) × (whole.operands ≡ common ∷ common ∷ []) × AreConverted graph one two common

-- 13.3.3.1: the identity leads from the expression to the type, lvalue transformations aside
abbrev pub IsUnchanged : CxxGraph → CxxOperand → CxxType → Type 0
IsUnchanged graph from to = (by : CxxStandard) × (standard_sequence graph from to ≡ Ok (Some by)) × (steps_in by ≡ [])
