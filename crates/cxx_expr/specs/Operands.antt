-- What expressions give to the operators, casts and conversions that take them.
use Rattle.std.specs.Prelude.{Bool, true, false, not, ◌&&◌, ◌||◌, if◌then◌else◌, List, [], ◌∷◌, Option, Some, None}
use Rattle.cxx_model.specs.declared.sequence.ConstantKind.TheVariants as constant
use Rattle.cxx_model.specs.Types.Trees.{CxxType, reference_to}
use Rattle.cxx_meaning.specs.Conversions.BuiltIn.{CxxBuiltIn, operand_kind}
use Rattle.cxx_meaning.specs.Conversions.Kinds.{CxxKind, arithmetic, enumerated, of_class, kind_of}
use Rattle.cxx_meaning.specs.Conversions.Order.{is_pointing}
use Rattle.cxx_meaning.specs.Conversions.Sizes.{referred}
use Rattle.cxx_meaning.specs.Conversions.Standard.{CxxOperand, is_class, is_floating}
use Rattle.cxx_reading.specs.Initializers.{operand_of, value_operand}
use Rattle.cxx_reading.specs.State.{CxxState}
use Rattle.cxx_reading.specs.Trees.{CxxTree, tree_of}
use Rattle.cxx_expr.specs.Questions.{Questions}

-- ---- what an expression gives

-- 3.10: an object or a function of a type; the type of an expression is no reference
abbrev pub object_operand : CxxType → CxxOperand
object_operand of = record { of = of; lvalue = true; constant = constant.No }

-- 5.2.2, 5.2.9: what a call or a cast gives: an object where the result or the type is a reference, else a value
abbrev pub result_operand : CxxType → CxxOperand
result_operand (reference_to of) = object_operand of
result_operand of = value_operand of

-- what an operator gives
abbrev pub built_operand : CxxBuiltIn → CxxOperand
built_operand built = record { of = built.result; lvalue = built.lvalue; constant = constant.No }

-- a tree with what it gives, over its operands as they are converted
abbrev pub given_over : CxxTree → CxxOperand → List CxxTree → CxxTree
given_over tree operand children = tree_of (record tree.label { operand = Some operand }) children

-- ---- parts, where there are as many as a production has

abbrev pub only : {A : Type 0} → List A → Option A
only (one ∷ []) = Some one
only _ = None

abbrev pub both : {A : Type 0} → List A → Option (A × A)
both (one ∷ two ∷ []) = Some (one, two)
both _ = None

abbrev pub all_three : {A : Type 0} → List A → Option (A × A × A)
all_three (one ∷ two ∷ three ∷ []) = Some (one, two, three)
all_three _ = None

-- ---- null pointer constants (4.10)

abbrev pub is_integral_kind : CxxKind → Bool
is_integral_kind (arithmetic of) = not (is_floating of)
is_integral_kind _ = false

-- an operand, where it matters whether it is a null pointer constant
abbrev pub judged_operand : Questions → CxxTree → CxxState → CxxOperand → CxxOperand
judged_operand q tree state operand =
    if is_integral_kind (kind_of operand.of) && q.is_null tree state then record operand { constant = constant.Zero } else operand

unfoldable pub judged : Questions → CxxTree → CxxState → CxxOperand
judged q tree state = judged_operand q tree state (operand_of tree)

-- the same of each of some expressions
abbrev pub judged_each : Questions → List CxxTree → CxxState → List CxxOperand
judged_each q [] state = []
judged_each q (tree ∷ trees) state = judged q tree state ∷ judged_each q trees state

-- it matters where the expression is converted to a pointer, or to a reference to one
unfoldable pub judged_to : Questions → CxxType → CxxTree → CxxState → CxxOperand
judged_to q of tree state = if is_pointing (kind_of (referred of)) then judged q tree state else operand_of tree

-- and where it stands beside a pointer
unfoldable pub judged_beside : Questions → CxxTree → CxxTree → CxxState → CxxOperand
judged_beside q other tree state = if is_pointing (operand_kind (operand_of other)) then judged q tree state else operand_of tree

-- ---- questions of operators (13.3.1.2)

abbrev pub is_question_kind : CxxKind → Bool
is_question_kind (enumerated n) = true
is_question_kind (of_class n) = true
is_question_kind _ = false

-- an operand of a class or an enumeration asks which function its operator means
abbrev pub asks_operator : CxxTree → Bool
asks_operator tree = is_question_kind (kind_of (operand_of tree).of)

abbrev pub is_of_class : CxxTree → Bool
is_of_class tree = is_class (kind_of (operand_of tree).of)

-- ---- expressions that depend on parameters of templates (14.6.2)

abbrev pub is_none : {A : Type 0} → Option A → Bool
is_none None = true
is_none (Some x) = false

abbrev pub any_open : List CxxTree → Bool
any_open [] = false
any_open (tree ∷ trees) = is_none tree.label.operand || any_open trees
