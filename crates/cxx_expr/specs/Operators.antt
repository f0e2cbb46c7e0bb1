-- The operators of operands that are of no class and no enumeration (5.2.1, 5.2.6, 5.3.1, 5.3.2, 5.6 to 5.18), and `&` and
-- `,` of those that are.
use Rattle.std.specs.Prelude.{ℕ, zero, Bool, false, not, ◌&&◌, ◌||◌, nat_eq, bytes_eq, codes, if◌then◌else◌, List, [], ◌∷◌, Option, Some, None, Ok, Err}
use Rattle.cxx_model.specs.declared.fault.FaultText.TheVariants as says
use Rattle.cxx_model.specs.declared.fault.LeftOut.TheVariants as form
use Rattle.cxx_model.specs.declared.punct.TheConstants as punct
use Rattle.cxx_model.specs.declared.base.Base.TheVariants as base
use Rattle.cxx_model.specs.declared.place.Place.{Place}
use Rattle.cxx_model.specs.Stops.{Answer, fault, not_built_at}
use Rattle.cxx_model.specs.Types.Trees.{fundamental}
use Rattle.cxx_meaning.specs.Conversions.Asking.{Asked}
use Rattle.cxx_model.specs.Text.Spelling.{number_in, operators}
use Rattle.cxx_meaning.specs.Conversions.BuiltIn.{CxxBuiltIn, bool_type, built_in_result, is_comparison, is_condition, operand_kind}
use Rattle.cxx_meaning.specs.Conversions.Conditional as conditional_operator
use Rattle.cxx_meaning.specs.Conversions.Standard.{CxxOperand}
use Rattle.cxx_reading.specs.Initializers.{operand_of, value_operand}
use Rattle.cxx_reading.specs.Reads.{Asks}
use Rattle.cxx_reading.specs.State.{CxxState}
use Rattle.cxx_reading.specs.Trees.{CxxPath, CxxTree, Label, children_of, is_plain_path}
use Rattle.cxx_expr.specs.declared.production.TheConstants as production
use Rattle.cxx_expr.specs.Asking.{◌>>=◌, fault_at, give}
use Rattle.cxx_expr.specs.Converting.{convert, convert_each}
use Rattle.cxx_expr.specs.Operands.{all_three, asks_operator, both, built_operand, given_over, is_of_class, judged_beside, only}
use Rattle.cxx_expr.specs.Questions.{Questions}

-- a tree with another count of parts than its production has
abbrev pub misshapen : CxxTree → Asks CxxState CxxTree
misshapen tree = fault_at tree.label.start says.SyntaxError

-- ---- by what the operator does

-- the number of an operator by its primary spelling; zero is that of none
abbrev pub or_none : Option ℕ → ℕ
or_none None = zero
or_none (Some number) = number

unfoldable pub operator_in : CxxTree → ℕ
operator_in tree = or_none (number_in operators tree.label.spelling)

abbrev pub meaning_at : Place → Asked (Option CxxBuiltIn) → Answer CxxBuiltIn
meaning_at place (Ok (Some meaning)) = Ok meaning
meaning_at place (Ok None) = Err (fault place says.OperandsDoNotFit)
meaning_at place (Err class) = Err (not_built_at place)

abbrev pub with_meaning : Answer CxxBuiltIn → (CxxBuiltIn → Asks CxxState CxxTree) → Asks CxxState CxxTree
with_meaning (Ok meaning) go state = go meaning state
with_meaning (Err why) go state = Err why

-- each operand is converted to the type that the meaning names
unfoldable pub built : Questions → CxxTree → List CxxTree → CxxBuiltIn → Asks CxxState CxxTree
built q tree parts meaning = do
  operands ← convert_each q tree.label.place meaning.operands [] parts
  give (given_over tree (built_operand meaning) operands)

abbrev pub built_by : Questions → CxxTree → ℕ → List CxxTree → List CxxOperand → Asks CxxState CxxTree
built_by q tree operator parts operands state = with_meaning (meaning_at tree.label.place (built_in_result state.graph operator operands)) (built q tree parts) state

-- ---- operands of classes and enumerations (13.3.1.2)

-- the operands stay what they are
unfoldable pub unconverted : CxxTree → List CxxTree → CxxBuiltIn → Asks CxxState CxxTree
unconverted tree parts meaning = give (given_over tree (built_operand meaning) parts)

-- 13.3.1.2 p9: `&` and `,` mean what clause 5 says where no function is viable, and no operator function is read yet
unfoldable pub own_meaning : CxxTree → ℕ → List CxxTree → List CxxOperand → Asks CxxState CxxTree
own_meaning tree operator parts operands state = with_meaning (meaning_at tree.label.place (built_in_result state.graph operator operands)) (unconverted tree parts) state

-- ---- one operand

unfoldable pub prefix_built : Questions → CxxTree → CxxTree → Asks CxxState CxxTree
prefix_built q tree one = built_by q tree (operator_in tree) (one ∷ []) (operand_of one ∷ [])

-- `&` of a class or an enumeration; its other operators are not read yet
unfoldable pub prefix_asked : CxxTree → CxxTree → Asks CxxState CxxTree
prefix_asked tree one state =
    if nat_eq (operator_in tree) punct.AMPERSAND then own_meaning tree punct.AMPERSAND (one ∷ []) (operand_of one ∷ []) state else
    Err (not_built_at tree.label.place)

-- 9.3.1: the spelling tells whether the object of a member is `*this`, which is not written
abbrev pub is_implied : Label → Bool
is_implied label = bytes_eq label.spelling (codes "this")

abbrev pub has_qualifiers : Option CxxPath → Bool
has_qualifiers None = false
has_qualifiers (Some path) = not (is_plain_path path)

-- whether a name with qualifiers, which stands alone, means a member of `*this`
abbrev pub names_member : CxxTree → Bool
names_member tree = nat_eq tree.label.production production.MEMBER && (has_qualifiers tree.label.path && is_implied tree.label)

-- 5.3.1 p2, 8.3.3: behind `&` it is a pointer to a member
abbrev pub points_to_member : CxxTree → CxxTree → Bool
points_to_member tree one = nat_eq (operator_in tree) punct.AMPERSAND && names_member one

abbrev pub prefix_by : Questions → CxxTree → CxxTree → Asks CxxState CxxTree
prefix_by q tree one state = if asks_operator one then prefix_asked tree one state else prefix_built q tree one state

abbrev pub prefix_of : Questions → CxxTree → Option CxxTree → Asks CxxState CxxTree
prefix_of q tree None state = misshapen tree state
prefix_of q tree (Some one) state = if points_to_member tree one then Err (fault tree.label.start (says.LeftOut form.PointerToMember)) else prefix_by q tree one state

-- 5.3.1, 5.3.2
unfoldable pub prefix : Questions → CxxTree → Asks CxxState CxxTree
prefix q tree = prefix_of q tree (only (children_of tree))

-- `++` and `--` behind their operand have an `int` as the second
unfoldable pub step_built : Questions → CxxTree → CxxTree → Asks CxxState CxxTree
step_built q tree one = built_by q tree (operator_in tree) (one ∷ []) (operand_of one ∷ value_operand (fundamental base.Int) ∷ [])

abbrev pub step_of : Questions → CxxTree → Option CxxTree → Asks CxxState CxxTree
step_of q tree None state = misshapen tree state
step_of q tree (Some one) state = if asks_operator one then Err (not_built_at tree.label.place) else step_built q tree one state

-- 5.2.6
unfoldable pub step : Questions → CxxTree → Asks CxxState CxxTree
step q tree = step_of q tree (only (children_of tree))

-- ---- two operands

-- 4.10: where it matters whether an operand is a null pointer constant
abbrev pub takes_null : ℕ → Bool
takes_null operator = is_comparison operator || nat_eq operator punct.EQUALS

unfoldable pub operand_beside : Questions → ℕ → CxxTree → CxxTree → CxxState → CxxOperand
operand_beside q operator other tree state = if takes_null operator then judged_beside q other tree state else operand_of tree

unfoldable pub binary_built : Questions → CxxTree → ℕ → CxxTree → CxxTree → Asks CxxState CxxTree
binary_built q tree operator one two state = built_by q tree operator (one ∷ two ∷ []) (operand_beside q operator two one state ∷ operand_beside q operator one two state ∷ []) state

-- `,` beside a class or an enumeration; their other operators are not read yet
unfoldable pub binary_asked : CxxTree → ℕ → CxxTree → CxxTree → Asks CxxState CxxTree
binary_asked tree operator one two state =
    if nat_eq operator punct.COMMA then own_meaning tree punct.COMMA (one ∷ two ∷ []) (operand_of one ∷ operand_of two ∷ []) state else
    Err (not_built_at tree.label.place)

abbrev pub binary_of : Questions → CxxTree → ℕ → Option (CxxTree × CxxTree) → Asks CxxState CxxTree
binary_of q tree operator None state = misshapen tree state
binary_of q tree operator (Some parts) state = if asks_operator parts.0 || asks_operator parts.1 then binary_asked tree operator parts.0 parts.1 state else binary_built q tree operator parts.0 parts.1 state

unfoldable pub binary_by : Questions → CxxTree → ℕ → Asks CxxState CxxTree
binary_by q tree operator = binary_of q tree operator (both (children_of tree))

-- 5.6 to 5.15, 5.17, 5.18
abbrev pub binary : Questions → CxxTree → Asks CxxState CxxTree
binary q tree = binary_by q tree (operator_in tree)

-- 5.2.1
abbrev pub subscript : Questions → CxxTree → Asks CxxState CxxTree
subscript q tree = binary_by q tree punct.LEFT_BRACKET

-- ---- the conditional operator (5.16)

unfoldable pub arms_built : Questions → CxxTree → CxxTree → List CxxTree → CxxBuiltIn → Asks CxxState CxxTree
arms_built q tree test arms meaning = do
  operands ← convert_each q tree.label.place meaning.operands (test ∷ []) arms
  give (given_over tree (built_operand meaning) operands)

unfoldable pub arms : Questions → CxxTree → CxxTree → CxxTree → CxxTree → Asks CxxState CxxTree
arms q tree one two test state = with_meaning (meaning_at tree.label.place (conditional_operator.conditional state.graph (judged_beside q two one state) (judged_beside q one two state))) (arms_built q tree test (one ∷ two ∷ [])) state

unfoldable pub conditional_built : Questions → CxxTree → CxxTree → CxxTree → CxxTree → Asks CxxState CxxTree
conditional_built q tree test one two = do
  condition ← convert q tree.label.place bool_type test
  arms q tree one two condition

-- an arm of a class, and a condition of one, is not read yet
abbrev pub any_class : CxxTree × CxxTree × CxxTree → Bool
any_class parts = is_of_class parts.0 || (is_of_class parts.1 || is_of_class parts.2)

abbrev pub is_test : CxxTree → Bool
is_test tree = is_condition (operand_kind (operand_of tree))

abbrev pub conditional_of : Questions → CxxTree → Option (CxxTree × CxxTree × CxxTree) → Asks CxxState CxxTree
conditional_of q tree None state = misshapen tree state
conditional_of q tree (Some parts) state =
    if any_class parts then Err (not_built_at tree.label.place) else (
    if is_test parts.0 then conditional_built q tree parts.0 parts.1 parts.2 state else
    Err (fault tree.label.place says.OperandsDoNotFit))

unfoldable pub conditional : Questions → CxxTree → Asks CxxState CxxTree
conditional q tree = conditional_of q tree (all_three (children_of tree))
