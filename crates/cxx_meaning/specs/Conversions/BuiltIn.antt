-- What the operators do with operands that are of no class (clause 5).
use Rattle.std.specs.Prelude.{ℕ, Bool, true, false, ◌&&◌, ◌||◌, not, nat_eq, if◌then◌else◌, List, [], ◌∷◌, Option, Some, None, Ok}
use Rattle.cxx_model.specs.declared.base.Base.{Base}
use Rattle.cxx_model.specs.declared.base.Base.TheVariants as base
use Rattle.cxx_model.specs.declared.punct.TheConstants as punct
use Rattle.cxx_model.specs.declared.sequence.ConstantKind.{ConstantKind}
use Rattle.cxx_model.specs.Choice.Standard.{same_base}
use Rattle.cxx_model.specs.Facts.Declarations.{CxxGraph}
use Rattle.cxx_model.specs.Types.Trees.{CxxType, fundamental, pointer_to, adjusted, unqualified}
use Rattle.cxx_meaning.specs.declared.operator.BinaryFamily.{BinaryFamily}
use Rattle.cxx_meaning.specs.declared.operator.BinaryFamily.TheVariants as family
use Rattle.cxx_meaning.specs.declared.operator.UnaryFamily.{UnaryFamily}
use Rattle.cxx_meaning.specs.declared.operator.UnaryFamily.TheVariants as unary
use Rattle.cxx_meaning.specs.declared.steps.SequenceSteps.{SequenceSteps}
use Rattle.cxx_meaning.specs.Conversions.Arithmetic.{number_of, integer_of, integral_promoted, usual}
use Rattle.cxx_meaning.specs.Conversions.Asking.{Asked, ◌>>=◌}
use Rattle.cxx_meaning.specs.Conversions.Kinds.{CxxKind, arithmetic, enumerated, pointing, other, kind_of, value_kind, cv_of, is_same_unqualified, is_function, is_array}
use Rattle.cxx_meaning.specs.Conversions.Order.{is_pointing}
use Rattle.cxx_meaning.specs.Conversions.Pointers.{is_void, is_complete_object, common_pointer}
use Rattle.cxx_meaning.specs.Conversions.Standard.{CxxOperand, is_null, steps_between}

-- What an operator does: the types to which its operands are converted, and the type of the whole.
pub record CxxBuiltIn : Type 0 where
  pub operands : List CxxType
  pub result : CxxType
  -- 3.10
  pub lvalue : Bool

abbrev pub gives_value : List CxxType → CxxType → Option CxxBuiltIn
gives_value operands result = Some (record { operands = operands; result = result; lvalue = false })

abbrev pub gives_object : List CxxType → CxxType → Option CxxBuiltIn
gives_object operands result = Some (record { operands = operands; result = result; lvalue = true })

-- ---- operands

-- 4.1 to 4.3: the kind of an operand's value; what is no object and no value has none
abbrev pub operand_kind : CxxOperand → CxxKind
operand_kind one = if is_function one.of && not one.lvalue then other else value_kind one.of

-- 4.12
abbrev pub is_condition : CxxKind → Bool
is_condition (arithmetic of) = true
is_condition (enumerated n) = true
is_condition (pointing t) = true
is_condition _ = false

-- 3.10: an lvalue that may be changed
abbrev pub is_modifiable : CxxOperand → Bool
is_modifiable one = one.lvalue && (not ((cv_of one.of).is_const) && (not (is_array one.of) && not (is_function one.of)))

abbrev pub bool_type : CxxType
bool_type = fundamental base.Bool

-- ---- one operand

abbrev pub value_of_base : Option Base → Option CxxBuiltIn
value_of_base None = None
value_of_base (Some of) = gives_value (fundamental (integral_promoted of) ∷ []) (fundamental (integral_promoted of))

-- 5.3.1: the object or the function to which a pointer points
unfoldable pub follow : CxxType → CxxKind → Option CxxBuiltIn
follow of (pointing t) = if is_void (kind_of t) then None else gives_object (adjusted of ∷ []) t
follow of _ = None

abbrev pub address : CxxOperand → Option CxxBuiltIn
address one = if one.lvalue then gives_value (one.of ∷ []) (pointer_to one.of) else None

abbrev pub plus : CxxGraph → CxxType → CxxKind → Option CxxBuiltIn
plus graph of (pointing t) = gives_value (adjusted of ∷ []) (adjusted of)
plus graph of kind = value_of_base (number_of graph kind)

abbrev pub negation : CxxKind → Option CxxBuiltIn
negation kind = if is_condition kind then gives_value (bool_type ∷ []) bool_type else None

-- 5.2.6, 5.3.2: whether `++` or `--` changes an object of the kind; `--` none of `bool`
unfoldable pub is_stepped : CxxGraph → Bool → CxxKind → Asked Bool
is_stepped graph down (arithmetic of) = Ok (not (down && same_base of base.Bool))
is_stepped graph down (pointing t) = is_complete_object graph t
is_stepped graph down _ = Ok false

-- whether `++` or `--` fits the operand
unfoldable pub steps_to : CxxGraph → Bool → CxxOperand → Asked Bool
steps_to graph down one = if is_modifiable one then is_stepped graph down (kind_of one.of) else Ok false

-- 5.3.2
unfoldable pub before : CxxGraph → Bool → CxxOperand → Asked (Option CxxBuiltIn)
before graph down one = do
  fits ← steps_to graph down one
  Ok (if fits then gives_object (one.of ∷ []) one.of else None)

-- 5.2.6: the `int` behind it tells it from the other
unfoldable pub after : CxxGraph → Bool → CxxOperand → Asked (Option CxxBuiltIn)
after graph down one = do
  fits ← steps_to graph down one
  Ok (if fits then gives_value (one.of ∷ fundamental base.Int ∷ []) (unqualified one.of) else None)

abbrev pub unary_family : ℕ → Option UnaryFamily
unary_family operator =
    if nat_eq operator punct.STAR then Some unary.Follow else (
    if nat_eq operator punct.AMPERSAND then Some unary.Address else (
    if nat_eq operator punct.PLUS then Some unary.Plus else (
    if nat_eq operator punct.MINUS then Some unary.Minus else (
    if nat_eq operator punct.TILDE then Some unary.Complement else (
    if nat_eq operator punct.EXCLAMATION then Some unary.Not else (
    if nat_eq operator punct.INCREMENT then Some unary.Increment else (
    if nat_eq operator punct.DECREMENT then Some unary.Decrement else
    None)))))))

unfoldable pub unary_by : CxxGraph → UnaryFamily → CxxOperand → Asked (Option CxxBuiltIn)
unary_by graph unary.Follow one = Ok (follow one.of (operand_kind one))
unary_by graph unary.Address one = Ok (address one)
unary_by graph unary.Plus one = Ok (plus graph one.of (operand_kind one))
unary_by graph unary.Minus one = Ok (value_of_base (number_of graph (operand_kind one)))
unary_by graph unary.Complement one = Ok (value_of_base (integer_of graph (operand_kind one)))
unary_by graph unary.Not one = Ok (negation (operand_kind one))
unary_by graph unary.Increment one = before graph false one
unary_by graph unary.Decrement one = before graph true one

unfoldable pub unary_family_result : CxxGraph → Option UnaryFamily → CxxOperand → Asked (Option CxxBuiltIn)
unary_family_result graph None one = Ok None
unary_family_result graph (Some found) one = unary_by graph found one

unfoldable pub unary_result : CxxGraph → ℕ → CxxOperand → Asked (Option CxxBuiltIn)
unary_result graph operator one = unary_family_result graph (unary_family operator) one

-- ---- two operands

-- both are converted to the usual type, and the whole is of that type, or `bool`
abbrev pub by_usual : Option Base → Option Base → Option CxxBuiltIn
by_usual (Some one) (Some two) = gives_value (fundamental (usual one two) ∷ fundamental (usual one two) ∷ []) (fundamental (usual one two))
by_usual _ _ = None

abbrev pub compared : Option Base → Option Base → Option CxxBuiltIn
compared (Some one) (Some two) = gives_value (fundamental (usual one two) ∷ fundamental (usual one two) ∷ []) bool_type
compared _ _ = None

-- 5.8: each is promoted alone, and the whole is of the left one's type
abbrev pub shifted : Option Base → Option Base → Option CxxBuiltIn
shifted (Some one) (Some two) = gives_value (fundamental (integral_promoted one) ∷ fundamental (integral_promoted two) ∷ []) (fundamental (integral_promoted one))
shifted _ _ = None

-- 5.14, 5.15
abbrev pub conditions : CxxKind → CxxKind → Option CxxBuiltIn
conditions one two = if is_condition one && is_condition two then gives_value (bool_type ∷ bool_type ∷ []) bool_type else None

abbrev pub is_integer : CxxGraph → CxxKind → Bool
is_integer graph kind = is_there (integer_of graph kind)
  where
    is_there : Option Base → Bool
    is_there None = false
    is_there (Some of) = true

-- a pointer to a complete object beside an integer, which keeps its type, and what they give together
unfoldable pub beside_integer : CxxGraph → CxxType → CxxKind → Option CxxBuiltIn → Asked (Option CxxBuiltIn)
beside_integer graph t kind whole =
    if is_integer graph kind then (do
      complete ← is_complete_object graph t
      Ok (if complete then whole else None)) else
    Ok None

-- the types of the values of two operands
abbrev pub values_of : CxxOperand → CxxOperand → List CxxType
values_of one two = adjusted one.of ∷ adjusted two.of ∷ []

-- 5.2.1: `*(a + b)`
unfoldable pub subscripted : CxxGraph → CxxOperand → CxxOperand → CxxKind → CxxKind → Asked (Option CxxBuiltIn)
subscripted graph one two (pointing t) kind = beside_integer graph t kind (gives_object (values_of one two) t)
subscripted graph one two kind (pointing t) = beside_integer graph t kind (gives_object (values_of one two) t)
subscripted graph one two _ _ = Ok None

unfoldable pub added_to : CxxGraph → CxxOperand → CxxOperand → CxxKind → CxxKind → Asked (Option CxxBuiltIn)
added_to graph one two kind (pointing t) = beside_integer graph t kind (gives_value (values_of one two) (adjusted two.of))
added_to graph one two k l = Ok (by_usual (number_of graph k) (number_of graph l))

-- 5.7
unfoldable pub added : CxxGraph → CxxOperand → CxxOperand → CxxKind → CxxKind → Asked (Option CxxBuiltIn)
added graph one two (pointing t) kind = beside_integer graph t kind (gives_value (values_of one two) (adjusted one.of))
added graph one two k l = added_to graph one two k l

-- 5.7: two pointers to one complete type, cv words aside
unfoldable pub distance : CxxGraph → CxxOperand → CxxOperand → CxxType → CxxType → Asked (Option CxxBuiltIn)
distance graph one two s t =
    if is_same_unqualified s t then (do
      complete ← is_complete_object graph s
      Ok (if complete then gives_value (values_of one two) (fundamental base.Long) else None)) else
    Ok None

unfoldable pub subtracted : CxxGraph → CxxOperand → CxxOperand → CxxKind → CxxKind → Asked (Option CxxBuiltIn)
subtracted graph one two (pointing s) (pointing t) = distance graph one two s t
subtracted graph one two (pointing t) kind = beside_integer graph t kind (gives_value (values_of one two) (adjusted one.of))
subtracted graph one two k l = Ok (by_usual (number_of graph k) (number_of graph l))

-- 5.9, 5.10
abbrev pub compared_as : Option CxxType → Option CxxBuiltIn
compared_as None = None
compared_as (Some common) = gives_value (common ∷ common ∷ []) bool_type

abbrev pub compared_to_null : CxxType → ConstantKind → Base → Option CxxBuiltIn
compared_to_null pointer known of = if is_null known of then compared_as (Some (adjusted pointer)) else None

unfoldable pub compared_pointers : CxxGraph → CxxType → CxxType → Asked (Option CxxBuiltIn)
compared_pointers graph s t = do
  common ← common_pointer graph s t
  Ok (compared_as common)

abbrev pub compared_numbers : CxxGraph → CxxKind → CxxKind → Option CxxBuiltIn
compared_numbers graph k l = compared (number_of graph k) (number_of graph l)

unfoldable pub compared_by : CxxGraph → CxxOperand → CxxOperand → CxxKind → CxxKind → Asked (Option CxxBuiltIn)
compared_by graph one two (pointing s) (pointing t) = compared_pointers graph s t
compared_by graph one two (pointing s) (arithmetic of) = Ok (compared_to_null one.of two.constant of)
compared_by graph one two (pointing s) _ = Ok None
compared_by graph one two (arithmetic of) (pointing t) = Ok (compared_to_null two.of one.constant of)
compared_by graph one two k l = Ok (compared_numbers graph k l)

abbrev pub stored : CxxType → Option SequenceSteps → Option CxxBuiltIn
stored of None = None
stored of (Some steps) = gives_object (of ∷ unqualified of ∷ []) of

-- 5.17: what is converted to the type of the object by a standard conversion sequence
unfoldable pub assigned : CxxGraph → CxxOperand → CxxOperand → Asked (Option CxxBuiltIn)
assigned graph one two =
    if is_modifiable one && is_condition (kind_of one.of) then (do
      steps ← steps_between graph two one.of
      Ok (stored one.of steps)) else
    Ok None

-- 5.18
abbrev pub second_of : CxxOperand → CxxOperand → Option CxxBuiltIn
second_of one two = Some (record { operands = one.of ∷ two.of ∷ []; result = two.of; lvalue = two.lvalue })

unfoldable pub binary_by : CxxGraph → BinaryFamily → CxxOperand → CxxOperand → Asked (Option CxxBuiltIn)
binary_by graph family.Subscript one two = subscripted graph one two (operand_kind one) (operand_kind two)
binary_by graph family.Multiply one two = Ok (by_usual (number_of graph (operand_kind one)) (number_of graph (operand_kind two)))
binary_by graph family.Bits one two = Ok (by_usual (integer_of graph (operand_kind one)) (integer_of graph (operand_kind two)))
binary_by graph family.Add one two = added graph one two (operand_kind one) (operand_kind two)
binary_by graph family.Subtract one two = subtracted graph one two (operand_kind one) (operand_kind two)
binary_by graph family.Shift one two = Ok (shifted (integer_of graph (operand_kind one)) (integer_of graph (operand_kind two)))
binary_by graph family.Compare one two = compared_by graph one two (operand_kind one) (operand_kind two)
binary_by graph family.Logic one two = Ok (conditions (operand_kind one) (operand_kind two))
binary_by graph family.Assign one two = assigned graph one two
binary_by graph family.Comma one two = Ok (second_of one two)

abbrev pub is_comparison : ℕ → Bool
is_comparison operator = nat_eq operator punct.LESS || (nat_eq operator punct.GREATER || (nat_eq operator punct.LESS_OR_EQUAL || (nat_eq operator punct.GREATER_OR_EQUAL || (nat_eq operator punct.EQUAL_TO || nat_eq operator punct.NOT_EQUAL_TO))))

abbrev pub comparison_family : ℕ → Option BinaryFamily
comparison_family operator =
    if is_comparison operator then Some family.Compare else (
    if nat_eq operator punct.LOGICAL_AND || nat_eq operator punct.LOGICAL_OR then Some family.Logic else (
    if nat_eq operator punct.EQUALS then Some family.Assign else (
    if nat_eq operator punct.COMMA then Some family.Comma else (
    if nat_eq operator punct.LEFT_BRACKET then Some family.Subscript else
    None))))

abbrev pub is_bits : ℕ → Bool
is_bits operator = nat_eq operator punct.PERCENT || (nat_eq operator punct.AMPERSAND || (nat_eq operator punct.CARET || nat_eq operator punct.BAR))

abbrev pub binary_family : ℕ → Option BinaryFamily
binary_family operator =
    if nat_eq operator punct.STAR || nat_eq operator punct.SLASH then Some family.Multiply else (
    if nat_eq operator punct.PLUS then Some family.Add else (
    if nat_eq operator punct.MINUS then Some family.Subtract else (
    if is_bits operator then Some family.Bits else (
    if nat_eq operator punct.SHIFT_LEFT || nat_eq operator punct.SHIFT_RIGHT then Some family.Shift else
    comparison_family operator))))

abbrev pub is_bits_assignment : ℕ → Bool
is_bits_assignment operator = nat_eq operator punct.PERCENT_EQUALS || (nat_eq operator punct.AMPERSAND_EQUALS || (nat_eq operator punct.CARET_EQUALS || nat_eq operator punct.BAR_EQUALS))

-- 5.17: the operator of a compound assignment
abbrev pub compound_family : ℕ → Option BinaryFamily
compound_family operator =
    if nat_eq operator punct.STAR_EQUALS || nat_eq operator punct.SLASH_EQUALS then Some family.Multiply else (
    if nat_eq operator punct.PLUS_EQUALS then Some family.Add else (
    if nat_eq operator punct.MINUS_EQUALS then Some family.Subtract else (
    if is_bits_assignment operator then Some family.Bits else (
    if nat_eq operator punct.SHIFT_LEFT_EQUALS || nat_eq operator punct.SHIFT_RIGHT_EQUALS then Some family.Shift else
    None))))

-- the right operand of a compound assignment is promoted where it is integral, and else left as it is
abbrev pub promoted_operand : CxxType → Option Base → CxxType
promoted_operand of None = adjusted of
promoted_operand of (Some number) = fundamental (integral_promoted number)

abbrev pub compound_whole : CxxGraph → CxxOperand → CxxOperand → Option CxxBuiltIn
compound_whole graph one two = gives_object (one.of ∷ promoted_operand two.of (number_of graph (operand_kind two)) ∷ []) one.of

-- 4.7 to 4.9, 4.12: The value of `E op F` with an arithmetic E is a pointer where that of F is one, and then converted to
-- `bool` alone.
abbrev pub compounded : CxxGraph → CxxOperand → CxxOperand → Base → Option CxxBuiltIn → Option CxxBuiltIn
compounded graph one two to None = None
compounded graph one two to (Some meaning) = if is_pointing (operand_kind two) && not (same_base to base.Bool) then None else compound_whole graph one two

abbrev pub is_additive : BinaryFamily → Bool
is_additive family.Add = true
is_additive family.Subtract = true
is_additive _ = false

unfoldable pub compound_on : CxxGraph → BinaryFamily → CxxOperand → CxxOperand → CxxKind → Asked (Option CxxBuiltIn)
compound_on graph found one two (arithmetic to) = do
  meaning ← binary_by graph found one two
  Ok (compounded graph one two to meaning)
compound_on graph found one two (pointing t) = if is_additive found then beside_integer graph t (operand_kind two) (gives_object (one.of ∷ adjusted two.of ∷ []) one.of) else Ok None
compound_on graph found one two _ = Ok None

-- 5.17: `E op= F`, where the value of `E op F` is converted to the type of E
unfoldable pub compound : CxxGraph → BinaryFamily → CxxOperand → CxxOperand → Asked (Option CxxBuiltIn)
compound graph found one two = if is_modifiable one then compound_on graph found one two (kind_of one.of) else Ok None

unfoldable pub compound_result : CxxGraph → Option BinaryFamily → CxxOperand → CxxOperand → Asked (Option CxxBuiltIn)
compound_result graph None one two = Ok None
compound_result graph (Some found) one two = compound graph found one two

unfoldable pub family_result : CxxGraph → ℕ → Option BinaryFamily → CxxOperand → CxxOperand → Asked (Option CxxBuiltIn)
family_result graph operator None one two = compound_result graph (compound_family operator) one two
family_result graph operator (Some found) one two = binary_by graph found one two

unfoldable pub binary_result : CxxGraph → ℕ → CxxOperand → CxxOperand → Asked (Option CxxBuiltIn)
binary_result graph operator one two =
    if nat_eq operator punct.INCREMENT then after graph false one else (
    if nat_eq operator punct.DECREMENT then after graph true one else
    family_result graph operator (binary_family operator) one two)

-- What an operator does with one or two operands, where clause 5 gives it a meaning. `++` and `--` behind their operand
-- have an `int` as the second.
unfoldable pub built_in_result : CxxGraph → ℕ → List CxxOperand → Asked (Option CxxBuiltIn)
built_in_result graph operator (one ∷ []) = unary_result graph operator one
built_in_result graph operator (one ∷ two ∷ []) = binary_result graph operator one two
built_in_result graph operator _ = Ok None
