-- The values of constant expressions (5.19) as templates keep them (14.6.2.3).
use Rattle.std.specs.Prelude.{ℕ, Bool, true, false, not, nat_eq, nat_lt, if◌then◌else◌, Option, Some, None, Result, Ok, Err, ℤ, pos}
use Rattle.cxx_model.specs.declared.base.Base.{Base}
use Rattle.cxx_model.specs.declared.base.Base.TheVariants as base
use Rattle.cxx_model.specs.declared.punct.TheConstants as punct
use Rattle.cxx_model.specs.Choice.Standard.{same_base}
use Rattle.cxx_model.specs.Facts.Declarations.{CxxGraph}
use Rattle.cxx_model.specs.Types.Integral.{width}
use Rattle.cxx_model.specs.Types.Trees.{CxxFormula, value_of, value_parameter, member_of, size_of, cast_to, unary, binary, conditional}
use Rattle.cxx_meaning.specs.declared.size.SizeReason.{SizeReason}
use Rattle.cxx_meaning.specs.Conversions.Arithmetic.{integer_of, integral_promoted, usual}
use Rattle.cxx_meaning.specs.Conversions.Asking.{Asked}
use Rattle.cxx_meaning.specs.Conversions.Kinds.{CxxKind, arithmetic, enumerated, kind_of}
use Rattle.cxx_meaning.specs.Conversions.Sizes as sizes
use Rattle.cxx_computed.specs.declared.operators.BinaryOperator.{BinaryOperator}
use Rattle.cxx_computed.specs.declared.operators.BinaryOperator.TheVariants as two
use Rattle.cxx_computed.specs.declared.operators.UnaryOperator.{UnaryOperator}
use Rattle.cxx_computed.specs.declared.operators.UnaryOperator.TheVariants as one
use Rattle.cxx_computed.specs.declared.operators.ValueFault.{ValueFault}
use Rattle.cxx_computed.specs.Values.{binary_value, converted_value, is_shift, is_zero, truth, unary_value}

abbrev pub Valued : Type 0
Valued = Result ℤ ValueFault

-- A constant expression: its type, which is integral or an enumeration, and its value, where its operators give one.
pub record CxxConstant : Type 0 where
  pub of : CxxKind
  pub value : Valued

infixl 10 ◌then◌
abbrev pub ◌then◌ : Valued → (ℤ → Valued) → Valued
(Ok x) then f = f x
(Err e) then f = Err e

-- ---- operators by number

abbrev pub unary_operator : ℕ → Option UnaryOperator
unary_operator number =
    if nat_eq number punct.PLUS then Some one.Plus else (
    if nat_eq number punct.MINUS then Some one.Minus else (
    if nat_eq number punct.TILDE then Some one.Complement else (
    if nat_eq number punct.EXCLAMATION then Some one.Not else
    None)))

abbrev pub comparison : ℕ → Option BinaryOperator
comparison number =
    if nat_eq number punct.LESS then Some two.Less else (
    if nat_eq number punct.GREATER then Some two.Greater else (
    if nat_eq number punct.LESS_OR_EQUAL then Some two.LessOrEqual else (
    if nat_eq number punct.GREATER_OR_EQUAL then Some two.GreaterOrEqual else (
    if nat_eq number punct.EQUAL_TO then Some two.Equal else (
    if nat_eq number punct.NOT_EQUAL_TO then Some two.NotEqual else
    None)))))

abbrev pub bit_operator : ℕ → Option BinaryOperator
bit_operator number =
    if nat_eq number punct.SHIFT_LEFT then Some two.ShiftLeft else (
    if nat_eq number punct.SHIFT_RIGHT then Some two.ShiftRight else (
    if nat_eq number punct.AMPERSAND then Some two.And else (
    if nat_eq number punct.CARET then Some two.ExclusiveOr else (
    if nat_eq number punct.BAR then Some two.InclusiveOr else
    comparison number))))

-- those of which both operands are evaluated
abbrev pub binary_operator : ℕ → Option BinaryOperator
binary_operator number =
    if nat_eq number punct.STAR then Some two.Multiply else (
    if nat_eq number punct.SLASH then Some two.Divide else (
    if nat_eq number punct.PERCENT then Some two.Remainder else (
    if nat_eq number punct.PLUS then Some two.Add else (
    if nat_eq number punct.MINUS then Some two.Subtract else
    bit_operator number))))

-- 5.9, 5.10
abbrev pub is_comparison : BinaryOperator → Bool
is_comparison two.Less = true
is_comparison two.Greater = true
is_comparison two.LessOrEqual = true
is_comparison two.GreaterOrEqual = true
is_comparison two.Equal = true
is_comparison two.NotEqual = true
is_comparison _ = false

-- ---- parts

-- 4.7, 4.12, 5.2.9: a value as a type has it; an enumeration keeps it
abbrev pub value_as : CxxKind → ℤ → ℤ
value_as (arithmetic of) value = converted_value of value
value_as _ value = value

abbrev pub valued_as : CxxKind → Valued → Valued
valued_as kind value = value then λ v. Ok (value_as kind v)

-- 3.9.1: the integral types have values that are integers
abbrev pub is_integral : Base → Bool
is_integral of = nat_lt 0 (width of)

abbrev pub if_integral : Option Base → Option Base
if_integral None = None
if_integral (Some of) = if is_integral of then Some of else None

-- 4.5: the integral type of a value; a value of an enumeration has the type to which it is promoted
abbrev pub integral_of : CxxGraph → CxxKind → Option Base
integral_of graph kind = if_integral (integer_of graph kind)

-- 5.19: a value of an integral type or of an enumeration
abbrev pub as_constant : CxxKind → Valued → Option CxxConstant
as_constant (arithmetic of) value = if is_integral of then Some (record { of = arithmetic of; value = valued_as (arithmetic of) value }) else None
as_constant (enumerated n) value = Some (record { of = enumerated n; value = value })
as_constant _ value = None

abbrev pub of_base : Base → Valued → CxxConstant
of_base of value = record { of = arithmetic of; value = value }

-- 5.3.3
abbrev pub size_constant : Asked (Result ℕ SizeReason) → Option CxxConstant
size_constant (Ok (Ok size)) = Some (of_base base.UnsignedLong (Ok (pos size)))
size_constant _ = None

abbrev pub cast_constant : CxxKind → Option CxxConstant → Option CxxConstant
cast_constant kind None = None
cast_constant kind (Some part) = as_constant kind part.value

-- 4.12
abbrev pub is_true : Valued → Valued
is_true value = value then λ v. Ok (truth (not (is_zero v)))

abbrev pub unary_valued : UnaryOperator → Base → Valued → Valued
unary_valued operator of value = value then λ v. unary_value operator of (converted_value of v)

-- 5.3.1: `!` converts its operand to `bool`, the others promote it
abbrev pub unary_on : UnaryOperator → Base → Valued → CxxConstant
unary_on one.Not of value = of_base base.Bool (unary_valued one.Not base.Bool value)
unary_on operator of value = of_base (integral_promoted of) (unary_valued operator (integral_promoted of) value)

abbrev pub unary_by : UnaryOperator → Option Base → Valued → Option CxxConstant
unary_by operator None value = None
unary_by operator (Some of) value = Some (unary_on operator of value)

abbrev pub unary_constant : CxxGraph → Option UnaryOperator → Option CxxConstant → Option CxxConstant
unary_constant graph (Some operator) (Some part) = unary_by operator (integral_of graph part.of) part.value
unary_constant graph _ _ = None

abbrev pub result_type : BinaryOperator → Base → Base
result_type operator of = if is_comparison operator then base.Bool else of

abbrev pub binary_valued : BinaryOperator → Base → Base → Valued → Valued → Valued
binary_valued operator left right x y = x then λ v. y then λ w. binary_value operator left (converted_value left v) (converted_value right w)

-- 5, 5.8: the operands of a shift are promoted each, and others have the usual conversions
abbrev pub binary_on : BinaryOperator → Base → Base → Valued → Valued → CxxConstant
binary_on operator left right x y =
    if is_shift operator then of_base (integral_promoted left) (binary_valued operator (integral_promoted left) (integral_promoted right) x y) else
    of_base (result_type operator (usual left right)) (binary_valued operator (usual left right) (usual left right) x y)

abbrev pub binary_by : BinaryOperator → Option Base → Option Base → Valued → Valued → Option CxxConstant
binary_by operator (Some left) (Some right) x y = Some (binary_on operator left right x y)
binary_by operator _ _ x y = None

abbrev pub binary_constant : CxxGraph → Option BinaryOperator → CxxConstant → CxxConstant → Option CxxConstant
binary_constant graph None left right = None
binary_constant graph (Some operator) left right = binary_by operator (integral_of graph left.of) (integral_of graph right.of) left.value right.value

-- 5.14: the right operand is evaluated where the left one is true
abbrev pub conjunction : Valued → Valued → Valued
conjunction left right = left then λ v. if is_zero v then Ok (pos 0) else is_true right

-- 5.15: and here where it is false
abbrev pub disjunction : Valued → Valued → Valued
disjunction left right = left then λ v. if is_zero v then is_true right else Ok (pos 1)

abbrev pub both_constant : CxxGraph → ℕ → CxxConstant → CxxConstant → Option CxxConstant
both_constant graph number left right =
    if nat_eq number punct.LOGICAL_AND then Some (of_base base.Bool (conjunction left.value right.value)) else (
    if nat_eq number punct.LOGICAL_OR then Some (of_base base.Bool (disjunction left.value right.value)) else
    binary_constant graph (binary_operator number) left right)

abbrev pub two_constants : CxxGraph → ℕ → Option CxxConstant → Option CxxConstant → Option CxxConstant
two_constants graph number (Some left) (Some right) = both_constant graph number left right
two_constants graph number _ _ = None

-- 5.16: the type of the operands where they have one, and else the usual one
abbrev pub is_same_kind : CxxKind → CxxKind → Bool
is_same_kind (arithmetic of) (arithmetic other) = same_base of other
is_same_kind (enumerated m) (enumerated n) = nat_eq m n
is_same_kind _ _ = false

abbrev pub usual_kind : Option Base → Option Base → Option CxxKind
usual_kind (Some left) (Some right) = Some (arithmetic (usual left right))
usual_kind _ _ = None

abbrev pub conditional_kind : CxxGraph → CxxKind → CxxKind → Option CxxKind
conditional_kind graph left right = if is_same_kind left right then Some left else usual_kind (integral_of graph left) (integral_of graph right)

-- 5.16: one of the two is evaluated
abbrev pub chosen : Valued → Valued → Valued → Valued
chosen test left right = test then λ v. if is_zero v then right else left

abbrev pub conditional_by : Option CxxKind → Valued → Option CxxConstant
conditional_by None value = None
conditional_by (Some kind) value = Some (record { of = kind; value = valued_as kind value })

abbrev pub conditional_constant : CxxGraph → CxxConstant → CxxConstant → CxxConstant → Option CxxConstant
conditional_constant graph test left right = conditional_by (conditional_kind graph left.of right.of) (chosen test.value left.value right.value)

abbrev pub three_constants : CxxGraph → Option CxxConstant → Option CxxConstant → Option CxxConstant → Option CxxConstant
three_constants graph (Some test) (Some left) (Some right) = conditional_constant graph test left right
three_constants graph _ _ _ = None

-- ---- formulas

-- A formula as a constant expression. One in which a parameter or a member of what depends on parameters stands is none,
-- nor is one with a size that is none: an operand that is not evaluated must be constant too.
unfoldable pub constant_of : CxxGraph → CxxFormula → Option CxxConstant
constant_of graph (value_of value t) = as_constant (kind_of t) (Ok value)
constant_of graph (value_parameter depth index) = None
constant_of graph (member_of t word) = None
constant_of graph (size_of t) = size_constant (sizes.size_of graph t)
constant_of graph (cast_to t f) = cast_constant (kind_of t) (constant_of graph f)
constant_of graph (unary number f) = unary_constant graph (unary_operator number) (constant_of graph f)
constant_of graph (binary number f g) = two_constants graph number (constant_of graph f) (constant_of graph g)
constant_of graph (conditional f g h) = three_constants graph (constant_of graph f) (constant_of graph g) (constant_of graph h)

-- of two classes, where there are such, the one with the lesser number
abbrev pub least : Option ℕ → Option ℕ → Option ℕ
least None other = other
least (Some m) None = Some m
least (Some m) (Some n) = if nat_lt n m then Some n else Some m

abbrev pub needed_by : Asked (Result ℕ SizeReason) → Option ℕ
needed_by (Ok size) = None
needed_by (Err class) = Some class.0

-- 14.7.1: the least of the classes that must be complete first
unfoldable pub needed : CxxGraph → CxxFormula → Option ℕ
needed graph (value_of value t) = None
needed graph (value_parameter depth index) = None
needed graph (member_of t word) = None
needed graph (size_of t) = needed_by (sizes.size_of graph t)
needed graph (cast_to t f) = needed graph f
needed graph (unary number f) = needed graph f
needed graph (binary number f g) = least (needed graph f) (needed graph g)
needed graph (conditional f g h) = least (needed graph f) (least (needed graph g) (needed graph h))

abbrev pub value_in_constant : Option CxxConstant → Option ℤ
value_in_constant None = None
value_in_constant (Some part) = value_if part.value
  where
    value_if : Valued → Option ℤ
    value_if (Ok value) = Some value
    value_if (Err e) = None

abbrev pub unless_needed : Option ℕ → Option ℤ → Asked (Option ℤ)
unless_needed (Some class) value = Err (record { 0 = class })
unless_needed None value = Ok value

-- The value of a constant expression, where it has one, or the class that must be complete first.
unfoldable pub computed : CxxGraph → CxxFormula → Asked (Option ℤ)
computed graph f = unless_needed (needed graph f) (value_in_constant (constant_of graph f))
