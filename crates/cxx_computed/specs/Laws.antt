-- What the integers give, by the operators of clause 5.
use Rattle.std.specs.Prelude.{not, if◌then◌else◌, Option, Some, None, ℤ, ◌+ℤ◌, ◌-ℤ◌, ◌*ℤ◌, int_div, int_rem}
use Rattle.std.specs.Ordering.{int_eq}
use Rattle.cxx_computed.specs.declared.operators.BinaryOperator.{BinaryOperator}
use Rattle.cxx_computed.specs.declared.operators.BinaryOperator.TheVariants as binary
use Rattle.cxx_computed.specs.Values.{is_less, is_zero, truth}

-- 5.6: a quotient is rounded towards zero, and a remainder has the sign of the left operand; there is none by zero
abbrev pub unless_zero : ℤ → ℤ → Option ℤ
unless_zero two result = if is_zero two then None else Some result

-- 5.6, 5.7, 5.9, 5.10: what an operator gives on the integers; shifts and what is done with bits speak of a width
abbrev pub integer_result : BinaryOperator → ℤ → ℤ → Option ℤ
integer_result binary.Multiply one two = Some (one *ℤ two)
integer_result binary.Divide one two = unless_zero two (int_div one two)
integer_result binary.Remainder one two = unless_zero two (int_rem one two)
integer_result binary.Add one two = Some (one +ℤ two)
integer_result binary.Subtract one two = Some (one -ℤ two)
integer_result binary.ShiftLeft one two = None
integer_result binary.ShiftRight one two = None
integer_result binary.Less one two = Some (truth (is_less one two))
integer_result binary.Greater one two = Some (truth (is_less two one))
integer_result binary.LessOrEqual one two = Some (truth (not (is_less two one)))
integer_result binary.GreaterOrEqual one two = Some (truth (not (is_less one two)))
integer_result binary.Equal one two = Some (truth (int_eq one two))
integer_result binary.NotEqual one two = Some (truth (not (int_eq one two)))
integer_result binary.And one two = None
integer_result binary.ExclusiveOr one two = None
integer_result binary.InclusiveOr one two = None
