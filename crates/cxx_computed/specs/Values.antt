-- The values of constants: what clause 4 converts them to, and what the operators of clause 5 make of them.
use Rattle.std.specs.Prelude.{ℕ, ◌-◌, ◌^◌, Bool, true, false, ◌&&◌, not, nat_le, if◌then◌else◌, Result, Ok, Err, ℤ, pos, negsuc, ◌+ℤ◌, ◌-ℤ◌, ◌*ℤ◌, neg_ℤ, int_div, int_rem, unsigned_abs, bit_and, bit_or, bit_xor}
use Rattle.std.specs.Bool.{nat_lt}
use Rattle.std.specs.Int.{int_rem_euclid, int_shr}
use Rattle.std.specs.Ordering.{int_eq}
use Rattle.std.specs.Prelude.{int_lt}
use Rattle.cxx_model.specs.declared.base.Base.{Base}
use Rattle.cxx_model.specs.declared.base.Base.TheVariants as base
use Rattle.cxx_model.specs.Choice.Standard.{same_base}
use Rattle.cxx_model.specs.Types.Integral.{holds, signed, width}
use Rattle.cxx_computed.specs.declared.operators.BinaryOperator.{BinaryOperator}
use Rattle.cxx_computed.specs.declared.operators.BinaryOperator.TheVariants as binary
use Rattle.cxx_computed.specs.declared.operators.UnaryOperator.{UnaryOperator}
use Rattle.cxx_computed.specs.declared.operators.UnaryOperator.TheVariants as unary
use Rattle.cxx_computed.specs.declared.operators.ValueFault.{ValueFault}
use Rattle.cxx_computed.specs.declared.operators.ValueFault.TheVariants as fault

-- ---- conversions

-- 4.7: the least number that is not negative and is the value modulo 2^n, of n bits
abbrev pub digits_of : ℕ → ℤ → ℕ
digits_of bits value = unsigned_abs (int_rem_euclid value (pos (2 ^ bits)))

-- 3.9.1: the value that n bits mean, the greatest of which counts as negative where there is a sign
abbrev pub value_of_digits : ℕ → Bool → ℕ → ℤ
value_of_digits bits has_sign n = if has_sign && nat_le (2 ^ (bits - 1)) n then pos n -ℤ pos (2 ^ bits) else pos n

-- 4.7: the value modulo 2^n, for the n bits of an integral type
abbrev pub wrapped : Base → ℤ → ℤ
wrapped of value = value_of_digits (width of) (signed of) (digits_of (width of) value)

abbrev pub is_zero : ℤ → Bool
is_zero value = int_eq value (pos 0)

-- 4.7: `true` is one and `false` is zero
abbrev pub truth : Bool → ℤ
truth b = if b then pos 1 else pos 0

-- 4.7, 4.12: a value converted to an integral type
unfoldable pub converted_value : Base → ℤ → ℤ
converted_value of value = if same_base of base.Bool then truth (not (is_zero value)) else wrapped of value

-- ---- operators

-- 3.9.1, 5: a result in a type: without a sign it wraps, with one it is one of the values of the type or there is none
unfoldable pub value_in : Base → ℤ → Result ℤ ValueFault
value_in of value =
    if signed of then (if holds of value then Ok value else Err fault.Overflow) else
    Ok (wrapped of value)

-- 5.3.1: one's complement
abbrev pub complement : ℤ → ℤ
complement value = negsuc 0 -ℤ value

-- 5.3.1: what an operator makes of one value of a promoted type; `!` of one of `bool`
unfoldable pub unary_value : UnaryOperator → Base → ℤ → Result ℤ ValueFault
unary_value unary.Plus of value = Ok value
unary_value unary.Minus of value = value_in of (neg_ℤ value)
unary_value unary.Complement of value = value_in of (complement value)
unary_value unary.Not of value = Ok (truth (is_zero value))

-- 5.6: nothing is divided by zero
abbrev pub divided_by : ℤ → Result ℤ ValueFault → Result ℤ ValueFault
divided_by two result = if is_zero two then Err fault.DivideByZero else result

-- 5.8: whether a value may be shifted by so many bits in a type
abbrev pub is_count : Base → ℤ → Bool
is_count of (pos n) = nat_lt n (width of)
is_count of (negsuc n) = false

-- 5.8: shifted to the left is multiplied by a power of two
abbrev pub shifted_left : Base → ℤ → ℤ → Result ℤ ValueFault
shifted_left of one two = if is_count of two then value_in of (one *ℤ pos (2 ^ unsigned_abs two)) else Err fault.Overflow

-- 5.8: shifted to the right is divided by a power of two, rounded down
abbrev pub shifted_right : Base → ℤ → ℤ → Result ℤ ValueFault
shifted_right of one two = if is_count of two then Ok (int_shr one (unsigned_abs two)) else Err fault.Overflow

-- 5.11 to 5.13: what is done with each bit
abbrev pub bitwise : (ℕ → ℕ → ℕ) → Base → ℤ → ℤ → ℤ
bitwise on of one two = value_of_digits (width of) (signed of) (on (digits_of (width of) one) (digits_of (width of) two))

abbrev pub is_less : ℤ → ℤ → Bool
is_less one two = int_lt one two

-- 5.8: whether the operands keep types of their own
abbrev pub is_shift : BinaryOperator → Bool
is_shift binary.ShiftLeft = true
is_shift binary.ShiftRight = true
is_shift _ = false

-- 5.6 to 5.13: what an operator makes of two values of one type; the right operand of a shift has its own
unfoldable pub binary_value : BinaryOperator → Base → ℤ → ℤ → Result ℤ ValueFault
binary_value binary.Multiply of one two = value_in of (one *ℤ two)
binary_value binary.Divide of one two = divided_by two (value_in of (int_div one two))
binary_value binary.Remainder of one two = divided_by two (value_in of (int_rem one two))
binary_value binary.Add of one two = value_in of (one +ℤ two)
binary_value binary.Subtract of one two = value_in of (one -ℤ two)
binary_value binary.ShiftLeft of one two = shifted_left of one two
binary_value binary.ShiftRight of one two = shifted_right of one two
binary_value binary.Less of one two = Ok (truth (is_less one two))
binary_value binary.Greater of one two = Ok (truth (is_less two one))
binary_value binary.LessOrEqual of one two = Ok (truth (not (is_less two one)))
binary_value binary.GreaterOrEqual of one two = Ok (truth (not (is_less one two)))
binary_value binary.Equal of one two = Ok (truth (int_eq one two))
binary_value binary.NotEqual of one two = Ok (truth (not (int_eq one two)))
binary_value binary.And of one two = Ok (bitwise bit_and of one two)
binary_value binary.ExclusiveOr of one two = Ok (bitwise bit_xor of one two)
binary_value binary.InclusiveOr of one two = Ok (bitwise bit_or of one two)
