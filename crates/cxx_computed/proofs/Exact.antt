-- Operators on values whose result the type has.
use Rattle.std.proofs.Common.{◌≡◌, ◌^◌, not, Bool, true, false, ℤ, pos, neg_ℤ, ◌+ℤ◌, ◌-ℤ◌, ◌*ℤ◌, int_div, int_rem, unsigned_abs, ◌∙◌, ap, if◌then◌else◌, Some, None, Result, Ok, Err}
use Rattle.std.specs.Ordering.{int_eq}
use Rattle.cxx_model.specs.declared.base.Base.{Base}
use Rattle.cxx_model.specs.Types.Integral.{holds}
use Rattle.cxx_computed.specs.declared.operators.BinaryOperator.{BinaryOperator}
use Rattle.cxx_computed.specs.declared.operators.BinaryOperator.TheVariants as binary
use Rattle.cxx_computed.specs.declared.operators.UnaryOperator.TheVariants as unary
use Rattle.cxx_computed.specs.declared.operators.ValueFault.{ValueFault}
use Rattle.cxx_computed.specs.declared.operators.ValueFault.TheVariants as fault
use Rattle.cxx_computed.specs.Laws.{integer_result}
use Rattle.cxx_computed.specs.Values.{binary_value, is_count, is_less, is_zero, truth, unary_value, value_in}
use Rattle.cxx_computed.proofs.Converted.{value_in_keeps}

some : {A : Type 0} (a b : A) → Some a ≡ Some b → a ≡ b
some a b e = cc

in_type : (of : Base) (result value : ℤ) → Some result ≡ Some value → holds of value ≡ true → value_in of result ≡ Ok value
in_type of result value e h = ap (value_in of) (some result value e) ∙ value_in_keeps of value h

unless : (zero : Bool) (of : Base) (result value : ℤ) → (if zero then None else Some result) ≡ Some value → holds of value ≡ true → (if zero then Err fault.DivideByZero else value_in of result) ≡ Ok value
unless true of result value e h = cc
unless false of result value e h = in_type of result value e h

abbrev good : ℤ → Result ℤ ValueFault
good value = Ok value

compared : (result value : ℤ) → Some result ≡ Some value → good result ≡ good value
compared result value e = ap good (some result value e)

pub of_integers : (operator : BinaryOperator) (of : Base) (one two value : ℤ) → integer_result operator one two ≡ Some value → holds of value ≡ true → binary_value operator of one two ≡ Ok value
unfolding binary_value
of_integers binary.Multiply of one two value e h = in_type of (one *ℤ two) value e h
of_integers binary.Divide of one two value e h = unless (is_zero two) of (int_div one two) value e h
of_integers binary.Remainder of one two value e h = unless (is_zero two) of (int_rem one two) value e h
of_integers binary.Add of one two value e h = in_type of (one +ℤ two) value e h
of_integers binary.Subtract of one two value e h = in_type of (one -ℤ two) value e h
of_integers binary.ShiftLeft of one two value e h = cc
of_integers binary.ShiftRight of one two value e h = cc
of_integers binary.Less of one two value e h = compared (truth (is_less one two)) value e
of_integers binary.Greater of one two value e h = compared (truth (is_less two one)) value e
of_integers binary.LessOrEqual of one two value e h = compared (truth (not (is_less two one))) value e
of_integers binary.GreaterOrEqual of one two value e h = compared (truth (not (is_less one two))) value e
of_integers binary.Equal of one two value e h = compared (truth (int_eq one two)) value e
of_integers binary.NotEqual of one two value e h = compared (truth (not (int_eq one two))) value e
of_integers binary.And of one two value e h = cc
of_integers binary.ExclusiveOr of one two value e h = cc
of_integers binary.InclusiveOr of one two value e h = cc

pub minus_of_integers : (of : Base) (value : ℤ) → holds of (neg_ℤ value) ≡ true → unary_value unary.Minus of value ≡ Ok (neg_ℤ value)
unfolding unary_value
minus_of_integers of value h = value_in_keeps of (neg_ℤ value) h

counted : (b : Bool) (of : Base) (result : ℤ) → b ≡ true → holds of result ≡ true → (if b then value_in of result else Err fault.Overflow) ≡ Ok result
counted true of result e h = value_in_keeps of result h
counted false of result e h = cc

pub shift_product : (of : Base) (one two : ℤ) → is_count of two ≡ true → holds of (one *ℤ pos (2 ^ unsigned_abs two)) ≡ true → binary_value binary.ShiftLeft of one two ≡ Ok (one *ℤ pos (2 ^ unsigned_abs two))
unfolding binary_value
shift_product of one two e h = counted (is_count of two) of (one *ℤ pos (2 ^ unsigned_abs two)) e h
