-- The parts of an integer literal, of which a great value counts as one that no type holds.
use Rattle.std.specs.Prelude.{ℕ, Bool, false, ◌^◌, min, List, [], ◌∷◌, if◌then◌else◌, Option, Some, None}
use Rattle.std.specs.Char.{is_ascii_digit, is_ascii_hexdigit}
use Rattle.cxx_model.specs.Text.Spelling.{IntegerParts, is_octal, is_x, begins_with_hex, with_digits}
use Rattle.cxx_literals.specs.declared.integers.IntegerParts as code
use Rattle.cxx_literals.specs.declared.integers.Radix.{Radix}
use Rattle.cxx_literals.specs.declared.integers.Radix.TheVariants.{Decimal, Octal, Hexadecimal}

abbrev pub parts_of : code.IntegerParts → IntegerParts
parts_of parts = record { is_decimal = parts.is_decimal; value = parts.value; has_u = parts.has_u; has_l = parts.has_l }

abbrev pub parts_option : Option code.IntegerParts → Option IntegerParts
parts_option None = None
parts_option (Some parts) = Some (parts_of parts)

-- a value that no type holds counts as one of them
abbrev pub capped_parts : IntegerParts → IntegerParts
capped_parts parts = record { is_decimal = parts.is_decimal; value = min parts.value (2 ^ 64); has_u = parts.has_u; has_l = parts.has_l }

abbrev pub capped_option : Option IntegerParts → Option IntegerParts
capped_option None = None
capped_option (Some parts) = Some (capped_parts parts)

abbrev pub base_of : Radix → ℕ
base_of Decimal = 10
base_of Octal = 8
base_of Hexadecimal = 16

abbrev pub test_of : Radix → ℕ → Bool
test_of Decimal = is_ascii_digit
test_of Octal = is_octal
test_of Hexadecimal = is_ascii_hexdigit

-- what stands behind `0x`
abbrev pub hexadecimal_parts : List ℕ → Option IntegerParts
hexadecimal_parts digits = if begins_with_hex digits then with_digits false 16 is_ascii_hexdigit digits else None

-- what stands behind a 0
abbrev pub zero_parts : List ℕ → Option IntegerParts
zero_parts [] = with_digits false 8 is_octal []
zero_parts (x ∷ digits) = if is_x x then hexadecimal_parts digits else with_digits false 8 is_octal (x ∷ digits)
