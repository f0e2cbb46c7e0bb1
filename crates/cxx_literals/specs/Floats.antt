-- Parts of a floating literal.
use Rattle.std.specs.Prelude.{ℕ, Bool, ◌&&◌, ◌||◌, List}
use Rattle.cxx_model.specs.Text.Spelling.{begins_with_digit, is_floating_suffix, is_exponent_part, after_digits}

-- what stands behind a dot, where digits stand before it or not
abbrev pub is_fraction : Bool → List ℕ → Bool
is_fraction has_digits text = (has_digits || begins_with_digit text) && (is_floating_suffix (after_digits text) || is_exponent_part (after_digits text))
