-- Values of digits, of which too great ones count as one.
use Rattle.std.proofs.Common.{◌≡◌, ◌≤◌, ◌<◌, ℕ, ◌+◌, ◌*◌, ◌^◌, min, Bool, cond, nat_le, List, [], ◌∷◌, ◌++◌, Option, Some, None, refl, sym, ap, ◌∙◌, ⊎_elim, arith}
use Rattle.std.proofs.lemmas.Bool.{cases_lt, lt-leb}
use Rattle.std.proofs.Math.Nat.{mul-le-mul, mul-le-mul_left}
use Rattle.cxx_model.specs.declared.base.Base.{Base}
use Rattle.cxx_model.specs.declared.base.Base.TheVariants.{Int, Unsigned, Long, UnsignedLong, Bool as BoolType, Char, WideChar, SignedChar, UnsignedChar, Short, UnsignedShort, Float, Double, LongDouble, Void}
use Rattle.cxx_model.specs.Text.Spelling.{Spelled, type_of_parts, integer_by, number_by, number_kind, is_floating, digit_value, value_after, IntegerParts, integer_parts, integer_type, integer_types, first_holding, most_of}
use Rattle.cxx_literals.specs.Integers.{capped_parts, capped_option}

pub value_after_push : (base n : ℕ) (text : List ℕ) (b : ℕ) → value_after base n (text ++ b ∷ []) ≡ base * value_after base n text + digit_value b
value_after_push base n [] b = refl
value_after_push base n (c ∷ text) b = value_after_push base (base * n + digit_value c) text b

pub too_much : (base value digit : ℕ) → 0 < base → min (base * min value (2 ^ 64) + digit) (2 ^ 64) ≡ min (base * value + digit) (2 ^ 64)
too_much base value digit some =
    ⊎_elim
    (λ (less : value < 2 ^ 64). let e : min value (2 ^ 64) ≡ value = omega arith in ap (λ v. min (base * v + digit) (2 ^ 64)) e)
    (λ (more : 2 ^ 64 ≤ value).
    let e : min value (2 ^ 64) ≡ 2 ^ 64 = omega arith in
    let one : 1 * 2 ^ 64 ≤ base * 2 ^ 64 = mul-le-mul {n₁ = 1} {m₁ = 2 ^ 64} {n₂ = base} {m₂ = 2 ^ 64} (omega arith) (omega arith) in
    let two : base * 2 ^ 64 ≤ base * value = mul-le-mul_left base more in
    ap (λ v. min (base * v + digit) (2 ^ 64)) e ∙ both_much (base * 2 ^ 64) (base * value) one two)
    (cases_lt value (2 ^ 64))
  where
    both_much : (x y : ℕ) → 1 * 2 ^ 64 ≤ x → x ≤ y → min (x + digit) (2 ^ 64) ≡ min (y + digit) (2 ^ 64)
    both_much x y h k = omega arith

-- ---- the types of literals

le_capped : (value most : ℕ) → most < 2 ^ 64 → nat_le (min value (2 ^ 64)) most ≡ nat_le value most
le_capped value most h =
    ⊎_elim
    (λ (more : most < value). let one : most < min value (2 ^ 64) = omega arith in lt-leb (min value (2 ^ 64)) most one ∙ sym (lt-leb value most more))
    (λ (less : value ≤ most). let e : min value (2 ^ 64) ≡ value = omega arith in ap (λ v. nat_le v most) e)
    (cases_lt most value)

pub most_fits : (type : Base) → most_of type < 2 ^ 64
most_fits Int = omega arith
most_fits Unsigned = omega arith
most_fits Long = omega arith
most_fits UnsignedLong = omega arith
most_fits BoolType = omega arith
most_fits Char = omega arith
most_fits WideChar = omega arith
most_fits SignedChar = omega arith
most_fits UnsignedChar = omega arith
most_fits Short = omega arith
most_fits UnsignedShort = omega arith
most_fits Float = omega arith
most_fits Double = omega arith
most_fits LongDouble = omega arith
most_fits Void = omega arith

holding_capped : (value : ℕ) (types : List Base) → first_holding (min value (2 ^ 64)) types ≡ first_holding value types
holding_capped value [] = refl
holding_capped value (type ∷ types) = rw (le_capped value (most_of type) (most_fits type)) (ap (λ o. cond (nat_le value (most_of type)) (Some type) o) (holding_capped value types))

type_capped : (parts : IntegerParts) → integer_type (capped_parts parts) ≡ integer_type parts
type_capped parts = holding_capped parts.value (integer_types parts)

pub typed : (o : Option IntegerParts) (p : IntegerParts) (t : Option Base) → Some p ≡ capped_option o → t ≡ integer_type p → t ≡ type_of_parts o
typed None p t e f = absurd cc
typed (Some q) p t e f = let is : p ≡ capped_parts q = cc in f ∙ ap integer_type is ∙ type_capped q

kind_by : (o : Option IntegerParts) (floats : Bool) (p : IntegerParts) (t : Option Base) (s : Spelled) → Some p ≡ capped_option o → t ≡ integer_type p → s ≡ integer_by t → s ≡ number_by o floats
kind_by None floats p t s e f g = absurd cc
kind_by (Some q) floats p t s e f g = let is : p ≡ capped_parts q = cc in g ∙ ap integer_by (f ∙ ap integer_type is ∙ type_capped q)

pub kind_some : (text : List ℕ) (p : IntegerParts) (t : Option Base) (s : Spelled) → Some p ≡ capped_option (integer_parts text) → t ≡ integer_type p → s ≡ integer_by t → s ≡ number_kind text
unfolding number_kind
kind_some text p t s e f g = kind_by (integer_parts text) (is_floating text) p t s e f g

none_by : (o : Option IntegerParts) (floats : Bool) (s : Spelled) → None ≡ capped_option o → s ≡ number_by None floats → s ≡ number_by o floats
none_by None floats s e f = f
none_by (Some q) floats s e f = absurd cc

pub kind_none : (text : List ℕ) (s : Spelled) → None ≡ capped_option (integer_parts text) → s ≡ number_by None (is_floating text) → s ≡ number_kind text
unfolding number_kind
kind_none text s e f = none_by (integer_parts text) (is_floating text) s e f
