-- Values converted to integral types.
use Rattle.std.proofs.Common.{◌≡◌, ℕ, zero, suc, ◌+◌, ◌-◌, ◌%◌, ◌^◌, ◌<◌, ◌≤◌, not, Bool, true, false, ℤ, pos, negsuc, ◌-ℤ◌, refl, ◌∙◌, ap, arith, nat_lt, nat_le, if◌then◌else◌, ◌⊎◌, inl, inr, Ok, Err}
use Rattle.std.proofs.lemmas.Int.{ints}
use Rattle.std.proofs.lemmas.Nat.{pow_pos}
use Rattle.std.proofs.Math.Nat.{mod-eq_of_lt}
use Rattle.std.proofs.lemmas.Bool.Decides.{nat_tests}
use Rattle.cxx_model.specs.declared.base.Base.{Base}
use Rattle.cxx_model.specs.declared.base.Base.TheVariants as base
use Rattle.cxx_model.specs.Choice.Standard.{same_base}
use Rattle.cxx_model.specs.Types.Integral.{holds, signed, width}
use Rattle.cxx_computed.specs.Values.{converted_value, digits_of, is_zero, truth, value_in, value_of_digits, wrapped}
use Rattle.cxx_computed.specs.declared.operators.ValueFault.TheVariants as fault

yes : (n m : ℕ) → n < m → nat_lt n m ≡ true
yes n m h = grind (arith, nat_tests)

at_most : (n m : ℕ) → nat_le n m ≡ true → n ≤ m
at_most n m h = grind (arith, nat_tests)

above : (n m : ℕ) → nat_le n m ≡ false → m < n
above n m h = grind (arith, nat_tests)

decided : (b : Bool) → (b ≡ true) ⊎ (b ≡ false)
decided true = inl refl
decided false = inr refl

minus_below : (d m : ℕ) → d < m → (pos d -ℤ pos m) ≡ negsuc (m - suc d)
minus_below d m h = omega (arith, ints)

negative : (bits d : ℕ) → nat_le (2 ^ (bits - 1)) d ≡ true → d < 2 ^ bits → value_of_digits bits true d ≡ negsuc (2 ^ bits - suc d)
negative bits d e h = rw e (minus_below d (2 ^ bits) h)

positive : (bits d : ℕ) → nat_le (2 ^ (bits - 1)) d ≡ false → value_of_digits bits true d ≡ pos d
positive bits d e = rw e refl

-- the digits of a value are below 2^n
pub digits_below : (bits : ℕ) (value : ℤ) → digits_of bits value < 2 ^ bits
digits_below bits (pos n) = let h : 0 < 2 ^ bits = pow_pos bits in omega arith
digits_below bits (negsuc n) = let h : 0 < 2 ^ bits = pow_pos bits in omega arith

-- n bits with a sign mean a value at most 2^(n-1) away from zero
abbrev Means : ℕ → ℤ → Type 0
Means most value = ((n : ℕ) × (n < most) × (value ≡ pos n)) ⊎ ((n : ℕ) × (n < most) × (value ≡ negsuc n))

meant : (bits d : ℕ) → 2 ^ (bits - 1) + 2 ^ (bits - 1) ≡ 2 ^ bits → d < 2 ^ bits → Means (2 ^ (bits - 1)) (value_of_digits bits true d)
meant bits d same h = elim (decided (nat_le (2 ^ (bits - 1)) d)) [
  | inl e ↦ inr (2 ^ bits - suc d, (let k : 2 ^ (bits - 1) ≤ d = at_most _ _ e in omega arith), negative bits d e h)
  | inr e ↦ inl (d, above _ _ e, positive bits d e)
]

held_by : (of : Base) (value : ℤ) (most : ℕ) → ((n : ℕ) → n < most → holds of (pos n) ≡ true) → ((n : ℕ) → n < most → holds of (negsuc n) ≡ true) → Means most value → holds of value ≡ true
held_by of value most p q (inl (n, h, e)) = ap (holds of) e ∙ p n h
held_by of value most p q (inr (n, h, e)) = ap (holds of) e ∙ q n h

-- 4.7: an integral type has the value to which one is converted
wrapped_held : (of : Base) (value : ℤ) → 0 < width of → holds of (wrapped of value) ≡ true
wrapped_held base.Void value h = absurd (omega arith)
wrapped_held base.Bool value h = yes (digits_of 1 value) (2 ^ 1) (digits_below 1 value)
wrapped_held base.Char value h = held_by base.Char _ (2 ^ 7) (λ n k. yes n (2 ^ 7) k) (λ n k. yes n (2 ^ 7) k) (meant 8 (digits_of 8 value) refl (digits_below 8 value))
wrapped_held base.SignedChar value h = held_by base.SignedChar _ (2 ^ 7) (λ n k. yes n (2 ^ 7) k) (λ n k. yes n (2 ^ 7) k) (meant 8 (digits_of 8 value) refl (digits_below 8 value))
wrapped_held base.UnsignedChar value h = yes (digits_of 8 value) (2 ^ 8) (digits_below 8 value)
wrapped_held base.Short value h = held_by base.Short _ (2 ^ 15) (λ n k. yes n (2 ^ 15) k) (λ n k. yes n (2 ^ 15) k) (meant 16 (digits_of 16 value) refl (digits_below 16 value))
wrapped_held base.UnsignedShort value h = yes (digits_of 16 value) (2 ^ 16) (digits_below 16 value)
wrapped_held base.Int value h = held_by base.Int _ (2 ^ 31) (λ n k. yes n (2 ^ 31) k) (λ n k. yes n (2 ^ 31) k) (meant 32 (digits_of 32 value) refl (digits_below 32 value))
wrapped_held base.Unsigned value h = yes (digits_of 32 value) (2 ^ 32) (digits_below 32 value)
wrapped_held base.Long value h = held_by base.Long _ (2 ^ 63) (λ n k. yes n (2 ^ 63) k) (λ n k. yes n (2 ^ 63) k) (meant 64 (digits_of 64 value) refl (digits_below 64 value))
wrapped_held base.UnsignedLong value h = yes (digits_of 64 value) (2 ^ 64) (digits_below 64 value)
wrapped_held base.WideChar value h = held_by base.WideChar _ (2 ^ 31) (λ n k. yes n (2 ^ 31) k) (λ n k. yes n (2 ^ 31) k) (meant 32 (digits_of 32 value) refl (digits_below 32 value))
wrapped_held base.Float value h = absurd (omega arith)
wrapped_held base.Double value h = absurd (omega arith)
wrapped_held base.LongDouble value h = absurd (omega arith)

truth_held : (b : Bool) → holds base.Bool (truth b) ≡ true
truth_held true = refl
truth_held false = refl

either_held : (b : Bool) (of : Base) (t : Bool) (value : ℤ) → (b ≡ true → holds of (truth t) ≡ true) → holds of value ≡ true → holds of (if b then truth t else value) ≡ true
either_held true of t value p h = p refl
either_held false of t value p h = h

truth_by : (of : Base) (t : Bool) → same_base of base.Bool ≡ true → holds of (truth t) ≡ true
truth_by base.Void t e = cc
truth_by base.Bool t e = truth_held t
truth_by base.Char t e = cc
truth_by base.SignedChar t e = cc
truth_by base.UnsignedChar t e = cc
truth_by base.Short t e = cc
truth_by base.UnsignedShort t e = cc
truth_by base.Int t e = cc
truth_by base.Unsigned t e = cc
truth_by base.Long t e = cc
truth_by base.UnsignedLong t e = cc
truth_by base.WideChar t e = cc
truth_by base.Float t e = cc
truth_by base.Double t e = cc
truth_by base.LongDouble t e = cc

pub converted_held : (of : Base) (value : ℤ) → 0 < width of → holds of (converted_value of value) ≡ true
unfolding converted_value
converted_held of value h = either_held (same_base of base.Bool) of (not (is_zero value)) (wrapped of value) (truth_by of (not (is_zero value))) (wrapped_held of value h)

-- ---- a value that the type has

no : (n m : ℕ) → m < n → nat_le n m ≡ false
no n m h = grind (arith, nat_tests)

is_le : (n m : ℕ) → n ≤ m → nat_le n m ≡ true
is_le n m h = grind (arith, nat_tests)

below : (n m : ℕ) → nat_lt n m ≡ true → n < m
below n m h = grind (arith, nat_tests)

kept_positive : (bits n : ℕ) → 2 ^ (bits - 1) + 2 ^ (bits - 1) ≡ 2 ^ bits → n < 2 ^ (bits - 1) → value_of_digits bits true (digits_of bits (pos n)) ≡ pos n
kept_positive bits n same h =
    let e : n % 2 ^ bits ≡ n = mod-eq_of_lt (let k : n < 2 ^ bits = omega arith in k) in
    rw e (positive bits n (no (2 ^ (bits - 1)) n h))

kept_negative : (bits n : ℕ) → 2 ^ (bits - 1) + 2 ^ (bits - 1) ≡ 2 ^ bits → n < 2 ^ (bits - 1) → value_of_digits bits true (digits_of bits (negsuc n)) ≡ negsuc n
kept_negative bits n same h =
    let e : n % 2 ^ bits ≡ n = mod-eq_of_lt (let k : n < 2 ^ bits = omega arith in k) in
    let p : 2 ^ (bits - 1) ≤ 2 ^ bits - 1 - n = omega arith in
    let q : 2 ^ bits - 1 - n < 2 ^ bits = omega arith in
    let r : 2 ^ bits - suc (2 ^ bits - 1 - n) ≡ n = omega arith in
    rw e (negative bits (2 ^ bits - 1 - n) (is_le _ _ p) q ∙ ap negsuc r)

kept_unsigned : (bits n : ℕ) → n < 2 ^ bits → value_of_digits bits false (digits_of bits (pos n)) ≡ pos n
kept_unsigned bits n h = ap pos (mod-eq_of_lt h)

kept_bool : (n : ℕ) → n < 2 → truth (not (is_zero (pos n))) ≡ pos n
kept_bool zero h = refl
kept_bool (suc zero) h = refl
kept_bool (suc (suc n)) h = absurd (omega arith)

-- 4.7: a value that the type has is not changed
pub wrapped_keeps : (of : Base) (value : ℤ) → holds of value ≡ true → wrapped of value ≡ value
wrapped_keeps base.Void (pos n) h = cc
wrapped_keeps base.Void (negsuc n) h = cc
wrapped_keeps base.Bool (pos n) h = kept_unsigned 1 n (below _ _ h)
wrapped_keeps base.Bool (negsuc n) h = cc
wrapped_keeps base.Char (pos n) h = kept_positive 8 n refl (below _ _ h)
wrapped_keeps base.Char (negsuc n) h = kept_negative 8 n refl (below _ _ h)
wrapped_keeps base.SignedChar (pos n) h = kept_positive 8 n refl (below _ _ h)
wrapped_keeps base.SignedChar (negsuc n) h = kept_negative 8 n refl (below _ _ h)
wrapped_keeps base.UnsignedChar (pos n) h = kept_unsigned 8 n (below _ _ h)
wrapped_keeps base.UnsignedChar (negsuc n) h = cc
wrapped_keeps base.Short (pos n) h = kept_positive 16 n refl (below _ _ h)
wrapped_keeps base.Short (negsuc n) h = kept_negative 16 n refl (below _ _ h)
wrapped_keeps base.UnsignedShort (pos n) h = kept_unsigned 16 n (below _ _ h)
wrapped_keeps base.UnsignedShort (negsuc n) h = cc
wrapped_keeps base.Int (pos n) h = kept_positive 32 n refl (below _ _ h)
wrapped_keeps base.Int (negsuc n) h = kept_negative 32 n refl (below _ _ h)
wrapped_keeps base.Unsigned (pos n) h = kept_unsigned 32 n (below _ _ h)
wrapped_keeps base.Unsigned (negsuc n) h = cc
wrapped_keeps base.Long (pos n) h = kept_positive 64 n refl (below _ _ h)
wrapped_keeps base.Long (negsuc n) h = kept_negative 64 n refl (below _ _ h)
wrapped_keeps base.UnsignedLong (pos n) h = kept_unsigned 64 n (below _ _ h)
wrapped_keeps base.UnsignedLong (negsuc n) h = cc
wrapped_keeps base.WideChar (pos n) h = kept_positive 32 n refl (below _ _ h)
wrapped_keeps base.WideChar (negsuc n) h = kept_negative 32 n refl (below _ _ h)
wrapped_keeps base.Float (pos n) h = cc
wrapped_keeps base.Float (negsuc n) h = cc
wrapped_keeps base.Double (pos n) h = cc
wrapped_keeps base.Double (negsuc n) h = cc
wrapped_keeps base.LongDouble (pos n) h = cc
wrapped_keeps base.LongDouble (negsuc n) h = cc

bool_keeps : (value : ℤ) → holds base.Bool value ≡ true → truth (not (is_zero value)) ≡ value
bool_keeps (pos n) h = kept_bool n (below _ _ h)
bool_keeps (negsuc n) h = cc

pub converted_keeps : (of : Base) (value : ℤ) → holds of value ≡ true → converted_value of value ≡ value
unfolding converted_value
converted_keeps base.Void value h = wrapped_keeps base.Void value h
converted_keeps base.Bool value h = bool_keeps value h
converted_keeps base.Char value h = wrapped_keeps base.Char value h
converted_keeps base.SignedChar value h = wrapped_keeps base.SignedChar value h
converted_keeps base.UnsignedChar value h = wrapped_keeps base.UnsignedChar value h
converted_keeps base.Short value h = wrapped_keeps base.Short value h
converted_keeps base.UnsignedShort value h = wrapped_keeps base.UnsignedShort value h
converted_keeps base.Int value h = wrapped_keeps base.Int value h
converted_keeps base.Unsigned value h = wrapped_keeps base.Unsigned value h
converted_keeps base.Long value h = wrapped_keeps base.Long value h
converted_keeps base.UnsignedLong value h = wrapped_keeps base.UnsignedLong value h
converted_keeps base.WideChar value h = wrapped_keeps base.WideChar value h
converted_keeps base.Float value h = wrapped_keeps base.Float value h
converted_keeps base.Double value h = wrapped_keeps base.Double value h
converted_keeps base.LongDouble value h = wrapped_keeps base.LongDouble value h

-- ---- results

value_kept : (b : Bool) (of : Base) (value : ℤ) → holds of value ≡ true → (if b then (if holds of value then Ok value else Err fault.Overflow) else Ok (wrapped of value)) ≡ Ok value
value_kept true of value h = rw h refl
value_kept false of value h = ap Ok (wrapped_keeps of value h)

-- a result that is one of the values of its type is the result
pub value_in_keeps : (of : Base) (value : ℤ) → holds of value ≡ true → value_in of value ≡ Ok value
unfolding value_in
value_in_keeps of value h = value_kept (signed of) of value h
