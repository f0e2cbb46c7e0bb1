-- Values that a type has.
use Rattle.std.proofs.Common.{◌≡◌, ℕ, ◌-◌, ◌*◌, ◌^◌, ◌<◌, ◌≤◌, Bool, true, ℤ, pos, negsuc, ◌*ℤ◌, FitsSigned, to_z, of_z, arith, unsigned_abs, nat_lt}
use Rattle.std.proofs.Math.Pow.{pow_mono}
use Rattle.std.proofs.lemmas.Int.{fits_signed_from_abs, fits_signed_mul, to_z-of_z}
use Rattle.std.proofs.lemmas.Bool.Decides.{nat_tests}
use Rattle.cxx_model.specs.declared.base.Base.{Base}
use Rattle.cxx_model.specs.declared.base.Base.TheVariants as base
use Rattle.cxx_model.specs.Types.Integral.{holds, signed}
use mir.Syntax.{w128}

below : (n m : ℕ) → nat_lt n m ≡ true → n < m
below n m h = grind (arith, nat_tests)

-- a value of a type with a sign is at most 2^63 away from zero
pub held_signed : (of : Base) (value : ℤ) → holds of value ≡ true → signed of ≡ true → unsigned_abs value ≤ 2 ^ 63
held_signed base.Void (pos n) h s = cc
held_signed base.Void (negsuc n) h s = cc
held_signed base.Bool (pos n) h s = cc
held_signed base.Bool (negsuc n) h s = cc
held_signed base.Char (pos n) h s = let e : n < 2 ^ 7 = below _ _ h in omega arith
held_signed base.Char (negsuc n) h s = let e : n < 2 ^ 7 = below _ _ h in omega arith
held_signed base.SignedChar (pos n) h s = let e : n < 2 ^ 7 = below _ _ h in omega arith
held_signed base.SignedChar (negsuc n) h s = let e : n < 2 ^ 7 = below _ _ h in omega arith
held_signed base.UnsignedChar (pos n) h s = cc
held_signed base.UnsignedChar (negsuc n) h s = cc
held_signed base.Short (pos n) h s = let e : n < 2 ^ 15 = below _ _ h in omega arith
held_signed base.Short (negsuc n) h s = let e : n < 2 ^ 15 = below _ _ h in omega arith
held_signed base.UnsignedShort (pos n) h s = cc
held_signed base.UnsignedShort (negsuc n) h s = cc
held_signed base.Int (pos n) h s = let e : n < 2 ^ 31 = below _ _ h in omega arith
held_signed base.Int (negsuc n) h s = let e : n < 2 ^ 31 = below _ _ h in omega arith
held_signed base.Unsigned (pos n) h s = cc
held_signed base.Unsigned (negsuc n) h s = cc
held_signed base.Long (pos n) h s = let e : n < 2 ^ 63 = below _ _ h in omega arith
held_signed base.Long (negsuc n) h s = let e : n < 2 ^ 63 = below _ _ h in omega arith
held_signed base.UnsignedLong (pos n) h s = cc
held_signed base.UnsignedLong (negsuc n) h s = cc
held_signed base.WideChar (pos n) h s = let e : n < 2 ^ 31 = below _ _ h in omega arith
held_signed base.WideChar (negsuc n) h s = let e : n < 2 ^ 31 = below _ _ h in omega arith
held_signed base.Float (pos n) h s = cc
held_signed base.Float (negsuc n) h s = cc
held_signed base.Double (pos n) h s = cc
held_signed base.Double (negsuc n) h s = cc
held_signed base.LongDouble (pos n) h s = cc
held_signed base.LongDouble (negsuc n) h s = cc

-- a value of any type is less than 2^64 away from zero
pub held_small : (of : Base) (value : ℤ) → holds of value ≡ true → unsigned_abs value < 2 ^ 64
held_small base.Void (pos n) h = cc
held_small base.Void (negsuc n) h = cc
held_small base.Bool (pos n) h = let e : n < 2 ^ 1 = below _ _ h in omega arith
held_small base.Bool (negsuc n) h = cc
held_small base.Char (pos n) h = let e : n < 2 ^ 7 = below _ _ h in omega arith
held_small base.Char (negsuc n) h = let e : n < 2 ^ 7 = below _ _ h in omega arith
held_small base.SignedChar (pos n) h = let e : n < 2 ^ 7 = below _ _ h in omega arith
held_small base.SignedChar (negsuc n) h = let e : n < 2 ^ 7 = below _ _ h in omega arith
held_small base.UnsignedChar (pos n) h = let e : n < 2 ^ 8 = below _ _ h in omega arith
held_small base.UnsignedChar (negsuc n) h = cc
held_small base.Short (pos n) h = let e : n < 2 ^ 15 = below _ _ h in omega arith
held_small base.Short (negsuc n) h = let e : n < 2 ^ 15 = below _ _ h in omega arith
held_small base.UnsignedShort (pos n) h = let e : n < 2 ^ 16 = below _ _ h in omega arith
held_small base.UnsignedShort (negsuc n) h = cc
held_small base.Int (pos n) h = let e : n < 2 ^ 31 = below _ _ h in omega arith
held_small base.Int (negsuc n) h = let e : n < 2 ^ 31 = below _ _ h in omega arith
held_small base.Unsigned (pos n) h = let e : n < 2 ^ 32 = below _ _ h in omega arith
held_small base.Unsigned (negsuc n) h = cc
held_small base.Long (pos n) h = let e : n < 2 ^ 63 = below _ _ h in omega arith
held_small base.Long (negsuc n) h = let e : n < 2 ^ 63 = below _ _ h in omega arith
held_small base.UnsignedLong (pos n) h = let e : n < 2 ^ 64 = below _ _ h in omega arith
held_small base.UnsignedLong (negsuc n) h = cc
held_small base.WideChar (pos n) h = let e : n < 2 ^ 31 = below _ _ h in omega arith
held_small base.WideChar (negsuc n) h = let e : n < 2 ^ 31 = below _ _ h in omega arith
held_small base.Float (pos n) h = cc
held_small base.Float (negsuc n) h = cc
held_small base.Double (pos n) h = cc
held_small base.Double (negsuc n) h = cc
held_small base.LongDouble (pos n) h = cc
held_small base.LongDouble (negsuc n) h = cc

pub product_fits : (of : Base) (one two : ℤ) → holds of one ≡ true → holds of two ≡ true → signed of ≡ true → FitsSigned w128 (one *ℤ two)
product_fits of one two h k s = fits_signed_mul w128 one two (2 ^ 63) (2 ^ 63) (held_signed of one h s) (held_signed of two k s) (omega arith)

pub shift_fits : (of : Base) (one : ℤ) (n : ℕ) → holds of one ≡ true → n < 64 → FitsSigned w128 (one *ℤ pos (2 ^ n))
shift_fits of one n h k = fits_signed_mul w128 one (pos (2 ^ n)) (2 ^ 64 - 1) (2 ^ 63) (let e : unsigned_abs one < 2 ^ 64 = held_small of one h in omega arith) (pow_mono (let e : n ≤ 63 = omega arith in e)) (omega arith)

-- what the code computes is the product where that fits
pub product_there : (one two : ℤ) → FitsSigned w128 one → FitsSigned w128 two → FitsSigned w128 (one *ℤ two) → to_z w128 (of_z w128 (to_z w128 (of_z w128 one) *ℤ to_z w128 (of_z w128 two))) ≡ one *ℤ two
product_there one two f g p = simp (to_z-of_z w128 one f, to_z-of_z w128 two g) (to_z-of_z w128 (one *ℤ two) p)

power_fits : (n : ℕ) → n < 64 → FitsSigned w128 (pos (2 ^ n))
power_fits n k = fits_signed_from_abs w128 (pos (2 ^ n)) (let e : 2 ^ n ≤ 2 ^ 63 = pow_mono (let f : n ≤ 63 = omega arith in f) in omega arith)

-- the same of a power of two
pub shift_computed_fits : (of : Base) (one power : ℤ) (n : ℕ) → holds of one ≡ true → n < 64 → FitsSigned w128 one → power ≡ pos (2 ^ n) → FitsSigned w128 (to_z w128 (of_z w128 one) *ℤ to_z w128 (of_z w128 power))
shift_computed_fits of one power n h k f e = rw e (simp (to_z-of_z w128 one f, to_z-of_z w128 (pos (2 ^ n)) (power_fits n k)) (shift_fits of one n h k))

pub shift_computed : (of : Base) (one power : ℤ) (n : ℕ) → holds of one ≡ true → n < 64 → FitsSigned w128 one → power ≡ pos (2 ^ n) → to_z w128 (of_z w128 (to_z w128 (of_z w128 one) *ℤ to_z w128 (of_z w128 power))) ≡ one *ℤ pos (2 ^ n)
shift_computed of one power n h k f e = rw e (product_there one (pos (2 ^ n)) f (power_fits n k) (shift_fits of one n h k))
