-- Types whose values are integers stay such where operands are converted.
use Rattle.std.proofs.Common.{◌≡◌, ◌<◌, ◌^◌, ◌||◌, to_z, of_z, unsigned_abs, Bool, true, false, ℤ, refl, sym, subst, ◌∙◌, ap, arith, if◌then◌else◌}
use Rattle.std.proofs.lemmas.Int.{fits_signed_from_abs, to_z-of_z}
use Rattle.cxx_model.specs.declared.base.Base.{Base}
use Rattle.cxx_model.specs.declared.base.Base.TheVariants as base
use Rattle.cxx_model.specs.Choice.Standard.{same_base}
use Rattle.cxx_model.specs.Types.Integral.{holds, width}
use Rattle.cxx_meaning.specs.Conversions.Arithmetic.{integral_promoted, is_either, usual, usual_of_promoted}
use Rattle.cxx_meaning.specs.Conversions.Standard.{promoted_base}
use Rattle.cxx_computed.specs.Values.{converted_value}
use Rattle.cxx_computed.proofs.Converted.{converted_held}
use Rattle.cxx_computed.proofs.Held.{held_small}
use mir.Syntax.{w128}

pub promoted_wide : (of : Base) → 0 < width of → 0 < width (integral_promoted of)
promoted_wide base.Void h = absurd (omega arith)
promoted_wide base.Bool h = omega arith
promoted_wide base.Char h = omega arith
promoted_wide base.SignedChar h = omega arith
promoted_wide base.UnsignedChar h = omega arith
promoted_wide base.Short h = omega arith
promoted_wide base.UnsignedShort h = omega arith
promoted_wide base.Int h = omega arith
promoted_wide base.Unsigned h = omega arith
promoted_wide base.Long h = omega arith
promoted_wide base.UnsignedLong h = omega arith
promoted_wide base.WideChar h = omega arith
promoted_wide base.Float h = absurd (omega arith)
promoted_wide base.Double h = absurd (omega arith)
promoted_wide base.LongDouble h = absurd (omega arith)

no_longdouble : (of : Base) → 0 < width of → same_base of base.LongDouble ≡ false
no_longdouble base.Void h = absurd (omega arith)
no_longdouble base.Bool h = refl
no_longdouble base.Char h = refl
no_longdouble base.SignedChar h = refl
no_longdouble base.UnsignedChar h = refl
no_longdouble base.Short h = refl
no_longdouble base.UnsignedShort h = refl
no_longdouble base.Int h = refl
no_longdouble base.Unsigned h = refl
no_longdouble base.Long h = refl
no_longdouble base.UnsignedLong h = refl
no_longdouble base.WideChar h = refl
no_longdouble base.Float h = absurd (omega arith)
no_longdouble base.Double h = absurd (omega arith)
no_longdouble base.LongDouble h = absurd (omega arith)

no_double : (of : Base) → 0 < width of → same_base of base.Double ≡ false
no_double base.Void h = absurd (omega arith)
no_double base.Bool h = refl
no_double base.Char h = refl
no_double base.SignedChar h = refl
no_double base.UnsignedChar h = refl
no_double base.Short h = refl
no_double base.UnsignedShort h = refl
no_double base.Int h = refl
no_double base.Unsigned h = refl
no_double base.Long h = refl
no_double base.UnsignedLong h = refl
no_double base.WideChar h = refl
no_double base.Float h = absurd (omega arith)
no_double base.Double h = absurd (omega arith)
no_double base.LongDouble h = absurd (omega arith)

no_float : (of : Base) → 0 < width of → same_base of base.Float ≡ false
no_float base.Void h = absurd (omega arith)
no_float base.Bool h = refl
no_float base.Char h = refl
no_float base.SignedChar h = refl
no_float base.UnsignedChar h = refl
no_float base.Short h = refl
no_float base.UnsignedShort h = refl
no_float base.Int h = refl
no_float base.Unsigned h = refl
no_float base.Long h = refl
no_float base.UnsignedLong h = refl
no_float base.WideChar h = refl
no_float base.Float h = absurd (omega arith)
no_float base.Double h = absurd (omega arith)
no_float base.LongDouble h = absurd (omega arith)

neither : (a b : Bool) → a ≡ false → b ≡ false → (a || b) ≡ false
neither a b e f = cc

-- the test does not hold
past : (b : Bool) (x y : Base) → b ≡ false → 0 < width y → 0 < width (if b then x else y)
past true x y e h = cc
past false x y e h = h

one_of : (b : Bool) (x y : Base) → 0 < width x → 0 < width y → 0 < width (if b then x else y)
one_of true x y h k = h
one_of false x y h k = k

four_wide : (one two : Base) → 0 < width (usual_of_promoted one two)
four_wide one two =
    one_of (is_either base.UnsignedLong one two) base.UnsignedLong (if is_either base.Long one two then base.Long else (if is_either base.Unsigned one two then base.Unsigned else base.Int)) (omega arith)
    (one_of (is_either base.Long one two) base.Long (if is_either base.Unsigned one two then base.Unsigned else base.Int) (omega arith)
    (one_of (is_either base.Unsigned one two) base.Unsigned base.Int (omega arith) (omega arith)))

pub usual_wide : (one two : Base) → 0 < width one → 0 < width two → 0 < width (usual one two)
unfolding usual
usual_wide one two h k =
    let last : Base = usual_of_promoted (promoted_base one) (promoted_base two) in
    past (is_either base.LongDouble one two) base.LongDouble (if is_either base.Double one two then base.Double else (if is_either base.Float one two then base.Float else last)) (neither _ _ (no_longdouble one h) (no_longdouble two k))
    (past (is_either base.Double one two) base.Double (if is_either base.Float one two then base.Float else last) (neither _ _ (no_double one h) (no_double two k))
    (past (is_either base.Float one two) base.Float last (neither _ _ (no_float one h) (no_float two k)) (four_wide (promoted_base one) (promoted_base two))))

there : (of : Base) (value : ℤ) → holds of value ≡ true → holds of (to_z w128 (of_z w128 value)) ≡ true
there of value h = rw (to_z-of_z w128 value (fits_signed_from_abs w128 value (let e : unsigned_abs value < 2 ^ 64 = held_small of value h in omega arith))) h

-- the code's number for a value that was converted
pub computed_held : (of : Base) (value number : ℤ) → number ≡ converted_value of value → 0 < width of → holds of (to_z w128 (of_z w128 number)) ≡ true
computed_held of value number e h = there of number (ap (holds of) e ∙ converted_held of value h)

-- the same of a right operand, where it has the type of the left one
pub right_held : (left right : Base) (value number : ℤ) → number ≡ converted_value right value → 0 < width left → left ≡ right → holds left (to_z w128 (of_z w128 number)) ≡ true
right_held left right value number e h same = let P : Base → Type 0 = λ of. number ≡ converted_value of value in computed_held left value number (subst P (sym same) e) h
