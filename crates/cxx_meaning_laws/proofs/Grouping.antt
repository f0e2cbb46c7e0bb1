-- The usual arithmetic conversions of three operands.
use Rattle.std.specs.Prelude.{ℕ, ◌≡◌, nat_eq, if◌then◌else◌, max, refl}
use Rattle.std.proofs.Common.{ap, sym, ◌∙◌, arith}
use Rattle.cxx_model.specs.declared.base.Base.{Base}
use Rattle.cxx_model.specs.declared.base.Base.TheVariants as base
use Rattle.cxx_meaning.specs.Conversions.Arithmetic.{usual}

-- the place of a type, promoted, among those to which the usual arithmetic conversions lead, the least first
abbrev place : Base → ℕ
place base.LongDouble = 6
place base.Double = 5
place base.Float = 4
place base.UnsignedLong = 3
place base.Long = 2
place base.Unsigned = 1
place _ = 0

abbrev at_place : ℕ → Base
at_place n =
    if nat_eq n 6 then base.LongDouble else (
    if nat_eq n 5 then base.Double else (
    if nat_eq n 4 then base.Float else (
    if nat_eq n 3 then base.UnsignedLong else (
    if nat_eq n 2 then base.Long else (
    if nat_eq n 1 then base.Unsigned else
    base.Int)))))

-- they lead to the type of the higher place
usual_highest : (one two : Base) → usual one two ≡ at_place (max (place one) (place two))
unfolding usual
usual_highest base.Void base.Void = refl
usual_highest base.Bool base.Void = refl
usual_highest base.Char base.Void = refl
usual_highest base.SignedChar base.Void = refl
usual_highest base.UnsignedChar base.Void = refl
usual_highest base.Short base.Void = refl
usual_highest base.UnsignedShort base.Void = refl
usual_highest base.Int base.Void = refl
usual_highest base.Unsigned base.Void = refl
usual_highest base.Long base.Void = refl
usual_highest base.UnsignedLong base.Void = refl
usual_highest base.WideChar base.Void = refl
usual_highest base.Float base.Void = refl
usual_highest base.Double base.Void = refl
usual_highest base.LongDouble base.Void = refl
usual_highest _ _ = refl

place_highest : (one two : Base) → place (usual one two) ≡ max (place one) (place two)
unfolding usual
place_highest base.Void base.Void = refl
place_highest base.Bool base.Void = refl
place_highest base.Char base.Void = refl
place_highest base.SignedChar base.Void = refl
place_highest base.UnsignedChar base.Void = refl
place_highest base.Short base.Void = refl
place_highest base.UnsignedShort base.Void = refl
place_highest base.Int base.Void = refl
place_highest base.Unsigned base.Void = refl
place_highest base.Long base.Void = refl
place_highest base.UnsignedLong base.Void = refl
place_highest base.WideChar base.Void = refl
place_highest base.Float base.Void = refl
place_highest base.Double base.Void = refl
place_highest base.LongDouble base.Void = refl
place_highest _ _ = refl

pub usual_grouped : (one two three : Base) → usual (usual one two) three ≡ usual one (usual two three)
usual_grouped one two three =
    let left : place (usual one two) ≡ max (place one) (place two) = place_highest one two in
    let right : place (usual two three) ≡ max (place two) (place three) = place_highest two three in
    let same : max (place (usual one two)) (place three) ≡ max (place one) (place (usual two three)) = omega (arith, left, right) in
    usual_highest (usual one two) three ∙ ap at_place same ∙ sym (usual_highest one (usual two three))
