-- The usual arithmetic conversions, done twice.
use Rattle.std.proofs.Common.{◌≡◌, Bool, true, false, refl, if◌then◌else◌}
use Rattle.cxx_model.specs.declared.base.Base.{Base}
use Rattle.cxx_model.specs.declared.base.Base.TheVariants as base
use Rattle.cxx_meaning.specs.Conversions.Arithmetic.{is_either, usual, usual_of_promoted}
use Rattle.cxx_meaning.specs.Conversions.Standard.{promoted_base}

abbrev Stays : Base → Type 0
Stays of = usual of of ≡ of

one_of : (b : Bool) (x y : Base) → Stays x → Stays y → Stays (if b then x else y)
one_of true x y h k = h
one_of false x y h k = k

four_stay : (one two : Base) → Stays (usual_of_promoted one two)
unfolding usual
four_stay one two =
    one_of (is_either base.UnsignedLong one two) base.UnsignedLong (if is_either base.Long one two then base.Long else (if is_either base.Unsigned one two then base.Unsigned else base.Int)) refl
    (one_of (is_either base.Long one two) base.Long (if is_either base.Unsigned one two then base.Unsigned else base.Int) refl
    (one_of (is_either base.Unsigned one two) base.Unsigned base.Int refl refl))

pub usual_again : (one two : Base) → usual (usual one two) (usual one two) ≡ usual one two
unfolding usual
usual_again one two =
    let last : Base = usual_of_promoted (promoted_base one) (promoted_base two) in
    one_of (is_either base.LongDouble one two) base.LongDouble (if is_either base.Double one two then base.Double else (if is_either base.Float one two then base.Float else last)) refl
    (one_of (is_either base.Double one two) base.Double (if is_either base.Float one two then base.Float else last) refl
    (one_of (is_either base.Float one two) base.Float last refl (four_stay (promoted_base one) (promoted_base two))))
