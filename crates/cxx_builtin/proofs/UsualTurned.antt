-- The usual arithmetic conversions turned round.
use Rattle.std.specs.Prelude.{◌≡◌, Bool, true, false, ◌||◌, if◌then◌else◌, refl}
use Rattle.std.proofs.Common.{ap, ◌∙◌}
use Rattle.cxx_model.specs.declared.base.Base.{Base}
use Rattle.cxx_model.specs.declared.base.Base.TheVariants as base
use Rattle.cxx_model.specs.Choice.Standard.{same_base}
use Rattle.cxx_meaning.specs.Conversions.Arithmetic.{is_either, usual, usual_of_promoted}
use Rattle.cxx_meaning.specs.Conversions.Standard.{promoted_base}

either : (a b : Bool) → (a || b) ≡ (b || a)
either true true = refl
either true false = refl
either false true = refl
either false false = refl

is-either-turned : (wanted one two : Base) → is_either wanted two one ≡ is_either wanted one two
is-either-turned wanted one two = either (same_base two wanted) (same_base one wanted)

promoted-turned : (one two : Base) → usual_of_promoted two one ≡ usual_of_promoted one two
promoted-turned one two =
    ap (λ b. if b then base.UnsignedLong else (if is_either base.Long two one then base.Long else (if is_either base.Unsigned two one then base.Unsigned else base.Int))) (is-either-turned base.UnsignedLong one two) ∙
    ap (λ b. if is_either base.UnsignedLong one two then base.UnsignedLong else (if b then base.Long else (if is_either base.Unsigned two one then base.Unsigned else base.Int))) (is-either-turned base.Long one two) ∙
    ap (λ b. if is_either base.UnsignedLong one two then base.UnsignedLong else (if is_either base.Long one two then base.Long else (if b then base.Unsigned else base.Int))) (is-either-turned base.Unsigned one two)

pub usual_turned : (one two : Base) → usual two one ≡ usual one two
unfolding usual
usual_turned one two =
    let last : Base → Base → Base = λ a b. usual_of_promoted (promoted_base a) (promoted_base b) in
    ap (λ b. if b then base.LongDouble else (if is_either base.Double two one then base.Double else (if is_either base.Float two one then base.Float else last two one))) (is-either-turned base.LongDouble one two) ∙
    ap (λ b. if is_either base.LongDouble one two then base.LongDouble else (if b then base.Double else (if is_either base.Float two one then base.Float else last two one))) (is-either-turned base.Double one two) ∙
    ap (λ b. if is_either base.LongDouble one two then base.LongDouble else (if is_either base.Double one two then base.Double else (if b then base.Float else last two one))) (is-either-turned base.Float one two) ∙
    ap (λ t. if is_either base.LongDouble one two then base.LongDouble else (if is_either base.Double one two then base.Double else (if is_either base.Float one two then base.Float else t))) (promoted-turned (promoted_base one) (promoted_base two))
