-- Operands with arithmetic values (4.5, clause 5).
use Rattle.std.specs.Prelude.{Bool, ◌||◌, if◌then◌else◌, Option, Some, None}
use Rattle.cxx_model.specs.declared.base.Base.{Base}
use Rattle.cxx_model.specs.declared.base.Base.TheVariants as base
use Rattle.cxx_model.specs.Choice.Standard.{same_base}
use Rattle.cxx_model.specs.Facts.Declarations.{CxxGraph}
use Rattle.cxx_meaning.specs.Conversions.Enumerations.{promoted}
use Rattle.cxx_meaning.specs.Conversions.Kinds.{CxxKind, arithmetic, enumerated}
use Rattle.cxx_meaning.specs.Conversions.Standard.{is_floating, promoted_base}

-- The arithmetic type of a value, where it has one; a value of an enumeration has the type to which it is promoted.
abbrev pub number_of : CxxGraph → CxxKind → Option Base
number_of graph (arithmetic of) = Some of
number_of graph (enumerated n) = promoted graph n
number_of graph _ = None

abbrev pub if_integral : Option Base → Option Base
if_integral None = None
if_integral (Some of) = if is_floating of then None else Some of

-- the same of an integral type
abbrev pub integer_of : CxxGraph → CxxKind → Option Base
integer_of graph kind = if_integral (number_of graph kind)

-- 4.5: the integral promotions alone
abbrev pub integral_promoted : Base → Base
integral_promoted of = if is_floating of then of else promoted_base of

abbrev pub is_either : Base → Base → Base → Bool
is_either wanted one two = same_base one wanted || same_base two wanted

abbrev pub usual_of_promoted : Base → Base → Base
usual_of_promoted one two =
    if is_either base.UnsignedLong one two then base.UnsignedLong else (
    if is_either base.Long one two then base.Long else (
    if is_either base.Unsigned one two then base.Unsigned else
    base.Int))

-- 5: the usual arithmetic conversions; `long` holds the values of `unsigned`
unfoldable pub usual : Base → Base → Base
usual one two =
    if is_either base.LongDouble one two then base.LongDouble else (
    if is_either base.Double one two then base.Double else (
    if is_either base.Float one two then base.Float else
    usual_of_promoted (promoted_base one) (promoted_base two)))
