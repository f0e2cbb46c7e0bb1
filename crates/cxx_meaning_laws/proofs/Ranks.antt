-- The rank of the conversion from each fundamental type to each, as clang++ and g++ have it: made by bench/meanings/ranks.py.
use Rattle.std.specs.Prelude.{◌≡◌, false, List, [], ◌∷◌, map, Option, Some, None, Ok, refl}
use Rattle.cxx_model.specs.declared.base.Base.{Base}
use Rattle.cxx_model.specs.declared.base.Base.TheVariants as base
use Rattle.cxx_model.specs.declared.sequence.ConstantKind.TheVariants as constant
use Rattle.cxx_model.specs.declared.sequence.Rank.{Rank}
use Rattle.cxx_model.specs.declared.sequence.Rank.TheVariants.{Exact, Promotion, Conversion}
use Rattle.cxx_model.specs.Facts.Declarations.{CxxGraph}
use Rattle.cxx_model.specs.Types.Trees.{fundamental}
use Rattle.cxx_meaning.specs.Conversions.Asking.{Asked}
use Rattle.cxx_meaning.specs.Conversions.Standard.{CxxOperand, CxxStandard, rank, standard_sequence, steps_between, steps_of_value, steps_by_kinds, steps_to_scalar, steps_of_kinds, steps_of_arithmetic, value_step}

abbrev graph : CxxGraph
graph = record { facts = []; classes = []; patterns = [] }

abbrev value : Base → CxxOperand
value of = record { of = fundamental of; lvalue = false; constant = constant.No }

abbrev ranked : Asked (Option CxxStandard) → Option Rank
ranked (Ok (Some one)) = Some (rank one)
ranked _ = None

abbrev bases : List Base
bases = base.Void ∷ base.Bool ∷ base.Char ∷ base.SignedChar ∷ base.UnsignedChar ∷ base.Short ∷ base.UnsignedShort ∷ base.Int ∷ base.Unsigned ∷ base.Long ∷ base.UnsignedLong ∷ base.WideChar ∷ base.Float ∷ base.Double ∷ base.LongDouble ∷ []

abbrev ranks : Base → List (Option Rank)
ranks from = map (λ to. ranked (standard_sequence graph (value from) (fundamental to))) bases

-- void
ranked_1 : ranks base.Void ≡ (None ∷ None ∷ None ∷ None ∷ None ∷ None ∷ None ∷ None ∷ None ∷ None ∷ None ∷ None ∷ None ∷ None ∷ None ∷ [])
unfolding standard_sequence steps_between steps_of_value steps_by_kinds steps_to_scalar steps_of_kinds steps_of_arithmetic value_step
ranked_1 = refl

-- bool
ranked_2 : ranks base.Bool ≡ (None ∷ Some Exact ∷ Some Conversion ∷ Some Conversion ∷ Some Conversion ∷ Some Conversion ∷ Some Conversion ∷ Some Promotion ∷ Some Conversion ∷ Some Conversion ∷ Some Conversion ∷ Some Conversion ∷ Some Conversion ∷ Some Conversion ∷ Some Conversion ∷ [])
unfolding standard_sequence steps_between steps_of_value steps_by_kinds steps_to_scalar steps_of_kinds steps_of_arithmetic value_step
ranked_2 = refl

-- char
ranked_3 : ranks base.Char ≡ (None ∷ Some Conversion ∷ Some Exact ∷ Some Conversion ∷ Some Conversion ∷ Some Conversion ∷ Some Conversion ∷ Some Promotion ∷ Some Conversion ∷ Some Conversion ∷ Some Conversion ∷ Some Conversion ∷ Some Conversion ∷ Some Conversion ∷ Some Conversion ∷ [])
unfolding standard_sequence steps_between steps_of_value steps_by_kinds steps_to_scalar steps_of_kinds steps_of_arithmetic value_step
ranked_3 = refl

-- signed char
ranked_4 : ranks base.SignedChar ≡ (None ∷ Some Conversion ∷ Some Conversion ∷ Some Exact ∷ Some Conversion ∷ Some Conversion ∷ Some Conversion ∷ Some Promotion ∷ Some Conversion ∷ Some Conversion ∷ Some Conversion ∷ Some Conversion ∷ Some Conversion ∷ Some Conversion ∷ Some Conversion ∷ [])
unfolding standard_sequence steps_between steps_of_value steps_by_kinds steps_to_scalar steps_of_kinds steps_of_arithmetic value_step
ranked_4 = refl

-- unsigned char
ranked_5 : ranks base.UnsignedChar ≡ (None ∷ Some Conversion ∷ Some Conversion ∷ Some Conversion ∷ Some Exact ∷ Some Conversion ∷ Some Conversion ∷ Some Promotion ∷ Some Conversion ∷ Some Conversion ∷ Some Conversion ∷ Some Conversion ∷ Some Conversion ∷ Some Conversion ∷ Some Conversion ∷ [])
unfolding standard_sequence steps_between steps_of_value steps_by_kinds steps_to_scalar steps_of_kinds steps_of_arithmetic value_step
ranked_5 = refl

-- short
ranked_6 : ranks base.Short ≡ (None ∷ Some Conversion ∷ Some Conversion ∷ Some Conversion ∷ Some Conversion ∷ Some Exact ∷ Some Conversion ∷ Some Promotion ∷ Some Conversion ∷ Some Conversion ∷ Some Conversion ∷ Some Conversion ∷ Some Conversion ∷ Some Conversion ∷ Some Conversion ∷ [])
unfolding standard_sequence steps_between steps_of_value steps_by_kinds steps_to_scalar steps_of_kinds steps_of_arithmetic value_step
ranked_6 = refl

-- unsigned short
ranked_7 : ranks base.UnsignedShort ≡ (None ∷ Some Conversion ∷ Some Conversion ∷ Some Conversion ∷ Some Conversion ∷ Some Conversion ∷ Some Exact ∷ Some Promotion ∷ Some Conversion ∷ Some Conversion ∷ Some Conversion ∷ Some Conversion ∷ Some Conversion ∷ Some Conversion ∷ Some Conversion ∷ [])
unfolding standard_sequence steps_between steps_of_value steps_by_kinds steps_to_scalar steps_of_kinds steps_of_arithmetic value_step
ranked_7 = refl

-- int
ranked_8 : ranks base.Int ≡ (None ∷ Some Conversion ∷ Some Conversion ∷ Some Conversion ∷ Some Conversion ∷ Some Conversion ∷ Some Conversion ∷ Some Exact ∷ Some Conversion ∷ Some Conversion ∷ Some Conversion ∷ Some Conversion ∷ Some Conversion ∷ Some Conversion ∷ Some Conversion ∷ [])
unfolding standard_sequence steps_between steps_of_value steps_by_kinds steps_to_scalar steps_of_kinds steps_of_arithmetic value_step
ranked_8 = refl

-- unsigned
ranked_9 : ranks base.Unsigned ≡ (None ∷ Some Conversion ∷ Some Conversion ∷ Some Conversion ∷ Some Conversion ∷ Some Conversion ∷ Some Conversion ∷ Some Conversion ∷ Some Exact ∷ Some Conversion ∷ Some Conversion ∷ Some Conversion ∷ Some Conversion ∷ Some Conversion ∷ Some Conversion ∷ [])
unfolding standard_sequence steps_between steps_of_value steps_by_kinds steps_to_scalar steps_of_kinds steps_of_arithmetic value_step
ranked_9 = refl

-- long
ranked_10 : ranks base.Long ≡ (None ∷ Some Conversion ∷ Some Conversion ∷ Some Conversion ∷ Some Conversion ∷ Some Conversion ∷ Some Conversion ∷ Some Conversion ∷ Some Conversion ∷ Some Exact ∷ Some Conversion ∷ Some Conversion ∷ Some Conversion ∷ Some Conversion ∷ Some Conversion ∷ [])
unfolding standard_sequence steps_between steps_of_value steps_by_kinds steps_to_scalar steps_of_kinds steps_of_arithmetic value_step
ranked_10 = refl

-- unsigned long
ranked_11 : ranks base.UnsignedLong ≡ (None ∷ Some Conversion ∷ Some Conversion ∷ Some Conversion ∷ Some Conversion ∷ Some Conversion ∷ Some Conversion ∷ Some Conversion ∷ Some Conversion ∷ Some Conversion ∷ Some Exact ∷ Some Conversion ∷ Some Conversion ∷ Some Conversion ∷ Some Conversion ∷ [])
unfolding standard_sequence steps_between steps_of_value steps_by_kinds steps_to_scalar steps_of_kinds steps_of_arithmetic value_step
ranked_11 = refl

-- wchar_t
ranked_12 : ranks base.WideChar ≡ (None ∷ Some Conversion ∷ Some Conversion ∷ Some Conversion ∷ Some Conversion ∷ Some Conversion ∷ Some Conversion ∷ Some Promotion ∷ Some Conversion ∷ Some Conversion ∷ Some Conversion ∷ Some Exact ∷ Some Conversion ∷ Some Conversion ∷ Some Conversion ∷ [])
unfolding standard_sequence steps_between steps_of_value steps_by_kinds steps_to_scalar steps_of_kinds steps_of_arithmetic value_step
ranked_12 = refl

-- float
ranked_13 : ranks base.Float ≡ (None ∷ Some Conversion ∷ Some Conversion ∷ Some Conversion ∷ Some Conversion ∷ Some Conversion ∷ Some Conversion ∷ Some Conversion ∷ Some Conversion ∷ Some Conversion ∷ Some Conversion ∷ Some Conversion ∷ Some Exact ∷ Some Promotion ∷ Some Conversion ∷ [])
unfolding standard_sequence steps_between steps_of_value steps_by_kinds steps_to_scalar steps_of_kinds steps_of_arithmetic value_step
ranked_13 = refl

-- double
ranked_14 : ranks base.Double ≡ (None ∷ Some Conversion ∷ Some Conversion ∷ Some Conversion ∷ Some Conversion ∷ Some Conversion ∷ Some Conversion ∷ Some Conversion ∷ Some Conversion ∷ Some Conversion ∷ Some Conversion ∷ Some Conversion ∷ Some Conversion ∷ Some Exact ∷ Some Conversion ∷ [])
unfolding standard_sequence steps_between steps_of_value steps_by_kinds steps_to_scalar steps_of_kinds steps_of_arithmetic value_step
ranked_14 = refl

-- long double
ranked_15 : ranks base.LongDouble ≡ (None ∷ Some Conversion ∷ Some Conversion ∷ Some Conversion ∷ Some Conversion ∷ Some Conversion ∷ Some Conversion ∷ Some Conversion ∷ Some Conversion ∷ Some Conversion ∷ Some Conversion ∷ Some Conversion ∷ Some Conversion ∷ Some Conversion ∷ Some Exact ∷ [])
unfolding standard_sequence steps_between steps_of_value steps_by_kinds steps_to_scalar steps_of_kinds steps_of_arithmetic value_step
ranked_15 = refl
