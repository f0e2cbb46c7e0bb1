-- Candidates for the built-in operators (13.6): the types of their parameters.
use Rattle.std.specs.Prelude.{ℕ, Bool, true, false, nat_eq, if◌then◌else◌, List, [], ◌∷◌, ◌++◌, map, Option, Some, None}
use Rattle.std.specs.List.{flat_map}
use Rattle.cxx_model.specs.declared.base.Base.TheVariants as base
use Rattle.cxx_model.specs.declared.punct.TheConstants as punct
use Rattle.cxx_model.specs.declared.types.Cv.{Cv}
use Rattle.cxx_model.specs.Types.Trees.{CxxType, fundamental, reference_to, with_cv}
use Rattle.cxx_meaning.specs.declared.operator.BinaryFamily.{BinaryFamily}
use Rattle.cxx_meaning.specs.declared.operator.BinaryFamily.TheVariants as family
use Rattle.cxx_meaning.specs.declared.operator.UnaryFamily.{UnaryFamily}
use Rattle.cxx_meaning.specs.declared.operator.UnaryFamily.TheVariants as unary
use Rattle.cxx_meaning.specs.Conversions.BuiltIn.{binary_family, compound_family, unary_family}

-- ---- types

-- 13.6 p2: the promoted integral types
abbrev pub promoted_integral : List CxxType
promoted_integral = fundamental base.Int ∷ fundamental base.Unsigned ∷ fundamental base.Long ∷ fundamental base.UnsignedLong ∷ []

-- 13.6 p2: the promoted arithmetic types
abbrev pub promoted_arithmetic : List CxxType
promoted_arithmetic = fundamental base.Int ∷ fundamental base.Unsigned ∷ fundamental base.Long ∷ fundamental base.UnsignedLong ∷ fundamental base.Float ∷ fundamental base.Double ∷ fundamental base.LongDouble ∷ []

-- 3.9.1: the integral types
abbrev pub integral : List CxxType
integral = fundamental base.Bool ∷ fundamental base.Char ∷ fundamental base.SignedChar ∷ fundamental base.UnsignedChar ∷ fundamental base.Short ∷ fundamental base.UnsignedShort ∷ fundamental base.WideChar ∷ fundamental base.Int ∷ fundamental base.Unsigned ∷ fundamental base.Long ∷ fundamental base.UnsignedLong ∷ []

-- 3.9.1: the arithmetic types but `bool`
abbrev pub arithmetic_but_bool : List CxxType
arithmetic_but_bool = fundamental base.Char ∷ fundamental base.SignedChar ∷ fundamental base.UnsignedChar ∷ fundamental base.Short ∷ fundamental base.UnsignedShort ∷ fundamental base.WideChar ∷ fundamental base.Int ∷ fundamental base.Unsigned ∷ fundamental base.Long ∷ fundamental base.UnsignedLong ∷ fundamental base.Float ∷ fundamental base.Double ∷ fundamental base.LongDouble ∷ []

-- 3.9.1: the arithmetic types
abbrev pub arithmetic_types : List CxxType
arithmetic_types = fundamental base.Bool ∷ arithmetic_but_bool

abbrev pub condition : List CxxType
condition = fundamental base.Bool ∷ []

-- 18.1: the type of a distance of pointers
abbrev pub distances : List CxxType
distances = fundamental base.Long ∷ []

-- What the operands of an operator may become: pointers, those among them to objects and those to functions, and enumerations.
pub record CxxLetters : Type 0 where
  pub pointers : List CxxType
  pub objects : List CxxType
  pub functions : List CxxType
  pub enumerations : List CxxType

-- ---- lists of parameters

-- one parameter, of each of the types
abbrev pub alone : List CxxType → List (List CxxType)
alone ts = map (λ t. t ∷ []) ts

-- two parameters, the second of each of the types
abbrev pub beside : List CxxType → CxxType → List (List CxxType)
beside us t = map (λ u. t ∷ u ∷ []) us

-- two parameters, the first of each of some types, and for each of them the second of each of others
abbrev pub both : List CxxType → List CxxType → List (List CxxType)
both ts us = flat_map (beside us) ts

-- two parameters of one type, of each of the types
abbrev pub twice : List CxxType → List (List CxxType)
twice ts = map (λ t. t ∷ t ∷ []) ts

abbrev pub volatile : Cv
volatile = record { is_const = false; is_volatile = true }

-- 13.6: what changes an object has a candidate for objects of each type, and one for volatile objects
abbrev pub changing : List CxxType → CxxType → List (List CxxType)
changing others t = (reference_to t ∷ others) ∷ (reference_to (with_cv volatile t) ∷ others) ∷ []

abbrev pub changing_alone : List CxxType → List CxxType → List (List CxxType)
changing_alone others ts = flat_map (changing others) ts

abbrev pub changing_beside : List CxxType → CxxType → List (List CxxType)
changing_beside us t = flat_map (λ u. changing (u ∷ []) t) us

abbrev pub changing_both : List CxxType → List CxxType → List (List CxxType)
changing_both ts us = flat_map (changing_beside us) ts

abbrev pub changing_same : List CxxType → List (List CxxType)
changing_same ts = flat_map (λ t. changing (t ∷ []) t) ts

-- ---- operators

-- 13.6 p3, p4, p5: `++` and `--`, which have a second operand where they stand behind their operand
abbrev pub stepped : List CxxType → List CxxType → CxxLetters → List (List CxxType)
stepped numbers others letters = changing_alone others numbers ++ changing_alone others letters.objects

-- 13.6 p6, p7: `*` of one operand
abbrev pub followed : CxxLetters → List (List CxxType)
followed letters = alone letters.objects ++ alone letters.functions

-- 13.6 p8, p9: `+` of one operand
abbrev pub kept : CxxLetters → List (List CxxType)
kept letters = alone promoted_arithmetic ++ alone letters.pointers

-- 13.6 p12, p13: `+`
abbrev pub sums : CxxLetters → List (List CxxType)
sums letters = both promoted_arithmetic promoted_arithmetic ++ both letters.objects distances ++ both distances letters.objects

-- 13.6 p12, p13, p14: `-`
abbrev pub differences : CxxLetters → List (List CxxType)
differences letters = both promoted_arithmetic promoted_arithmetic ++ both letters.objects distances ++ twice letters.objects

-- 13.6 p12, p15: comparisons
abbrev pub comparisons : CxxLetters → List (List CxxType)
comparisons letters = both promoted_arithmetic promoted_arithmetic ++ twice letters.pointers ++ twice letters.enumerations

-- 13.6 p13: `[]`
abbrev pub elements : CxxLetters → List (List CxxType)
elements letters = both letters.objects distances ++ both distances letters.objects

-- 13.6 p18 to p20: `=`
abbrev pub assignments : CxxLetters → List (List CxxType)
assignments letters = changing_both arithmetic_types promoted_arithmetic ++ changing_same letters.pointers ++ changing_same letters.enumerations

-- 13.6 p18, p21: `+=` and `-=`
abbrev pub additions : CxxLetters → List (List CxxType)
additions letters = changing_both arithmetic_types promoted_arithmetic ++ changing_both letters.objects distances

-- 13.6 p3, p4: `--` changes no `bool`
abbrev pub stepped_numbers : Bool → List CxxType
stepped_numbers true = arithmetic_but_bool
stepped_numbers false = arithmetic_types

-- 13.6 p3 to p10, p23: with one operand
abbrev pub unary_by : CxxLetters → Option UnaryFamily → List (List CxxType)
unary_by letters None = []
unary_by letters (Some unary.Increment) = stepped (stepped_numbers false) [] letters
unary_by letters (Some unary.Decrement) = stepped (stepped_numbers true) [] letters
unary_by letters (Some unary.Follow) = followed letters
unary_by letters (Some unary.Plus) = kept letters
unary_by letters (Some unary.Minus) = alone promoted_arithmetic
unary_by letters (Some unary.Complement) = alone promoted_integral
unary_by letters (Some unary.Not) = alone condition
unary_by letters (Some unary.Address) = []

-- 13.6 p12 to p17, p23, and p18 to p20 for `=`: with two operands
abbrev pub binary_by : CxxLetters → BinaryFamily → List (List CxxType)
binary_by letters family.Multiply = both promoted_arithmetic promoted_arithmetic
binary_by letters family.Add = sums letters
binary_by letters family.Subtract = differences letters
binary_by letters family.Bits = both promoted_integral promoted_integral
binary_by letters family.Shift = both promoted_integral promoted_integral
binary_by letters family.Compare = comparisons letters
binary_by letters family.Logic = both condition condition
binary_by letters family.Subscript = elements letters
binary_by letters family.Assign = assignments letters
binary_by letters family.Comma = []

-- 13.6 p18, p21, p22: an assignment with an operator
abbrev pub compound_by : CxxLetters → BinaryFamily → List (List CxxType)
compound_by letters family.Multiply = changing_both arithmetic_types promoted_arithmetic
compound_by letters family.Add = additions letters
compound_by letters family.Subtract = additions letters
compound_by letters family.Bits = changing_both integral promoted_integral
compound_by letters family.Shift = changing_both integral promoted_integral
compound_by letters _ = []

abbrev pub compound_candidates : CxxLetters → Option BinaryFamily → List (List CxxType)
compound_candidates letters None = []
compound_candidates letters (Some found) = compound_by letters found

abbrev pub family_candidates : CxxLetters → Option BinaryFamily → Option BinaryFamily → List (List CxxType)
family_candidates letters None compound = compound_candidates letters compound
family_candidates letters (Some found) compound = binary_by letters found

-- 5.2.6: whether an operator is `++` or `--`, and the latter
abbrev pub stepping : ℕ → Option Bool
stepping operator =
    if nat_eq operator punct.INCREMENT then Some false else (
    if nat_eq operator punct.DECREMENT then Some true else
    None)

-- 13.6 p3 to p5: behind their operand they have an `int` as the second
abbrev pub stepped_or : CxxLetters → Option Bool → List (List CxxType) → List (List CxxType)
stepped_or letters None others = others
stepped_or letters (Some down) others = stepped (stepped_numbers down) (fundamental base.Int ∷ []) letters

-- the candidates for an operator with one operand
abbrev pub unary_candidates : CxxLetters → ℕ → List (List CxxType)
unary_candidates letters operator = unary_by letters (unary_family operator)

-- the candidates for an operator with two operands
abbrev pub binary_candidates : CxxLetters → ℕ → List (List CxxType)
binary_candidates letters operator = stepped_or letters (stepping operator) (family_candidates letters (binary_family operator) (compound_family operator))
