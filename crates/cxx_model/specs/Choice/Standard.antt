-- Standard conversion sequences between arithmetic types (clause 4, 13.3.3.1.1).
use Rattle.std.specs.Prelude.{ℕ, Bool, ◌&&◌, ◌||◌, if◌then◌else◌, ◌==◌, List, [], ◌∷◌, Option, Some, None}
use Rattle.cxx_model.specs.declared.base.Base.{Base}
use Rattle.cxx_model.specs.declared.base.Base.TheVariants.{Bool as BoolType}
use Rattle.cxx_model.specs.declared.sequence.Second.{Second}
use Rattle.cxx_model.specs.declared.sequence.Second.TheVariants.{IntegralPromotion, FloatingPromotion, Integral, Floating, FloatingIntegral, Pointer, Boolean, DerivedToBase}
use Rattle.cxx_model.specs.declared.sequence.ArithmeticSequence.{ArithmeticSequence}
use Rattle.cxx_model.specs.declared.sequence.Rank.{Rank}
use Rattle.cxx_model.specs.declared.sequence.Rank.TheVariants.{Exact, Promotion, Conversion}
use Rattle.cxx_model.specs.Types.Bases.{base_row}

-- What conversions ask of a fundamental type by itself.
pub record Row : Type 0 where
  -- its place in the table, by which two types are told apart
  pub number : ℕ
  -- 3.9.1: a floating type, and else an integral one
  pub is_floating : Bool
  -- 4.5, 4.6: the type to which it is promoted, and else itself
  pub promoted : Base

-- the row of a type in the table of all
abbrev pub row : Base → Row
row of = record { number = (base_row of).number; is_floating = (base_row of).is_floating; promoted = (base_row of).promoted }

abbrev pub same_base : Base → Base → Bool
same_base one two = (row one).number == (row two).number

-- 4.5, 4.6: a promotion leads to the type to which the type is promoted
abbrev pub promotion : Base → Second
promotion from = if (row from).is_floating then FloatingPromotion else IntegralPromotion

-- 4.12 to `bool`; 4.8 between floating types; 4.7 between integral types; 4.9 from one kind to the other
abbrev pub conversion : Base → Base → Second
conversion from to =
    if same_base to BoolType then Boolean else (
    if (row from).is_floating && (row to).is_floating then Floating else (
    if (row from).is_floating || (row to).is_floating then FloatingIntegral else
    Integral))

-- No step where the types are the same, else a promotion where it leads to the type, else a conversion.
abbrev pub second_step : Base → Base → Option Second
second_step from to =
    if same_base from to then None else (
    if same_base (row from).promoted to then Some (promotion from) else
    Some (conversion from to))

-- The sequence that leads from an rvalue of one arithmetic type to another; there always is one.
unfoldable pub standard_sequence : Base → Base → ArithmeticSequence
standard_sequence from to = record { from = from; to = to; second = second_step from to }

-- the steps of a sequence, in order
abbrev pub steps : ArithmeticSequence → List Second
steps sequence = listed sequence.second
  where
    listed : Option Second → List Second
    listed None = []
    listed (Some second) = second ∷ []

-- table 9: the rank of a step
abbrev pub rank_of_step : Second → Rank
rank_of_step IntegralPromotion = Promotion
rank_of_step FloatingPromotion = Promotion
rank_of_step Integral = Conversion
rank_of_step Floating = Conversion
rank_of_step FloatingIntegral = Conversion
rank_of_step Pointer = Conversion
rank_of_step Boolean = Conversion
rank_of_step DerivedToBase = Conversion

abbrev pub worse_rank : Rank → Rank → Rank
worse_rank Exact other = other
worse_rank Promotion Conversion = Conversion
worse_rank Promotion other = Promotion
worse_rank Conversion other = Conversion

-- 13.3.3.1.1: the rank of a sequence is the worst rank of its steps, and exact where it has none
abbrev pub rank_of_steps : List Second → Rank
rank_of_steps [] = Exact
rank_of_steps (second ∷ others) = worse_rank (rank_of_step second) (rank_of_steps others)

abbrev pub rank : ArithmeticSequence → Rank
rank sequence = rank_of_steps (steps sequence)
