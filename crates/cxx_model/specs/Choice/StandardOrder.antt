-- The order of two standard conversion sequences (13.3.3.2).
use Rattle.std.specs.Prelude.{ℕ, Bool, true, false, ◌&&◌, if◌then◌else◌, ◌==◌, nat_lt, List, [], ◌∷◌, length}
use Rattle.cxx_model.specs.declared.sequence.Second.{Second}
use Rattle.cxx_model.specs.declared.sequence.Second.TheVariants.{IntegralPromotion, FloatingPromotion, Integral, Floating, FloatingIntegral, Pointer, Boolean, DerivedToBase}
use Rattle.cxx_model.specs.declared.sequence.ArithmeticSequence.{ArithmeticSequence}
use Rattle.cxx_model.specs.declared.sequence.Rank.{Rank}
use Rattle.cxx_model.specs.declared.sequence.Rank.TheVariants.{Exact, Promotion, Conversion}
use Rattle.cxx_model.specs.declared.sequence.Order.{Order}
use Rattle.cxx_model.specs.declared.sequence.Order.TheVariants.{Better, Worse, Same}
use Rattle.cxx_model.specs.Choice.Standard.{steps, rank}

-- how two values stand to each other by a test that says which is the better one
abbrev pub order_by : {S : Type 0} → (S → S → Bool) → S → S → Order
order_by better one two = if better one two then Better else (if better two one then Worse else Same)

-- the first criterion that tells two sequences apart decides
abbrev pub else_by : Order → Order → Order
else_by Better later = Better
else_by Worse later = Worse
else_by Same later = later

abbrev pub number_of_step : Second → ℕ
number_of_step IntegralPromotion = 0
number_of_step FloatingPromotion = 1
number_of_step Integral = 2
number_of_step Floating = 3
number_of_step FloatingIntegral = 4
number_of_step Pointer = 5
number_of_step Boolean = 6
number_of_step DerivedToBase = 7

abbrev pub same_step : Second → Second → Bool
same_step one two = number_of_step one == number_of_step two

abbrev pub is_subsequence : List Second → List Second → Bool
is_subsequence [] others = true
is_subsequence (step ∷ later) [] = false
is_subsequence (step ∷ later) (other ∷ others) = if same_step step other then is_subsequence later others else is_subsequence (step ∷ later) others

-- The identity is a proper subsequence of every sequence that is not the identity.
abbrev pub is_proper_subsequence : ArithmeticSequence → ArithmeticSequence → Bool
is_proper_subsequence one two = nat_lt (length (steps one)) (length (steps two)) && is_subsequence (steps one) (steps two)

abbrev pub number_of_rank : Rank → ℕ
number_of_rank Exact = 0
number_of_rank Promotion = 1
number_of_rank Conversion = 2

abbrev pub has_better_rank : ArithmeticSequence → ArithmeticSequence → Bool
has_better_rank one two = nat_lt (number_of_rank (rank one)) (number_of_rank (rank two))

-- first the proper subsequence, then the rank
unfoldable pub compare : ArithmeticSequence → ArithmeticSequence → Order
compare one two = else_by (order_by is_proper_subsequence one two) (order_by has_better_rank one two)
