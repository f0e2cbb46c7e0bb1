-- The steps of a standard conversion sequence, and when one sequence is a proper subsequence of another (13.3.3.1.1,
-- 13.3.3.2).
use Rattle.std.specs.Prelude.{◌≡◌, ◌<◌, ◌⊎◌, Bool, true, false, List, [], ◌∷◌, length, Option, Some, None}
use Rattle.cxx_model.specs.declared.sequence.Second.{Second}
use Rattle.cxx_model.specs.Types.Trees.{CxxType, Similar}
use Rattle.cxx_meaning.specs.Conversions.Order.{target}
use Rattle.cxx_meaning.specs.Conversions.Standard.{CxxStandard}

-- what a step does
pub data CxxAction : Type 0 where
  -- 4.5 to 4.10, 4.12, 13.3.3.1: a promotion or a conversion
  converts : Second → CxxAction
  -- 4.4
  qualifies : CxxAction

-- A step, and the type that it gives, whose cv words at the top and behind each `*` do not count here: a qualification
-- behind the step sets them.
pub record CxxStep : Type 0 where
  pub does : CxxAction
  pub gives : CxxType

abbrev pub step : CxxAction → CxxType → CxxStep
step does gives = record { does = does; gives = gives }

-- ---- the steps of a sequence

abbrev pub converted : Option Second → CxxType → List CxxStep → List CxxStep
converted None gives later = later
converted (Some does) gives later = step (converts does) gives ∷ later

abbrev pub qualified_at_last : Bool → CxxType → List CxxStep
qualified_at_last false gives = []
qualified_at_last true gives = step qualifies gives ∷ []

-- 13.3.3.1.1: the steps in their order, lvalue transformations left out. The identity has none.
abbrev pub steps_in : CxxStandard → List CxxStep
steps_in one = converted one.second (target one.to) (qualified_at_last one.third (target one.to))

-- ---- subsequences

-- two steps are the same where they do the same and give similar types (4.4)
abbrev pub IsSameStep : CxxStep → CxxStep → Type 0
IsSameStep one two = (one.does ≡ two.does) × Similar one.gives two.gives

-- each step of the first is, in order, a step of the second
abbrev pub IsSubsequence : List CxxStep → List CxxStep → Type 0
IsSubsequence [] others = Unit {0}
IsSubsequence (step ∷ later) [] = ⊥
IsSubsequence (step ∷ later) (other ∷ others) = (IsSameStep step other × IsSubsequence later others) ⊎ IsSubsequence (step ∷ later) others

-- 13.3.3.2: The steps of the first are among those of the second, which has a step more. So the identity is a proper
-- subsequence of every other sequence.
abbrev pub IsProperSubsequence : CxxStandard → CxxStandard → Type 0
IsProperSubsequence one two = IsSubsequence (steps_in one) (steps_in two) × (length (steps_in one) < length (steps_in two))
