-- The viable functions of a call as a contest, in which the better one beats the other (13.3.3).
use Rattle.std.specs.Prelude.{ℕ, ◌+◌, ◌-◌, ◌*◌, Bool, false, List, length, map, Option, Some, None, IfSome}
use Rattle.std.specs.List.{All, slice_get}
use Rattle.std.specs.Option.{option_map}
use Rattle.cxx_model.specs.declared.evidence.Evidence.{Evidence}
use Rattle.cxx_model.specs.declared.evidence.Evidence.TheVariants.{DoesNotBeat}
use Rattle.cxx_model.specs.declared.overload.Outcome.TheVariants.{Viable as IsViable}
use Rattle.cxx_model.specs.Facts.Declarations.{CxxGraph}
use Rattle.cxx_model.specs.Facts.Fitted.{Fitted}
use Rattle.cxx_model.specs.Facts.Graph.{Graph}
use Rattle.cxx_model.specs.Types.Trees.{CxxType}
use Rattle.cxx_champion.specs.declared.Verdict.{Verdict}
use Rattle.cxx_champion.specs.declared.Verdict.TheVariants.{Best, NoBest, Empty}
use Rattle.cxx_model.specs.declared.sequence.Operand.{Operand}
use Rattle.cxx_overload.specs.Choices.{CxxChoice, chosen_one, none_viable, ambiguous, shown, tie}
use Rattle.cxx_overload.specs.Viability.{Rated as RatedMeant}
use Rattle.cxx_overload.specs.declared.contender.Contender.{Contender}
use Rattle.cxx_overload.specs.declared.object.Object.{Object}
use Rattle.cxx_overload.specs.declared.champion.Choice.{Choice}
use Rattle.cxx_overload.specs.declared.champion.Choice.TheVariants as choice
use Rattle.cxx_overload.specs.Views.{candidate_at, met, passed, row_at, AreOperandsBelow, IsCandidateBelow, IsObject}

abbrev pub wins_between : {F : Type 0} → (F → F → Bool) → Option F → Option F → Bool
wins_between beats (Some one) (Some two) = beats one two
wins_between beats (Some one) None = false
wins_between beats None two = false

-- whether the contender at the first place beats the one at the second
abbrev pub wins_at : {F : Type 0} → (F → F → Bool) → List F → ℕ → ℕ → Bool
wins_at beats contenders first second = wins_between beats (slice_get contenders first) (slice_get contenders second)

-- the contender that a verdict calls the best
abbrev pub member_of : {F : Type 0} → List F → Verdict → Option F
member_of contenders (Best member) = slice_get contenders member
member_of contenders (NoBest champion counter) = None
member_of contenders Empty = None

abbrev pub member_at : {F : Type 0} → List F → Option ℕ → Option F
member_at contenders None = None
member_at contenders (Some place) = slice_get contenders place

-- ---- what the values of the code stand for

abbrev pub contender_at : List CxxType → Option Object → List Operand → Contender → RatedMeant
contender_at types object operands one = record { candidate = candidate_at types one.candidate; outcome = IsViable; sequences = row_at types (passed object operands) (met object one.candidate) one.conversions.now }

abbrev pub contenders_at : List CxxType → Option Object → List Operand → List Contender → List RatedMeant
contenders_at types object operands all = map (contender_at types object operands) all

-- the numbers of its types are below a count
pub record IsContenderBelow (count : ℕ) (one : Contender) : Type 0 where
  pub candidate : IsCandidateBelow count one.candidate

-- what comparing two contenders asks
pub record IsReady (graph : Graph) (types : List CxxType) (object : Option Object) (operands : List Operand) (members : List Contender) : Type 0 where
  pub fitted : Fitted graph types
  pub object_below : IfSome object (IsObject types)
  pub operands_below : AreOperandsBelow (length types) operands
  pub below : All (IsContenderBelow (length types)) members

abbrev pub choice_at : List CxxType → Option Object → List Operand → Choice → CxxChoice
choice_at types object operands (choice.Chosen one) = chosen_one (contender_at types object operands one)
choice_at types object operands (choice.NoneViable evidence) = none_viable evidence
choice_at types object operands (choice.Ambiguous evidence) = ambiguous evidence

-- the numbers of the types of the chosen one are below a count
abbrev pub IsChoiceBelow : ℕ → Choice → Type 0
IsChoiceBelow count (choice.Chosen one) = IsContenderBelow count one
IsChoiceBelow count _ = Unit {0}

-- The best of n is found by 2(n - 1) comparisons at most. Where none is, each is compared with the others once more.
abbrev pub most_comparisons : ℕ → Choice → ℕ
most_comparisons n (choice.Chosen one) = 2 * (n - 1)
most_comparisons n (choice.NoneViable evidence) = 0
most_comparisons n (choice.Ambiguous evidence) = 2 * (n - 1) + n * (n - 1)

-- ---- evidence

abbrev pub line_of : RatedMeant → Option RatedMeant → Option Evidence
line_of one rival = option_map (λ other. DoesNotBeat (shown one.candidate) (shown other.candidate)) rival

-- the line of the contender at a place
abbrev pub tie_at : CxxGraph → List RatedMeant → Option RatedMeant → Option Evidence
tie_at graph contenders None = None
tie_at graph contenders (Some one) = tie graph contenders one
