-- Which function a call means, among functions of one scope (13.3).
use Rattle.std.specs.Prelude.{ℕ, zero, suc, Bool, true, false, not, ◌&&◌, if◌then◌else◌, nat_lt, List, [], ◌∷◌, length, filter, filter_map, Option, Some, None, option_map, Ok}
use Rattle.cxx_model.specs.declared.evidence.Evidence.{Evidence}
use Rattle.cxx_model.specs.declared.evidence.Evidence.TheVariants.{DoesNotBeat, Refused}
use Rattle.cxx_model.specs.declared.evidence.Reason.TheVariants.{TooFewArguments, TooManyArguments, NoConversion}
use Rattle.cxx_model.specs.declared.evidence.Shown.{Shown}
use Rattle.cxx_model.specs.declared.evidence.Shown.TheVariants.{Declared as ShownAt}
use Rattle.cxx_model.specs.declared.overload.Outcome.{Outcome}
use Rattle.cxx_model.specs.declared.overload.Outcome.TheVariants.{Viable, NotViable}
use Rattle.cxx_model.specs.declared.place.Place.{Place}
use Rattle.cxx_model.specs.declared.sequence.Order.{Order}
use Rattle.cxx_model.specs.declared.sequence.Order.TheVariants.{Same}
use Rattle.cxx_model.specs.Choice.Better.{is_better, best, counter}
use Rattle.cxx_model.specs.Facts.Declarations as facts
use Rattle.cxx_model.specs.Facts.Declarations.{CxxGraph, Declares}
use Rattle.cxx_model.specs.Types.Trees.{CxxType, CxxTypes, function_of, no_types, type_then}
use Rattle.cxx_meaning.specs.Conversions.Asking.{Asked, ◌>>=◌}
use Rattle.cxx_meaning.specs.Conversions.Order.{order_of}
use Rattle.cxx_meaning.specs.Conversions.Standard.{CxxOperand, CxxStandard, standard_sequence}
use Rattle.cxx_reading.specs.Seen.{Numbered}

-- ---- candidates (13.3.1)

-- a function that a call may mean, with its number among the candidates, from 1
pub record CxxCandidate : Type 0 where
  pub position : ℕ
  pub number : ℕ
  pub place : Place
  pub result : CxxType
  pub parameters : List CxxType
  pub ellipsis : Bool

abbrev pub each_type : CxxTypes → List CxxType
each_type no_types = []
each_type (type_then of others) = of ∷ each_type others

abbrev pub candidate_by : ℕ → ℕ → Place → CxxType → Option CxxCandidate
candidate_by position number place (function_of result parameters ellipsis cv) = Some (record { position = position; number = number; place = place; result = result; parameters = each_type parameters; ellipsis = ellipsis })
candidate_by position number place _ = None

abbrev pub candidate_by_what : ℕ → ℕ → Place → Declares → Option CxxCandidate
candidate_by_what position number place (facts.function of kind flags defaults None) = candidate_by position number place of
candidate_by_what position number place _ = None

abbrev pub candidate_of : ℕ → Numbered → Option CxxCandidate
candidate_of position one = candidate_by_what position one.number one.fact.place one.fact.what

abbrev pub put : Option CxxCandidate → (ℕ → List CxxCandidate) → ℕ → List CxxCandidate
put None later position = later position
put (Some candidate) later position = candidate ∷ later (suc position)

abbrev pub candidates_from : List Numbered → ℕ → List CxxCandidate
candidates_from [] position = []
candidates_from (one ∷ others) position = put (candidate_of position one) (candidates_from others) position

-- 13.3.1.1.1: every function among the declarations of a name, once, in the order of their first declarations
unfoldable pub candidates : List Numbered → List CxxCandidate
candidates all = candidates_from all (suc zero)

-- ---- viable functions (13.3.2)

abbrev pub sequences_of : CxxGraph → List CxxOperand → List CxxType → Asked (List (Option CxxStandard))
sequences_of graph [] parameters = Ok []
sequences_of graph (operand ∷ operands) [] = Ok []
sequences_of graph (operand ∷ operands) (parameter ∷ parameters) = do
  first ← standard_sequence graph operand parameter
  others ← sequences_of graph operands parameters
  Ok (first ∷ others)

-- the first argument, from 1, that has no sequence
abbrev pub first_without : ℕ → List (Option CxxStandard) → Option ℕ
first_without position [] = None
first_without position (None ∷ others) = Some position
first_without position (Some one ∷ others) = first_without (suc position) others

abbrev pub by_sequences : Option ℕ → Outcome
by_sequences None = Viable
by_sequences (Some position) = NotViable (NoConversion position)

abbrev pub outcome_by : ℕ → CxxCandidate → List (Option CxxStandard) → Outcome
outcome_by arguments candidate sequences =
    if nat_lt arguments (length candidate.parameters) then NotViable TooFewArguments else (
    if not candidate.ellipsis && nat_lt (length candidate.parameters) arguments then NotViable TooManyArguments else
    by_sequences (first_without (suc zero) sequences))

-- a candidate with the sequences of the arguments, and whether it is viable
pub record Rated : Type 0 where
  pub candidate : CxxCandidate
  pub sequences : List (Option CxxStandard)
  pub outcome : Outcome

abbrev pub rated_by : List CxxOperand → CxxCandidate → List (Option CxxStandard) → Rated
rated_by operands candidate sequences = record { candidate = candidate; sequences = sequences; outcome = outcome_by (length operands) candidate sequences }

unfoldable pub rated : CxxGraph → List CxxOperand → List CxxCandidate → Asked (List Rated)
rated graph operands [] = Ok []
rated graph operands (candidate ∷ candidates) = do
  sequences ← sequences_of graph operands candidate.parameters
  others ← rated graph operands candidates
  Ok (rated_by operands candidate sequences ∷ others)

abbrev pub is_viable : Outcome → Bool
is_viable Viable = true
is_viable (NotViable reason) = false

abbrev pub viable : List Rated → List Rated
viable all = filter (λ one. is_viable one.outcome) all

-- ---- the best (13.3.3)

abbrev pub order_between : CxxGraph → Option CxxStandard → Option CxxStandard → Order
order_between graph (Some one) (Some two) = order_of graph one two
order_between graph _ _ = Same

-- 13.3.3: the first is a better function for the arguments than the second
abbrev pub beats : CxxGraph → Rated → Rated → Bool
beats graph one two = is_better (order_between graph) one.sequences two.sequences

abbrev pub position_of : Rated → ℕ
position_of one = one.candidate.position

unfoldable pub chosen : CxxGraph → List Rated → Option Rated
chosen graph contenders = best position_of (beats graph) contenders

-- ---- evidence

abbrev pub shown : CxxCandidate → Shown
shown candidate = ShownAt candidate.position candidate.place

abbrev pub refusal : Rated → Option Evidence
refusal one = by one.outcome
  where
    by : Outcome → Option Evidence
    by Viable = None
    by (NotViable reason) = Some (Refused (shown one.candidate) reason)

-- why each candidate is not viable
unfoldable pub refusals : List Rated → List Evidence
refusals all = filter_map refusal all

abbrev pub tie : CxxGraph → List Rated → Rated → Option Evidence
tie graph contenders one = option_map (λ other. DoesNotBeat (shown one.candidate) (shown other.candidate)) (counter position_of (beats graph) contenders one)

-- for each viable candidate the first other one that it does not beat
unfoldable pub ties : CxxGraph → List Rated → List Evidence
ties graph contenders = filter_map (tie graph contenders) contenders

-- ---- the answer

pub data CxxChoice : Type 0 where
  chosen_one : Rated → CxxChoice
  none_viable : List Evidence → CxxChoice
  ambiguous : List Evidence → CxxChoice

abbrev pub choice_by : CxxGraph → List Rated → List Rated → Option Rated → CxxChoice
choice_by graph all contenders (Some one) = chosen_one one
choice_by graph all [] None = none_viable (refusals all)
choice_by graph all (one ∷ others) None = ambiguous (ties graph (one ∷ others))

unfoldable pub choice : CxxGraph → List Rated → CxxChoice
choice graph all = choice_by graph all (viable all) (chosen graph (viable all))
