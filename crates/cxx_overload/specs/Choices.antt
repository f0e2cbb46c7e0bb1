-- The best viable function (13.3.3), and what shows that none is.
use Rattle.std.specs.Prelude.{ℕ, Bool, List, [], ◌∷◌, filter_map, Option, Some, None, option_map}
use Rattle.cxx_model.specs.declared.evidence.Evidence.{Evidence}
use Rattle.cxx_model.specs.declared.evidence.Evidence.TheVariants.{DoesNotBeat, Refused}
use Rattle.cxx_model.specs.declared.evidence.Shown.{Shown}
use Rattle.cxx_model.specs.declared.evidence.Shown.TheVariants.{Declared as ShownAt}
use Rattle.cxx_model.specs.declared.overload.Outcome.{Outcome}
use Rattle.cxx_model.specs.declared.overload.Outcome.TheVariants.{Viable, NotViable}
use Rattle.cxx_model.specs.Choice.Better.{is_better, best, counter}
use Rattle.cxx_model.specs.Facts.Declarations.{CxxGraph}
use Rattle.cxx_overload.specs.Candidates.{CxxCandidate}
use Rattle.cxx_overload.specs.Sequences.{order_between}
use Rattle.cxx_overload.specs.Viability.{Rated, viable}

-- 13.3.3: the first is a better function for the arguments than the second
abbrev pub beats : CxxGraph → Rated → Rated → Bool
beats graph one two = is_better (order_between graph) one.sequences two.sequences

abbrev pub position_of : Rated → ℕ
position_of one = one.candidate.position

unfoldable pub chosen : CxxGraph → List Rated → Option Rated
chosen graph contenders = best position_of (beats graph) contenders

-- ---- evidence

abbrev pub shown : CxxCandidate → Shown
shown candidate = ShownAt candidate.position candidate.place

abbrev pub refusal_by : CxxCandidate → Outcome → Option Evidence
refusal_by candidate Viable = None
refusal_by candidate (NotViable reason) = Some (Refused (shown candidate) reason)

abbrev pub refusal : Rated → Option Evidence
refusal one = refusal_by one.candidate one.outcome

-- why each candidate is not viable
unfoldable pub refusals : List Rated → List Evidence
refusals all = filter_map refusal all

abbrev pub tie : CxxGraph → List Rated → Rated → Option Evidence
tie graph contenders one = option_map (λ other. DoesNotBeat (shown one.candidate) (shown other.candidate)) (counter position_of (beats graph) contenders one)

-- for each viable candidate the first other one that it does not beat
unfoldable pub ties : CxxGraph → List Rated → List Evidence
ties graph contenders = filter_map (tie graph contenders) contenders

-- ---- the answer

pub data CxxChoice : Type 0 where
  chosen_one : Rated → CxxChoice
  none_viable : List Evidence → CxxChoice
  ambiguous : List Evidence → CxxChoice

abbrev pub choice_by : CxxGraph → List Rated → List Rated → Option Rated → CxxChoice
choice_by graph all contenders (Some one) = chosen_one one
choice_by graph all [] None = none_viable (refusals all)
choice_by graph all (one ∷ others) None = ambiguous (ties graph (one ∷ others))

unfoldable pub choice : CxxGraph → List Rated → CxxChoice
choice graph all = choice_by graph all (viable all) (chosen graph (viable all))
