-- What the lines of a call are, in words.
use Rattle.std.specs.Prelude.{◌≡◌, ◌≢◌, ◌≤◌, ℕ, nat_eq, ◌+◌, ◌-◌, List, [], ◌∷◌, length, filter, Some}
use Rattle.std.specs.List.{slice_get, AllByRecursion}
use Rattle.cxx_model.specs.declared.evidence.Shown.{Shown}
use Rattle.cxx_model.specs.declared.evidence.Shown.TheVariants.{Declared, BuiltIn}
use Rattle.cxx_model.specs.declared.overload.Outcome.{Outcome}
use Rattle.cxx_model.specs.Facts.Declarations.{CxxFact}
use Rattle.cxx_reading.specs.State.{CxxCall, CxxState}
use Rattle.cxx_listing.specs.Calls.{listed}
use Rattle.cxx_listing.specs.Lines.{CallLine, chosen_line, other_line, candidate_shown, lines_of}

abbrev pub position_in : Shown → ℕ
position_in (Declared position place) = position
position_in (BuiltIn position) = position

-- the candidate of which a line speaks, by its position
abbrev pub position_on : CallLine → ℕ
position_on (chosen_line place shown) = position_in shown
position_on (other_line shown outcome) = position_in shown

-- the lines that speak of a candidate
abbrev pub lines_for : ℕ → List CallLine → List CallLine
lines_for position lines = filter (λ line. nat_eq (position_on line) position) lines

-- Of a call with a chosen candidate the first line names its place and that candidate. Every candidate has exactly one
-- line; that of another one says its outcome.
pub record IsListed (all : List CxxFact) (call : CxxCall) : Type 0 where
  pub number : ℕ
  pub others : List CallLine
  pub chosen : slice_get call.candidates (call.chosen - 1) ≡ Some number
  pub first : lines_of all call ≡ chosen_line call.place (candidate_shown all call.chosen (Some number)) ∷ others
  pub each : (position number : ℕ) (outcome : Outcome) → slice_get call.candidates position ≡ Some number → slice_get call.outcomes position ≡ Some outcome → position + 1 ≢ call.chosen
      → lines_for (position + 1) (lines_of all call) ≡ other_line (candidate_shown all (position + 1) (Some number)) outcome ∷ []
  pub only : lines_for call.chosen (lines_of all call) ≡ chosen_line call.place (candidate_shown all call.chosen (Some number)) ∷ []
  pub none : (position : ℕ) → length call.candidates ≤ position → lines_for (position + 1) (lines_of all call) ≡ []

-- A call as every reading keeps it: each candidate has an outcome, and the chosen one is a candidate.
pub record IsWellKept (call : CxxCall) : Type 0 where
  pub outcomes : length call.outcomes ≡ length call.candidates
  pub chosen : 1 ≤ call.chosen
  pub within : call.chosen ≤ length call.candidates

-- every listed call of a state
abbrev pub AreListed : CxxState → Type 0
AreListed state = AllByRecursion (IsListed state.graph.facts) (listed state)
