-- What is said of the listed calls: for each a line with the chosen candidate, and behind it a line for every other one.
use Rattle.std.specs.Prelude.{ℕ, suc, ◌-◌, nat_eq, if◌then◌else◌, List, [], ◌∷◌, ◌++◌, flat_map, Option, Some, None, codes}
use Rattle.std.specs.List.{slice_get}
use Rattle.cxx_model.specs.declared.evidence.Shown.{Shown}
use Rattle.cxx_model.specs.declared.evidence.Shown.TheVariants.{Declared}
use Rattle.cxx_model.specs.declared.overload.Outcome.{Outcome}
use Rattle.cxx_model.specs.declared.overload.Outcome.TheVariants.{Viable, NotViable}
use Rattle.cxx_model.specs.declared.place.Place.{Place}
use Rattle.cxx_model.specs.Facts.Declarations.{CxxFact}
use Rattle.cxx_model.specs.Printing.Reports.{place_text, reason_text, shown_text}
use Rattle.cxx_model.specs.Text.Lexemes.{nowhere}
use Rattle.cxx_reading.specs.State.{CxxCall, CxxState}
use Rattle.cxx_reading.specs.Units.{CxxReading}
use Rattle.cxx_listing.specs.Calls.{listed}

-- ---- candidates

abbrev pub place_of_fact : Option CxxFact → Place
place_of_fact None = nowhere
place_of_fact (Some fact) = fact.place

-- where a candidate is declared, by its first declaration
abbrev pub place_of : List CxxFact → Option ℕ → Place
place_of all None = nowhere
place_of all (Some number) = place_of_fact (slice_get all number)

-- a candidate by its number among the candidates, from 1, and its first declaration
abbrev pub candidate_shown : List CxxFact → ℕ → Option ℕ → Shown
candidate_shown all position number = Declared position (place_of all number)

-- ---- lines

-- what stands in a line: the place of a call and its chosen candidate, or another candidate and whether it is viable
pub data CallLine : Type 0 where
  chosen_line : Place → Shown → CallLine
  other_line : Shown → Outcome → CallLine

abbrev pub chosen_of : List CxxFact → CxxCall → Shown
chosen_of all call = candidate_shown all call.chosen (slice_get call.candidates (call.chosen - 1))

-- candidates from a position on, but for the chosen one
abbrev pub others_from : List CxxFact → ℕ → ℕ → List ℕ → List Outcome → List CallLine
others_from all chosen position [] outcomes = []
others_from all chosen position (number ∷ numbers) [] = []
others_from all chosen position (number ∷ numbers) (outcome ∷ outcomes) =
    (if nat_eq position chosen then [] else other_line (candidate_shown all position (Some number)) outcome ∷ []) ++ others_from all chosen (suc position) numbers outcomes

abbrev pub lines_of : List CxxFact → CxxCall → List CallLine
lines_of all call = chosen_line call.place (chosen_of all call) ∷ others_from all call.chosen 1 call.candidates call.outcomes

-- ---- their text

-- why a candidate is not called: it is not viable, or another one is better
abbrev pub outcome_text : Outcome → List ℕ
outcome_text Viable = codes "beaten"
outcome_text (NotViable reason) = reason_text reason

-- `L:C: CAND`, or behind two spaces `CAND: REASON`
abbrev pub line_text : CallLine → List ℕ
line_text (chosen_line place shown) = place_text place ++ (codes ": " ++ (shown_text shown ++ codes "\n"))
line_text (other_line shown outcome) = codes "  " ++ (shown_text shown ++ (codes ": " ++ (outcome_text outcome ++ codes "\n")))

abbrev pub call_text : List CxxFact → CxxCall → List ℕ
call_text all call = flat_map line_text (lines_of all call)

abbrev pub calls_by : CxxState → List ℕ
calls_by state = flat_map (call_text state.graph.facts) (listed state)

-- what is said of the calls of a reading
unfoldable pub calls_text : CxxReading → List ℕ
calls_text reading = calls_by reading.state
