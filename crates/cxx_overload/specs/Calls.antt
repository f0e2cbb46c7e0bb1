-- The question of a call: which function it means, among the declarations of its name (13.3), and what is kept of it.
use Rattle.std.specs.Prelude.{ℕ, List, [], ◌∷◌, map, Option, Result, Ok, Err}
use Rattle.std.specs.List.{cons_option}
use Rattle.cxx_model.specs.declared.evidence.Evidence.{Evidence}
use Rattle.cxx_model.specs.declared.fault.FaultText.{FaultText}
use Rattle.cxx_model.specs.declared.fault.FaultText.TheVariants as says
use Rattle.cxx_model.specs.declared.overload.Outcome.{Outcome}
use Rattle.cxx_model.specs.declared.place.Place.{Place}
use Rattle.cxx_model.specs.declared.types.ClassId.{ClassId}
use Rattle.cxx_model.specs.Facts.Declarations.{CxxGraph}
use Rattle.cxx_model.specs.Stops.{Answer, ◌>>=◌, Stopped, Faulty, not_built_at}
use Rattle.cxx_meaning.specs.Conversions.Standard.{CxxOperand, CxxStandard}
use Rattle.cxx_reading.specs.Seen.{Numbered}
use Rattle.cxx_reading.specs.State.{CxxCall, CxxRow}
use Rattle.cxx_overload.specs.Candidates.{CxxCandidate, candidates_within}
use Rattle.cxx_overload.specs.Choices.{CxxChoice, chosen_one, none_viable, ambiguous, choice}
use Rattle.cxx_overload.specs.Objects.{parameters_met}
use Rattle.cxx_overload.specs.Sequences.{CxxSequence, by_standard, by_ellipsis, no_sequence}
use Rattle.cxx_overload.specs.Viability.{Rated, rated, viable}

-- ---- what is kept

-- The standard sequences among some. Of a viable function the arguments that meet the ellipsis stand at the end, so the
-- others keep their places; and the object has none only where it meets no parameter.
abbrev pub standards : List CxxSequence → List CxxStandard
standards [] = []
standards (by_standard one ∷ others) = one ∷ standards others
standards (by_ellipsis ∷ others) = standards others
standards (no_sequence ∷ others) = standards others

abbrev pub row_of : Option CxxOperand → Rated → CxxRow
row_of object one = record { position = one.candidate.position; parameters = parameters_met object one.candidate; sequences = standards one.sequences }

abbrev pub number_of : Rated → ℕ
number_of one = one.candidate.number

abbrev pub outcome_of : Rated → Outcome
outcome_of one = one.outcome

abbrev pub call_of : Place → Option CxxOperand → List CxxOperand → ℕ → List Rated → CxxCall
call_of place object operands chosen all = record {
  place = place;
  operands = cons_option object operands;
  candidates = map number_of all;
  outcomes = map outcome_of all;
  rows = map (row_of object) (viable all);
  chosen = chosen;
}

-- ---- the question

-- the function that a call means, and what is kept of the call
pub record CxxDecision : Type 0 where
  pub meant : CxxCandidate
  pub call : CxxCall

abbrev pub call_fault : Place → FaultText → List Evidence → Stopped
call_fault place text evidence = Faulty (record { place = place; text = text; evidence = evidence })

abbrev pub decided_by : Place → Option CxxOperand → List CxxOperand → List Rated → CxxChoice → Answer CxxDecision
decided_by place object operands all (chosen_one one) = Ok (record { meant = one.candidate; call = call_of place object operands one.candidate.position all })
decided_by place object operands all (none_viable evidence) = Err (call_fault place says.NoViableFunction evidence)
decided_by place object operands all (ambiguous evidence) = Err (call_fault place says.AmbiguousCall evidence)

-- a class that has to be complete is not
abbrev pub decided_rated : Place → Option CxxOperand → List CxxOperand → CxxGraph → Result (List Rated) ClassId → Answer CxxDecision
decided_rated place object operands graph (Ok all) = decided_by place object operands all (choice graph all)
decided_rated place object operands graph (Err class) = Err (not_built_at place)

abbrev pub decided_among : Place → Option CxxOperand → List CxxOperand → CxxGraph → List CxxCandidate → Answer CxxDecision
decided_among place object operands graph all = decided_rated place object operands graph (rated graph object operands all)

-- 13.3: which function a call at a place means, by its object, where it has one, its arguments and the declarations
-- that its name has there
unfoldable pub decided : Place → Option CxxOperand → List CxxOperand → CxxGraph → List Numbered → Answer CxxDecision
decided place object operands graph declared = candidates_within declared >>= decided_among place object operands graph
