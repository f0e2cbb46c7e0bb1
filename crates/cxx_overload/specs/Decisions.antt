-- What the answer of the code to the question of a call stands for.
use Rattle.std.specs.Prelude.{ℕ, List, Option}
use Rattle.cxx_model.specs.declared.place.Place.{Place}
use Rattle.cxx_model.specs.declared.sequence.Operand.{Operand}
use Rattle.cxx_model.specs.Types.Trees.{CxxType}
use Rattle.cxx_meaning.specs.Conversions.Standard.{CxxOperand}
use Rattle.cxx_overload.specs.declared.decision.Decision.{Decision}
use Rattle.cxx_overload.specs.declared.object.Object.{Object}
use Rattle.cxx_overload.specs.Calls.{call_of, CxxDecision}
use Rattle.cxx_overload.specs.Candidates.{CxxCandidate}
use Rattle.cxx_overload.specs.Viability.{Rated}
use Rattle.cxx_overload.specs.Views.{candidate_at, object_at, operands_at, ratings_at, AreRatingsBelow, IsCandidateBelow}

-- a call that means a candidate
abbrev pub decision_of : Place → Option CxxOperand → List CxxOperand → List Rated → CxxCandidate → CxxDecision
decision_of place object operands all meant = record { meant = meant; call = call_of place object operands meant.position all }

abbrev pub decision_at : List CxxType → Place → Option Object → List Operand → Decision → CxxDecision
decision_at types place object operands decision = decision_of place (object_at types object) (operands_at types operands) (ratings_at types object operands decision.ratings) (candidate_at types decision.meant)

-- the numbers in it are below a count, and its conversions are those of so many operands
pub record IsDecisionBelow (count arguments : ℕ) (decision : Decision) : Type 0 where
  pub meant : IsCandidateBelow count decision.meant
  pub ratings : AreRatingsBelow count arguments decision.ratings
