-- What holds of the answer to the question of a call, in words (13.3).
use Rattle.std.specs.Prelude.{◌≡◌, ◌<◌, List, length, Option, Ok, Err, ◌⊎◌}
use Rattle.cxx_model.specs.declared.evidence.Evidence.{Evidence}
use Rattle.cxx_model.specs.declared.fault.FaultText.TheVariants as says
use Rattle.cxx_model.specs.declared.limits.TheConstants as limits
use Rattle.cxx_model.specs.declared.place.Place.{Place}
use Rattle.cxx_model.specs.declared.stop.LimitKind.TheVariants as kind
use Rattle.cxx_model.specs.declared.types.ClassId.{ClassId}
use Rattle.cxx_model.specs.Choice.Better.{IsBest}
use Rattle.cxx_model.specs.Facts.Declarations.{CxxGraph}
use Rattle.cxx_model.specs.Stops.{Stopped, Limited, not_built_at}
use Rattle.cxx_meaning.specs.Conversions.Standard.{CxxOperand}
use Rattle.cxx_reading.specs.Seen.{Numbered}
use Rattle.cxx_overload.specs.Calls.{call_fault, call_of, CxxDecision}
use Rattle.cxx_overload.specs.Candidates.{candidates}
use Rattle.cxx_overload.specs.Choices.{beats, position_of}
use Rattle.cxx_overload.specs.Viability.{Rated, rated, viable}
use Rattle.cxx_overload.specs.Words.{AreRefused, IsTied}

-- The call means the viable function of its name that is better than every other viable one, and what is kept of it says
-- of all functions of the name whether they are viable.
pub record IsDecided (place : Place) (object : Option CxxOperand) (operands : List CxxOperand) (graph : CxxGraph) (declared : List Numbered) (decision : CxxDecision) : Type 0 where
  pub all : List Rated
  pub rated_so : rated graph object operands (candidates declared) ≡ Ok all
  pub meant : Rated
  pub best : IsBest position_of (beats graph) (viable all) meant
  pub means : decision.meant ≡ meant.candidate
  pub keeps : decision.call ≡ call_of place object operands (position_of meant) all

-- no function is viable
pub record NoneViable (place : Place) (object : Option CxxOperand) (operands : List CxxOperand) (graph : CxxGraph) (declared : List Numbered) (why : Stopped) : Type 0 where
  pub all : List Rated
  pub rated_so : rated graph object operands (candidates declared) ≡ Ok all
  pub lines : List Evidence
  pub refused : AreRefused all lines
  pub why_is : why ≡ call_fault place says.NoViableFunction lines

-- some function is viable, and none is better than every other
pub record IsAmbiguous (place : Place) (object : Option CxxOperand) (operands : List CxxOperand) (graph : CxxGraph) (declared : List Numbered) (why : Stopped) : Type 0 where
  pub all : List Rated
  pub rated_so : rated graph object operands (candidates declared) ≡ Ok all
  pub lines : List Evidence
  pub tied : IsTied graph (viable all) lines
  pub why_is : why ≡ call_fault place says.AmbiguousCall lines

-- there are too many candidates
pub record TooMany (declared : List Numbered) (why : Stopped) : Type 0 where
  pub many : limits.MOST_CANDIDATES < length (candidates declared)
  pub why_is : why ≡ Limited kind.Candidates

-- a class has to be complete first
pub record NeedsClass (place : Place) (object : Option CxxOperand) (operands : List CxxOperand) (graph : CxxGraph) (declared : List Numbered) (why : Stopped) : Type 0 where
  pub class : ClassId
  pub needed : rated graph object operands (candidates declared) ≡ Err class
  pub why_is : why ≡ not_built_at place

-- why a call means no function
abbrev pub IsUndecided : Place → Option CxxOperand → List CxxOperand → CxxGraph → List Numbered → Stopped → Type 0
IsUndecided place object operands graph declared why = TooMany declared why ⊎ (NeedsClass place object operands graph declared why ⊎ (NoneViable place object operands graph declared why ⊎ IsAmbiguous place object operands graph declared why))
