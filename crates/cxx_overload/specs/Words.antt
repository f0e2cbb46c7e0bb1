-- The choice of a function in words (13.3.2, 13.3.3).
use Rattle.std.specs.Prelude.{◌≡◌, ◌≢◌, ◌≤◌, ◌<◌, ◌+◌, ℕ, zero, suc, true, false, List, [], ◌∷◌, length, Option, Some, None, Ok}
use Rattle.std.specs.List.{cons_option, slice_get}
use Rattle.cxx_model.specs.declared.evidence.Evidence.{Evidence}
use Rattle.cxx_model.specs.declared.evidence.Evidence.TheVariants.{DoesNotBeat, Refused}
use Rattle.cxx_model.specs.declared.evidence.Reason.{Reason}
use Rattle.cxx_model.specs.declared.evidence.Reason.TheVariants.{TooFewArguments, TooManyArguments, NoConversion, ObjectNoConversion}
use Rattle.cxx_model.specs.declared.overload.Outcome.{Outcome}
use Rattle.cxx_model.specs.declared.overload.Outcome.TheVariants.{Viable, NotViable}
use Rattle.cxx_model.specs.Choice.Better.{IsBest}
use Rattle.cxx_model.specs.Facts.Declarations.{CxxGraph}
use Rattle.cxx_model.specs.Types.Trees.{CxxType}
use Rattle.cxx_meaning.specs.Conversions.Standard.{CxxOperand, CxxStandard, standard_sequence}
use Rattle.cxx_overload.specs.Candidates.{CxxCandidate}
use Rattle.cxx_overload.specs.Choices.{beats, position_of, shown}
use Rattle.cxx_overload.specs.Objects.{is_nonstatic, object_parameter}
use Rattle.cxx_overload.specs.Sequences.{CxxSequence, by_standard, by_ellipsis, no_sequence}
use Rattle.cxx_overload.specs.Viability.{Rated}

-- ---- viable functions

-- the argument with an index meets the parameter with that index, and is not converted to it
pub record IsNotConverted (graph : CxxGraph) (operands : List CxxOperand) (parameters : List CxxType) (index : ℕ) : Type 0 where
  pub operand : CxxOperand
  pub parameter : CxxType
  pub passed : slice_get operands index ≡ Some operand
  pub met : slice_get parameters index ≡ Some parameter
  pub refused : standard_sequence graph operand parameter ≡ Ok None

-- the object of a call is not converted to the implicit object parameter of a nonstatic member function
abbrev pub IsObjectNotConverted : CxxGraph → Option CxxOperand → CxxCandidate → Type 0
IsObjectNotConverted graph None candidate = ⊥
IsObjectNotConverted graph (Some object) candidate = (is_nonstatic candidate.member ≡ true) × (standard_sequence graph object (object_parameter object candidate.cv) ≡ Ok None)

-- 13.3.2: why a function is not viable; arguments are counted from 1, without the object
abbrev pub Holds : CxxGraph → Option CxxOperand → List CxxOperand → CxxCandidate → Reason → Type 0
Holds graph object operands candidate TooFewArguments = length operands + candidate.defaults < length candidate.parameters
Holds graph object operands candidate TooManyArguments = (candidate.ellipsis ≡ false) × (length candidate.parameters < length operands)
Holds graph object operands candidate ObjectNoConversion = IsObjectNotConverted graph object candidate
Holds graph object operands candidate (NoConversion zero) = ⊥
Holds graph object operands candidate (NoConversion (suc index)) = IsNotConverted graph operands candidate.parameters index
Holds graph object operands candidate _ = ⊥

-- the order of reasons; the object comes before the arguments, and among these the first counts
abbrev pub order_number : Reason → ℕ
order_number TooFewArguments = 0
order_number TooManyArguments = 1
order_number ObjectNoConversion = 2
order_number (NoConversion position) = 2 + position
order_number _ = 0

-- it holds, and no earlier one does
pub record IsFirstReason (graph : CxxGraph) (object : Option CxxOperand) (operands : List CxxOperand) (candidate : CxxCandidate) (reason : Reason) : Type 0 where
  pub holds : Holds graph object operands candidate reason
  pub first : (other : Reason) → Holds graph object operands candidate other → order_number reason ≤ order_number other

-- an operand is converted to the parameter that it meets, by the sequence at a place
pub record IsConverted (graph : CxxGraph) (operand : CxxOperand) (parameter : CxxType) (sequences : List CxxSequence) (index : ℕ) : Type 0 where
  pub sequence : CxxStandard
  pub converts : standard_sequence graph operand parameter ≡ Ok (Some sequence)
  pub kept : slice_get sequences index ≡ Some (by_standard sequence)

-- 13.3.1: The object of a call is converted to the implicit object parameter of a nonstatic member function. It is not
-- compared where the function is static, or no member.
pub record IsObjectPassed (graph : CxxGraph) (object : CxxOperand) (candidate : CxxCandidate) (sequences : List CxxSequence) : Type 0 where
  pub nonstatic : is_nonstatic candidate.member ≡ true → IsConverted graph object (object_parameter object candidate.cv) sequences 0
  pub otherwise : is_nonstatic candidate.member ≡ false → slice_get sequences 0 ≡ Some no_sequence

abbrev pub PassesObject : CxxGraph → Option CxxOperand → CxxCandidate → List CxxSequence → Type 0
PassesObject graph None candidate sequences = Unit {0}
PassesObject graph (Some object) candidate sequences = IsObjectPassed graph object candidate sequences

-- where the sequence of the argument with an index stands: the object comes before the arguments
abbrev pub place_of : Option CxxOperand → ℕ → ℕ
place_of None index = index
place_of (Some object) index = suc index

-- 13.3.2: a function to which the object and the arguments can be passed, and the sequences that do
pub record CanBeCalled (graph : CxxGraph) (object : Option CxxOperand) (operands : List CxxOperand) (candidate : CxxCandidate) (sequences : List CxxSequence) : Type 0 where
  pub enough : length candidate.parameters ≤ length operands + candidate.defaults
  pub not_more : candidate.ellipsis ≡ false → length operands ≤ length candidate.parameters
  pub one_each : length sequences ≡ length (cons_option object operands)
  pub object_so : PassesObject graph object candidate sequences
  pub converted : (index : ℕ) (operand : CxxOperand) (parameter : CxxType) → slice_get operands index ≡ Some operand → slice_get candidate.parameters index ≡ Some parameter → IsConverted graph operand parameter sequences (place_of object index)
  -- what has no parameter meets the ellipsis
  pub beyond : (index : ℕ) → index < length operands → length candidate.parameters ≤ index → slice_get sequences (place_of object index) ≡ Some by_ellipsis

abbrev pub IsOutcome : CxxGraph → Option CxxOperand → List CxxOperand → CxxCandidate → List CxxSequence → Outcome → Type 0
IsOutcome graph object operands candidate sequences Viable = CanBeCalled graph object operands candidate sequences
IsOutcome graph object operands candidate sequences (NotViable reason) = IsFirstReason graph object operands candidate reason

-- ---- what shows that no function is viable

pub record IsRefused (one : Rated) (line : Evidence) : Type 0 where
  pub reason : Reason
  pub outcome : one.outcome ≡ NotViable reason
  pub line_is : line ≡ Refused (shown one.candidate) reason

-- no candidate is viable, and there is a line for each
abbrev pub AreRefused : List Rated → List Evidence → Type 0
AreRefused [] [] = Unit {0}
AreRefused (one ∷ others) (line ∷ lines) = IsRefused one line × AreRefused others lines
AreRefused _ _ = ⊥

-- ---- what shows that none is the best

-- the line shows that a contender is not better than every other: the first other one that it does not beat
pub record ShowsTie (graph : CxxGraph) (contenders : List Rated) (one : Rated) (line : Evidence) : Type 0 where
  pub place : ℕ
  pub other : Rated
  pub stands : slice_get contenders place ≡ Some other
  pub is_other : position_of other ≢ position_of one
  pub unbeaten : beats graph one other ≡ false
  pub first : (k : ℕ) (earlier : Rated) → k < place → slice_get contenders k ≡ Some earlier → position_of earlier ≢ position_of one → beats graph one earlier ≢ false
  pub line_is : line ≡ DoesNotBeat (shown one.candidate) (shown other.candidate)

-- there is such a line for each of some contenders
abbrev pub ShowTies : CxxGraph → List Rated → List Rated → List Evidence → Type 0
ShowTies graph contenders [] [] = Unit {0}
ShowTies graph contenders (one ∷ others) (line ∷ lines) = ShowsTie graph contenders one line × ShowTies graph contenders others lines
ShowTies graph contenders _ _ = ⊥

-- some function is viable and none is the best of them, and there is a line for each
pub record IsTied (graph : CxxGraph) (contenders : List Rated) (lines : List Evidence) : Type 0 where
  pub some : contenders ≢ []
  pub none_best : (one : Rated) → IsBest position_of (beats graph) contenders one → ⊥
  pub shown_so : ShowTies graph contenders contenders lines
