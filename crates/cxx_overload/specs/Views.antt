-- What the values of the code stand for, given the types of a table.
use Rattle.std.specs.Prelude.{◌≡◌, ◌≤◌, ℕ, ◌+◌, ◌<◌, List, [], ◌∷◌, ◌++◌, length, map, drop, Bool, true, false, Option, Some, None}
use Rattle.std.specs.List.{All, slice_get}
use Rattle.cxx_meaning.specs.declared.steps.SequenceSteps.{SequenceSteps}
use Rattle.cxx_model.specs.declared.overload.Outcome.{Outcome}
use Rattle.cxx_model.specs.declared.overload.Outcome.TheVariants.{Viable, NotViable}
use Rattle.cxx_model.specs.declared.sequence.Operand.{Operand}
use Rattle.cxx_model.specs.declared.sequence.Sequence.{Sequence}
use Rattle.cxx_model.specs.declared.sequence.Sequence.TheVariants as sequence
use Rattle.cxx_model.specs.declared.types.Cv.{Cv}
use Rattle.cxx_model.specs.declared.types.FactId.{FactId}
use Rattle.cxx_model.specs.declared.types.TypeId.{TypeId}
use Rattle.cxx_model.specs.Facts.Declarations.{CxxFact, CxxGraph}
use Rattle.cxx_model.specs.Types.Numbers.{type_at, types_at, AreTypesBelow}
use Rattle.cxx_model.specs.Types.Trees.{CxxType}
use Rattle.cxx_meaning.specs.Conversions.Standard.{CxxOperand, sequence_by}
use Rattle.cxx_reading.specs.Seen.{Numbered}
use Rattle.cxx_standard.specs.Views.{operand_at, sequence_at as standard_sequence_at, IsSequenceBelow}
use Rattle.cxx_overload.specs.declared.candidate.Candidate.{Candidate}
use Rattle.cxx_overload.specs.declared.conversion.Conversion.{Conversion}
use Rattle.cxx_overload.specs.declared.conversion.Conversion.TheVariants as conversion
use Rattle.cxx_overload.specs.declared.object.Object.{Object}
use Rattle.cxx_overload.specs.declared.rating.Rated.{Rated}
use Rattle.cxx_overload.specs.declared.rating.Ratings.{Ratings}
use Rattle.cxx_overload.specs.Candidates.{CxxCandidate, each_type}
use Rattle.cxx_overload.specs.Objects.{object_parameter}
use Rattle.cxx_overload.specs.Sequences.{CxxSequence, by_standard, by_ellipsis, no_sequence, behind}
use Rattle.cxx_overload.specs.Viability.{Rated as RatedMeant}

-- ---- declarations

abbrev pub with_fact : ℕ → Option CxxFact → List Numbered → List Numbered
with_fact number None others = others
with_fact number (Some fact) others = record { number = number; fact = fact } ∷ others

-- the declarations that have some numbers
abbrev pub numbered_in : CxxGraph → List FactId → List Numbered
numbered_in graph [] = []
numbered_in graph (n ∷ numbers) = with_fact n.0 (slice_get graph.facts n.0) (numbered_in graph numbers)

-- each declaration stands in the graph under its number
abbrev pub AreOf : CxxGraph → List Numbered → Type 0
AreOf graph [] = Unit {0}
AreOf graph (one ∷ others) = (slice_get graph.facts one.number ≡ Some one.fact) × AreOf graph others

-- ---- candidates

-- the types to which some numbers lead
abbrev pub listed_at : List CxxType → List TypeId → List CxxType
listed_at types numbers = each_type (types_at types numbers)

abbrev pub candidate_at : List CxxType → Candidate → CxxCandidate
candidate_at types one = record { position = one.position; number = one.number.0; place = one.place; member = one.member; cv = one.cv; result = type_at types one.result.0; parameters = listed_at types one.parameters.now; ellipsis = one.ellipsis; defaults = one.defaults }

-- the numbers of its types are below a count
pub record IsCandidateBelow (count : ℕ) (one : Candidate) : Type 0 where
  pub result : one.result.0 < count
  pub parameters : AreTypesBelow count one.parameters.now

-- ---- arguments

abbrev pub operands_at : List CxxType → List Operand → List CxxOperand
operands_at types [] = []
operands_at types (one ∷ others) = operand_at types one ∷ operands_at types others

abbrev pub AreOperandsBelow : ℕ → List Operand → Type 0
AreOperandsBelow count [] = Unit {0}
AreOperandsBelow count (one ∷ others) = (one.of.0 < count) × AreOperandsBelow count others

-- ---- the object

abbrev pub object_at : List CxxType → Option Object → Option CxxOperand
object_at types None = None
object_at types (Some object) = Some (operand_at types object.operand)

-- the number of the implicit object parameter of a function with some words behind its parameter list
abbrev pub parameter_by : Object → Bool → Bool → TypeId
parameter_by object false false = object.plain
parameter_by object true false = object.of_const
parameter_by object false true = object.of_volatile
parameter_by object true true = object.of_both

abbrev pub parameter_for : Object → Cv → TypeId
parameter_for object cv = parameter_by object cv.is_const cv.is_volatile

-- a number that leads to the implicit object parameter of a function with some words behind its parameter list
pub record IsObjectParameter (types : List CxxType) (object : Object) (is_const is_volatile : Bool) (number : TypeId) : Type 0 where
  pub below : number.0 < length types
  pub leads : type_at types number.0 ≡ object_parameter (operand_at types object.operand) (record { is_const = is_const; is_volatile = is_volatile })

-- its type is known, and so are the types to which it may be converted
pub record IsObject (types : List CxxType) (object : Object) : Type 0 where
  pub operand : object.operand.of.0 < length types
  pub plain : IsObjectParameter types object false false object.plain
  pub of_const : IsObjectParameter types object true false object.of_const
  pub of_volatile : IsObjectParameter types object false true object.of_volatile
  pub of_both : IsObjectParameter types object true true object.of_both

-- the object, where the call has one, and the arguments
abbrev pub passed : Option Object → List Operand → List Operand
passed None operands = operands
passed (Some object) operands = object.operand ∷ operands

-- what they meet; the object of a function that is no nonstatic member is not converted
abbrev pub met : Option Object → Candidate → List TypeId
met None one = one.parameters.now
met (Some object) one = parameter_for object one.cv ∷ one.parameters.now

-- ---- sequences

abbrev pub sequence_found : List CxxType → Sequence → CxxSequence
sequence_found types (sequence.Standard one) = by_standard (standard_sequence_at types one)
sequence_found types sequence.Ellipsis = by_ellipsis
sequence_found types _ = no_sequence

abbrev pub IsSequenceFoundBelow : ℕ → Sequence → Type 0
IsSequenceFoundBelow count (sequence.Standard one) = IsSequenceBelow count one
IsSequenceFoundBelow count _ = Unit {0}

abbrev pub standard_at : List CxxType → Operand → SequenceSteps → List TypeId → CxxSequence
standard_at types operand steps [] = by_ellipsis
standard_at types operand steps (parameter ∷ others) = by_standard (sequence_by (operand_at types operand) (type_at types parameter.0) steps)

-- how an argument is converted, with the parameters from its own on
abbrev pub sequence_at : List CxxType → Operand → Conversion → List TypeId → CxxSequence
sequence_at types operand (conversion.Standard steps) parameters = standard_at types operand steps parameters
sequence_at types operand conversion.Ellipsis parameters = by_ellipsis
sequence_at types operand conversion.Missing parameters = no_sequence

-- how each argument is converted to its parameter, as far as the conversions go
abbrev pub row_at : List CxxType → List Operand → List TypeId → List Conversion → List CxxSequence
row_at types [] parameters conversions = []
row_at types (operand ∷ operands) parameters [] = []
row_at types (operand ∷ operands) parameters (one ∷ others) = sequence_at types operand one parameters ∷ row_at types operands (behind parameters) others

-- how the object is converted to its parameter, where the call has one
abbrev pub first_at : List CxxType → Option Object → Candidate → Option Conversion → Option CxxSequence
first_at types (Some object) candidate (Some one) = Some (sequence_at types object.operand one (met (Some object) candidate))
first_at types _ candidate _ = None

-- there is a conversion of the object where the call has one
abbrev pub FitsObject : Option Object → Option Conversion → Type 0
FitsObject None None = Unit {0}
FitsObject (Some object) (Some one) = Unit {0}
FitsObject _ _ = ⊥

-- ---- candidates with their sequences

abbrev pub kept_where : Outcome → List CxxSequence → List CxxSequence
kept_where Viable sequences = sequences
kept_where (NotViable reason) sequences = []

-- a candidate, where the conversions of all viable ones stand in one list
abbrev pub rated_at : List CxxType → Option Object → List Operand → List Conversion → Rated → RatedMeant
rated_at types object operands conversions one = record {
  candidate = candidate_at types one.candidate;
  outcome = one.outcome;
  sequences = kept_where one.outcome (row_at types (passed object operands) (met object one.candidate) (drop one.row conversions));
}

abbrev pub ratings_at : List CxxType → Option Object → List Operand → Ratings → List RatedMeant
ratings_at types object operands ratings = map (rated_at types object operands ratings.conversions.items) ratings.all.items

-- there is a conversion for each of so many operands
abbrev pub HasRow : ℕ → ℕ → Rated → Type 0
HasRow arguments conversions one = one.row + arguments ≤ conversions

-- the numbers in it are below a count, and its conversions are there
pub record IsRatedBelow (count arguments conversions : ℕ) (one : Rated) : Type 0 where
  pub candidate : IsCandidateBelow count one.candidate
  pub row : one.outcome ≡ Viable → HasRow arguments conversions one

-- the same for all of them
abbrev pub AreRatingsBelow : ℕ → ℕ → Ratings → Type 0
AreRatingsBelow count arguments ratings = All (IsRatedBelow count arguments (length ratings.conversions.items)) ratings.all.items

-- a list, and what may stand behind it
abbrev pub Grows : {A : Type 0} → List A → List A → Type 0
Grows {A = A} old new = (more : List A) × (new ≡ old ++ more)

-- a list with what is there at its end
abbrev pub with_option : {A : Type 0} → List A → Option A → List A
with_option xs None = xs
with_option xs (Some x) = xs ++ x ∷ []
