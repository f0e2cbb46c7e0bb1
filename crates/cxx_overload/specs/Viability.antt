-- Which candidates are viable, and why the others are not (13.3.2).
use Rattle.std.specs.Prelude.{ℕ, suc, Bool, true, false, not, ◌-◌, ◌&&◌, if◌then◌else◌, nat_lt, List, [], ◌∷◌, length, filter, Option, Some, None, Ok}
use Rattle.std.specs.List.{cons_option}
use Rattle.cxx_model.specs.declared.evidence.Reason.{Reason}
use Rattle.cxx_model.specs.declared.evidence.Reason.TheVariants.{TooFewArguments, TooManyArguments, NoConversion, ObjectNoConversion}
use Rattle.cxx_model.specs.declared.overload.Outcome.{Outcome}
use Rattle.cxx_model.specs.declared.overload.Outcome.TheVariants.{Viable, NotViable}
use Rattle.cxx_model.specs.Facts.Declarations.{CxxGraph}
use Rattle.cxx_meaning.specs.Conversions.Asking.{Asked, ◌>>=◌}
use Rattle.cxx_meaning.specs.Conversions.Standard.{CxxOperand, CxxStandard, standard_sequence}
use Rattle.cxx_overload.specs.Candidates.{CxxCandidate}
use Rattle.cxx_overload.specs.Objects.{is_nonstatic, object_parameter}
use Rattle.cxx_overload.specs.Sequences.{CxxSequence, by_standard, by_ellipsis, no_sequence, sequences_of}

-- ---- the count of arguments

-- each parameter without a default argument takes one
abbrev pub least_arguments : CxxCandidate → ℕ
least_arguments candidate = length candidate.parameters - candidate.defaults

abbrev pub misfit : ℕ → CxxCandidate → Option Reason
misfit arguments candidate =
    if nat_lt arguments (least_arguments candidate) then Some TooFewArguments else (
    if not candidate.ellipsis && nat_lt (length candidate.parameters) arguments then Some TooManyArguments else
    None)

-- ---- the sequences of arguments

-- the first argument, from a position on, that has no sequence
abbrev pub first_without : ℕ → List CxxSequence → Option ℕ
first_without position [] = None
first_without position (no_sequence ∷ others) = Some position
first_without position (by_ellipsis ∷ others) = first_without (suc position) others
first_without position (by_standard one ∷ others) = first_without (suc position) others

-- a candidate, whether it is viable, and where it is, the sequences of the object, if the call has one, and of the
-- arguments
pub record Rated : Type 0 where
  pub candidate : CxxCandidate
  pub outcome : Outcome
  pub sequences : List CxxSequence

abbrev pub put_aside : CxxCandidate → Reason → Rated
put_aside candidate reason = record { candidate = candidate; outcome = NotViable reason; sequences = [] }

-- the sequences of the object, where the call has one, and of the arguments, of which the first without one is known
abbrev pub by_sequences : CxxCandidate → Option CxxSequence → List CxxSequence → Option ℕ → Rated
by_sequences candidate first sequences None = record { candidate = candidate; outcome = Viable; sequences = cons_option first sequences }
by_sequences candidate first sequences (Some position) = put_aside candidate (NoConversion position)

abbrev pub by_arguments : CxxGraph → List CxxOperand → CxxCandidate → Option CxxSequence → Asked Rated
by_arguments graph operands candidate first = do
  sequences ← sequences_of graph operands candidate.parameters candidate.ellipsis
  Ok (by_sequences candidate first sequences (first_without 1 sequences))

abbrev pub by_found : CxxGraph → List CxxOperand → CxxCandidate → Option CxxStandard → Asked Rated
by_found graph operands candidate None = Ok (put_aside candidate ObjectNoConversion)
by_found graph operands candidate (Some one) = by_arguments graph operands candidate (Some (by_standard one))

-- 13.3.1: The object is converted to the implicit object parameter of a nonstatic member function. For a static one any
-- object will do, and it tells no function from another; so it is with what is no member.
abbrev pub by_object : CxxGraph → CxxOperand → List CxxOperand → CxxCandidate → Bool → Asked Rated
by_object graph object operands candidate true = do
  found ← standard_sequence graph object (object_parameter object candidate.cv)
  by_found graph operands candidate found
by_object graph object operands candidate false = by_arguments graph operands candidate (Some no_sequence)

-- the object comes before the arguments
abbrev pub by_call : CxxGraph → Option CxxOperand → List CxxOperand → CxxCandidate → Asked Rated
by_call graph None operands candidate = by_arguments graph operands candidate None
by_call graph (Some object) operands candidate = by_object graph object operands candidate (is_nonstatic candidate.member)

abbrev pub by_count : CxxGraph → Option CxxOperand → List CxxOperand → CxxCandidate → Option Reason → Asked Rated
by_count graph object operands candidate (Some reason) = Ok (put_aside candidate reason)
by_count graph object operands candidate None = by_call graph object operands candidate

-- Where the count of arguments does not fit, nothing else is asked of a candidate.
unfoldable pub rated_one : CxxGraph → Option CxxOperand → List CxxOperand → CxxCandidate → Asked Rated
rated_one graph object operands candidate = by_count graph object operands candidate (misfit (length operands) candidate)

unfoldable pub rated : CxxGraph → Option CxxOperand → List CxxOperand → List CxxCandidate → Asked (List Rated)
rated graph object operands [] = Ok []
rated graph object operands (candidate ∷ candidates) = do
  one ← rated_one graph object operands candidate
  others ← rated graph object operands candidates
  Ok (one ∷ others)

abbrev pub is_viable : Outcome → Bool
is_viable Viable = true
is_viable (NotViable reason) = false

abbrev pub viable : List Rated → List Rated
viable all = filter (λ one. is_viable one.outcome) all
