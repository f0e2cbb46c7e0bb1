-- Why a candidate is viable or not, in words.
use Rattle.std.proofs.Common.{◌≡◌, ◌≢◌, ℕ, zero, suc, ◌+◌, ◌-◌, ◌<◌, ◌≤◌, Bool, true, false, not, cond, nat_lt, ◌&&◌, List, [], ◌∷◌, length, Option, Some, None, Ok, Err, refl, sym, ◌∙◌, ap, subst, ◌⊎◌, inl, inr, arith}
use Rattle.std.specs.List.{cons_option, slice_get}
use Rattle.std.proofs.lemmas.Bool.{ltb-true, cases_order}
use Rattle.cxx_model.specs.declared.evidence.Reason.{Reason}
use Rattle.cxx_model.specs.declared.evidence.Reason.TheVariants as reason
use Rattle.cxx_model.specs.Facts.Declarations.{CxxGraph}
use Rattle.cxx_model.specs.Types.Trees.{CxxType}
use Rattle.cxx_meaning.specs.Conversions.Asking.{Asked, ◌>>=◌}
use Rattle.cxx_meaning.specs.Conversions.Standard.{CxxOperand, CxxStandard, standard_sequence}
use Rattle.cxx_overload.specs.Asking.{joined}
use Rattle.cxx_overload.specs.Candidates.{CxxCandidate}
use Rattle.cxx_overload.specs.Objects.{is_nonstatic, object_parameter}
use Rattle.cxx_overload.specs.Sequences.{CxxSequence, by_standard, by_ellipsis, no_sequence, behind, found_sequence, sequence_beyond, sequence_of, sequences_of}
use Rattle.cxx_overload.specs.Viability.{Rated, by_call, by_count, by_found, by_object, by_sequences, first_without, put_aside, rated_one}
use Rattle.cxx_overload.specs.Words.{CanBeCalled, Holds, IsConverted, IsFirstReason, IsNotConverted, IsObjectNotConverted, IsObjectPassed, IsOutcome, PassesObject, order_number, place_of}
use Rattle.cxx_overload.proofs.Contests.{below_there, there_below}

-- ---- the parameters from an index on

pub behind_by : {A : Type 0} → ℕ → List A → List A
behind_by zero xs = xs
behind_by (suc n) xs = behind_by n (behind xs)

behind_none : {A : Type 0} (n : ℕ) → behind_by {A = A} n [] ≡ []
unfolding behind_by
behind_none zero = refl
behind_none (suc n) = behind_none n

met_at : {A : Type 0} (xs : List A) (n : ℕ) (x : A) → slice_get xs n ≡ Some x → (rest : List A) × (behind_by n xs ≡ x ∷ rest)
unfolding behind_by
met_at [] n x e = absurd cc
met_at (y ∷ xs) zero x e = let same : y ≡ x = cc in (xs, ap (λ z. z ∷ xs) same)
met_at (y ∷ xs) (suc n) x e = met_at xs n x e

none_at : {A : Type 0} (xs : List A) (n : ℕ) → length xs ≤ n → behind_by n xs ≡ []
unfolding behind_by
none_at [] n past = behind_none n
none_at (y ∷ xs) zero past = absurd (omega (arith, past))
none_at (y ∷ xs) (suc n) past = none_at xs n (omega (arith, past))

-- ---- sequences

pub record IsJoined {A : Type 0} (first : Asked A) (rest : Asked (List A)) (all : List A) : Type 0 where
  pub one : A
  pub others : List A
  pub first_is : first ≡ Ok one
  pub rest_is : rest ≡ Ok others
  pub all_is : all ≡ one ∷ others

joined_ok : {A : Type 0} (first : Asked A) (rest : Asked (List A)) (all : List A) → joined first rest ≡ Ok all → IsJoined first rest all
joined_ok (Ok one) (Ok others) all e = let same : (one ∷ others) ≡ all = cc in record { one = one; others = others; first_is = refl; rest_is = refl; all_is = sym same }
joined_ok (Ok one) (Err class) all e = absurd cc
joined_ok (Err class) rest all e = absurd cc

counted : (graph : CxxGraph) (operands : List CxxOperand) (parameters : List CxxType) (ellipsis : Bool) (all : List CxxSequence) → sequences_of graph operands parameters ellipsis ≡ Ok all → length all ≡ length operands
counted graph [] parameters ellipsis all e = let same : [] ≡ all = cc in ap length (sym same)
counted graph (o ∷ operands) parameters ellipsis all e =
    let h = joined_ok (sequence_of graph o parameters ellipsis) (sequences_of graph operands (behind parameters) ellipsis) all e in
    let rest = counted graph operands (behind parameters) ellipsis h.others h.rest_is in
    ap length h.all_is ∙ grind (arith, rest)

-- the sequence of the argument with an index
pub record IsAt (graph : CxxGraph) (operand : CxxOperand) (parameters : List CxxType) (ellipsis : Bool) (all : List CxxSequence) (index : ℕ) : Type 0 where
  pub sequence : CxxSequence
  pub asked : sequence_of graph operand (behind_by index parameters) ellipsis ≡ Ok sequence
  pub stands : slice_get all index ≡ Some sequence

at_index : (graph : CxxGraph) (operands : List CxxOperand) (parameters : List CxxType) (ellipsis : Bool) (all : List CxxSequence) (index : ℕ) (operand : CxxOperand) → sequences_of graph operands parameters ellipsis ≡ Ok all → slice_get operands index ≡ Some operand → IsAt graph operand parameters ellipsis all index
unfolding behind_by
at_index graph [] parameters ellipsis all index operand e there = absurd cc
at_index graph (o ∷ operands) parameters ellipsis all zero operand e there =
    let h = joined_ok (sequence_of graph o parameters ellipsis) (sequences_of graph operands (behind parameters) ellipsis) all e in
    let same : o ≡ operand = cc in
    record { sequence = h.one; asked = ap (λ x. sequence_of graph x parameters ellipsis) (sym same) ∙ h.first_is; stands = ap (λ xs. slice_get xs 0) h.all_is }
at_index graph (o ∷ operands) parameters ellipsis all (suc index) operand e there =
    let h = joined_ok (sequence_of graph o parameters ellipsis) (sequences_of graph operands (behind parameters) ellipsis) all e in
    let later = at_index graph operands (behind parameters) ellipsis h.others index operand h.rest_is there in
    record { sequence = later.sequence; asked = later.asked; stands = ap (λ xs. slice_get xs (suc index)) h.all_is ∙ later.stands }

-- the standard sequence to a parameter
pub record IsMet (graph : CxxGraph) (operand : CxxOperand) (parameter : CxxType) (sequence : CxxSequence) : Type 0 where
  pub found : Option CxxStandard
  pub asked : standard_sequence graph operand parameter ≡ Ok found
  pub is : sequence ≡ found_sequence found

met_by : (asked : Asked (Option CxxStandard)) (sequence : CxxSequence) → (asked >>= λ found. Ok (found_sequence found)) ≡ Ok sequence → (found : Option CxxStandard) × ((asked ≡ Ok found) × (sequence ≡ found_sequence found))
met_by (Ok found) sequence e = let same : found_sequence found ≡ sequence = cc in (found, (refl, sym same))
met_by (Err class) sequence e = absurd cc

is_met : (graph : CxxGraph) (operand : CxxOperand) (parameters rest : List CxxType) (parameter : CxxType) (ellipsis : Bool) (sequence : CxxSequence) → parameters ≡ parameter ∷ rest → sequence_of graph operand parameters ellipsis ≡ Ok sequence → IsMet graph operand parameter sequence
is_met graph operand parameters rest parameter ellipsis sequence same e =
    let h = met_by (standard_sequence graph operand parameter) sequence (ap (λ ps. sequence_of graph operand ps ellipsis) (sym same) ∙ e) in
    record { found = h.0; asked = h.1.0; is = h.1.1 }

ok_same : {A : Type 0} (asked : Asked A) (x y : A) → asked ≡ Ok x → asked ≡ Ok y → x ≡ y
ok_same asked x y e f = cc

is_beyond : (graph : CxxGraph) (operand : CxxOperand) (parameters : List CxxType) (ellipsis : Bool) (sequence : CxxSequence) → parameters ≡ [] → sequence_of graph operand parameters ellipsis ≡ Ok sequence → sequence ≡ sequence_beyond ellipsis
is_beyond graph operand parameters ellipsis sequence same e =
    ok_same (sequence_of graph operand parameters ellipsis) sequence (sequence_beyond ellipsis) e (ap (λ ps. sequence_of graph operand ps ellipsis) same)

-- ---- the first argument without a sequence

without_none : (position : ℕ) (sequences : List CxxSequence) → first_without position sequences ≡ None → (k : ℕ) → slice_get sequences k ≢ Some no_sequence
without_none position [] e k at = absurd cc
without_none position (no_sequence ∷ others) e k at = absurd cc
without_none position (by_ellipsis ∷ others) e zero at = absurd cc
without_none position (by_ellipsis ∷ others) e (suc k) at = without_none (suc position) others e k at
without_none position (by_standard one ∷ others) e zero at = absurd cc
without_none position (by_standard one ∷ others) e (suc k) at = without_none (suc position) others e k at

pub record Without (from position : ℕ) (sequences : List CxxSequence) : Type 0 where
  pub before : ℕ
  pub counted_so : position ≡ before + from
  pub missing : slice_get sequences before ≡ Some no_sequence
  pub earlier : (k : ℕ) → k < before → slice_get sequences k ≢ Some no_sequence

without_later : (from position : ℕ) (one : CxxSequence) (others : List CxxSequence) → one ≢ no_sequence → Without (suc from) position others → Without from position (one ∷ others)
without_later from position one others some h = record {
  before = suc h.before;
  counted_so = (let c = h.counted_so in omega (arith, c));
  missing = h.missing;
  earlier = by;
}
  where
    by : (k : ℕ) → k < suc h.before → slice_get (one ∷ others) k ≢ Some no_sequence
    by zero below at = some cc
    by (suc k) below at = h.earlier k (omega (arith, below)) at

without_some : (from position : ℕ) (sequences : List CxxSequence) → first_without from sequences ≡ Some position → Without from position sequences
without_some from position [] e = absurd cc
without_some from position (no_sequence ∷ others) e =
    let same : from ≡ position = cc in
    record { before = 0; counted_so = omega (arith, same); missing = refl; earlier = λ k below at. absurd (omega (arith, below)) }
without_some from position (by_ellipsis ∷ others) e = without_later from position by_ellipsis others (λ h. cc) (without_some (suc from) position others e)
without_some from position (by_standard one ∷ others) e = without_later from position (by_standard one) others (λ h. cc) (without_some (suc from) position others e)

-- ---- the count of arguments

no_less : (a b : ℕ) → nat_lt a b ≡ false → b ≤ a
no_less a b e = grind (arith, e)

both : (a b : Bool) → (a && b) ≡ true → (a ≡ true) × (b ≡ true)
both true b e = (refl, e)
both false b e = absurd cc

unsaid : (a : Bool) → not a ≡ true → a ≡ false
unsaid true e = absurd cc
unsaid false e = refl

neither_more : (ellipsis more : Bool) → (not ellipsis && more) ≡ false → ellipsis ≡ false → more ≡ false
neither_more true more e f = absurd cc
neither_more false more e f = e

-- ---- reasons

-- so many arguments are enough
abbrev Enough : List CxxOperand → CxxCandidate → Type 0
Enough operands candidate = length candidate.parameters ≤ length operands + candidate.defaults

abbrev NotMore : List CxxOperand → CxxCandidate → Type 0
NotMore operands candidate = candidate.ellipsis ≡ false → length operands ≤ length candidate.parameters

few_first : (graph : CxxGraph) (object : Option CxxOperand) (operands : List CxxOperand) (candidate : CxxCandidate) → length operands < length candidate.parameters - candidate.defaults → IsFirstReason graph object operands candidate reason.TooFewArguments
few_first graph object operands candidate less = record { holds = omega (arith, less); first = λ other h. omega arith }

later_than_few : (graph : CxxGraph) (object : Option CxxOperand) (operands : List CxxOperand) (candidate : CxxCandidate) → Enough operands candidate → (other : Reason) → Holds graph object operands candidate other → 1 ≤ order_number other
later_than_few graph object operands candidate enough reason.TooFewArguments h = absurd (omega (arith, enough, h))
later_than_few graph object operands candidate enough reason.TooManyArguments h = omega arith
later_than_few graph object operands candidate enough reason.ObjectNoConversion h = omega arith
later_than_few graph object operands candidate enough (reason.NoConversion zero) h = absurd h
later_than_few graph object operands candidate enough (reason.NoConversion (suc k)) h = omega arith
later_than_few graph object operands candidate enough _ h = absurd h

later_than_count : (graph : CxxGraph) (object : Option CxxOperand) (operands : List CxxOperand) (candidate : CxxCandidate) → Enough operands candidate → NotMore operands candidate → (other : Reason) → Holds graph object operands candidate other → 2 ≤ order_number other
later_than_count graph object operands candidate enough most reason.TooFewArguments h = absurd (omega (arith, enough, h))
later_than_count graph object operands candidate enough most reason.TooManyArguments h = (let least = most h.0 in absurd (omega (arith, least, h.1)))
later_than_count graph object operands candidate enough most reason.ObjectNoConversion h = omega arith
later_than_count graph object operands candidate enough most (reason.NoConversion zero) h = absurd h
later_than_count graph object operands candidate enough most (reason.NoConversion (suc k)) h = omega arith
later_than_count graph object operands candidate enough most _ h = absurd h

later_than_object : (graph : CxxGraph) (object : Option CxxOperand) (operands : List CxxOperand) (candidate : CxxCandidate) (index : ℕ) → Enough operands candidate → NotMore operands candidate → (IsObjectNotConverted graph object candidate → ⊥) → ((k : ℕ) → k < index → IsNotConverted graph operands candidate.parameters k → ⊥) → (other : Reason) → Holds graph object operands candidate other → 2 + suc index ≤ order_number other
later_than_object graph object operands candidate index enough most passes earlier reason.TooFewArguments h = absurd (omega (arith, enough, h))
later_than_object graph object operands candidate index enough most passes earlier reason.TooManyArguments h = (let least = most h.0 in absurd (omega (arith, least, h.1)))
later_than_object graph object operands candidate index enough most passes earlier reason.ObjectNoConversion h = absurd (passes h)
later_than_object graph object operands candidate index enough most passes earlier (reason.NoConversion zero) h = absurd h
later_than_object graph object operands candidate index enough most passes earlier (reason.NoConversion (suc k)) h = by (cases_order k index)
  where
    by : (k ≡ index) ⊎ ((k < index) ⊎ (index < k)) → 2 + suc index ≤ 2 + suc k
    by (inl same) = omega (arith, same)
    by (inr (inl less)) = absurd (earlier k less h)
    by (inr (inr more)) = omega (arith, more)
later_than_object graph object operands candidate index enough most passes earlier _ h = absurd h

-- ---- the object

-- what stands before the sequences of the arguments
abbrev StandsFirst : CxxGraph → Option CxxOperand → CxxCandidate → Option CxxSequence → Type 0
StandsFirst graph None candidate None = Unit {0}
StandsFirst graph (Some object) candidate (Some one) = IsObjectPassed graph object candidate (one ∷ [])
StandsFirst graph _ candidate _ = ⊥

at_place : (graph : CxxGraph) (object : Option CxxOperand) (candidate : CxxCandidate) (first : Option CxxSequence) (sequences : List CxxSequence) (index : ℕ) → StandsFirst graph object candidate first → slice_get (cons_option first sequences) (place_of object index) ≡ slice_get sequences index
at_place graph None candidate None sequences index stands = refl
at_place graph None candidate (Some one) sequences index stands = absurd stands
at_place graph (Some object) candidate None sequences index stands = absurd stands
at_place graph (Some object) candidate (Some one) sequences index stands = refl

all_counted : (graph : CxxGraph) (object : Option CxxOperand) (operands : List CxxOperand) (candidate : CxxCandidate) (first : Option CxxSequence) (sequences : List CxxSequence) → StandsFirst graph object candidate first → length sequences ≡ length operands → length (cons_option first sequences) ≡ length (cons_option object operands)
all_counted graph None operands candidate None sequences stands same = same
all_counted graph None operands candidate (Some one) sequences stands same = absurd stands
all_counted graph (Some object) operands candidate None sequences stands same = absurd stands
all_counted graph (Some object) operands candidate (Some one) sequences stands same = omega (arith, same)

passes_object : (graph : CxxGraph) (object : Option CxxOperand) (candidate : CxxCandidate) (first : Option CxxSequence) (sequences : List CxxSequence) → StandsFirst graph object candidate first → PassesObject graph object candidate (cons_option first sequences)
passes_object graph None candidate first sequences stands = tt
passes_object graph (Some object) candidate None sequences stands = absurd stands
passes_object graph (Some object) candidate (Some one) sequences stands = record {
  nonstatic = λ member. (let h = stands.nonstatic member in record { sequence = h.sequence; converts = h.converts; kept = h.kept });
  otherwise = stands.otherwise;
}

not_both : (asked : Asked (Option CxxStandard)) (one : CxxStandard) → asked ≡ Ok (Some one) → asked ≡ Ok None → ⊥
not_both asked one e f = absurd cc

object_converted : (graph : CxxGraph) (object : Option CxxOperand) (candidate : CxxCandidate) (first : Option CxxSequence) → StandsFirst graph object candidate first → IsObjectNotConverted graph object candidate → ⊥
object_converted graph None candidate first stands refused = absurd refused
object_converted graph (Some object) candidate None stands refused = absurd stands
object_converted graph (Some object) candidate (Some one) stands refused =
    let h = stands.nonstatic refused.0 in
    not_both (standard_sequence graph object (object_parameter object candidate.cv)) h.sequence h.converts refused.1

-- ---- outcomes

abbrev Passed : CxxGraph → List CxxOperand → CxxCandidate → List CxxSequence → Type 0
Passed graph operands candidate sequences = sequences_of graph operands candidate.parameters candidate.ellipsis ≡ Ok sequences

met_here : (graph : CxxGraph) (operands : List CxxOperand) (candidate : CxxCandidate) (sequences : List CxxSequence) (index : ℕ) (operand : CxxOperand) (parameter : CxxType) → Passed graph operands candidate sequences → slice_get operands index ≡ Some operand → slice_get candidate.parameters index ≡ Some parameter → (sequence : CxxSequence) × ((slice_get sequences index ≡ Some sequence) × IsMet graph operand parameter sequence)
met_here graph operands candidate sequences index operand parameter is passed met =
    let at = at_index graph operands candidate.parameters candidate.ellipsis sequences index operand is passed in
    let m = met_at candidate.parameters index parameter met in
    (at.sequence, (at.stands, is_met graph operand (behind_by index candidate.parameters) m.0 parameter candidate.ellipsis at.sequence m.1 at.asked))

beyond_here : (graph : CxxGraph) (operands : List CxxOperand) (candidate : CxxCandidate) (sequences : List CxxSequence) (index : ℕ) → Passed graph operands candidate sequences → index < length operands → length candidate.parameters ≤ index → slice_get sequences index ≡ Some (sequence_beyond candidate.ellipsis)
beyond_here graph operands candidate sequences index is inside past =
    let there = below_there operands index inside in
    let at = at_index graph operands candidate.parameters candidate.ellipsis sequences index there.0 is there.1 in
    at.stands ∙ ap (λ s. Some s) (is_beyond graph there.0 (behind_by index candidate.parameters) candidate.ellipsis at.sequence (none_at candidate.parameters index past) at.asked)

converted_by : (graph : CxxGraph) (operand : CxxOperand) (parameter : CxxType) (sequences : List CxxSequence) (index : ℕ) (found : Option CxxStandard) → standard_sequence graph operand parameter ≡ Ok found → slice_get sequences index ≡ Some (found_sequence found) → slice_get sequences index ≢ Some no_sequence → IsConverted graph operand parameter sequences index
converted_by graph operand parameter sequences index None asked at some = absurd (some at)
converted_by graph operand parameter sequences index (Some one) asked at some = record { sequence = one; converts = asked; kept = at }

ellipsis_by : (ellipsis : Bool) (sequences : List CxxSequence) (index : ℕ) → slice_get sequences index ≡ Some (sequence_beyond ellipsis) → slice_get sequences index ≢ Some no_sequence → slice_get sequences index ≡ Some by_ellipsis
ellipsis_by true sequences index at some = at
ellipsis_by false sequences index at some = absurd (some at)

can_be_called : (graph : CxxGraph) (object : Option CxxOperand) (operands : List CxxOperand) (candidate : CxxCandidate) (first : Option CxxSequence) (sequences : List CxxSequence) → StandsFirst graph object candidate first → Passed graph operands candidate sequences → Enough operands candidate → NotMore operands candidate → ((k : ℕ) → slice_get sequences k ≢ Some no_sequence) → CanBeCalled graph object operands candidate (cons_option first sequences)
can_be_called graph object operands candidate first sequences stands is enough most some = record {
  enough = enough;
  not_more = most;
  one_each = all_counted graph object operands candidate first sequences stands (counted graph operands candidate.parameters candidate.ellipsis sequences is);
  object_so = passes_object graph object candidate first sequences stands;
  converted = λ index operand parameter passed met.
      let h = met_here graph operands candidate sequences index operand parameter is passed met in
      let place = at_place graph object candidate first sequences index stands in
      converted_by graph operand parameter (cons_option first sequences) (place_of object index) h.1.1.found h.1.1.asked (place ∙ h.1.0 ∙ ap (λ s. Some s) h.1.1.is) (λ e. some index (sym place ∙ e));
  beyond = λ index inside past.
      let place = at_place graph object candidate first sequences index stands in
      ellipsis_by candidate.ellipsis (cons_option first sequences) (place_of object index) (place ∙ beyond_here graph operands candidate sequences index is inside past) (λ e. some index (sym place ∙ e));
}

nothing_found : (graph : CxxGraph) (operand : CxxOperand) (parameter : CxxType) (found : Option CxxStandard) → standard_sequence graph operand parameter ≡ Ok found → found_sequence found ≡ no_sequence → standard_sequence graph operand parameter ≡ Ok None
nothing_found graph operand parameter None asked is = asked
nothing_found graph operand parameter (Some one) asked is = absurd cc

same_some : {A : Type 0} (o : Option A) (x y : A) → o ≡ Some x → o ≡ Some y → x ≡ y
same_some o x y e f = cc

-- an argument without a sequence meets a parameter
not_converted : (graph : CxxGraph) (operands : List CxxOperand) (candidate : CxxCandidate) (sequences : List CxxSequence) (index : ℕ) → Passed graph operands candidate sequences → NotMore operands candidate → slice_get sequences index ≡ Some no_sequence → IsNotConverted graph operands candidate.parameters index
not_converted graph operands candidate sequences index is most missing = by (cases_order index (length candidate.parameters))
  where
    inside : index < length operands
    inside = (let n = counted graph operands candidate.parameters candidate.ellipsis sequences is in let b = there_below sequences index no_sequence missing in omega (arith, n, b))

    past : length candidate.parameters ≤ index → (ellipsis : Bool) → candidate.ellipsis ≡ ellipsis → sequence_beyond ellipsis ≡ no_sequence → ⊥
    past over true said same = absurd cc
    past over false said same = (let least = most said in let i = inside in omega (arith, least, i, over))

    out : length candidate.parameters ≤ index → IsNotConverted graph operands candidate.parameters index
    out over = absurd (past over candidate.ellipsis refl (same_some (slice_get sequences index) (sequence_beyond candidate.ellipsis) no_sequence (beyond_here graph operands candidate sequences index is inside over) missing))

    by : (index ≡ length candidate.parameters) ⊎ ((index < length candidate.parameters) ⊎ (length candidate.parameters < index)) → IsNotConverted graph operands candidate.parameters index
    by (inl same) = out (omega (arith, same))
    by (inr (inl less)) =
        let one = below_there operands index inside in
        let two = below_there candidate.parameters index less in
        let h = met_here graph operands candidate sequences index one.0 two.0 is one.1 two.1 in
        let none : found_sequence h.1.1.found ≡ no_sequence = sym h.1.1.is ∙ same_some (slice_get sequences index) h.0 no_sequence h.1.0 missing in
        record { operand = one.0; parameter = two.0; passed = one.1; met = two.1; refused = nothing_found graph one.0 two.0 h.1.1.found h.1.1.asked none }
    by (inr (inr more)) = out (omega (arith, more))

-- where it is not converted, it has no sequence
has_none : (graph : CxxGraph) (operands : List CxxOperand) (candidate : CxxCandidate) (sequences : List CxxSequence) (index : ℕ) → Passed graph operands candidate sequences → IsNotConverted graph operands candidate.parameters index → slice_get sequences index ≡ Some no_sequence
has_none graph operands candidate sequences index is not =
    let h = met_here graph operands candidate sequences index not.operand not.parameter is not.passed not.met in
    h.1.0 ∙ ap (λ s. Some s) (h.1.1.is ∙ ap found_sequence (answers (standard_sequence graph not.operand not.parameter) h.1.1.found h.1.1.asked not.refused))
  where
    answers : (asked : Asked (Option CxxStandard)) (found : Option CxxStandard) → asked ≡ Ok found → asked ≡ Ok None → found ≡ None
    answers asked found e f = cc

put_aside_is : (graph : CxxGraph) (object : Option CxxOperand) (operands : List CxxOperand) (candidate : CxxCandidate) (why : Reason) (one : Rated) → IsFirstReason graph object operands candidate why → put_aside candidate why ≡ one → IsOutcome graph object operands candidate one.sequences one.outcome
put_aside_is graph object operands candidate why one first same = subst (λ (r : Rated). IsOutcome graph object operands candidate r.sequences r.outcome) same first

by_missing : (graph : CxxGraph) (object : Option CxxOperand) (operands : List CxxOperand) (candidate : CxxCandidate) (first : Option CxxSequence) (sequences : List CxxSequence) (o : Option ℕ) → StandsFirst graph object candidate first → Passed graph operands candidate sequences → Enough operands candidate → NotMore operands candidate → first_without 1 sequences ≡ o → IsOutcome graph object operands candidate (by_sequences candidate first sequences o).sequences (by_sequences candidate first sequences o).outcome
by_missing graph object operands candidate first sequences None stands is enough most e = can_be_called graph object operands candidate first sequences stands is enough most (without_none 1 sequences e)
by_missing graph object operands candidate first sequences (Some position) stands is enough most e =
    let h = without_some 1 position sequences e in
    let at : position ≡ suc h.before = (let c = h.counted_so in omega (arith, c)) in
    subst (λ p. IsFirstReason graph object operands candidate (reason.NoConversion p)) (sym at)
    (record {
      holds = not_converted graph operands candidate sequences h.before is most h.missing;
      first = later_than_object graph object operands candidate h.before enough most (object_converted graph object candidate first stands) (λ k less not. h.earlier k less (has_none graph operands candidate sequences k is not));
    })

by_asked : (graph : CxxGraph) (object : Option CxxOperand) (operands : List CxxOperand) (candidate : CxxCandidate) (first : Option CxxSequence) (asked : Asked (List CxxSequence)) (one : Rated) → StandsFirst graph object candidate first → sequences_of graph operands candidate.parameters candidate.ellipsis ≡ asked → Enough operands candidate → NotMore operands candidate → (asked >>= λ sequences. Ok (by_sequences candidate first sequences (first_without 1 sequences))) ≡ Ok one → IsOutcome graph object operands candidate one.sequences one.outcome
by_asked graph object operands candidate first (Ok sequences) one stands is enough most e =
    let same : by_sequences candidate first sequences (first_without 1 sequences) ≡ one = cc in
    subst (λ (r : Rated). IsOutcome graph object operands candidate r.sequences r.outcome) same (by_missing graph object operands candidate first sequences (first_without 1 sequences) stands is enough most refl)
by_asked graph object operands candidate first (Err class) one stands is enough most e = absurd cc

by_standard_sequence : (graph : CxxGraph) (object : CxxOperand) (operands : List CxxOperand) (candidate : CxxCandidate) (asked : Asked (Option CxxStandard)) (one : Rated) → is_nonstatic candidate.member ≡ true → standard_sequence graph object (object_parameter object candidate.cv) ≡ asked → Enough operands candidate → NotMore operands candidate → (asked >>= by_found graph operands candidate) ≡ Ok one → IsOutcome graph (Some object) operands candidate one.sequences one.outcome
by_standard_sequence graph object operands candidate (Ok None) one member is enough most e =
    put_aside_is graph (Some object) operands candidate reason.ObjectNoConversion one (record { holds = (member, is); first = later_than_count graph (Some object) operands candidate enough most }) cc
by_standard_sequence graph object operands candidate (Ok (Some found)) one member is enough most e =
    by_asked graph (Some object) operands candidate (Some (by_standard found)) (sequences_of graph operands candidate.parameters candidate.ellipsis) one
    (record { nonstatic = λ m. record { sequence = found; converts = is; kept = refl }; otherwise = λ m. absurd cc })
    refl enough most e
by_standard_sequence graph object operands candidate (Err class) one member is enough most e = absurd cc

by_member : (graph : CxxGraph) (object : CxxOperand) (operands : List CxxOperand) (candidate : CxxCandidate) (member : Bool) (one : Rated) → is_nonstatic candidate.member ≡ member → Enough operands candidate → NotMore operands candidate → by_object graph object operands candidate member ≡ Ok one → IsOutcome graph (Some object) operands candidate one.sequences one.outcome
by_member graph object operands candidate true one member enough most e = by_standard_sequence graph object operands candidate (standard_sequence graph object (object_parameter object candidate.cv)) one member refl enough most e
by_member graph object operands candidate false one member enough most e =
    by_asked graph (Some object) operands candidate (Some no_sequence) (sequences_of graph operands candidate.parameters candidate.ellipsis) one
    (record { nonstatic = λ m. absurd cc; otherwise = λ m. refl })
    refl enough most e

called : (graph : CxxGraph) (object : Option CxxOperand) (operands : List CxxOperand) (candidate : CxxCandidate) (one : Rated) → Enough operands candidate → NotMore operands candidate → by_call graph object operands candidate ≡ Ok one → IsOutcome graph object operands candidate one.sequences one.outcome
called graph None operands candidate one enough most e = by_asked graph None operands candidate None (sequences_of graph operands candidate.parameters candidate.ellipsis) one tt refl enough most e
called graph (Some object) operands candidate one enough most e = by_member graph object operands candidate (is_nonstatic candidate.member) one refl enough most e

pub outcome_is : (graph : CxxGraph) (object : Option CxxOperand) (operands : List CxxOperand) (candidate : CxxCandidate) (one : Rated) → rated_one graph object operands candidate ≡ Ok one → IsOutcome graph object operands candidate one.sequences one.outcome
unfolding rated_one
outcome_is graph object operands candidate one e =
    by (nat_lt (length operands) (length candidate.parameters - candidate.defaults)) (not candidate.ellipsis && nat_lt (length candidate.parameters) (length operands)) refl refl e
  where
    by : (few many : Bool) → nat_lt (length operands) (length candidate.parameters - candidate.defaults) ≡ few → (not candidate.ellipsis && nat_lt (length candidate.parameters) (length operands)) ≡ many → by_count graph object operands candidate (cond few (Some reason.TooFewArguments) (cond many (Some reason.TooManyArguments) None)) ≡ Ok one → IsOutcome graph object operands candidate one.sequences one.outcome
    by true many few_is many_is e = put_aside_is graph object operands candidate reason.TooFewArguments one (few_first graph object operands candidate (ltb-true (length operands) (length candidate.parameters - candidate.defaults) few_is)) cc
    by false true few_is many_is e =
        let h = both (not candidate.ellipsis) (nat_lt (length candidate.parameters) (length operands)) many_is in
        let least = no_less (length operands) (length candidate.parameters - candidate.defaults) few_is in
        put_aside_is graph object operands candidate reason.TooManyArguments one
        (record { holds = (unsaid candidate.ellipsis h.0, ltb-true (length candidate.parameters) (length operands) h.1); first = later_than_few graph object operands candidate (omega (arith, least)) })
        cc
    by false false few_is many_is e =
        let least = no_less (length operands) (length candidate.parameters - candidate.defaults) few_is in
        called graph object operands candidate one (omega (arith, least))
        (λ said. no_less (length candidate.parameters) (length operands) (neither_more candidate.ellipsis (nat_lt (length candidate.parameters) (length operands)) many_is said))
        e
