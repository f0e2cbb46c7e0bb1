-- What is kept where it is asked which function a call means, and that what stops such a question is true.
use Rattle.std.proofs.Common.{◌≡◌, ℕ, List, [], ◌∷◌, ◌++◌, Option, Some, None, Ok, Err, refl, sym, ap, subst, ◌∙◌, inl, inr}
use Rattle.std.specs.Prelude.{Bool, true, false, nat_lt, length}
use Rattle.std.specs.List.{AllByRecursion}
use Rattle.std.proofs.lemmas.List.{append-nil}
use Rattle.cxx_model.specs.declared.evidence.Reason.{Reason}
use Rattle.cxx_model.specs.declared.limits.TheConstants as limits
use Rattle.cxx_model.specs.declared.place.Place.{Place}
use Rattle.cxx_model.specs.declared.stop.Fault.{Fault}
use Rattle.cxx_model.specs.declared.stop.LimitKind.TheVariants.{Arguments}
use Rattle.cxx_model.specs.declared.fault.FaultText.TheVariants as says
use Rattle.cxx_model.specs.Facts.Declarations.{CxxGraph}
use Rattle.cxx_model.specs.Stops.{Answer, Stopped, Faulty, Limited, undeclared_at}
use Rattle.cxx_model.specs.Types.Trees.{CxxType}
use Rattle.cxx_meaning.specs.Conversions.Asking.{Asked, ◌>>=◌}
use Rattle.cxx_meaning.specs.Conversions.Standard.{CxxOperand, CxxStandard, standard_sequence}
use Rattle.cxx_reading.specs.Givers.{with_givers}
use Rattle.cxx_reading.specs.Initializers.{with_call}
use Rattle.cxx_reading.specs.Paths.{name_in}
use Rattle.cxx_reading.specs.Reads.{Ahead}
use Rattle.cxx_reading.specs.Seen.{Numbered}
use Rattle.cxx_reading.specs.State.{CxxState, CxxCall}
use Rattle.cxx_reading.specs.Trees.{CxxPath}
use Rattle.cxx_expr.specs.Names.{path_in}
use Rattle.cxx_expr.specs.Operands.{object_operand}
use Rattle.cxx_expr.specs.Questions.{CxxQuestion}
use Rattle.cxx_overload.specs.Calls.{CxxDecision, decided}
use Rattle.cxx_overload.specs.Candidates.{CxxCandidate, candidates}
use Rattle.cxx_overload.specs.Decided.{IsDecided, IsUndecided, NoneViable, IsAmbiguous}
use Rattle.cxx_overload.specs.Objects.{is_nonstatic, object_parameter}
use Rattle.cxx_overload.specs.Sequences.{CxxSequence, by_standard, no_sequence, sequences_of}
use Rattle.cxx_overload.specs.Viability.{Rated, by_arguments, by_call, by_count, by_found, by_object, by_sequences, first_without, rated, rated_one}
use Rattle.cxx_overload.specs.Words.{IsOutcome}
use Rattle.cxx_answers.specs.Answers.{call_here, called_as, decided_among, functions_of_call, word_or_none}
use Rattle.cxx_language_laws.specs.Best.{AreImpliedIn, AreMembers, IsBestCall, IsRatedSo, MayMean, asked_word, values_of}
use Rattle.cxx_language_laws.specs.Told.{AreImpliedCalled, IsChoiceFault, IsFoundClear, IsMemberCall, IsUnitCall, called, declared_then, meant, member_operands, member_part, operands, place_of_call, ambiguous_call, ambiguous_implied, ambiguous_member, no_viable_function, no_viable_implied, no_viable_member}
use Rattle.cxx_language_laws.proofs.Later.{IsLater, grown_same, each_widened}
use Rattle.cxx_language_laws.proofs.QuestionsTell.{if_by}
use Rattle.cxx_language_laws.proofs.Reached.{Told, reached_here, IsChosen}
use Rattle.cxx_language_laws.proofs.Scopes.{scopes_same}
use Rattle.cxx_overload.proofs.Deciding.{decision_best, undecided_why}
use Rattle.cxx_overload.proofs.Reasons.{outcome_is}
use Rattle.cxx_language_laws.proofs.Tells.{ToldBy, tells_answer, tells_refusal}

-- ---- why candidates are not viable

abbrev AskedAre : {A : Type 0} → Asked A → Asked A → Type 0
AskedAre one two = one ≡ two

ok_is : {A : Type 0} (x y : A) → AskedAre (Ok x) (Ok y) → x ≡ y
ok_is x y e = cc

by_sequences_of : (candidate : CxxCandidate) (first : Option CxxSequence) (sequences : List CxxSequence) (missing : Option ℕ) → (by_sequences candidate first sequences missing).candidate ≡ candidate
by_sequences_of candidate first sequences None = refl
by_sequences_of candidate first sequences (Some position) = refl

sequences_rated : (candidate : CxxCandidate) (first : Option CxxSequence) (asked : Asked (List CxxSequence)) (one : Rated) → AskedAre (asked >>= λ sequences. Ok (by_sequences candidate first sequences (first_without 1 sequences))) (Ok one) → one.candidate ≡ candidate
sequences_rated candidate first (Ok sequences) one e = ap (λ (r : Rated). r.candidate) (sym (ok_is _ one e)) ∙ by_sequences_of candidate first sequences (first_without 1 sequences)
sequences_rated candidate first (Err class) one e = absurd cc

arguments_rated : (graph : CxxGraph) (operands : List CxxOperand) (candidate : CxxCandidate) (first : Option CxxSequence) (one : Rated) → AskedAre (by_arguments graph operands candidate first) (Ok one) → one.candidate ≡ candidate
arguments_rated graph operands candidate first one e = sequences_rated candidate first (sequences_of graph operands candidate.parameters candidate.ellipsis) one e

-- 13.3.1: with the sequence of the object
found_rated : (graph : CxxGraph) (operands : List CxxOperand) (candidate : CxxCandidate) (found : Asked (Option CxxStandard)) (one : Rated) → AskedAre (found >>= by_found graph operands candidate) (Ok one) → one.candidate ≡ candidate
found_rated graph operands candidate (Ok (Some sequence)) one e = arguments_rated graph operands candidate (Some (by_standard sequence)) one e
found_rated graph operands candidate (Ok None) one e = ap (λ (r : Rated). r.candidate) (sym (ok_is _ one e))
found_rated graph operands candidate (Err class) one e = absurd cc

object_rated : (graph : CxxGraph) (object : CxxOperand) (operands : List CxxOperand) (candidate : CxxCandidate) (nonstatic : Bool) (one : Rated) → AskedAre (by_object graph object operands candidate nonstatic) (Ok one) → one.candidate ≡ candidate
object_rated graph object operands candidate true one e = found_rated graph operands candidate (standard_sequence graph object (object_parameter object candidate.cv)) one e
object_rated graph object operands candidate false one e = arguments_rated graph operands candidate (Some no_sequence) one e

call_rated : (graph : CxxGraph) (object : Option CxxOperand) (operands : List CxxOperand) (candidate : CxxCandidate) (one : Rated) → AskedAre (by_call graph object operands candidate) (Ok one) → one.candidate ≡ candidate
call_rated graph None operands candidate one e = arguments_rated graph operands candidate None one e
call_rated graph (Some object) operands candidate one e = object_rated graph object operands candidate (is_nonstatic candidate.member) one e

count_rated : (graph : CxxGraph) (object : Option CxxOperand) (operands : List CxxOperand) (candidate : CxxCandidate) (fault : Option Reason) (one : Rated) → AskedAre (by_count graph object operands candidate fault) (Ok one) → one.candidate ≡ candidate
count_rated graph object operands candidate (Some reason) one e = ap (λ (r : Rated). r.candidate) (sym (ok_is _ one e))
count_rated graph object operands candidate None one e = call_rated graph object operands candidate one e

one_rated : (graph : CxxGraph) (object : Option CxxOperand) (operands : List CxxOperand) (candidate : CxxCandidate) (one : Rated) → rated_one graph object operands candidate ≡ Ok one → one.candidate ≡ candidate
unfolding rated_one
one_rated graph object operands candidate one e = count_rated graph object operands candidate _ one e

one_so : (graph : CxxGraph) (object : Option CxxOperand) (operands : List CxxOperand) (candidate : CxxCandidate) (one : Rated) → rated_one graph object operands candidate ≡ Ok one → IsRatedSo graph object operands one
one_so graph object operands candidate one e = subst (λ (c : CxxCandidate). IsOutcome graph object operands c one.sequences one.outcome) (sym (one_rated graph object operands candidate one e)) (outcome_is graph object operands candidate one e)

others_so : (graph : CxxGraph) (object : Option CxxOperand) (operands : List CxxOperand) (one : Rated) (later : Asked (List Rated)) (all : List Rated) → IsRatedSo graph object operands one
    → ((rest : List Rated) → later ≡ Ok rest → AllByRecursion (IsRatedSo graph object operands) rest) → AskedAre (later >>= λ others. Ok (one ∷ others)) (Ok all) → AllByRecursion (IsRatedSo graph object operands) all
others_so graph object operands one (Ok rest) all here behind e = subst (AllByRecursion (IsRatedSo graph object operands)) (ok_is (one ∷ rest) all e) (here, behind rest refl)
others_so graph object operands one (Err class) all here behind e = absurd cc

first_so : (graph : CxxGraph) (object : Option CxxOperand) (operands : List CxxOperand) (candidate : CxxCandidate) (first : Asked Rated) (later : Asked (List Rated)) (all : List Rated) → rated_one graph object operands candidate ≡ first
    → ((rest : List Rated) → later ≡ Ok rest → AllByRecursion (IsRatedSo graph object operands) rest) → AskedAre (first >>= λ one. later >>= λ others. Ok (one ∷ others)) (Ok all) → AllByRecursion (IsRatedSo graph object operands) all
first_so graph object operands candidate (Ok one) later all is behind e = others_so graph object operands one later all (one_so graph object operands candidate one is) behind e
first_so graph object operands candidate (Err class) later all is behind e = absurd cc

-- each has its true reason
pub rated_hold : (graph : CxxGraph) (object : Option CxxOperand) (operands : List CxxOperand) (some : List CxxCandidate) (all : List Rated) → rated graph object operands some ≡ Ok all → AllByRecursion (IsRatedSo graph object operands) all
unfolding rated
rated_hold graph object operands [] all e = subst (AllByRecursion (IsRatedSo graph object operands)) (ok_is [] all e) tt
rated_hold graph object operands (candidate ∷ others) all e = first_so graph object operands candidate (rated_one graph object operands candidate) (rated graph object operands others) all refl (λ rest is. rated_hold graph object operands others rest is) e

-- ---- a call that is decided

one_more_call : (state : CxxState) (call : CxxCall) → IsBestCall (with_call call state) call → (calls : List CxxCall) → AllByRecursion (IsBestCall (with_call call state)) calls → AllByRecursion (IsBestCall (with_call call state)) (calls ++ call ∷ [])
one_more_call state call best [] all = (best, tt)
one_more_call state call best (first ∷ calls) all = (all.0, one_more_call state call best calls all.1)

call_added : (state : CxxState) (call : CxxCall) → IsBestCall (with_call call state) call → IsLater state (with_call call state)
call_added state call best = record {
  grown = grown_same state (with_call call state) refl;
  scopes = scopes_same state (with_call call state) refl refl;
  best = λ all. one_more_call state call best state.calls (each_widened state (with_call call state) (grown_same state (with_call call state) refl) state.calls all);
  here = λ is. refl;
}

best_call : (state new : CxxState) (place : Place) (object : Option CxxOperand) (operands : List CxxOperand) (functions : List Numbered) (decision : CxxDecision) → new.graph ≡ state.graph → MayMean state.graph object operands functions → IsDecided place object operands state.graph functions decision → IsBestCall new decision.call
best_call state new place object operands functions decision same may_mean is = subst (IsBestCall new) (sym is.keeps) (record {
  before = state.graph;
  later = [];
  stands = ap (λ (g : CxxGraph). g.facts) same ∙ sym (append-nil state.graph.facts);
  object = object;
  operands = operands;
  functions = functions;
  may_mean = may_mean;
  all = is.all;
  rated_so = is.rated_so;
  reasons = rated_hold state.graph object operands (candidates functions) is.all is.rated_so;
  meant = is.meant;
  best = is.best;
  keeps = refl;
})

-- ---- a call that is not

-- A question is asked in a state with so many functions. These are what the call may mean, and where none of them is viable, or
-- none is the best, that is told of where the call begins.
record IsTrueOf (state : CxxState) (ahead : Ahead) (at : CxxState) (question : CxxQuestion) (functions : List Numbered) : Type 0 where
  may_mean : MayMean at.graph question.object question.operands functions
  none_is : (fault : Fault) → NoneViable question.place question.object question.operands at.graph functions (Faulty fault) → IsChoiceFault state ahead fault
  tied_is : (fault : Fault) → IsAmbiguous question.place question.object question.operands at.graph functions (Faulty fault) → IsChoiceFault state ahead fault

-- what is told of where the call begins, wherever it is asked
abbrev GoesOn : CxxState → Ahead → (CxxState → Ahead → Stopped → Type 0) → CxxState → Ahead → Type 0
GoesOn state ahead told at rest = (why : Stopped) → Told state ahead why → told at rest why

fault_told : (state : CxxState) (ahead : Ahead) (at : CxxState) (question : CxxQuestion) (functions : List Numbered) → IsTrueOf state ahead at question functions → (why : Stopped) → IsUndecided question.place question.object question.operands at.graph functions why → Told state ahead why
fault_told state ahead at question functions true_of why (inl many) = subst (Told state ahead) (sym many.why_is) tt
fault_told state ahead at question functions true_of why (inr (inl class)) = subst (Told state ahead) (sym class.why_is) tt
fault_told state ahead at question functions true_of why (inr (inr (inl none))) = subst (Told state ahead) (sym none.why_is) (reached_here state ahead (IsChosen fault) (true_of.none_is fault (subst (NoneViable question.place question.object question.operands at.graph functions) none.why_is none)))
  where
    fault : Fault
    fault = record { place = question.place; text = says.NoViableFunction; evidence = none.lines }
fault_told state ahead at question functions true_of why (inr (inr (inr tied))) = subst (Told state ahead) (sym tied.why_is) (reached_here state ahead (IsChosen fault) (true_of.tied_is fault (subst (IsAmbiguous question.place question.object question.operands at.graph functions) tied.why_is tied)))
  where
    fault : Fault
    fault = record { place = question.place; text = says.AmbiguousCall; evidence = tied.lines }

-- ---- the question of a call

decided_tells : {told : CxxState → Ahead → Stopped → Type 0} (state : CxxState) (ahead : Ahead) (at : CxxState) (rest : Ahead) (question : CxxQuestion) (functions : List Numbered) → GoesOn state ahead told at rest → IsTrueOf state ahead at question functions → (answer : Answer CxxDecision) → decided question.place question.object question.operands at.graph functions ≡ answer
    → ToldBy IsLater told at rest (called_as at answer)
decided_tells state ahead at rest question functions goes true_of (Ok one) is = tells_answer _ (call_added at one.call (best_call at (with_call one.call at) question.place question.object question.operands functions one refl true_of.may_mean (decision_best question.place question.object question.operands at.graph functions one is)))
decided_tells state ahead at rest question functions goes true_of (Err why) is = tells_refusal why (goes why (fault_told state ahead at question functions true_of why (undecided_why question.place question.object question.operands at.graph functions why is)))

-- what is told where there are none
abbrev IsNoneTold : CxxState → Ahead → CxxQuestion → List Numbered → Type 0
IsNoneTold state ahead question functions = functions ≡ [] → Told state ahead (undeclared_at question.place (word_or_none question.word))

among_tells : {told : CxxState → Ahead → Stopped → Type 0} (state : CxxState) (ahead : Ahead) (at : CxxState) (rest : Ahead) (question : CxxQuestion) (all : List Numbered) → GoesOn state ahead told at rest → IsNoneTold state ahead question all → ((one : Numbered) (others : List Numbered) → all ≡ one ∷ others → IsTrueOf state ahead at question all)
    → ToldBy IsLater told at rest (called_as at (decided_among question at all))
among_tells state ahead at rest question [] goes nothing true_of = tells_refusal _ (goes _ (nothing refl))
among_tells state ahead at rest question (one ∷ others) goes nothing true_of = decided_tells state ahead at rest question (one ∷ others) goes (true_of one others refl) (decided question.place question.object question.operands at.graph (one ∷ others)) refl

question_tells : {told : CxxState → Ahead → Stopped → Type 0} (state : CxxState) (ahead : Ahead) (at : CxxState) (rest : Ahead) (question : CxxQuestion) (functions : List Numbered) → functions_of_call at.graph at.here.scope question ≡ functions → GoesOn state ahead told at rest → IsNoneTold state ahead question functions
    → ((one : Numbered) (others : List Numbered) → functions ≡ one ∷ others → IsTrueOf state ahead at question functions) → ToldBy IsLater told at rest (call_here question at)
unfolding call_here
question_tells {told = told} state ahead at rest question functions are goes nothing true_of =
    if_by (nat_lt limits.MOST_ARGUMENTS (length question.operands)) (tells_refusal (Limited Arguments) (goes (Limited Arguments) tt))
    (subst (λ (all : List Numbered). ToldBy IsLater told at rest (called_as at (decided_among question at all))) (sym are) (among_tells state ahead at rest question functions goes nothing true_of))

-- ---- a call by a name

-- what is asked for it
abbrev pub asked_for : {room : ℕ} {before : CxxState} {ahead : Ahead} (call : IsUnitCall room before ahead) → IsFoundClear call → CxxQuestion
asked_for call clear = record { place = place_of_call call; word = asked_word call.is_open (called call); functions = values_of call.at.graph clear.where_ (name_in (called call)); object = None; operands = operands call }

-- it is told where a call may mean nothing
abbrev pub NothingTold : {room : ℕ} {state : CxxState} {ahead : Ahead} (call : IsUnitCall room state ahead) → IsFoundClear call → CxxState → Ahead → Type 0
NothingTold call clear state ahead = meant call clear ≡ [] → Told state ahead (undeclared_at (place_of_call call) (word_or_none (asked_word call.is_open (called call))))

-- in the state in which the arguments of the call are read
pub call_asked_tells : {told : CxxState → Ahead → Stopped → Type 0} (state : CxxState) (ahead rest : Ahead) (room : ℕ) (call : IsUnitCall room state ahead) (clear : IsFoundClear call) → ((why : Stopped) → Told state ahead why → told call.at rest why) → NothingTold call clear state ahead → ToldBy IsLater told call.at rest (call_here (asked_for call clear) call.at)
unfolding functions_of_call
call_asked_tells state ahead rest room call clear goes nothing = question_tells state ahead call.at rest (asked_for call clear) (meant call clear) refl goes nothing (λ one others are. record {
  may_mean = record { scope = call.at.here.scope; path = called call; is_open = call.is_open; where_ = clear.where_; qualifies = clear.qualifies; clear = clear.clear; are = refl };
  none_is = λ fault none. no_viable_function room call clear none;
  tied_is = λ fault tied. ambiguous_call room call clear tied;
})

-- ---- a call with an object (13.3.1.1.1)

-- the types of its arguments find no functions besides
members_alone : (graph : CxxGraph) (scope : ℕ) (place : Place) (object : Option CxxOperand) (functions : List Numbered) (operands : List CxxOperand) → functions_of_call graph scope (record { place = place; word = None; functions = functions; object = object; operands = operands }) ≡ functions
unfolding functions_of_call with_givers
members_alone graph scope place object functions operands = append-nil functions

-- ---- a call by a name without an object that means functions of a class (13.3.1.1.1 p3)

-- what is asked for it
abbrev pub asked_implied : {room : ℕ} {before : CxxState} {ahead : Ahead} → IsUnitCall room before ahead → CxxOperand → List Numbered → CxxQuestion
asked_implied call object functions = record { place = place_of_call call; word = None; functions = functions; object = Some object; operands = operands call }

-- there is one
some_implied : (graph : CxxGraph) (scope : ℕ) (path : CxxPath) (in_default : Bool) (object : CxxOperand) (functions : List Numbered) → AreImpliedIn graph scope path in_default object functions → functions ≡ [] → ⊥
some_implied graph scope path in_default object functions implied none = by (sym none ∙ implied.first)
  where
    by : {one : Numbered} {others : List Numbered} → [] ≡ one ∷ others → ⊥
    by e = cc

-- in the state in which its arguments are read
pub implied_asked_tells : {told : CxxState → Ahead → Stopped → Type 0} (state : CxxState) (ahead rest : Ahead) (room : ℕ) (call : IsUnitCall room state ahead) (object : CxxOperand) (functions : List Numbered) → AreImpliedCalled call object functions → ((why : Stopped) → Told state ahead why → told call.at rest why)
    → ToldBy IsLater told call.at rest (call_here (asked_implied call object functions) call.at)
implied_asked_tells state ahead rest room call object functions implied goes =
    question_tells state ahead call.at rest (asked_implied call object functions) functions (members_alone call.at.graph call.at.here.scope (place_of_call call) (Some object) functions (operands call)) goes
    (λ none. absurd (some_implied call.at.graph call.at.here.scope (called call) call.at.in_default object functions implied none)) (λ one others are. record {
      may_mean = inr (record { scope = call.at.here.scope; path = called call; in_default = call.at.in_default; are = implied });
      none_is = λ fault none. no_viable_implied room call object functions implied none;
      tied_is = λ fault tied. ambiguous_implied room call object functions implied tied;
    })

-- ---- a call of a member

-- what is asked for it
abbrev pub asked_member : {room : ℕ} {before : CxxState} {ahead : Ahead} → IsMemberCall room before ahead → CxxType → List Numbered → CxxQuestion
asked_member is of functions = record { place = (member_part is).place; word = None; functions = functions; object = Some (object_operand of); operands = member_operands is }

-- in the state in which its arguments are read
pub member_asked_tells : {told : CxxState → Ahead → Stopped → Type 0} (state : CxxState) (ahead rest : Ahead) (room : ℕ) (is : IsMemberCall room state ahead) (of : CxxType) (functions : List Numbered) → is.call.callee.label.of ≡ Some of → ((why : Stopped) → Told state ahead why → told is.call.at rest why)
    → (functions ≡ [] → Told state ahead (undeclared_at (member_part is).place [])) → ((one : Numbered) (others : List Numbered) → functions ≡ one ∷ others → AreMembers (declared_then is) is.call.at.here.scope (object_operand of) (path_in is.call.callee.label) functions) → ToldBy IsLater told is.call.at rest (call_here (asked_member is of functions) is.call.at)
member_asked_tells state ahead rest room is of functions typed goes nothing members =
    question_tells state ahead is.call.at rest (asked_member is of functions) functions (members_alone (declared_then is) is.call.at.here.scope (member_part is).place (Some (object_operand of)) functions (member_operands is)) goes nothing (λ one others e. record {
      may_mean = inl (record { scope = is.call.at.here.scope; path = path_in is.call.callee.label; are = members one others e });
      none_is = λ fault none. no_viable_member room is functions (record { of = of; typed = typed; are = members one others e }) none;
      tied_is = λ fault tied. ambiguous_member room is functions (record { of = of; typed = typed; are = members one others e }) tied;
    })
