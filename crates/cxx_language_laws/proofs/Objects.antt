-- The reader of an initializer keeps the declarations and the calls so far, and what stops it is true.
use Rattle.std.proofs.Common.{arith, ◌≡◌, ◌<◌, ap, refl}
use Rattle.std.specs.Prelude.{ℕ, ◌||◌, length, List, [], ◌∷◌, Option, Some, None, ℤ}
use Rattle.std.specs.List.{slice_get}
use Rattle.std.proofs.lemmas.List.{length-append}
use Rattle.cxx_model.specs.Facts.Declarations as facts
use Rattle.cxx_model.specs.Facts.Declarations.{CxxFact, Declares, spelled}
use Rattle.cxx_model.specs.Stops.{Answer, Stopped}
use Rattle.cxx_model.specs.Text.Lexemes.{Lexeme}
use Rattle.cxx_model.specs.Types.Trees.{CxxType}
use Rattle.cxx_reading.specs.Declaring.{declares_by, fact_here}
use Rattle.cxx_reading.specs.Reads.{Ahead, Got, Reads, then_read}
use Rattle.cxx_reading.specs.State.{CxxState}
use Rattle.cxx_reading.specs.Trees.{CxxTree, children_of}
use Rattle.cxx_reading.specs.Units.{is_unbounded}
use Rattle.cxx_answers.specs.Typed.{entity_number, first_of, type_so_far}
use Rattle.cxx_language.specs.Known.{is_some_value, known_answer, known_object, known_value, note_known, noted, type_known}
use Rattle.cxx_language.specs.Objects.{initialized_part, initializer_tree, is_empty_array, some_elements}
use Rattle.cxx_language.specs.Asked.{answers, inner_at, phrases_at}
use Rattle.cxx_language_laws.proofs.Asked.{phrases_tell, constant_tells}
use Rattle.cxx_language_laws.proofs.Both.{both_tell}
use Rattle.cxx_language_laws.proofs.Declared.{complete_tells}
use Rattle.cxx_language_laws.proofs.Later.{IsLater, added_tells, by_answer, calm_by, later_is_quiet}
use Rattle.cxx_language_laws.proofs.QuestionsTell.{if_by, same_by}
use Rattle.cxx_language_laws.proofs.Reached.{Told, later_is_told}
use Rattle.cxx_language_laws.proofs.Scopes.{InScopes, IsSound, may_stand}
use Rattle.cxx_language_laws.proofs.Tells.{IsTold, Quietly, Tells, ToldBy, ToldIn, tells_answer, quiet_in, if_in, from_in, then_from, then_in, ask_in, same_in, looked_in, give_in, taken_in, tells_refusal}
use Rattle.cxx_language_laws.proofs.TellsExpressions.{initialize_tells}
use Rattle.cxx_language_laws.proofs.TellsInitializers.{initializer_tells}
use Rattle.cxx_expr.specs.Operands.{only}
use Rattle.cxx_language.specs.Values.{constant_one, constant_part, constant_read, copied, told_constant}
use Rattle.cxx_language_laws.proofs.TellsLevels.{conditional_tells}

-- ---- what an initializer makes known

-- a number that a declaration has
abbrev pub HasNumber : ℕ → CxxState → Type 0
HasNumber number state = number < length state.graph.facts

pub number_later : (number : ℕ) (s t : CxxState) → IsLater s t → HasNumber number s → HasNumber number t
number_later number s t later is =
    let more = ap (λ (fs : List CxxFact). length fs) later.grown.declared in
    let count = length-append s.graph.facts later.grown.own in
    omega (arith, more, count, is)

-- what follows one with which a number is there
pub then_there : {A B : Type 0} {told : CxxState → Ahead → Stopped → Type 0} → IsTold IsLater told → {state : CxxState} {ahead : Ahead} {r : Answer (Got CxxState A)} (number : ℕ) {go : A → Reads CxxState B} → HasNumber number state → ToldIn IsLater told state ahead r
    → ((x : A) (t : CxxState) (rest : Ahead) → HasNumber number t → ToldIn IsLater told t rest (go x t rest)) → ToldIn IsLater told state ahead (then_read r go)
then_there is {state = state} {ahead = ahead} number {go = go} there first second = then_from go first (λ one is_read later stands. from_in is state one.state ahead one.rest later stands (second one.value one.state one.rest (number_later number state one.state later there)))

-- its entity has one
first_has : (all : List CxxFact) (number : ℕ) (what : Declares) → number < length all → IsSound all what → first_of number what < length all
first_has all number (facts.object of member is_mutable value None) there is = there
first_has all number (facts.object of member is_mutable value (Some first)) there is = is
first_has all number _ there is = there

entity_has : (state : CxxState) (number : ℕ) → InScopes state → HasNumber number state → entity_number state number < length state.graph.facts
entity_has state number is there = by (slice_get state.graph.facts number) refl
  where
    by : (o : Option CxxFact) → slice_get state.graph.facts number ≡ o → first_of number (declares_by o) < length state.graph.facts
    by None none = there
    by (Some fact) at = first_has state.graph.facts number fact.what there (is.sound number fact at)

noted_tells : (name : Lexeme) (number : ℕ) (of : CxxType) (tree : CxxTree) (state : CxxState) (ahead : Ahead) → HasNumber number state → ToldBy IsLater Quietly state ahead (noted name number of tree state)
unfolding noted
noted_tells name number of tree state ahead there =
    let fact = fact_here state (spelled name.spelling) name.place (known_object (entity_number state number) (type_known of tree) (known_value state.graph of tree)) in
    by_answer state ahead _ (added_tells fact state ahead refl (λ is. may_stand state.graph.facts fact refl (entity_has state number is there))) (λ answer later. tells_answer (known_answer answer) later)

pub note_tells : (name : Lexeme) (number : ℕ) (of : CxxType) (tree : CxxTree) (state : CxxState) (ahead : Ahead) → HasNumber number state → ToldBy IsLater Quietly state ahead (note_known name number of tree state)
unfolding note_known
note_tells name number of tree state ahead there = if_by (is_unbounded of || is_some_value (known_value state.graph of tree)) (noted_tells name number of tree state ahead there) (same_by later_is_quiet tt state ahead)

-- ---- initializers

pub some_elements_tell : (name : Lexeme) (of : CxxType) → Tells IsLater Told (some_elements name of)
unfolding some_elements
some_elements_tell name of state ahead = if_in (is_empty_array of) (quiet_in later_is_told refl) (same_in later_is_told tt state ahead)

pub initialized_tells : (room : ℕ) (name : Lexeme) (of : CxxType) (number : ℕ) (state : CxxState) (ahead : Ahead) → HasNumber number state → ToldIn IsLater Told state ahead (initialized_part answers (phrases_at room) (inner_at room).phrases name of number state ahead)
unfolding initialized_part
initialized_tells room name of number state ahead there =
    then_there later_is_told number there (complete_tells later_is_told name of state ahead) (λ whole state ahead there.
    then_there later_is_told number there (looked_in later_is_told state ahead) (λ from state ahead there.
    then_there later_is_told number there (initializer_tells later_is_told (phrases_tell room (both_tell room).types) (both_tell room).phrases state ahead) (λ read state ahead there.
    then_there later_is_told number there (looked_in later_is_told state ahead) (λ to state ahead there.
    then_there later_is_told number there (same_in later_is_told (type_so_far state number of) state ahead) (λ known state ahead there.
    then_there later_is_told number there (ask_in ahead (initialize_tells later_is_told answers known (initializer_tree read from to) state ahead)) (λ tree state ahead there.
    then_there later_is_told number there (some_elements_tell name (type_known known tree) state ahead) (λ fits state ahead there.
    then_in later_is_told (ask_in ahead (calm_by later_is_told (note_tells name number known tree state ahead there))) (λ noted.
    give_in later_is_told (tree ∷ [])))))))))

-- ---- the value of a member in its class (9.4.2)

read_tells : (room : ℕ) → Tells IsLater Told (constant_read (phrases_at room) (inner_at room).phrases)
read_tells room state ahead =
    then_in later_is_told (taken_in later_is_told state ahead) (λ equals state ahead.
    then_in later_is_told (conditional_tells later_is_told (phrases_tell room (both_tell room).types) (both_tell room).phrases state ahead) (λ tree. give_in later_is_told (copied tree)))

told_tells : {state : CxxState} {ahead : Ahead} {r : Answer (ℤ × CxxState)} → ToldBy IsLater Quietly state ahead r → ToldBy IsLater Quietly state ahead (told_constant r)
told_tells (tells_answer one later) = tells_answer (tt, one.1) later
told_tells (tells_refusal why quiet) = tells_refusal why quiet

constant_one_tells : (one : Option CxxTree) (state : CxxState) (ahead : Ahead) → ToldBy IsLater Quietly state ahead (constant_one one state)
constant_one_tells None state ahead = same_by later_is_quiet tt state ahead
constant_one_tells (Some one) state ahead = told_tells (constant_tells later_is_quiet one state ahead)

pub value_tells : (room : ℕ) (name : Lexeme) (of : CxxType) (number : ℕ) (state : CxxState) (ahead : Ahead) → HasNumber number state → ToldIn IsLater Told state ahead (constant_part room name of number state ahead)
unfolding constant_part
value_tells room name of number state ahead there =
    then_there later_is_told number there (looked_in later_is_told state ahead) (λ from state ahead there.
    then_there later_is_told number there (read_tells room state ahead) (λ read state ahead there.
    then_there later_is_told number there (looked_in later_is_told state ahead) (λ to state ahead there.
    then_there later_is_told number there (ask_in ahead (initialize_tells later_is_told answers of (initializer_tree read from to) state ahead)) (λ tree state ahead there.
    then_there later_is_told number there (ask_in ahead (calm_by later_is_told (constant_one_tells (only (children_of tree)) state ahead))) (λ value state ahead there.
    then_in later_is_told (ask_in ahead (calm_by later_is_told (note_tells name number of tree state ahead there))) (λ noted.
    give_in later_is_told (tree ∷ [])))))))
