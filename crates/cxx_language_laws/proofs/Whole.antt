-- What holds of whole readings: each of their calls is the best, and the fault with which one stops is true.
use Rattle.std.proofs.Common.{◌≡◌, inl, inr, refl, ap, subst, ◌∙◌}
use Rattle.std.specs.Prelude.{ℕ, zero, suc, Bool, true, false, List, Ok, Err, if◌then◌else◌}
use Rattle.cxx_model.specs.declared.fault.FaultText.{FaultText}
use Rattle.cxx_model.specs.declared.fault.FaultText.TheVariants as says
use Rattle.cxx_model.specs.declared.limits.TheConstants as limits
use Rattle.cxx_model.specs.declared.options.Options.{Options}
use Rattle.cxx_model.specs.declared.stop.Fault.{Fault}
use Rattle.cxx_model.specs.Stops.{Answer, Stopped, Faulty}
use Rattle.cxx_model.specs.Text.Lexemes.{Lexeme}
use Rattle.cxx_reading.specs.Reads.{Ahead, Got, Reads, More, Done, ◌>>=◌, then_read, got, give, ask, go_on, repeat, count_ahead, kind_ahead}
use Rattle.cxx_reading.specs.State.{CxxState, first_state}
use Rattle.cxx_reading.specs.Tokens.{is_end}
use Rattle.cxx_reading.specs.Trees.{CxxTree}
use Rattle.cxx_reading.specs.Units.{CxxReading, with_part, part_added, read_as}
use Rattle.cxx_language.specs.Units.{declaration_at, unit_reading, unit_step}
use Rattle.cxx_language_laws.specs.Best.{AreBestCalls, EachCallIsBest}
use Rattle.cxx_language_laws.specs.Stopping.{a_declaration}
use Rattle.cxx_language_laws.specs.Told.{EndsIn, IsChoiceText, ReadsTo, none_more, one_more, whole, StopsIn, StopsAt, IsAmbiguousFault, IsToldFault, IsUndeclaredFault}
use Rattle.cxx_language_laws.proofs.Scopes.{InScopes, scopes_same, scopes_first}
use Rattle.cxx_language_laws.proofs.Declarations.{declaration_stops}
use Rattle.cxx_language_laws.proofs.Later.{IsLater, later_is_kept, later_same}
use Rattle.cxx_language_laws.proofs.Reached.{Arrived, IsChosen, IsManifold, IsUndeclared}
use Rattle.cxx_language_laws.proofs.Stopping.{Chained, ChainedOf, ChainedSo, Stops, whole_part}
use Rattle.cxx_language_laws.proofs.Tells.{Saying, choosing, undeclared, ambiguous, saying, IsTold, whole_stands, ends_later, ToldIn, tells_read, tells_stop, Tells, Answers, tells_answer, if_in, then_in, ask_in, same_in, repeat_tells, give_in}

-- ---- the calls of a whole reading

-- nothing is said of what stops a reader
abbrev Anyhow : CxxState → Ahead → Stopped → Type 0
Anyhow state ahead why = Unit {0}

anyhow : IsTold IsLater Anyhow
anyhow = record { keeps = later_is_kept; quiet = λ s ahead why quiet. tt; sooner = λ s t ahead rest why first stands told. tt }

any_way : {A : Type 0} {told : CxxState → Ahead → Stopped → Type 0} {state : CxxState} {ahead : Ahead} {r : Answer (Got CxxState A)} → ToldIn IsLater told state ahead r → ToldIn IsLater Anyhow state ahead r
any_way (tells_read one later stands) = tells_read one later stands
any_way (tells_stop why true_of) = tells_stop why tt

part_tells : (tree : CxxTree) → Answers IsLater Anyhow (part_added tree)
part_tells tree state ahead = tells_answer (tt, with_part tree state) (later_same state (with_part tree state) refl refl refl)

unit_step_tells : (so_far : Unit {0}) → Tells IsLater Anyhow (unit_step so_far)
unfolding unit_step
unit_step_tells so_far state ahead = if_in (is_end (kind_ahead ahead)) (same_in anyhow (Done tt) state ahead) (then_in anyhow (any_way (declaration_stops limits.MOST_NESTING state ahead)) (λ tree state ahead. then_in anyhow (ask_in ahead (part_tells tree state ahead)) (λ added. give_in anyhow (More tt))))

abbrev AreReadings : Answer CxxReading → Answer CxxReading → Type 0
AreReadings one two = one ≡ two

reading_is : (x y : CxxReading) → AreReadings (Ok x) (Ok y) → x ≡ y
reading_is x y e = cc

best_of : (options : Options) (ahead : Ahead) (answer : Answer (Got CxxState (Unit {0}))) (reading : CxxReading) → ToldIn IsLater Anyhow first_state ahead answer → read_as options answer ≡ Ok reading → EachCallIsBest reading
best_of options ahead (Ok one) reading tells e = subst EachCallIsBest (reading_is _ _ e) (read_best tells)
  where
    read_best : ToldIn IsLater Anyhow first_state ahead (Ok one) → AreBestCalls one.state
    read_best (tells_read one later stands) = later.best tt
best_of options ahead (Err why) reading tells e = absurd cc

pub each_call_is_best : (options : Options) (tokens : List Lexeme) (reading : CxxReading) → unit_reading options tokens ≡ Ok reading → EachCallIsBest reading
unfolding unit_reading
each_call_is_best options tokens reading e = best_of options (whole tokens) (repeat unit_step give (count_ahead (whole tokens)) tt first_state (whole tokens)) reading (repeat_tells anyhow unit_step give unit_step_tells (give_in anyhow) _ tt first_state _) e

-- ---- where it stops

-- the declaration in which reading stops, behind those that are read from here on
record StopsFrom (state : CxxState) (ahead : Ahead) (fault : Fault) : Type 0 where
  before : CxxState
  rest : Ahead
  reads : ReadsTo state ahead before rest
  stands : EndsIn ahead.tokens rest.tokens
  goes_on : is_end (kind_ahead rest) ≡ false
  stops : declaration_at limits.MOST_NESTING before rest ≡ Err (Faulty fault)

abbrev UnitAnswer : Type 0
UnitAnswer = Answer (Got CxxState (Unit {0}))

abbrev AreAnswers : UnitAnswer → UnitAnswer → Type 0
AreAnswers one two = one ≡ two

no_stop : (one : Got CxxState (Unit {0})) (why : Stopped) → AreAnswers (Ok one) (Err why) → ⊥
no_stop one why e = cc

same_stop : (one two : Stopped) → AreAnswers (Err one) (Err two) → one ≡ two
same_stop one two e = cc

-- declarations up to the last one, at most so many
abbrev units : ℕ → Reads CxxState (Unit {0})
units room = repeat unit_step give room tt

-- a turn reads a declaration, where one is ahead
abbrev turn : ℕ → CxxState → Ahead → Bool → UnitAnswer
turn room state ahead ends = then_read (if ends then got (Done tt) state ahead else (declaration_at limits.MOST_NESTING >>= λ tree. ask (part_added tree) >>= λ added. give (More tt)) state ahead) (go_on (repeat unit_step give room))

here : (state : CxxState) (ahead : Ahead) (fault : Fault) → is_end (kind_ahead ahead) ≡ false → declaration_at limits.MOST_NESTING state ahead ≡ Err (Faulty fault) → StopsFrom state ahead fault
here state ahead fault goes_on stops = record { before = state; rest = ahead; reads = none_more state ahead; stands = whole_stands ahead.tokens; goes_on = goes_on; stops = stops }

abbrev AreDeclarations : Answer (Got CxxState CxxTree) → Answer (Got CxxState CxxTree) → Type 0
AreDeclarations one two = one ≡ two

read_stands : (state : CxxState) (ahead : Ahead) (one : Got CxxState CxxTree) {answer : Answer (Got CxxState CxxTree)} → Stops (a_declaration limits.MOST_NESTING) state ahead answer → answer ≡ Ok one → EndsIn ahead.tokens one.rest.tokens
read_stands state ahead one (tells_read other keeps stands) e = subst (λ (g : Got CxxState CxxTree). EndsIn ahead.tokens g.rest.tokens) (by e) stands
  where
    by : AreDeclarations (Ok other) (Ok one) → other ≡ one
    by e = cc
read_stands state ahead one (tells_stop why true_of) e = absurd cc

later : (state : CxxState) (ahead : Ahead) (one : Got CxxState CxxTree) (fault : Fault) → is_end (kind_ahead ahead) ≡ false → declaration_at limits.MOST_NESTING state ahead ≡ Ok one
    → StopsFrom (with_part one.value one.state) one.rest fault → StopsFrom state ahead fault
later state ahead one fault goes_on is from = record {
  before = from.before;
  rest = from.rest;
  reads = one_more state ahead one from.before from.rest goes_on is from.reads;
  stands = ends_later ahead.tokens one.rest.tokens from.rest.tokens (read_stands state ahead one (declaration_stops limits.MOST_NESTING state ahead) is) from.stands;
  goes_on = from.goes_on;
  stops = from.stops;
}

-- by what one declaration leads to
one_stops : (room : ℕ) (state : CxxState) (ahead : Ahead) (fault : Fault) → is_end (kind_ahead ahead) ≡ false
    → ((next : CxxState) (rest : Ahead) → units room next rest ≡ Err (Faulty fault) → StopsFrom next rest fault)
    → (answer : Answer (Got CxxState CxxTree)) → declaration_at limits.MOST_NESTING state ahead ≡ answer
    → AreAnswers (then_read (then_read answer (λ tree. ask (part_added tree) >>= λ added. give (More tt))) (go_on (repeat unit_step give room))) (Err (Faulty fault)) → StopsFrom state ahead fault
one_stops room state ahead fault goes_on behind (Ok one) is e = later state ahead one fault goes_on is (behind (with_part one.value one.state) one.rest e)
one_stops room state ahead fault goes_on behind (Err why) is e = here state ahead fault goes_on (is ∙ ap Err (same_stop why (Faulty fault) e))

turn_stops : (room : ℕ) (state : CxxState) (ahead : Ahead) (fault : Fault)
    → ((next : CxxState) (rest : Ahead) → units room next rest ≡ Err (Faulty fault) → StopsFrom next rest fault)
    → (ends : Bool) → is_end (kind_ahead ahead) ≡ ends → AreAnswers (turn room state ahead ends) (Err (Faulty fault)) → StopsFrom state ahead fault
turn_stops room state ahead fault behind true is e = absurd (no_stop _ _ e)
turn_stops room state ahead fault behind false is e = one_stops room state ahead fault is behind (declaration_at limits.MOST_NESTING state ahead) refl e

units_stop : (room : ℕ) (state : CxxState) (ahead : Ahead) (fault : Fault) → units room state ahead ≡ Err (Faulty fault) → StopsFrom state ahead fault
unfolding repeat unit_step
units_stop zero state ahead fault e = absurd (no_stop _ _ e)
units_stop (suc room) state ahead fault e = turn_stops room state ahead fault (λ next rest e. units_stop room next rest fault e) (is_end (kind_ahead ahead)) refl e

read_stops : (options : Options) (answer : UnitAnswer) (fault : Fault) → read_as options answer ≡ Err (Faulty fault) → answer ≡ Err (Faulty fault)
read_stops options (Ok one) fault e = absurd cc
read_stops options (Err why) fault e = ap Err (by e)
  where
    by : read_as options (Err why) ≡ Err (Faulty fault) → why ≡ Faulty fault
    by e = cc

unit_stops : (options : Options) (tokens : List Lexeme) (fault : Fault) → unit_reading options tokens ≡ Err (Faulty fault) → StopsIn tokens fault
unfolding unit_reading
unit_stops options tokens fault e =
    let from = units_stop (count_ahead (whole tokens)) first_state (whole tokens) fault (read_stops options (repeat unit_step give (count_ahead (whole tokens)) tt first_state (whole tokens)) fault e) in
    record { before = from.before; ahead = from.rest; reads = from.reads; stands = from.stands; goes_on = from.goes_on; stops = from.stops }

-- ---- scopes

read_later : {A : Type 0} {told : CxxState → Ahead → Stopped → Type 0} (state : CxxState) (ahead : Ahead) (one : Got CxxState A) {answer : Answer (Got CxxState A)} → ToldIn IsLater told state ahead answer → answer ≡ Ok one → IsLater state one.state
read_later {A = A} state ahead one (tells_read other keeps stands) e = subst (λ (g : Got CxxState A). IsLater state g.state) (by e) keeps
  where
    same : Answer (Got CxxState A) → Answer (Got CxxState A) → Type 0
    same x y = x ≡ y

    by : same (Ok other) (Ok one) → other ≡ one
    by e = cc
read_later state ahead one (tells_stop why true_of) e = absurd cc

read_scopes : (state : CxxState) (ahead : Ahead) (after : CxxState) (rest : Ahead) → ReadsTo state ahead after rest → InScopes state → InScopes after
read_scopes state ahead after rest (none_more s a) is = is
read_scopes state ahead after rest (one_more s a one t b goes_on read others) is =
    read_scopes (with_part one.value one.state) one.rest t b others (scopes_same one.state (with_part one.value one.state) refl refl ((read_later s a one (declaration_stops limits.MOST_NESTING s a) read).scopes is))

-- ---- what is true of the fault

stop_told : (before : CxxState) (ahead : Ahead) (fault : Fault) {answer : Answer (Got CxxState CxxTree)} → Stops (a_declaration limits.MOST_NESTING) before ahead answer → answer ≡ Err (Faulty fault) → ChainedOf whole_part (a_declaration limits.MOST_NESTING) before ahead (Faulty fault)
stop_told before ahead fault (tells_read one keeps stands) e = absurd cc
stop_told before ahead fault (tells_stop why true_of) e = subst (ChainedOf whole_part (a_declaration limits.MOST_NESTING) before ahead) (by e) true_of
  where
    by : AreDeclarations (Err why) (Err (Faulty fault)) → why ≡ Faulty fault
    by e = cc

told_as : (tokens : List Lexeme) (fault : Fault) (declaration : StopsIn tokens fault) (what : Saying) → saying fault.text ≡ what → ChainedSo whole_part (a_declaration limits.MOST_NESTING) declaration.before declaration.ahead fault what
told_as tokens fault declaration what is =
    subst (ChainedSo whole_part (a_declaration limits.MOST_NESTING) declaration.before declaration.ahead fault) is
    (stop_told declaration.before declaration.ahead fault (declaration_stops limits.MOST_NESTING declaration.before declaration.ahead) declaration.stops)

-- in the state where the declaration begins
scopes_before : (tokens : List Lexeme) (fault : Fault) (declaration : StopsIn tokens fault) → InScopes declaration.before
scopes_before tokens fault declaration = read_scopes first_state (whole tokens) declaration.before declaration.ahead declaration.reads scopes_first

stop_at : (tokens : List Lexeme) (fault : Fault) (declaration : StopsIn tokens fault) (P : CxxState → Ahead → Type 0) → Chained (a_declaration limits.MOST_NESTING) declaration.before declaration.ahead fault (λ before from. Arrived before from P) → StopsAt tokens fault
stop_at tokens fault declaration P told = record {
  declaration = declaration;
  part = told.last;
  before = told.before;
  from = told.from;
  stops = told.stops;
  innermost = told.innermost;
  at = told.is.at;
  ahead = told.is.rest;
  grown = told.is.grown;
  scope = told.is.scope (told.later.scopes (scopes_before tokens fault declaration));
  part_stands = told.stands;
  stands = told.is.stands;
}

choosing_by : (text : FaultText) → IsChoiceText text → saying text ≡ choosing
choosing_by text (inl is) = ap saying is
choosing_by text (inr is) = ap saying is

pub fault_is_told : (options : Options) (tokens : List Lexeme) (fault : Fault) → unit_reading options tokens ≡ Err (Faulty fault) → IsChoiceText fault.text → IsToldFault tokens fault
unfolding stop_at
fault_is_told options tokens fault e text =
    let declaration = unit_stops options tokens fault e in
    let told = told_as tokens fault declaration choosing (choosing_by fault.text text) in
    record { stop = stop_at tokens fault declaration (IsChosen fault) told; is = told.is.is }

pub undeclared_is_told : (options : Options) (tokens : List Lexeme) (fault : Fault) (word : List ℕ) → unit_reading options tokens ≡ Err (Faulty fault) → fault.text ≡ says.UndeclaredName word → IsUndeclaredFault tokens fault word
unfolding stop_at
undeclared_is_told options tokens fault word e text =
    let declaration = unit_stops options tokens fault e in
    let told = told_as tokens fault declaration (undeclared word) (ap saying text) in
    let unknown = told.is.is.is (told.is.scopes (told.later.scopes (scopes_before tokens fault declaration))) in
    record { stop = stop_at tokens fault declaration (IsUndeclared fault word) told; is = unknown.0; nowhere = unknown.1; is_text = text; bare = told.is.is.bare }

pub ambiguous_is_told : (options : Options) (tokens : List Lexeme) (fault : Fault) (word : List ℕ) → unit_reading options tokens ≡ Err (Faulty fault) → fault.text ≡ says.AmbiguousName word → IsAmbiguousFault tokens fault word
unfolding stop_at
ambiguous_is_told options tokens fault word e text =
    let declaration = unit_stops options tokens fault e in
    let told = told_as tokens fault declaration (ambiguous word) (ap saying text) in
    record { stop = stop_at tokens fault declaration (IsManifold fault word) told; is = told.is.is (told.is.scopes (told.later.scopes (scopes_before tokens fault declaration))); is_text = text }
