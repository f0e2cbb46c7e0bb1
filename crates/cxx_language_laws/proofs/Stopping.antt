-- What is true of what stops a part of a declaration: it is true in the innermost part where its reading stops.
use Rattle.std.proofs.Common.{◌≡◌, refl, sym, ap, subst, ◌∙◌}
use Rattle.std.specs.Prelude.{ℕ, zero, suc, Bool, true, false, List, Ok, if◌then◌else◌, Err}
use Rattle.cxx_model.specs.declared.stop.Fault.{Fault}
use Rattle.cxx_model.specs.Stops.{Answer, Stopped, Faulty, Limited}
use Rattle.cxx_reading.specs.Reads.{Ahead, Got, Reads, Asks, Turn, More, Done, then_read, got, answered, go_on, repeat}
use Rattle.cxx_reading.specs.State.{CxxState}
use Rattle.cxx_language_laws.specs.Stopping.{Gives, IsInnermost, IsStopped, IsStoppedIn, Leads, Part, StopsWithin, it_leads, it_stops}
use Rattle.cxx_language_laws.specs.Told.{EndsIn}
use Rattle.cxx_language_laws.proofs.Later.{IsLater, later_is_kept, later_is_quiet}
use Rattle.cxx_language_laws.proofs.Reached.{Arrived, ArrivedAt, ArrivedSo, IsBehind, IsChosen, IsElsewhere, IsManifold, IsUndeclared, arrived_here, behind_by_later, behind_later, elsewhere_later, Told as ToldOf}
use Rattle.cxx_language_laws.proofs.Tells.{Saying, choosing, undeclared, ambiguous, nothing, saying, IsQuiet, Quietly, whole_stands, ends_later, ToldIn, tells_read, tells_stop, Tells, ToldBy, tells_answer, tells_refusal, from_in, then_from}

-- ---- what is true of a stop

-- it is so within the innermost part whose reading stops
pub record Chained (part : Part) (state : CxxState) (ahead : Ahead) (fault : Fault) (P : CxxState → Ahead → Type 0) : Type 0 where
  pub last : Part
  pub before : CxxState
  pub from : Ahead
  pub stops : StopsWithin fault part state ahead last before from
  pub innermost : IsInnermost last
  pub later : IsBehind state before
  pub stands : EndsIn ahead.tokens from.tokens
  pub is : P before from

-- the same within a part, whether or not its reading stops
pub data Within (part : Part) (state : CxxState) (ahead : Ahead) (fault : Fault) (P : CxxState → Ahead → Type 0) : Type 0 where
  it_is_here : IsInnermost part → P state ahead → Within part state ahead fault P
  it_is_in : (next : Part) (t : CxxState) (middle : Ahead) → Leads part state ahead next t middle → IsBehind state t → EndsIn ahead.tokens middle.tokens → Chained next t middle fault P → Within part state ahead fault P

pub data Sight : Type 0 where
  whole_part : Sight
  within_part : Sight

abbrev pub ChainedBy : Sight → Part → CxxState → Ahead → Fault → (CxxState → Ahead → Type 0) → Type 0
ChainedBy whole_part part state ahead fault P = Chained part state ahead fault P
ChainedBy within_part part state ahead fault P = Within part state ahead fault P

-- 13.3: a true fault of a call is reached
abbrev pub Choosing : Fault → CxxState → Ahead → Type 0
Choosing fault before from = Arrived before from (IsChosen fault)

-- 3.4.1: a name that is not declared is reached
abbrev pub Unknown : Fault → List ℕ → CxxState → Ahead → Type 0
Unknown fault word before from = Arrived before from (IsUndeclared fault word)

-- 3.4: a name that is ambiguous is reached
abbrev pub Manifold : Fault → List ℕ → CxxState → Ahead → Type 0
Manifold fault word before from = Arrived before from (IsManifold fault word)

abbrev pub ChainedSo : Sight → Part → CxxState → Ahead → Fault → Saying → Type 0
ChainedSo sight part state ahead fault choosing = ChainedBy sight part state ahead fault (Choosing fault)
ChainedSo sight part state ahead fault (undeclared word) = ChainedBy sight part state ahead fault (Unknown fault word)
ChainedSo sight part state ahead fault (ambiguous word) = ChainedBy sight part state ahead fault (Manifold fault word)
ChainedSo sight part state ahead fault nothing = Unit {0}

abbrev pub ChainedOf : Sight → Part → CxxState → Ahead → Stopped → Type 0
ChainedOf sight part state ahead (Faulty fault) = ChainedSo sight part state ahead fault (saying fault.text)
ChainedOf sight part state ahead (Limited kind) = Unit {0}

-- of what was read by the reader of a part, and of what stopped it
abbrev pub Stops : {A : Type 0} → Part → CxxState → Ahead → Answer (Got CxxState A) → Type 0
Stops part state ahead r = ToldIn IsLater (ChainedOf whole_part part) state ahead r

-- of what was read within a part
abbrev pub Inside : {A : Type 0} → Part → CxxState → Ahead → Answer (Got CxxState A) → Type 0
Inside part state ahead r = ToldIn IsLater (ChainedOf within_part part) state ahead r

-- the same with another law of what is kept
abbrev pub InsideBy : {A : Type 0} → (CxxState → CxxState → Type 0) → Part → CxxState → Ahead → Answer (Got CxxState A) → Type 0
InsideBy kept part state ahead r = ToldIn kept (ChainedOf within_part part) state ahead r

-- nothing is told of declarations
abbrev pub Calm : {A : Type 0} → CxxState → Ahead → Answer (Got CxxState A) → Type 0
Calm state ahead r = ToldIn IsLater Quietly state ahead r

-- ---- from one part to another

pub quiet_told : (sight : Sight) (part : Part) (state : CxxState) (ahead : Ahead) (why : Stopped) → IsQuiet why → ChainedOf sight part state ahead why
quiet_told sight part state ahead (Faulty fault) quiet = subst (ChainedSo sight part state ahead fault) (sym quiet) tt
quiet_told sight part state ahead (Limited kind) quiet = tt

pub later_here : (state : CxxState) → IsLater state state
later_here state = later_is_kept.same state

-- what stops the part to which another leads
so_within : (part next : Part) (s t : CxxState) (ahead middle : Ahead) (fault : Fault) (what : Saying) → Leads part s ahead next t middle → IsBehind s t → EndsIn ahead.tokens middle.tokens → ChainedSo whole_part next t middle fault what → ChainedSo within_part part s ahead fault what
so_within part next s t ahead middle fault choosing leads later stands told = it_is_in next t middle leads later stands told
so_within part next s t ahead middle fault (undeclared word) leads later stands told = it_is_in next t middle leads later stands told
so_within part next s t ahead middle fault (ambiguous word) leads later stands told = it_is_in next t middle leads later stands told
so_within part next s t ahead middle fault nothing leads later stands told = tt

pub told_within : (part next : Part) (s t : CxxState) (ahead middle : Ahead) (why : Stopped) → Leads part s ahead next t middle → IsBehind s t → EndsIn ahead.tokens middle.tokens → ChainedOf whole_part next t middle why → ChainedOf within_part part s ahead why
told_within part next s t ahead middle (Faulty fault) leads later stands told = so_within part next s t ahead middle fault (saying fault.text) leads later stands told
told_within part next s t ahead middle (Limited kind) leads later stands told = tt

pub leads_in : {A : Type 0} {part next : Part} {s t : CxxState} {ahead middle : Ahead} {r : Answer (Got CxxState A)} → Leads part s ahead next t middle → IsLater s t → EndsIn ahead.tokens middle.tokens → Stops next t middle r → Inside part s ahead r
leads_in {s = s} {t = t} {ahead = ahead} {middle = middle} leads later stands (tells_read one keeps ends) = tells_read one (later_is_kept.later s t one.state later keeps) (ends_later ahead.tokens middle.tokens one.rest.tokens stands ends)
leads_in {part = part} {next = next} {s = s} {t = t} {ahead = ahead} {middle = middle} leads later stands (tells_stop why true_of) = tells_stop why (told_within part next s t ahead middle why leads (behind_by_later s t later) stands true_of)

-- the same where nothing was read
pub leads_here : {A : Type 0} {part next : Part} {state : CxxState} {ahead : Ahead} {r : Answer (Got CxxState A)} → Leads part state ahead next state ahead → Stops next state ahead r → Inside part state ahead r
leads_here {state = state} {ahead = ahead} leads stops = leads_in leads (later_here state) (whole_stands ahead.tokens) stops

-- ---- the reader of a part

reached_by : (part : Part) (state : CxxState) (ahead : Ahead) (fault : Fault) (P : CxxState → Ahead → Type 0) → IsStopped part state ahead fault → Within part state ahead fault P → Chained part state ahead fault P
reached_by part state ahead fault P stops (it_is_here innermost is) = record {
  last = part;
  before = state;
  from = ahead;
  stops = it_stops stops;
  innermost = innermost;
  later = behind_by_later state state (later_here state);
  stands = whole_stands ahead.tokens;
  is = is;
}
reached_by part state ahead fault P stops (it_is_in next t middle leads later stands reached) = record {
  last = reached.last;
  before = reached.before;
  from = reached.from;
  stops = it_leads stops leads reached.stops;
  innermost = reached.innermost;
  later = behind_later state t reached.before later reached.later;
  stands = ends_later ahead.tokens middle.tokens reached.from.tokens stands reached.stands;
  is = reached.is;
}

so_whole : (part : Part) (state : CxxState) (ahead : Ahead) (fault : Fault) (what : Saying) → IsStopped part state ahead fault → ChainedSo within_part part state ahead fault what → ChainedSo whole_part part state ahead fault what
so_whole part state ahead fault choosing stops told = reached_by part state ahead fault (Choosing fault) stops told
so_whole part state ahead fault (undeclared word) stops told = reached_by part state ahead fault (Unknown fault word) stops told
so_whole part state ahead fault (ambiguous word) stops told = reached_by part state ahead fault (Manifold fault word) stops told
so_whole part state ahead fault nothing stops told = tt

-- where its reader stops, the reading of the part does
pub whole_stops : {A : Type 0} {part : Part} {state : CxxState} {ahead : Ahead} {r : Answer (Got CxxState A)} → ((fault : Fault) → r ≡ Err (Faulty fault) → IsStopped part state ahead fault) → Inside part state ahead r → Stops part state ahead r
whole_stops stops (tells_read one keeps stands) = tells_read one keeps stands
whole_stops stops (tells_stop (Limited kind) true_of) = tells_stop (Limited kind) tt
whole_stops {part = part} {state = state} {ahead = ahead} stops (tells_stop (Faulty fault) true_of) = tells_stop (Faulty fault) (so_whole part state ahead fault (saying fault.text) (stops fault refl) true_of)

-- ---- innermost parts

so_here : (part : Part) (state : CxxState) (ahead : Ahead) (fault : Fault) (what : Saying) → IsInnermost part → ArrivedSo state ahead fault what → ChainedSo within_part part state ahead fault what
so_here part state ahead fault choosing innermost told = it_is_here innermost told
so_here part state ahead fault (undeclared word) innermost told = it_is_here innermost told
so_here part state ahead fault (ambiguous word) innermost told = it_is_here innermost told
so_here part state ahead fault nothing innermost told = tt

told_here : (part : Part) (state : CxxState) (ahead : Ahead) (why : Stopped) → IsInnermost part → ArrivedAt state ahead why → ChainedOf within_part part state ahead why
told_here part state ahead (Faulty fault) innermost told = so_here part state ahead fault (saying fault.text) innermost told
told_here part state ahead (Limited kind) innermost told = tt

inside_here : {A : Type 0} {part : Part} {state : CxxState} {ahead : Ahead} {r : Answer (Got CxxState A)} → IsInnermost part → ToldIn IsLater ToldOf state ahead r → Inside part state ahead r
inside_here innermost (tells_read one keeps stands) = tells_read one keeps stands
inside_here {part = part} {state = state} {ahead = ahead} innermost (tells_stop why true_of) = tells_stop why (told_here part state ahead why innermost (arrived_here state ahead why true_of))

-- what is true where the reader of an innermost part stops
pub innermost_stops : {A : Type 0} {part : Part} {state : CxxState} {ahead : Ahead} {r : Answer (Got CxxState A)} → IsInnermost part → ((fault : Fault) → r ≡ Err (Faulty fault) → IsStopped part state ahead fault) → ToldIn IsLater ToldOf state ahead r → Stops part state ahead r
innermost_stops innermost stops tells = whole_stops stops (inside_here innermost tells)

-- the same where it was reached in some way
pub arrived_whole : (part : Part) (state : CxxState) (ahead : Ahead) (why : Stopped) → IsInnermost part → ((fault : Fault) → why ≡ Faulty fault → IsStopped part state ahead fault) → ArrivedAt state ahead why → ChainedOf whole_part part state ahead why
arrived_whole part state ahead (Faulty fault) innermost stops told = so_whole part state ahead fault (saying fault.text) (stops fault refl) (so_here part state ahead fault (saying fault.text) innermost told)
arrived_whole part state ahead (Limited kind) innermost stops told = tt

-- ---- readers in turn

pub calm : {A : Type 0} {part : Part} {state : CxxState} {ahead : Ahead} {r : Answer (Got CxxState A)} → Calm state ahead r → Inside part state ahead r
calm (tells_read one keeps stands) = tells_read one keeps stands
calm {part = part} {state = state} {ahead = ahead} (tells_stop why quiet) = tells_stop why (quiet_told within_part part state ahead why quiet)

pub whole_calm : {A : Type 0} {part : Part} {state : CxxState} {ahead : Ahead} {r : Answer (Got CxxState A)} → Calm state ahead r → Stops part state ahead r
whole_calm (tells_read one keeps stands) = tells_read one keeps stands
whole_calm {part = part} {state = state} {ahead = ahead} (tells_stop why quiet) = tells_stop why (quiet_told whole_part part state ahead why quiet)

-- what follows says nothing
pub calm_from : {A : Type 0} {part : Part} {s t : CxxState} {ahead middle : Ahead} {r : Answer (Got CxxState A)} → IsLater s t → EndsIn ahead.tokens middle.tokens → Calm t middle r → Inside part s ahead r
calm_from {s = s} {t = t} {ahead = ahead} {middle = middle} later stands tells = calm (from_in later_is_quiet s t ahead middle later stands tells)

pub then_calm : {A B : Type 0} {part : Part} {state : CxxState} {ahead : Ahead} {r : Answer (Got CxxState A)} {go : A → Reads CxxState B} → Inside part state ahead r → ((x : A) → Tells IsLater Quietly (go x)) → Inside part state ahead (then_read r go)
then_calm {go = go} first second = then_from go first (λ one is_read later stands. calm_from later stands (second one.value one.state one.rest))

-- a question that is answered
pub then_asked_from : {A B : Type 0} {part : Part} {s t : CxxState} {ahead middle : Ahead} (go : A → Reads CxxState B) (question : Asks CxxState A) → ToldBy IsLater Quietly t middle (question t) → IsLater s t → EndsIn ahead.tokens middle.tokens
    → ((answer : A × CxxState) → question t ≡ Ok answer → IsLater t answer.1 → IsLater s answer.1 → Inside part s ahead (go answer.0 answer.1 middle)) → Inside part s ahead (then_read (answered (question t) middle) go)
then_asked_from {A = A} {part = part} {s = s} {t = t} {ahead = ahead} {middle = middle} go question tells later stands goes = by tells goes
  where
    by : {r : Answer (A × CxxState)} → ToldBy IsLater Quietly t middle r → ((answer : A × CxxState) → r ≡ Ok answer → IsLater t answer.1 → IsLater s answer.1 → Inside part s ahead (go answer.0 answer.1 middle)) → Inside part s ahead (then_read (answered r middle) go)
    by (tells_answer one keeps) goes = goes one refl keeps (later_is_kept.later s t one.1 later keeps)
    by (tells_refusal why quiet) goes = tells_stop why (quiet_told within_part part s ahead why quiet)

pub then_asked : {A B : Type 0} {part : Part} {s t : CxxState} {ahead middle : Ahead} (go : A → Reads CxxState B) (question : Asks CxxState A) → ToldBy IsLater Quietly t middle (question t) → IsLater s t → EndsIn ahead.tokens middle.tokens
    → ((answer : A × CxxState) → question t ≡ Ok answer → IsLater s answer.1 → Inside part s ahead (go answer.0 answer.1 middle)) → Inside part s ahead (then_read (answered (question t) middle) go)
then_asked go question tells later stands goes = then_asked_from go question tells later stands (λ answer is keeps later. goes answer is later)

-- a test decides what is read
pub which_in : {A : Type 0} {kept : CxxState → CxxState → Type 0} {part : Part} {state : CxxState} {ahead : Ahead} (b : Bool) {x y : Answer (Got CxxState A)} → (b ≡ true → InsideBy kept part state ahead x) → (b ≡ false → InsideBy kept part state ahead y) → InsideBy kept part state ahead (if b then x else y)
which_in true x y = x refl
which_in false x y = y refl

-- ---- where the reader may stand elsewhere (8.3)

-- what is kept so is kept with what comes later, and holds of a state behind
pub record IsHeld (kept : CxxState → CxxState → Type 0) : Type 0 where
  pub further : (s t u : CxxState) → kept s t → IsLater t u → kept s u
  pub behind : (s t : CxxState) → kept s t → IsBehind s t

pub later_is_held : IsHeld IsLater
later_is_held = record { further = later_is_kept.later; behind = behind_by_later }

pub elsewhere_is_held : IsHeld IsElsewhere
elsewhere_is_held = record { further = elsewhere_later; behind = λ s t is. record { grown = is.grown; scopes = is.scopes } }

pub leads_held : {A : Type 0} {kept : CxxState → CxxState → Type 0} → IsHeld kept → {part next : Part} {s t : CxxState} {ahead middle : Ahead} {r : Answer (Got CxxState A)} → Leads part s ahead next t middle → kept s t → EndsIn ahead.tokens middle.tokens → Stops next t middle r → InsideBy kept part s ahead r
leads_held held {s = s} {t = t} {ahead = ahead} {middle = middle} leads keeps stands (tells_read one later ends) = tells_read one (held.further s t one.state keeps later) (ends_later ahead.tokens middle.tokens one.rest.tokens stands ends)
leads_held held {part = part} {next = next} {s = s} {t = t} {ahead = ahead} {middle = middle} leads keeps stands (tells_stop why true_of) = tells_stop why (told_within part next s t ahead middle why leads (held.behind s t keeps) stands true_of)

-- a part in which the reader comes to stand elsewhere
pub leads_elsewhere : {A : Type 0} {part next : Part} {state : CxxState} {ahead : Ahead} {r : Answer (Got CxxState A)} → Leads part state ahead next state ahead → ToldIn IsElsewhere (ChainedOf whole_part next) state ahead r → InsideBy IsElsewhere part state ahead r
leads_elsewhere leads (tells_read one keeps stands) = tells_read one keeps stands
leads_elsewhere {part = part} {next = next} {state = state} {ahead = ahead} leads (tells_stop why true_of) = tells_stop why (told_within part next state state ahead ahead why leads (behind_by_later state state (later_here state)) (whole_stands ahead.tokens) true_of)

pub quiet_held : {A : Type 0} {kept : CxxState → CxxState → Type 0} {part : Part} {state : CxxState} {ahead : Ahead} {why : Stopped} → IsQuiet why → InsideBy {A = A} kept part state ahead (Err why)
quiet_held {part = part} {state = state} {ahead = ahead} {why = why} quiet = tells_stop why (quiet_told within_part part state ahead why quiet)

pub calm_held : {A : Type 0} {kept : CxxState → CxxState → Type 0} → IsHeld kept → {part : Part} {s t : CxxState} {ahead middle : Ahead} {r : Answer (Got CxxState A)} → kept s t → EndsIn ahead.tokens middle.tokens → Calm t middle r → InsideBy kept part s ahead r
calm_held held {s = s} {t = t} {ahead = ahead} {middle = middle} keeps stands (tells_read one later ends) = tells_read one (held.further s t one.state keeps later) (ends_later ahead.tokens middle.tokens one.rest.tokens stands ends)
calm_held held keeps stands (tells_stop why quiet) = quiet_held quiet

pub then_held : {A B : Type 0} {kept : CxxState → CxxState → Type 0} → IsHeld kept → {part : Part} {state : CxxState} {ahead : Ahead} {r : Answer (Got CxxState A)} {go : A → Reads CxxState B} → InsideBy kept part state ahead r → ((x : A) → Tells IsLater Quietly (go x)) → InsideBy kept part state ahead (then_read r go)
then_held held {go = go} first second = then_from go first (λ one is_read keeps stands. calm_held held keeps stands (second one.value one.state one.rest))

-- a question that is answered
pub asked_held : {A B : Type 0} {kept : CxxState → CxxState → Type 0} → IsHeld kept → {part : Part} {s t : CxxState} {ahead middle : Ahead} (go : A → Reads CxxState B) (question : Asks CxxState A) → ToldBy IsLater Quietly t middle (question t) → kept s t
    → ((answer : A × CxxState) → question t ≡ Ok answer → IsLater t answer.1 → kept s answer.1 → InsideBy kept part s ahead (go answer.0 answer.1 middle)) → InsideBy kept part s ahead (then_read (answered (question t) middle) go)
asked_held {A = A} {kept = kept} held {part = part} {s = s} {t = t} {ahead = ahead} {middle = middle} go question tells keeps goes = by tells goes
  where
    by : {r : Answer (A × CxxState)} → ToldBy IsLater Quietly t middle r → ((answer : A × CxxState) → r ≡ Ok answer → IsLater t answer.1 → kept s answer.1 → InsideBy kept part s ahead (go answer.0 answer.1 middle)) → InsideBy kept part s ahead (then_read (answered r middle) go)
    by (tells_answer one later) goes = goes one refl later (held.further s t one.1 keeps later)
    by (tells_refusal why quiet) goes = quiet_held quiet

-- ---- loops

-- what one turn leads to
turned : {A B : Type 0} {part : Part} (after : A → Part) (again : A → Reads CxxState B) {state at : CxxState} {ahead rest : Ahead} → ((more : A) (t : CxxState) (b : Ahead) → Stops (after more) t b (again more t b))
    → (turn : Turn A B) → ((more : A) → turn ≡ More more → Leads part state ahead (after more) at rest) → IsLater state at → EndsIn ahead.tokens rest.tokens → Inside part state ahead (go_on again turn at rest)
turned after again {at = at} {rest = rest} goes (More more) leads later stands = leads_in (leads more refl) later stands (goes more at rest)
turned after again {at = at} {rest = rest} goes (Done result) leads later stands = tells_read (record { value = result; state = at; rest = rest }) later stands

-- each turn that goes on leads to the next
pub repeat_stops : {A B : Type 0} (part : A → Part) (step : A → Reads CxxState (Turn A B)) (over : A → Reads CxxState B)
    → ((so_far : A) (s : CxxState) (ahead : Ahead) (fault : Fault) → IsStoppedIn step over so_far s ahead fault → IsStopped (part so_far) s ahead fault)
    → ((so_far more : A) (s t : CxxState) (ahead rest : Ahead) → Gives (step so_far) s ahead (More more) t rest → Leads (part so_far) s ahead (part more) t rest)
    → ((so_far : A) (s : CxxState) (ahead : Ahead) → Inside (part so_far) s ahead (step so_far s ahead)) → ((so_far : A) → Tells IsLater Quietly (over so_far))
    → (n : ℕ) (so_far : A) (s : CxxState) (ahead : Ahead) → Stops (part so_far) s ahead (repeat step over n so_far s ahead)
unfolding repeat
repeat_stops part step over stops next steps overs zero so_far s ahead = whole_calm (overs so_far s ahead)
repeat_stops part step over stops next steps overs (suc n) so_far s ahead =
    whole_stops (λ fault is. stops so_far s ahead fault (suc n, is)) (then_from (go_on (repeat step over n)) (steps so_far s ahead) (λ one is later stands.
    turned part (repeat step over n) (repeat_stops part step over stops next steps overs n) one.value
    (λ more is_more. next so_far more s one.state ahead one.rest (is ∙ ap (λ turn. got turn one.state one.rest) is_more)) later stands))
