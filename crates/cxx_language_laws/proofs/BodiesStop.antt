-- Where the reading of the body of a function stops (8.4).
use Rattle.std.proofs.Common.{arith, ◌≡◌, ◌<◌, refl}
use Rattle.std.specs.Prelude.{ℕ, zero, suc, Bool, true, false, if◌then◌else◌, List, [], Option, Some, None, length, Ok}
use Rattle.cxx_model.specs.declared.fault.FaultText.TheVariants as says
use Rattle.cxx_model.specs.declared.place.Place.{Place}
use Rattle.cxx_model.specs.Stops.{Answer}
use Rattle.cxx_model.specs.Text.Lexemes.{Lexeme}
use Rattle.cxx_model.specs.Types.Trees.{CxxType}
use Rattle.cxx_reading.specs.Declaring.{begin_body, define_declared, end_body, number_id, scope_count}
use Rattle.cxx_reading.specs.Reads.{Ahead, Got, Reads, ◌>>=◌, then_read, answered, ask, fault_at, taken, give, behind}
use Rattle.cxx_reading.specs.State.{CxxState}
use Rattle.cxx_reading.specs.Labels.{label_from}
use Rattle.cxx_reading.specs.Trees.{CxxTree, tree_of}
use Rattle.cxx_reading.specs.Units.{is_incomplete}
use Rattle.cxx_statements.specs.Productions as production
use Rattle.cxx_statements.specs.Statements.{body_at}
use Rattle.cxx_language.specs.Bodies.{complete_head, function_body, incomplete_among, result_of, whole_by, statements_within}
use Rattle.cxx_language.specs.Statements.{parts_at}
use Rattle.cxx_language_laws.specs.Stopping.{Leads, Part, a_body}
use Rattle.cxx_language_laws.specs.Told.{EndsIn}
use Rattle.cxx_language_laws.proofs.Later.{IsLater, define_later_tells, later_is_kept, later_is_quiet}
use Rattle.cxx_language_laws.proofs.Reached.{behind_by, behind_by_later, behind_later, count_more}
use Rattle.cxx_language_laws.proofs.StatementsStop.{body_stops}
use Rattle.cxx_language_laws.proofs.Stopping.{InsideBy, IsHeld, Stops, asked_held, quiet_held, then_held, told_within}
use Rattle.cxx_language_laws.proofs.Tells.{Quietly, ToldBy, tells_answer, tells_read, tells_refusal, tells_stop, ends_later, then_in, give_in, looked_in, past_stands}
use Rattle.cxx_language_laws.proofs.TellsBodies.{IsInBlock, begun_body, body_later, body_reached, ended_body, enter_tells, in_list}

-- behind a body
abbrev behind_body : ℕ → List CxxTree → Reads CxxState (List CxxTree)
behind_body outside statements = ask (end_body outside) >>= λ ended. give statements

body_ends : {kept : CxxState → CxxState → Type 0} → IsHeld kept → {part : Part} {state : CxxState} {ahead : Ahead} (room list number : ℕ) (result : CxxType) (between t : CxxState) (rest : Ahead) → list < scope_count between.graph → kept state between → EndsIn ahead.tokens rest.tokens
    → IsLater (begun_body list number result between) t → Leads part state ahead (a_body room) t (behind rest) → {r : Answer (Got CxxState (List CxxTree))} → Stops (a_body room) t (behind rest) r → InsideBy kept part state ahead (then_read r (behind_body between.here.scope))
unfolding end_body
body_ends held {state = state} {ahead = ahead} room list number result between t rest there first stands begun leads (tells_read one later ends) =
    let all = later_is_kept.later (begun_body list number result between) t one.state begun later in
    tells_read (record { value = one.value; state = ended_body between.here.scope one.state; rest = one.rest }) (held.further state between (ended_body between.here.scope one.state) first (body_later list number result between one.state there all)) (ends_later ahead.tokens (behind rest).tokens one.rest.tokens (past_stands ahead rest stands) ends)
body_ends held {part = part} {state = state} {ahead = ahead} room list number result between t rest there first stands begun leads (tells_stop why true_of) =
    let reached = behind_later state between (begun_body list number result between) (held.behind state between first) (behind_by between (begun_body list number result between) (body_reached list number result between there)) in
    tells_stop why (told_within part (a_body room) state t ahead (behind rest) why leads (behind_later state (begun_body list number result between) t reached (behind_by_later (begun_body list number result between) t begun)) (past_stands ahead rest stands) true_of)

begun_stops : {kept : CxxState → CxxState → Type 0} → IsHeld kept → {part : Part} {state : CxxState} {ahead : Ahead} (room list number : ℕ) (result : CxxType) (between : CxxState) (rest : Ahead) → list < scope_count between.graph → kept state between → EndsIn ahead.tokens rest.tokens
    → {r : Answer (Unit {0} × CxxState)} → ToldBy (IsInBlock (Some (number_id number))) Quietly (in_list list result between) rest r → ((begun : Unit {0} × CxxState) → r ≡ Ok begun → Leads part state ahead (a_body room) begun.1 (behind rest))
    → InsideBy kept part state ahead (then_read (answered r rest) (λ begun. taken >>= λ opened. body_at parts_at room >>= behind_body between.here.scope))
begun_stops held room list number result between rest there later stands (tells_answer one begun) leads = body_ends held room list number result between one.1 rest there later stands begun (leads one refl) (body_stops room one.1 (behind rest))
begun_stops held room list number result between rest there later stands (tells_refusal why quiet) leads = quiet_held quiet

statements_stop : {kept : CxxState → CxxState → Type 0} → IsHeld kept → {part : Part} {state : CxxState} {ahead : Ahead} (room list number : ℕ) (result : CxxType) (between : CxxState) (rest : Ahead) → list < scope_count between.graph → kept state between → EndsIn ahead.tokens rest.tokens
    → ((less : ℕ) (begun : Unit {0} × CxxState) → room ≡ suc less → begin_body list number result between ≡ Ok begun → Leads part state ahead (a_body less) begun.1 (behind rest))
    → InsideBy kept part state ahead (statements_within room list number result between rest)
unfolding statements_within begin_body
statements_stop held zero list number result between rest there later stands leads = quiet_held refl
statements_stop held (suc room) list number result between rest there later stands leads = begun_stops held room list number result between rest there later stands (enter_tells (Some (number_id number)) (in_list list result between) rest) (λ begun is. leads room begun refl is)

-- of the function with a number
abbrev pub LeadsToBody : Part → CxxState → Ahead → ℕ → Lexeme → CxxType → ℕ → ℕ → CxxState → Ahead → Type 0
LeadsToBody part state ahead room name of number list between rest = (less : ℕ) (defined begun : Unit {0} × CxxState) → room ≡ suc less → define_declared name number between ≡ Ok defined → begin_body list number (result_of of) defined.1 ≡ Ok begun → Leads part state ahead (a_body less) begun.1 (behind rest)

-- 8.3.5: behind the test that the types of its head are complete
head_held : {kept : CxxState → CxxState → Type 0} → IsHeld kept → {B : Type 0} {part : Part} {state : CxxState} {ahead : Ahead} (name : Lexeme) (of : CxxType) (list : ℕ) (between : CxxState) (rest : Ahead) (go : Unit {0} → Reads CxxState B)
    → InsideBy kept part state ahead (go tt between rest) → InsideBy kept part state ahead (then_read (complete_head name of list between rest) go)
unfolding complete_head
head_held {kept = kept} held {part = part} {state = state} {ahead = ahead} name of list between rest go next = by (is_incomplete between.graph (result_of of)) (incomplete_among between.graph list between.graph.facts)
  where
    by : (b : Bool) (o : Option Place) → InsideBy kept part state ahead (then_read (if b then fault_at name.place says.IncompleteClass between rest else whole_by o between rest) go)
    by true o = quiet_held refl
    by false None = next
    by false (Some place) = quiet_held refl

pub function_body_stops : {kept : CxxState → CxxState → Type 0} → IsHeld kept → {part : Part} {state : CxxState} {ahead : Ahead} (room : ℕ) (name : Lexeme) (of : CxxType) (number list : ℕ) (between : CxxState) (rest : Ahead) → list < scope_count between.graph → kept state between → EndsIn ahead.tokens rest.tokens
    → LeadsToBody part state ahead room name of number list between rest → InsideBy kept part state ahead (function_body room name of number list between rest)
unfolding function_body
function_body_stops held room name of number list between rest there later stands leads =
    asked_held held _ (define_declared name number) (define_later_tells name number between rest) later (λ defined is keeps later.
    let more = count_more between defined.1 keeps.grown in
    head_held held name of list defined.1 rest _ (
    then_held held (statements_stop held room list number (result_of of) defined.1 rest (omega (arith, there, more)) later stands (λ less begun is_more begins. leads less defined begun is_more is begins)) (λ statements state ahead.
    then_in later_is_quiet (looked_in later_is_quiet state ahead) (λ to. give_in later_is_quiet (tree_of (record (label_from production.block [] rest to) { target = Some (length defined.1.graph.facts) }) statements)))))
