-- Where the reading of the default arguments of the functions in a class stops, behind its end (8.3.6, 9.2).
use Rattle.std.proofs.Common.{arith, ◌≡◌, ◌<◌, refl}
use Rattle.std.specs.Prelude.{ℕ, Bool, true, false, nat_eq, nat_lt, if◌then◌else◌, List, [], ◌∷◌, Option, Some, None}
use Rattle.std.proofs.lemmas.Bool.{ltb-true}
use Rattle.cxx_model.specs.declared.place.Place.{Place}
use Rattle.cxx_model.specs.Stops.{Answer}
use Rattle.cxx_model.specs.Types.Trees.{CxxType}
use Rattle.cxx_reading.specs.Declaring.{at_scope, scope_count}
use Rattle.cxx_reading.specs.Reads.{Ahead, Got, Reads, More, Done, ◌>>=◌, then_read, answered, ask, give, got, count_ahead}
use Rattle.cxx_reading.specs.State.{CxxState}
use Rattle.cxx_reading.specs.Tokens.{refused}
use Rattle.cxx_reading.specs.Trees.{CxxTree}
use Rattle.cxx_tree.specs.Defaults.{with_given, within_default}
use Rattle.cxx_answers.specs.Defaults.{begin_later, end_later, given_to, kept_as}
use Rattle.cxx_declare.specs.Outside.{stand_in}
use Rattle.cxx_language.specs.Asked.{answers}
use Rattle.cxx_language.specs.Later.{default_read, defaults_read, later_read, list_there}
use Rattle.cxx_later.specs.Defaults.{LaterDefault}
use Rattle.cxx_later.specs.Passing.{ends_where, forward_step, forward_to}
use Rattle.cxx_language_laws.specs.Stopping.{Gives, Part, a_default, default_of, next_default, some_defaults, to_later_default}
use Rattle.cxx_language_laws.specs.Told.{EndsIn}
use Rattle.cxx_language_laws.proofs.Asked.{phrases_tell}
use Rattle.cxx_language_laws.proofs.Both.{both_tell}
use Rattle.cxx_language_laws.proofs.Later.{IsLater, by_answer, grown_later, grown_same, later_is_kept, later_is_quiet, same_calls, turned}
use Rattle.cxx_language_laws.proofs.Reached.{IsBehind, behind_by_later, behind_later, count_more, later_is_told}
use Rattle.cxx_language_laws.proofs.Scopes.{scope_is_there, scopes_at, scopes_same}
use Rattle.cxx_language_laws.proofs.Stopping.{Inside, Stops, calm, calm_from, innermost_stops, leads_in, quiet_held, quiet_told, told_within, whole_calm, whole_stops, within_part}
use Rattle.cxx_language_laws.proofs.Tells.{Answers, Quietly, Tells, ToldBy, ends_later, give_in, if_in, next_in, quiet_in, repeat_tells, same_in, tells_answer, tells_read, tells_refusal, tells_stop, then_from}
use Rattle.cxx_language_laws.proofs.TellsConversions.{convert_tells}
use Rattle.cxx_language_laws.proofs.TellsLevels.{assignment_tells}

-- ---- going on

forward_step_tells : (n : ℕ) (so_far : Unit {0}) → Tells IsLater Quietly (forward_step n so_far)
unfolding forward_step
forward_step_tells n so_far state ahead = if_in (nat_eq (count_ahead ahead) n) (same_in later_is_quiet (Done tt) state ahead) (next_in later_is_quiet (More tt) state ahead)

pub forward_tells : (n : ℕ) → Tells IsLater Quietly (forward_to n)
unfolding forward_to
forward_tells n state ahead = repeat_tells later_is_quiet (forward_step n) give (forward_step_tells n) (λ so_far state ahead. same_in later_is_quiet _ state _) _ _ state _

pub ends_tells : (n : ℕ) → Tells IsLater Quietly (ends_where n)
unfolding ends_where
ends_tells n state ahead = if_in (nat_eq (count_ahead ahead) n) (same_in later_is_quiet tt state ahead) (quiet_in later_is_quiet refl)

-- what follows a test that something is there
pub when_there : {B : Type 0} {part : Part} {state : CxxState} {ahead : Ahead} (b : Bool) (go : Unit {0} → Reads CxxState B) (after : CxxState) (rest : Ahead) → (b ≡ true → Inside part state ahead (go tt after rest)) → Inside part state ahead (then_read (if b then got tt after rest else refused after rest) go)
when_there true go after rest next = next refl
when_there false go after rest next = quiet_held refl

-- ---- the scope of a list

-- where a default argument is read
abbrev in_list : ℕ → CxxState → CxxState
in_list list state = within_default true (at_scope list state)

list_behind : (list : ℕ) (state : CxxState) → list < scope_count state.graph → IsBehind state (in_list list state)
list_behind list state there = record {
  grown = grown_same state (in_list list state) refl;
  scopes = λ is. scopes_same (at_scope list state) (in_list list state) refl refl (scopes_at list state there is);
}

-- behind it the reader stands where it did, and what is declared since is kept
back_later : (list : ℕ) (old last : CxxState) → list < scope_count old.graph → IsLater (in_list list old) last → IsLater old (at_scope old.here.scope last)
back_later list old last there later =
    let begun = in_list list old in
    let back = at_scope old.here.scope last in
    let first = list_behind list old there in
    let grown = grown_later old begun last first.grown later.grown in
    record {
      grown = grown_later old last back grown (grown_same last back refl);
      scopes = λ is. let outside = scope_is_there old is in let more = count_more old last grown in scopes_at old.here.scope last (omega (arith, outside, more)) (later.scopes (first.scopes is));
      best = λ all. same_calls last back (grown_same last back refl) refl (later.best (same_calls old begun first.grown refl all));
      here = λ is. refl;
    }

-- ---- one default argument

default_stops : (room : ℕ) (state : CxxState) (ahead : Ahead) → Stops (a_default room) state ahead (default_of room state ahead)
default_stops room state ahead = innermost_stops tt (λ fault is. is) (assignment_tells later_is_told (phrases_tell room (both_tell room).types) (both_tell room).phrases state ahead)

given_later : (number : Option ℕ) (index : ℕ) (tree : CxxTree) (old state : CxxState) → IsLater old state → IsLater old (given_to number index tree state)
given_later None index tree old state later = later
given_later (Some number) index tree old state later = turned old state (with_given number index tree state) later refl refl refl

end_tells : (equals : Place) (number : Option ℕ) (index : ℕ) (of : CxxType) (tree : CxxTree) → Answers IsLater Quietly (end_later equals number index of tree)
unfolding end_later
end_tells equals number index of tree state ahead =
    by_answer state ahead _ (convert_tells later_is_quiet answers equals of tree state ahead) (λ answer later.
    tells_answer (kept_as number index answer) (given_later number index answer.0 state (within_default false answer.1) (turned state answer.1 (within_default false answer.1) later refl refl refl)))

-- what was read is given, and the reader stands where it did
abbrev behind_default : LaterDefault → ℕ → CxxTree → Reads CxxState (Unit {0})
behind_default one outside tree = ask (end_later one.equals one.number one.index one.of tree) >>= λ kept. ask (stand_in outside) >>= λ left. ends_where one.last

given_ends : {part : Part} {state : CxxState} {ahead : Ahead} (one : LaterDefault) (between last : CxxState) (rest : Ahead) → one.list < scope_count between.graph → IsLater state between → IsLater (in_list one.list between) last → EndsIn ahead.tokens rest.tokens → {r : Answer (Unit {0} × CxxState)} → ToldBy IsLater Quietly last rest r
    → Inside part state ahead (then_read (answered r rest) (λ kept. ask (stand_in between.here.scope) >>= λ left. ends_where one.last))
given_ends {state = state} one between last rest there first later stands (tells_answer answer more) =
    let back = at_scope between.here.scope answer.1 in
    calm_from (later_is_kept.later state between back first (back_later one.list between answer.1 there (later_is_kept.later (in_list one.list between) last answer.1 later more))) stands (ends_tells one.last back rest)
given_ends {part = part} {state = state} {ahead = ahead} one between last rest there first later stands (tells_refusal why quiet) = tells_stop why (quiet_told within_part part state ahead why quiet)

default_ends : (one : LaterDefault) (others : List LaterDefault) (state between : CxxState) (ahead rest : Ahead) → Gives (forward_to one.first) state ahead tt between rest → one.list < scope_count between.graph → IsLater state between → EndsIn ahead.tokens rest.tokens
    → {r : Answer (Got CxxState CxxTree)} → Stops (a_default one.room) (in_list one.list between) rest r → Inside (some_defaults (one ∷ others)) state ahead (then_read r (behind_default one between.here.scope))
unfolding begin_later
default_ends one others state between ahead rest is there first stands (tells_read read later ends) =
    given_ends one between read.state read.rest there first later (ends_later ahead.tokens rest.tokens read.rest.tokens stands ends) (end_tells one.equals one.number one.index one.of read.value read.state read.rest)
default_ends one others state between ahead rest is there first stands (tells_stop why told) =
    let begun = in_list one.list between in
    let leads = to_later_default {one = one} {others = others} {entered = (tt, at_scope one.list between)} {begun = (tt, begun)} is refl refl in
    tells_stop why (told_within (some_defaults (one ∷ others)) (a_default one.room) state begun ahead rest why leads (behind_later state between begun (behind_by_later state between first) (list_behind one.list between there)) stands told)

later_stops : (one : LaterDefault) (others : List LaterDefault) (state : CxxState) (ahead : Ahead) → Inside (some_defaults (one ∷ others)) state ahead (later_read one state ahead)
unfolding later_read default_read list_there begin_later
later_stops one others state ahead =
    then_from (λ there. default_read one) (calm (forward_tells one.first state ahead)) (λ at is later stands.
    when_there (nat_lt one.list (scope_count at.state.graph)) _ at.state at.rest (λ within.
    default_ends one others state at.state ahead at.rest is (ltb-true one.list (scope_count at.state.graph) within) later stands (default_stops one.room (in_list one.list at.state) at.rest)))

-- one after another
pub defaults_stop : (defaults : List LaterDefault) (state : CxxState) (ahead : Ahead) → Stops (some_defaults defaults) state ahead (defaults_read defaults state ahead)
unfolding defaults_read
defaults_stop [] state ahead = whole_calm (give_in later_is_quiet tt state ahead)
defaults_stop (one ∷ others) state ahead =
    whole_stops (λ fault is. is) (then_from (λ was_read. defaults_read others) (later_stops one others state ahead) (λ read is later stands.
    leads_in (next_default is) later stands (defaults_stop others read.state read.rest)))
