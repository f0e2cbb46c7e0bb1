-- What the tests of brackets keep of the state, and what stops them.
use Rattle.std.proofs.Common.{◌≡◌, refl}
use Rattle.std.specs.Prelude.{ℕ, suc, Bool, true, false, ◌&&◌, if◌then◌else◌, Option, Some, None, Err}
use Rattle.cxx_model.specs.declared.punct.TheConstants as punct
use Rattle.cxx_model.specs.Stops.{Answer, Stopped}
use Rattle.cxx_phrases.specs.declared.shape.TypeShape.{TypeShape}
use Rattle.cxx_phrases.specs.declared.shape.TypeShape.TheVariants as shape
use Rattle.cxx_phrases.specs.Brackets.{opened_step, opened_over, opened_passed, closed_step, give_true, closed_passed, called_by, name_closed, name_opened, called_name, is_cast, cast_passed, begins_cast}
use Rattle.cxx_phrases.specs.Phrases.{Inner}
use Rattle.cxx_reading.specs.Reads.{Ahead, Got, More, Done, then_read, got, kind_ahead, behind}
use Rattle.cxx_reading.specs.Tokens.{begins_name, behind_name, is_punct, is_whole_name, path_ahead}
use Rattle.cxx_reading.specs.Trees.{CxxPath}
use Rattle.cxx_language_laws.specs.Told.{EndsIn}
use Rattle.cxx_language_laws.proofs.PhrasesTell.{InnerTell}
use Rattle.cxx_language_laws.proofs.Tells.{IsTold, IsQuiet, Quietly, Always, unit_is_told, ToldIn, tells_read, tells_stop, Tells, quiet_in, if_in, past_in, then_in, same_in, next_in, repeat_tells, give_in, returned_in, whole_stands, ends_later}

-- ---- brackets alone

opened_step_tells : {S : Type 0} {kept : S → S → Type 0} {told : S → Ahead → Stopped → Type 0} → IsTold kept told → (count : ℕ) → Tells kept told (opened_step {S = S} count)
unfolding opened_step
opened_step_tells is count state ahead = if_in (is_punct punct.LEFT_PARENTHESIS (kind_ahead ahead)) (next_in is (More (suc count)) state ahead) (same_in is (Done count) state ahead)

opened_over_tells : {S : Type 0} {kept : S → S → Type 0} {told : S → Ahead → Stopped → Type 0} → IsTold kept told → (count : ℕ) → Tells kept told (opened_over {S = S} count)
unfolding opened_over
opened_over_tells is count state ahead = if_in (is_punct punct.LEFT_PARENTHESIS (kind_ahead ahead)) (quiet_in is refl) (same_in is count state ahead)

opened_tell : {S : Type 0} {kept : S → S → Type 0} {told : S → Ahead → Stopped → Type 0} → IsTold kept told → (room : ℕ) → Tells kept told (opened_passed {S = S} room)
unfolding opened_passed
opened_tell is room = repeat_tells is opened_step opened_over (opened_step_tells is) (opened_over_tells is) room 0

closed_step_tells : {S : Type 0} {kept : S → S → Type 0} {told : S → Ahead → Stopped → Type 0} → IsTold kept told → (so_far : Unit {0}) → Tells kept told (closed_step {S = S} so_far)
unfolding closed_step
closed_step_tells is so_far state ahead = if_in (is_punct punct.RIGHT_PARENTHESIS (kind_ahead ahead)) (next_in is (More tt) state ahead) (same_in is (Done false) state ahead)

closed_tell : {S : Type 0} {kept : S → S → Type 0} {told : S → Ahead → Stopped → Type 0} → IsTold kept told → (count : ℕ) → Tells kept told (closed_passed {S = S} count)
unfolding closed_passed
closed_tell is count = repeat_tells is closed_step give_true (closed_step_tells is) (λ so_far. give_in is true) count tt

-- ---- the name that stands in brackets alone

-- what was found: where it is a name, that stands ahead
pub data NameIn (ahead : Ahead) : Answer (Got (Unit {0}) (Option CxxPath)) → Type 0 where
  stops_quietly : (why : Stopped) → IsQuiet why → NameIn ahead (Err why)
  finds_none : (rest : Ahead) → NameIn ahead (got None tt rest)
  finds_name : (named rest : Ahead) → EndsIn ahead.tokens named.tokens → EndsIn (behind_name named).tokens rest.tokens → begins_name named ≡ true → is_whole_name named ≡ true → NameIn ahead (got (Some (path_ahead named)) tt rest)

-- the same where more tokens are ahead
sooner_in : (ahead middle : Ahead) {r : Answer (Got (Unit {0}) (Option CxxPath))} → EndsIn ahead.tokens middle.tokens → NameIn middle r → NameIn ahead r
sooner_in ahead middle stands (stops_quietly why quiet) = stops_quietly why quiet
sooner_in ahead middle stands (finds_none rest) = finds_none rest
sooner_in ahead middle stands (finds_name named rest is follows begins whole) = finds_name named rest (ends_later ahead.tokens middle.tokens named.tokens stands is) follows begins whole

called_by_finds : (named : Ahead) (closed : Bool) (rest : Ahead) → begins_name named ≡ true → is_whole_name named ≡ true → EndsIn (behind_name named).tokens rest.tokens → NameIn named (called_by {S = Unit {0}} (path_ahead named) closed tt rest)
called_by_finds named false rest begins whole follows = finds_none rest
called_by_finds named true rest begins whole follows = by (is_punct punct.LEFT_PARENTHESIS (kind_ahead rest))
  where
    by : (b : Bool) → NameIn named (got (if b then Some (path_ahead named) else None) tt rest)
    by true = finds_name named rest (whole_stands named.tokens) follows begins whole
    by false = finds_none rest

closed_finds : (named : Ahead) {r : Answer (Got (Unit {0}) Bool)} → begins_name named ≡ true → is_whole_name named ≡ true → ToldIn Always Quietly tt (behind_name named) r → NameIn named (then_read r (called_by {S = Unit {0}} (path_ahead named)))
closed_finds named begins whole (tells_read one keeps stands) = called_by_finds named one.value one.rest begins whole stands
closed_finds named begins whole (tells_stop why quiet) = stops_quietly why quiet

name_closed_finds : (count : ℕ) (named : Ahead) → begins_name named ≡ true → is_whole_name named ≡ true → NameIn named (name_closed {S = Unit {0}} count (path_ahead named) tt (behind_name named))
unfolding name_closed
name_closed_finds count named begins whole = closed_finds named begins whole (closed_tell unit_is_told count tt (behind_name named))

name_opened_finds : (count : ℕ) (ahead : Ahead) (b c : Bool) → begins_name ahead ≡ b → is_whole_name ahead ≡ c → NameIn ahead (if b && c then name_closed {S = Unit {0}} count (path_ahead ahead) tt (behind_name ahead) else got None tt ahead)
name_opened_finds count ahead false c begins whole = finds_none ahead
name_opened_finds count ahead true false begins whole = finds_none ahead
name_opened_finds count ahead true true begins whole = name_closed_finds count ahead begins whole

opened_finds : (count : ℕ) (ahead : Ahead) → NameIn ahead (name_opened {S = Unit {0}} count tt ahead)
unfolding name_opened
opened_finds count ahead = name_opened_finds count ahead (begins_name ahead) (is_whole_name ahead) refl refl

then_finds : (ahead : Ahead) {r : Answer (Got (Unit {0}) ℕ)} → ToldIn Always Quietly tt ahead r → NameIn ahead (then_read r (name_opened {S = Unit {0}}))
then_finds ahead (tells_read one keeps stands) = sooner_in ahead one.rest stands (opened_finds one.value one.rest)
then_finds ahead (tells_stop why quiet) = stops_quietly why quiet

pub called_name_finds : (room : ℕ) (ahead : Ahead) → NameIn ahead (called_name {S = Unit {0}} room tt ahead)
unfolding called_name
called_name_finds room ahead = then_finds ahead (opened_tell unit_is_told room tt ahead)

-- ---- casts

is_cast_tells : {S : Type 0} {kept : S → S → Type 0} {told : S → Ahead → Stopped → Type 0} → IsTold kept told → (found : TypeShape) → Tells kept told (is_cast {S = S} found)
is_cast_tells is shape.NoType state ahead = same_in is _ state ahead
is_cast_tells is shape.Closed state ahead = same_in is _ state ahead
is_cast_tells is shape.Surely state ahead = same_in is _ state ahead

cast_passed_tells : {S : Type 0} {kept : S → S → Type 0} {told : S → Ahead → Stopped → Type 0} → IsTold kept told → {inner : Inner S} → InnerTell kept told inner → Tells kept told (cast_passed inner)
unfolding cast_passed
cast_passed_tells is inner state ahead = then_in is (inner.type_passed state ahead) (is_cast_tells is)

pub begins_cast_tells : {S : Type 0} {kept : S → S → Type 0} {told : S → Ahead → Stopped → Type 0} → IsTold kept told → {inner : Inner S} → InnerTell kept told inner → Tells kept told (begins_cast inner)
unfolding begins_cast
begins_cast_tells is inner state ahead = returned_in ahead (past_in is (cast_passed_tells is inner state (behind ahead)))
