-- Where the reading of a declarator stops, and of what follows it.
use Rattle.std.proofs.Common.{◌≡◌, refl, ap, ◌∙◌}
use Rattle.std.specs.Prelude.{ℕ, Bool, true, false, not, ◌&&◌, ◌||◌, List, [], ◌∷◌, Ok, Err, if◌then◌else◌}
use Rattle.cxx_model.specs.declared.fault.FaultText.TheVariants as says
use Rattle.cxx_model.specs.Stops.{Answer}
use Rattle.cxx_model.specs.Text.Lexemes.{Lexeme}
use Rattle.cxx_model.specs.Types.Trees.{CxxType}
use Rattle.cxx_reading.specs.declared.specifier.Naming.TheVariants as naming
use Rattle.cxx_reading.specs.declared.specifier.SpecifierPlace.{SpecifierPlace}
use Rattle.cxx_reading.specs.Declarators.{Declarator, declared_type, refused_in, is_refused, is_void}
use Rattle.cxx_reading.specs.Declaring.{define_declared}
use Rattle.cxx_declare.specs.Outside.{agree_here, agreed_by, any_agrees, members_here}
use Rattle.cxx_reading.specs.Reads.{Ahead, Got, Reads, answered, ask, then_read, fault_at, got, kind_ahead}
use Rattle.cxx_reading.specs.Seen.{Numbered}
use Rattle.cxx_reading.specs.State.{CxxState}
use Rattle.cxx_reading.specs.Units.{Said, name_in as name_of_declarator, declared_fits, ends_declarator}
use Rattle.cxx_answers.specs.Typed.{type_so_far}
use Rattle.cxx_language.specs.Asked.{answers, inner_at, phrases_at}
use Rattle.cxx_language.specs.Units.{member_agrees, is_function_outside, outside_agrees}
use Rattle.cxx_language.specs.Objects.{begins_initializer, defined_later, defined_part, extern_part, without_initializer, is_given}
use Rattle.cxx_language_laws.specs.Stopping.{Leads, Part, a_declarator, an_initializer, declarator_of, initializer_of, some_specifiers, specifiers_of}
use Rattle.cxx_language_laws.specs.Told.{EndsIn}
use Rattle.cxx_language_laws.proofs.Asked.{kinds_tell}
use Rattle.cxx_language_laws.proofs.Both.{both_tell}
use Rattle.cxx_language_laws.proofs.Declared.{uninitialized_tells}
use Rattle.cxx_language_laws.proofs.Later.{define_later_tells, later_is_quiet}
use Rattle.cxx_language_laws.proofs.Objects.{HasNumber, initialized_tells, number_later}
use Rattle.cxx_language_laws.proofs.Members.{EntersIn, enters_read, enters_stop, member_is_entered}
use Rattle.cxx_language_laws.proofs.Reached.{IsElsewhere, later_is_told}
use Rattle.cxx_language_laws.proofs.Stopping.{ChainedOf, InsideBy, IsHeld, Stops, arrived_whole, asked_held, calm_held, innermost_stops, leads_held, which_in, whole_part}
use Rattle.cxx_language_laws.proofs.Tells.{ToldIn, tells_read, tells_stop, if_in, same_in, quiet_in}
use Rattle.cxx_language_laws.proofs.TellsSpecifiers.{specifiers_tell}
use Rattle.cxx_language_laws.proofs.TellsSyntax.{declarator_tells}

-- ---- innermost parts

pub specifiers_stop : (room : ℕ) (place : SpecifierPlace) (state : CxxState) (ahead : Ahead) → Stops (some_specifiers room place) state ahead (specifiers_of room place state ahead)
specifiers_stop room place state ahead = innermost_stops tt (λ fault is. is) (specifiers_tell later_is_told (kinds_tell room) (both_tell room).types place state ahead)

pub declarator_stops : (room : ℕ) (state : CxxState) (ahead : Ahead) → Stops (a_declarator room naming.Required) state ahead (declarator_of room naming.Required state ahead)
declarator_stops room state ahead = innermost_stops tt (λ fault is. is) (declarator_tells later_is_told (kinds_tell room) (both_tell room).types naming.Required refl state ahead)

-- 8.3: behind one whose name may have qualifiers the reader may stand elsewhere
pub member_stops : (room : ℕ) (state : CxxState) (ahead : Ahead) → ToldIn IsElsewhere (ChainedOf whole_part (a_declarator room naming.Qualified)) state ahead (declarator_of room naming.Qualified state ahead)
member_stops room state ahead = by (declarator_of room naming.Qualified state ahead) refl (member_is_entered room state ahead)
  where
    by : (r : Answer (Got CxxState Declarator)) → declarator_of room naming.Qualified state ahead ≡ r → EntersIn state ahead r → ToldIn IsElsewhere (ChainedOf whole_part (a_declarator room naming.Qualified)) state ahead r
    by _ e (enters_read one placed stands) = tells_read one placed.elsewhere stands
    by _ e (enters_stop why told) = tells_stop why (arrived_whole (a_declarator room naming.Qualified) state ahead why tt (λ fault is. e ∙ ap Err is) told)

pub initializer_stops : (room : ℕ) (name : Lexeme) (of : CxxType) (number : ℕ) (state : CxxState) (ahead : Ahead) → HasNumber number state → Stops (an_initializer room name of number) state ahead (initializer_of room name of number state ahead)
initializer_stops room name of number state ahead there = innermost_stops tt (λ fault is. is) (initialized_tells room name of number state ahead there)

-- ---- what follows a declarator

pub defined_part_stops : {kept : CxxState → CxxState → Type 0} → IsHeld kept → {part : Part} {state : CxxState} {ahead : Ahead} (after : CxxState) (rest : Ahead) (room : ℕ) (name : Lexeme) (of : CxxType) (number : ℕ) → HasNumber number after → (begins_initializer rest ≡ true → Leads part state ahead (an_initializer room name of number) after rest) → kept state after → EndsIn ahead.tokens rest.tokens
    → InsideBy kept part state ahead (defined_part answers (phrases_at room) (inner_at room).phrases name of number after rest)
unfolding defined_part without_initializer
defined_part_stops held after rest room name of number there leads keeps stands =
    which_in (begins_initializer rest) (λ begins. leads_held held (leads begins) keeps stands (initializer_stops room name of number after rest there)) (λ none. calm_held held keeps stands (
    if_in (ends_declarator (kind_ahead rest)) (if_in (is_given after number of) (same_in later_is_quiet [] after rest) (uninitialized_tells name (type_so_far after number of) after rest)) (quiet_in later_is_quiet refl)))

defined_later_stops : {kept : CxxState → CxxState → Type 0} → IsHeld kept → {part : Part} {state : CxxState} {ahead : Ahead} (between : CxxState) (rest : Ahead) (room : ℕ) (name : Lexeme) (of : CxxType) (number : ℕ) → HasNumber number between → ((defined : Unit {0} × CxxState) → define_declared name number between ≡ Ok defined → Leads part state ahead (an_initializer room name of number) defined.1 rest) → kept state between → EndsIn ahead.tokens rest.tokens
    → InsideBy kept part state ahead (defined_later answers (phrases_at room) (inner_at room).phrases name of number between rest)
unfolding defined_later
defined_later_stops held between rest room name of number there leads keeps stands =
    asked_held held (λ defined. initializer_of room name of number) (define_declared name number) (define_later_tells name number between rest) keeps (λ defined is later now. leads_held held (leads defined is) now stands (initializer_stops room name of number defined.1 rest (number_later number between defined.1 later there)))

pub extern_part_stops : {kept : CxxState → CxxState → Type 0} → IsHeld kept → {part : Part} {state : CxxState} {ahead : Ahead} (between : CxxState) (rest : Ahead) (room : ℕ) (name : Lexeme) (of : CxxType) (number : ℕ) → HasNumber number between
    → (begins_initializer rest ≡ true → (defined : Unit {0} × CxxState) → define_declared name number between ≡ Ok defined → Leads part state ahead (an_initializer room name of number) defined.1 rest)
    → kept state between → EndsIn ahead.tokens rest.tokens → InsideBy kept part state ahead (extern_part answers (phrases_at room) (inner_at room).phrases name of number between rest)
unfolding extern_part
extern_part_stops held between rest room name of number there leads keeps stands =
    which_in (begins_initializer rest) (λ begins. defined_later_stops held between rest room name of number there (leads begins) keeps stands) (λ none. calm_held held keeps stands (
    if_in (ends_declarator (kind_ahead rest)) (same_in later_is_quiet [] between rest) (quiet_in later_is_quiet refl)))

-- ---- by tests

pub which_reads : {A : Type 0} {kept : CxxState → CxxState → Type 0} {part : Part} {state : CxxState} {ahead : Ahead} (b : Bool) (x y : Reads CxxState A) (after : CxxState) (rest : Ahead) → (b ≡ true → InsideBy kept part state ahead (x after rest)) → (b ≡ false → InsideBy kept part state ahead (y after rest)) → InsideBy kept part state ahead ((if b then x else y) after rest)
which_reads true x y after rest one two = one refl
which_reads false x y after rest one two = two refl

-- what follows where a declarator fits
pub fits_stops : {B : Type 0} {kept : CxxState → CxxState → Type 0} {part : Part} {state : CxxState} {ahead : Ahead} (said : Said) (declarator : Declarator) (go : Unit {0} → Reads CxxState B) (after : CxxState) (rest : Ahead) → InsideBy kept part state ahead (go tt after rest) → InsideBy kept part state ahead (then_read (declared_fits said declarator after rest) go)
unfolding declared_fits
fits_stops {B = B} {kept = kept} {part = part} {state = state} {ahead = ahead} said declarator go after rest stops = by (is_refused (refused_in declarator.layers said.of) || (not said.is_typedef && is_void (declared_type declarator.layers said.of)))
  where
    by : (b : Bool) → InsideBy kept part state ahead (then_read (if b then fault_at (name_of_declarator declarator).place says.OperandsDoNotFit after rest else got tt after rest) go)
    by true = tells_stop _ tt
    by false = stops

agreed_stops : {B : Type 0} {kept : CxxState → CxxState → Type 0} {part : Part} {state : CxxState} {ahead : Ahead} (name : Lexeme) (all : List Numbered) (agrees : Bool) (go : Unit {0} → Reads CxxState B) (after : CxxState) (rest : Ahead) → InsideBy kept part state ahead (go tt after rest) → InsideBy kept part state ahead (then_read (answered (agreed_by name all agrees after) rest) go)
agreed_stops name all true go after rest stops = stops
agreed_stops name [] false go after rest stops = tells_stop _ tt
agreed_stops name (one ∷ others) false go after rest stops = tells_stop _ tt

-- 8.3: and where what has qualifiers was declared before
pub agrees_stops : {B : Type 0} {kept : CxxState → CxxState → Type 0} {part : Part} {state : CxxState} {ahead : Ahead} (said : Said) (declarator : Declarator) (go : Unit {0} → Reads CxxState B) (after : CxxState) (rest : Ahead) → InsideBy kept part state ahead (go tt after rest) → InsideBy kept part state ahead (then_read (member_agrees said declarator after rest) go)
unfolding agree_here
agrees_stops {B = B} {kept = kept} {part = part} {state = state} {ahead = ahead} said declarator go after rest stops = by declarator.is_qualified
  where
    outside : (b : Bool) → InsideBy kept part state ahead (then_read (if b then got tt after rest else ask (agree_here said.is_typedef (name_of_declarator declarator) (declared_type declarator.layers said.of)) after rest) go)
    outside true = stops
    outside false = agreed_stops (name_of_declarator declarator) (members_here after (name_of_declarator declarator)) (any_agrees after.graph after.here.scope said.is_typedef (declared_type declarator.layers said.of) (members_here after (name_of_declarator declarator))) go after rest stops

    by : (b : Bool) → InsideBy kept part state ahead (then_read (if b then outside_agrees said declarator after rest else got tt after rest) go)
    by true = outside (is_function_outside said declarator after)
    by false = stops
