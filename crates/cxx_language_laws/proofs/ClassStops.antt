-- Where the reading of a class stops, and of the specifiers among which it is defined.
use Rattle.std.proofs.Common.{◌≡◌, refl, subst}
use Rattle.std.specs.Prelude.{ℕ, zero, suc, Bool, true, false, not, ◌&&◌, ◌||◌, if◌then◌else◌, List, [], Option, Some, None, Ok, Err, ◌++◌, nat_eq, ◌∷◌}
use Rattle.cxx_model.specs.declared.facts.Access.{Access}
use Rattle.cxx_model.specs.declared.fault.FaultText.TheVariants as says
use Rattle.cxx_model.specs.declared.fault.LeftOut.TheVariants as form
use Rattle.cxx_model.specs.declared.keyword.TheConstants as keyword
use Rattle.cxx_model.specs.declared.place.Place.{Place}
use Rattle.cxx_model.specs.declared.punct.TheConstants as punct
use Rattle.cxx_model.specs.Stops.{Answer, Stopped, fault}
use Rattle.cxx_model.specs.Text.Lexemes.{Lexeme}
use Rattle.cxx_model.specs.Types.Trees.{CxxType}
use Rattle.cxx_reading.specs.declared.specifier.SpecifierPlace.{SpecifierPlace}
use Rattle.cxx_reading.specs.declared.specifier.SpecifierPlace.TheVariants as where_
use Rattle.cxx_reading.specs.Declarators.{Declarator, Specifiers, declared_type, has_type, is_function_type, is_void, own_parameters, refused_in, is_refused}
use Rattle.cxx_reading.specs.Declaring.{at_scope, enumeration_count}
use Rattle.cxx_declare.specs.Outside.{stand_in}
use Rattle.cxx_reading.specs.Reads.{Ahead, Got, Reads, More, Done, ◌>>=◌, then_read, answered, ask, taken, looked, give, count_ahead, kind_ahead, place_ahead, behind, fault_at, got}
use Rattle.cxx_reading.specs.State.{CxxState}
use Rattle.cxx_reading.specs.Specifiers.{place_or}
use Rattle.cxx_reading.specs.Tokens.{is_keyword, is_punct, begins_name, behind_name, is_unbuilt_part, is_whole_name, lacks_first_part, no_part_there, not_built, path_ahead, path_taken, refused}
use Rattle.cxx_reading.specs.Trees.{CxxTree, CxxPath}
use Rattle.cxx_reading.specs.Units.{Listed, Said, declared_fits, declarator_tree, give_trees, is_incomplete, is_unbounded, name_in, no_declarators, said_by, simple_tree, specifiers_tree}
use Rattle.cxx_declare.specs.ClassDefinitions.{end_class, declare_member}
use Rattle.cxx_language.specs.Bodies.{standing}
use Rattle.cxx_language.specs.Classes.{BaseList, Head, Members, access_by, access_step, access_word, bases_at, bases_in, bases_or_none, begins_by, behind_bases, class_at, class_begins, class_by, class_tree, comes_later, data_member, declared_member, declared_step, give_members, head_at, is_none, key_access, list_at, list_step, list_step_by, member_at, member_declaration_at, member_declaration_by, member_step, member_specifiers, member_specifiers_by, members_by, named_member_at, nested_or_not, no_anonymous_union, no_bit_field, synonym_member, whole_member, with_class, with_member, type_of_member, Labelled, begins_pure, begins_virtual, behind_virtual, behind_words, body_unless_pure, declared_behind, is_virtual_member, labelled, pure_ahead, pure_taken, using_step, value_or_pure, with_tree, words_of_member, begins_friend, begins_keyed, behind_inline, behind_key, class_or_functions, friend_at, friend_by, friend_class, friend_fits, friend_function, friend_functions, friend_specifiers, friend_step, friend_typed, friends_at, friends_behind, friends_step, is_class_key, keyed_friend, specifiers_of_friend, type_of_friend, with_members}
use Rattle.cxx_language.specs.Later.{Declares, list_then_body, member_body}
use Rattle.cxx_later.specs.Defaults.{defaults_kept, later_trees}
use Rattle.cxx_later.specs.Passing.{body_later, passed_tree}
use Rattle.cxx_tree.specs.Defaults.{without_offers}
use Rattle.cxx_language_laws.specs.Stopping.{BeginsClass, Gives, NamesBases, a_class, a_class_name, a_member_declaration, begins_class, behind_member_class, further_specifiers_of, in_bases, in_class, in_class_name, in_member, in_member_declarator, in_member_specifiers, in_member_using, names_bases, next_member, next_member_declarator, some_bases, some_further_specifiers, some_member_declarators, some_members, to_member_class, to_member_declarators, Leads, a_member_value, declarator_of, to_member_value, Part, a_friend_class, behind_friend, has_inline, in_friend_class, in_friend_declarator, in_friend_specifiers, in_friends, next_friend_declarator, some_friend_declarators, some_friends, to_friend_declarators}
use Rattle.cxx_language_laws.specs.Told.{EndsIn}
use Rattle.cxx_language_laws.proofs.Asked.{kinds_tell}
use Rattle.cxx_language_laws.proofs.Bases.{bases_stop}
use Rattle.cxx_language_laws.proofs.Both.{both_tell}
use Rattle.cxx_language_laws.proofs.Brought.{member_using_stops}
use Rattle.cxx_language_laws.proofs.ClassBegins.{begin_tells, end_tells, member_tells, unnamed_tells, member_is_there}
use Rattle.cxx_language_laws.proofs.ClassNames.{class_name_stops}
use Rattle.cxx_language_laws.proofs.Declared.{bare_synonym_tells, ended_by_tells, give_trees_tells, nothing_tells, one_tree_tells}
use Rattle.cxx_language_laws.proofs.DeclaratorsStop.{declarator_stops, specifiers_stop, fits_stops, member_stops}
use Rattle.cxx_language_laws.proofs.Later.{IsLater, later_is_kept, later_is_quiet, later_same, turned}
use Rattle.cxx_language_laws.proofs.Opened.{InSpace, round_grown, stands_in}
use Rattle.cxx_language_laws.proofs.Reached.{IsBehind, IsElsewhere, behind_by_later, behind_later, elsewhere_later, later_is_told, returns_later, Told}
use Rattle.cxx_language_laws.proofs.Stopping.{ChainedOf, Inside, InsideBy, Stops, calm, calm_from, elsewhere_is_held, innermost_stops, later_here, leads_here, leads_in, quiet_told, repeat_stops, then_calm, told_within, which_in, whole_calm, whole_part, whole_stops, within_part, then_asked, leads_elsewhere}
use Rattle.cxx_language_laws.proofs.Tells.{Quietly, Tells, ToldBy, ToldIn, behind_stands, ends_later, give_in, if_in, looked_in, next_in, past_stands, punct_in, quiet_in, same_in, taken_in, tells_answer, tells_read, tells_refusal, tells_stop, then_from, then_in, tokens_in, unit_is_told, nothing, saying, whole_stands, ask_from, name_stands, past_in, path_told}
use Rattle.cxx_language_laws.proofs.TellsPassing.{passed_tells}
use Rattle.cxx_language_laws.proofs.TellsSpecifiers.{further_tell}
use Rattle.cxx_language.specs.Values.{constant_part, has_value, member_value}
use Rattle.cxx_model.specs.declared.fault.FaultText.{FaultText}
use Rattle.cxx_reading.specs.declared.specifier.Naming.TheVariants as naming
use Rattle.cxx_language_laws.proofs.Objects.{HasNumber, value_tells}
use Rattle.cxx_model.specs.declared.types.Cv.{Cv}
use Rattle.cxx_language_laws.proofs.FriendsTell.{again_befriended, class_befriended, function_befriended}

-- ---- one member (9.2)

no_bit_field_tells : (name : Lexeme) → Tells IsLater Quietly (no_bit_field name)
unfolding no_bit_field
no_bit_field_tells name state ahead = if_in (is_punct punct.COLON (kind_ahead ahead)) (quiet_in later_is_quiet refl) (same_in later_is_quiet tt state ahead)

body_later_tells : (list : ℕ) (declarator : CxxTree) → Tells IsLater Quietly (body_later list declarator)
unfolding body_later
body_later_tells list declarator state ahead =
    then_in later_is_quiet (looked_in later_is_quiet state ahead) (λ from state ahead.
    then_in later_is_quiet (tokens_in later_is_quiet passed_tells state ahead) (λ passed state ahead.
    then_in later_is_quiet (looked_in later_is_quiet state ahead) (λ to. give_in later_is_quiet (passed_tree list declarator from to))))

list_then_body_tells : (declarator : CxxTree) (list : Option ℕ) → Tells IsLater Quietly (list_then_body declarator list)
list_then_body_tells declarator None state ahead = quiet_in later_is_quiet refl
list_then_body_tells declarator (Some list) state ahead = then_in later_is_quiet (body_later_tells list declarator state ahead) one_tree_tells

member_body_tells : (is_first : Bool) (of : CxxType) (declarator : CxxTree) (list : Option ℕ) → Tells IsLater Quietly (member_body is_first of declarator list)
unfolding member_body
member_body_tells is_first of declarator list state ahead =
    if_in (not (is_function_type of)) (same_in later_is_quiet [] state ahead) (
    if_in (is_punct punct.LEFT_BRACE (kind_ahead ahead)) (if_in is_first (list_then_body_tells declarator list state ahead) (quiet_in later_is_quiet refl)) (
    if_in (is_keyword keyword.TRY (kind_ahead ahead)) (quiet_in later_is_quiet refl) (same_in later_is_quiet [] state ahead)))

unless_pure_tells : (is_pure is_first : Bool) (of : CxxType) (declarator : CxxTree) (list : Option ℕ) → Tells IsLater Quietly (body_unless_pure is_pure is_first of declarator list)
unless_pure_tells true is_first of declarator list = give_in later_is_quiet []
unless_pure_tells false is_first of declarator list = member_body_tells is_first of declarator list

behind_tells : (is_pure is_first : Bool) (of : CxxType) (list : Option ℕ) (defaults : List CxxTree) (tree : CxxTree) → Tells IsLater Quietly (declared_behind is_pure is_first of list defaults tree)
unfolding declared_behind
behind_tells is_pure is_first of list defaults tree state ahead = then_in later_is_quiet (unless_pure_tells is_pure is_first of tree list state ahead) (λ body. give_in later_is_quiet (with_tree tree defaults body))

pure_tells : Tells IsLater Quietly pure_taken
unfolding pure_taken
pure_tells state ahead =
    then_in later_is_quiet (taken_in later_is_quiet state ahead) (λ equals state ahead.
    then_in later_is_quiet (taken_in later_is_quiet state ahead) (λ nothing. give_in later_is_quiet []))

whole_member_tells : (is_static : Bool) (name : Lexeme) (of : CxxType) → Tells IsLater Quietly (whole_member is_static name of)
unfolding whole_member
whole_member_tells is_static name of state ahead = if_in (not is_static && (is_unbounded of || is_incomplete state.graph of)) (quiet_in later_is_quiet refl) (same_in later_is_quiet tt state ahead)

fits_tells : (said : Said) (declarator : Declarator) → Tells IsLater Quietly (declared_fits said declarator)
unfolding declared_fits
fits_tells said declarator state ahead = if_in (is_refused (refused_in declarator.layers said.of) || (not said.is_typedef && is_void (declared_type declarator.layers said.of))) (quiet_in later_is_quiet refl) (same_in later_is_quiet tt state ahead)

-- 8.3.6: the default arguments that were passed over in a declarator
kept_tells : (list number : Option ℕ) → Tells IsLater Quietly (defaults_kept list number)
unfolding defaults_kept
kept_tells list number state ahead = tells_read (record { value = later_trees list number state.offered; state = without_offers state; rest = ahead }) (later_same state (without_offers state) refl refl refl) (whole_stands ahead.tokens)

synonym_member_tells : (said : Said) (declarator : Declarator) (from : Ahead) → Tells IsLater Quietly (synonym_member said declarator from)
unfolding synonym_member
synonym_member_tells said declarator from state ahead =
    then_in later_is_quiet (fits_tells said declarator state ahead) (λ fits state ahead.
    then_in later_is_quiet (bare_synonym_tells said declarator from state ahead) (λ tree state ahead.
    then_in later_is_quiet (kept_tells None None state ahead) (λ defaults. give_in later_is_quiet (with_tree tree defaults []))))

-- the value of a member in its class
value_stops : (room : ℕ) (name : Lexeme) (of : CxxType) (number : ℕ) (state : CxxState) (ahead : Ahead) → HasNumber number state → Stops (a_member_value room name of number) state ahead (constant_part room name of number state ahead)
value_stops room name of number state ahead there = innermost_stops tt (λ fault is. is) (value_tells room name of number state ahead there)

member_value_stops : {part : Part} {state : CxxState} {ahead : Ahead} (after : CxxState) (rest : Ahead) (room : ℕ) (is_static : Bool) (name : Lexeme) (of : CxxType) (number : ℕ) → HasNumber number after → (has_value is_static of (kind_ahead rest) ≡ true → Leads part state ahead (a_member_value room name of number) after rest) → IsLater state after → EndsIn ahead.tokens rest.tokens
    → Inside part state ahead (member_value room is_static name of number after rest)
unfolding member_value
member_value_stops after rest room is_static name of number there leads later stands =
    which_in (has_value is_static of (kind_ahead rest)) (λ begins. leads_in (leads begins) later stands (value_stops room name of number after rest there)) (λ none. calm_from later stands (same_in later_is_quiet [] after rest))

-- what follows what reads nothing, unless it stops
unless_stops : {B : Type 0} {part : Part} {state : CxxState} {ahead : Ahead} (refused : Bool) (place : Place) (text : FaultText) → saying text ≡ nothing → (go : Unit {0} → Reads CxxState B) (after : CxxState) (rest : Ahead) → Inside part state ahead (go tt after rest) → Inside part state ahead (then_read (if refused then fault_at place text after rest else got tt after rest) go)
unless_stops {part = part} {state = state} {ahead = ahead} true place text quiet go after rest stops = tells_stop _ (quiet_told within_part part state ahead (fault place text) quiet)
unless_stops false place text quiet go after rest stops = stops

-- behind what is declared
abbrev behind_member : Bool → Bool → Option ℕ → ℕ → Bool → Lexeme → CxxType → List CxxTree → Ahead → ℕ → Reads CxxState Declares
behind_member is_pure is_first list room is_static name of parts from number =
    defaults_kept list (Some number) >>= λ defaults. whole_member is_static name of >>= λ whole. value_or_pure is_pure room is_static name of number >>= λ value. looked >>= λ to. declared_behind is_pure is_first of list defaults (declarator_tree false name of number (parts ++ value) from to)

-- the value of a member in its class, or `= 0`
value_or_pure_stops : {part : Part} {state : CxxState} {ahead : Ahead} (after : CxxState) (rest : Ahead) (is_pure : Bool) (room : ℕ) (is_static : Bool) (name : Lexeme) (of : CxxType) (number : ℕ) → HasNumber number after
    → (is_pure ≡ false → has_value is_static of (kind_ahead rest) ≡ true → Leads part state ahead (a_member_value room name of number) after rest) → IsLater state after → EndsIn ahead.tokens rest.tokens
    → Inside part state ahead (value_or_pure is_pure room is_static name of number after rest)
value_or_pure_stops after rest true room is_static name of number there leads later stands = calm_from later stands (pure_tells after rest)
value_or_pure_stops after rest false room is_static name of number there leads later stands = member_value_stops after rest room is_static name of number there (leads refl) later stands

-- where it is known whether it is pure
member_with_stops : (room : ℕ) (label : Labelled) (said : Said) (so_far : Listed) (state : CxxState) (ahead : Ahead) (declarator : Declarator) (after : CxxState) (rest : Ahead) (is_pure : Bool) → declarator_of room naming.Required state ahead ≡ Ok (record { value = declarator; state = after; rest = rest }) → said.is_typedef ≡ false → IsLater state after → EndsIn ahead.tokens rest.tokens
    → Inside (some_member_declarators room label said so_far) state ahead ((ask (declare_member (words_of_member label said (type_of_member said declarator) is_pure) (own_parameters declarator.layers) (name_in declarator) (type_of_member said declarator)) >>= behind_member is_pure so_far.is_first (own_parameters declarator.layers) room said.is_static (name_in declarator) (type_of_member said declarator) declarator.parts ahead) after rest)
unfolding defaults_kept whole_member
member_with_stops room label said so_far state ahead declarator after rest is_pure gives plain later stands =
    let name = name_in declarator in
    let of = type_of_member said declarator in
    let words = words_of_member label said of is_pure in
    let list = own_parameters declarator.layers in
    let question = declare_member words list name of in
    let behind = behind_member is_pure so_far.is_first list room said.is_static name of declarator.parts ahead in
    then_asked behind question (member_tells words list name of after rest) later stands (λ answer is more.
    let between = without_offers answer.1 in
    let defaults = later_trees list (Some answer.0) answer.1.offered in
    unless_stops (not said.is_static && (is_unbounded of || is_incomplete between.graph of)) name.place says.IncompleteClass refl _ between rest (
    then_calm (value_or_pure_stops between rest is_pure room said.is_static name of answer.0 (member_is_there words list name of after answer is) (λ impure begins. to_member_value gives plain (subst (λ b. declare_member (words_of_member label said of b) list name of after ≡ Ok answer) impure is) refl begins) (turned state answer.1 between more refl refl refl) stands) (λ value state middle.
    then_in later_is_quiet (looked_in later_is_quiet state middle) (λ to. behind_tells is_pure so_far.is_first of list defaults (declarator_tree false name of answer.0 (declarator.parts ++ value) ahead to)))))

data_member_stops : (room : ℕ) (label : Labelled) (said : Said) (so_far : Listed) (state : CxxState) (ahead : Ahead) (declarator : Declarator) (after : CxxState) (rest : Ahead) → declarator_of room naming.Required state ahead ≡ Ok (record { value = declarator; state = after; rest = rest }) → said.is_typedef ≡ false → IsLater state after → EndsIn ahead.tokens rest.tokens
    → Inside (some_member_declarators room label said so_far) state ahead (data_member room label said so_far.is_first declarator ahead after rest)
unfolding data_member no_bit_field
data_member_stops room label said so_far state ahead declarator after rest gives plain later stands =
    let name = name_in declarator in
    let of = type_of_member said declarator in
    let is_pure = begins_pure (is_virtual_member label.is_virtual said of) rest in
    unless_stops (is_punct punct.COLON (kind_ahead rest)) name.place (says.LeftOut form.BitField) refl _ after rest (
    fits_stops said declarator (λ fits. pure_ahead (is_virtual_member label.is_virtual said of) >>= λ b. ask (declare_member (words_of_member label said of b) (own_parameters declarator.layers) name of) >>= behind_member b so_far.is_first (own_parameters declarator.layers) room said.is_static name of declarator.parts ahead) after rest (
    member_with_stops room label said so_far state ahead declarator after rest is_pure gives plain later stands))

declared_member_stops : (room : ℕ) (label : Labelled) (said : Said) (so_far : Listed) (state : CxxState) (ahead : Ahead) (declarator : Declarator) (after : CxxState) (rest : Ahead) → declarator_of room naming.Required state ahead ≡ Ok (record { value = declarator; state = after; rest = rest }) → IsLater state after → EndsIn ahead.tokens rest.tokens
    → Inside (some_member_declarators room label said so_far) state ahead (declared_member room label said so_far.is_first declarator ahead after rest)
unfolding declared_member
declared_member_stops room label said so_far state ahead declarator after rest gives later stands =
    which_in said.is_typedef (λ synonym. calm_from later stands (synonym_member_tells said declarator ahead after rest)) (λ plain. data_member_stops room label said so_far state ahead declarator after rest gives plain later stands)

named_member_stops : (room : ℕ) (label : Labelled) (said : Said) (so_far : Listed) (state : CxxState) (ahead : Ahead) → Inside (some_member_declarators room label said so_far) state ahead (named_member_at room label said so_far.is_first state ahead)
unfolding named_member_at
named_member_stops room label said so_far state ahead =
    then_from (λ declarator. declared_member room label said so_far.is_first declarator ahead) (leads_here in_member_declarator (declarator_stops room state ahead)) (λ one is later stands.
    declared_member_stops room label said so_far state ahead one.value one.state one.rest is later stands)

member_at_stops : (room : ℕ) (label : Labelled) (said : Said) (so_far : Listed) (state : CxxState) (ahead : Ahead) → Inside (some_member_declarators room label said so_far) state ahead (member_at room label said so_far.is_first state ahead)
unfolding member_at
member_at_stops room label said so_far state ahead =
    if_in (is_punct punct.COLON (kind_ahead ahead)) (calm (quiet_in later_is_quiet refl)) (named_member_stops room label said so_far state ahead)

member_step_stops : (room : ℕ) (label : Labelled) (said : Said) (so_far : Listed) (state : CxxState) (ahead : Ahead) → Inside (some_member_declarators room label said so_far) state ahead (member_step room label said so_far state ahead)
unfolding member_step
member_step_stops room label said so_far state ahead = then_calm (member_at_stops room label said so_far state ahead) (ended_by_tells so_far)

members_by_stop : (room : ℕ) (label : Labelled) (specifiers : Specifiers) (state : CxxState) (ahead : Ahead) → Stops (some_member_declarators room label (said_by false specifiers) no_declarators) state ahead (members_by room label specifiers state ahead)
unfolding members_by
members_by_stop room label specifiers state ahead =
    if_in (is_punct punct.SEMICOLON (kind_ahead ahead)) (whole_calm (nothing_tells specifiers state ahead))
    (repeat_stops (some_member_declarators room label (said_by false specifiers)) (member_step room label (said_by false specifiers)) give_trees (λ so_far s ahead fault is. is) (λ so_far more s t ahead rest is. next_member_declarator is) (member_step_stops room label (said_by false specifiers)) give_trees_tells (count_ahead ahead) no_declarators state ahead)

-- where the reading of a class that is defined stops, with room for so many more braces
abbrev pub ClassStops : ℕ → Type 0
ClassStops room = (so_far : Specifiers) (state : CxxState) (ahead : Ahead) → Stops (a_class room so_far) state ahead (class_at room so_far state ahead)

pub further_stop : (room : ℕ) (place : SpecifierPlace) (so_far : Specifiers) (state : CxxState) (ahead : Ahead) → Stops (some_further_specifiers room place so_far) state ahead (further_specifiers_of room place so_far state ahead)
further_stop room place so_far state ahead = innermost_stops tt (λ fault is. is) (further_tell later_is_told (kinds_tell room) (both_tell room).types place so_far state ahead)

-- the tokens behind `virtual`, where it stands
virtual_stands : (ahead : Ahead) → EndsIn ahead.tokens (behind_virtual ahead).tokens
virtual_stands ahead = by (begins_virtual ahead)
  where
    by : (b : Bool) → EndsIn ahead.tokens (if b then behind ahead else ahead).tokens
    by true = behind_stands ahead
    by false = whole_stands ahead.tokens

member_specifiers_stop : (room : ℕ) → ClassStops room → (label : Access) (state : CxxState) (ahead : Ahead) → Inside (a_member_declaration room label) state ahead (member_specifiers room state (behind_virtual ahead))
unfolding member_specifiers_by nested_or_not
member_specifiers_stop room nested label state ahead =
    then_from (nested_or_not (class_at room) room) (leads_in in_member_specifiers (later_here state) (virtual_stands ahead) (specifiers_stop room where_.Member state (behind_virtual ahead))) (λ one is later stands.
    which_in (has_type one.value) (λ typed. calm_from later stands (same_in later_is_quiet one.value one.state one.rest)) (λ untyped.
    then_from (further_specifiers_of room where_.Member) (leads_in (to_member_class is untyped) later stands (nested one.value one.state one.rest)) (λ more is_class further ends.
    leads_in (behind_member_class is untyped is_class) further ends (further_stop room where_.Member more.value more.state more.rest))))

member_declaration_stops : (room : ℕ) → ClassStops room → (label : Access) (state : CxxState) (ahead : Ahead) → Stops (a_member_declaration room label) state ahead (member_declaration_at room label state ahead)
unfolding member_declaration_by
member_declaration_stops room nested label state ahead =
    whole_stops (λ fault is. is) (then_from _ (member_specifiers_stop room nested label state ahead) (λ one is later stands.
    then_calm (leads_in (to_member_declarators is) later stands (members_by_stop room (labelled label (begins_virtual ahead)) one.value one.state one.rest)) (λ declarators state rest.
    then_in later_is_quiet (looked_in later_is_quiet state rest) (λ to. give_in later_is_quiet (simple_tree (specifiers_tree one.value ahead one.rest) declarators ahead to)))))

-- ---- friends (11.4)

-- a class
friend_class_tells : (is_union : Bool) (state : CxxState) (ahead : Ahead) → begins_name ahead ≡ true → is_whole_name ahead ≡ true → ToldIn IsLater Told state ahead (friend_class is_union (path_ahead ahead) state (behind_name ahead))
unfolding friend_class
friend_class_tells is_union state ahead begins whole =
    then_in later_is_told (ask_from (behind_name ahead) (name_stands ahead) (class_befriended is_union state ahead begins whole)) (λ noted state rest.
    then_in later_is_told (taken_in later_is_told state rest) (λ semicolon. give_in later_is_told []))

friend_class_stops : (is_union : Bool) (state : CxxState) (ahead : Ahead) → begins_name ahead ≡ true → is_whole_name ahead ≡ true → Stops (a_friend_class is_union) state ahead (friend_class is_union (path_ahead ahead) state (behind_name ahead))
friend_class_stops is_union state ahead begins whole = innermost_stops tt (λ fault is. is) (friend_class_tells is_union state ahead begins whole)

-- a function, where the reader may stand elsewhere behind its declarator
friend_by_tells : (is_qualified : Bool) (s state : CxxState) (ahead : Ahead) (list : Option ℕ) (name : Lexeme) (cv : Cv) (of : CxxType) → IsElsewhere s state → ToldBy IsLater Quietly s ahead (friend_by is_qualified s.here.scope list name cv of state)
friend_by_tells true s state ahead list name cv of elsewhere = again_befriended s state ahead name cv of elsewhere
friend_by_tells false s state ahead list name cv of elsewhere = function_befriended s state ahead list name of elsewhere

-- behind it the reader stands where it did
asked_back : {B : Type 0} {part : Part} {state : CxxState} {ahead : Ahead} {r : Answer (ℕ × CxxState)} (rest : Ahead) (go : ℕ → Reads CxxState B) → ToldBy IsLater Quietly state ahead r → EndsIn ahead.tokens rest.tokens → ((x : ℕ) → Tells IsLater Quietly (go x)) → Inside part state ahead (then_read (answered r rest) go)
asked_back rest go (tells_answer one later) stands tells = calm_from later stands (tells one.0 one.1 rest)
asked_back {part = part} {state = state} {ahead = ahead} rest go (tells_refusal why quiet) stands tells = tells_stop why (quiet_told within_part part state ahead why quiet)

friend_fits_stops : {B : Type 0} {part : Part} {state : CxxState} {ahead : Ahead} (of : CxxType) (go : Unit {0} → Reads CxxState B) (after : CxxState) (rest : Ahead) → Inside part state ahead (go tt after rest) → Inside part state ahead (then_read (friend_fits of after rest) go)
unfolding friend_fits
friend_fits_stops {part = part} {state = state} {ahead = ahead} of go after rest stops = by (is_function_type of)
  where
    by : (b : Bool) → Inside part state ahead (then_read (if b then got tt after rest else refused after rest) go)
    by true = stops
    by false = tells_stop _ tt

-- behind what is declared
abbrev behind_friend_of : Bool → Bool → Option ℕ → Lexeme → CxxType → List CxxTree → Ahead → ℕ → Reads CxxState Declares
behind_friend_of is_qualified is_first list name of parts from number = defaults_kept list (Some number) >>= λ defaults. looked >>= λ to. declared_behind is_qualified is_first of list defaults (declarator_tree false name of number parts from to)

behind_friend_tells : (is_qualified is_first : Bool) (list : Option ℕ) (name : Lexeme) (of : CxxType) (parts : List CxxTree) (from : Ahead) (number : ℕ) → Tells IsLater Quietly (behind_friend_of is_qualified is_first list name of parts from number)
behind_friend_tells is_qualified is_first list name of parts from number state ahead =
    then_in later_is_quiet (kept_tells list (Some number) state ahead) (λ defaults state ahead.
    then_in later_is_quiet (looked_in later_is_quiet state ahead) (λ to. behind_tells is_qualified is_first of list defaults (declarator_tree false name of number parts from to)))

friend_function_stops : (room : ℕ) (said : Said) (so_far : Listed) (state : CxxState) (ahead : Ahead) (declarator : Declarator) (after : CxxState) (rest : Ahead) → IsElsewhere state after → EndsIn ahead.tokens rest.tokens → Inside (some_friend_declarators room said so_far) state ahead (friend_function state.here.scope said so_far.is_first declarator ahead after rest)
unfolding friend_function
friend_function_stops room said so_far state ahead declarator after rest elsewhere stands =
    let name = name_in declarator in
    let of = type_of_friend said declarator in
    let list = own_parameters declarator.layers in
    let question = friend_by declarator.is_qualified state.here.scope list name declarator.cv of in
    let behind = behind_friend_of declarator.is_qualified so_far.is_first list name of declarator.parts ahead in
    fits_stops said declarator (λ fits. friend_fits of >>= λ function. ask question >>= behind) after rest (
    friend_fits_stops of (λ function. ask question >>= behind) after rest (
    asked_back rest behind (friend_by_tells declarator.is_qualified state after ahead list name declarator.cv of elsewhere) stands (
    behind_friend_tells declarator.is_qualified so_far.is_first list name of declarator.parts ahead)))

friend_at_stops : (room : ℕ) (said : Said) (so_far : Listed) (state : CxxState) (ahead : Ahead) → Inside (some_friend_declarators room said so_far) state ahead (friend_at room said so_far.is_first state ahead)
unfolding friend_at
friend_at_stops room said so_far state ahead = by (leads_elsewhere in_friend_declarator (member_stops room state ahead))
  where
    by : {r : Answer (Got CxxState Declarator)} → InsideBy IsElsewhere (some_friend_declarators room said so_far) state ahead r → Inside (some_friend_declarators room said so_far) state ahead (then_read r (λ declarator. friend_function state.here.scope said so_far.is_first declarator ahead))
    by (tells_read one elsewhere stands) = friend_function_stops room said so_far state ahead one.value one.state one.rest elsewhere stands
    by (tells_stop why told) = tells_stop why told

friends_step_stops : (room : ℕ) (said : Said) (so_far : Listed) (state : CxxState) (ahead : Ahead) → Inside (some_friend_declarators room said so_far) state ahead (friends_step room said so_far state ahead)
unfolding friends_step
friends_step_stops room said so_far state ahead = then_calm (friend_at_stops room said so_far state ahead) (ended_by_tells so_far)

friends_at_stop : (room : ℕ) (said : Said) (state : CxxState) (ahead : Ahead) → Stops (some_friend_declarators room said no_declarators) state ahead (friends_at room said state ahead)
unfolding friends_at
friends_at_stop room said state ahead = repeat_stops (some_friend_declarators room said) (friends_step room said) give_trees (λ so_far s ahead fault is. is) (λ so_far more s t ahead rest is. next_friend_declarator is) (friends_step_stops room said) give_trees_tells (count_ahead ahead) no_declarators state ahead

-- their specifiers
behind_key_tells : Tells IsLater Quietly behind_key
unfolding behind_key
behind_key_tells state ahead = if_in (begins_name ahead) (then_in later_is_quiet (path_told later_is_quiet state ahead) (λ path state ahead. quiet_in later_is_quiet refl)) (quiet_in later_is_quiet refl)

friend_typed_tells : (enumerations : ℕ) (specifiers : Specifiers) → Tells IsLater Quietly (friend_typed enumerations specifiers)
unfolding friend_typed
friend_typed_tells enumerations specifiers state ahead =
    if_in (not (has_type specifiers)) (past_in later_is_quiet (behind_key_tells state (behind ahead))) (
    if_in (nat_eq enumerations (enumeration_count state.graph.facts)) (same_in later_is_quiet specifiers state ahead) (quiet_in later_is_quiet refl))

friend_specifiers_stop : (room : ℕ) (is_inline : Bool) (from : Ahead) (state : CxxState) (ahead : Ahead) → Inside (some_friends room is_inline from) state ahead (specifiers_of_friend room is_inline state ahead)
unfolding specifiers_of_friend
friend_specifiers_stop room is_inline from state ahead = then_calm (leads_here in_friend_specifiers (further_stop room where_.Declaration (friend_specifiers is_inline) state ahead)) (friend_typed_tells (enumeration_count state.graph.facts))

friend_functions_stop : (room : ℕ) (is_inline : Bool) (from : Ahead) (state : CxxState) (ahead : Ahead) → Inside (some_friends room is_inline from) state ahead (friend_functions room is_inline from state ahead)
unfolding friend_functions
friend_functions_stop room is_inline from state ahead =
    then_from _ (friend_specifiers_stop room is_inline from state ahead) (λ one is later stands.
    then_calm (leads_in (to_friend_declarators is) later stands (friends_at_stop room (said_by false one.value) one.state one.rest)) (λ declarators state rest.
    then_in later_is_quiet (looked_in later_is_quiet state rest) (λ to. give_in later_is_quiet (simple_tree (specifiers_tree one.value from one.rest) declarators from to ∷ []))))

-- what follows a name behind tokens that were taken
path_inside : {B : Type 0} {part : Part} {state : CxxState} {ahead : Ahead} (go : CxxPath → Reads CxxState B) (from : Ahead) → (is_whole_name from ≡ true → Inside part state ahead (go (path_ahead from) state (behind_name from))) → Inside part state ahead (then_read (path_taken state from) go)
unfolding path_taken no_part_there
path_inside {part = part} {state = state} {ahead = ahead} go from stops = by (is_whole_name from) stops
  where
    none : (b : Bool) → Inside part state ahead (then_read (if b then not_built state (behind_name from) else refused state (behind_name from)) go)
    none true = tells_stop _ tt
    none false = tells_stop _ tt

    by : (b : Bool) → (b ≡ true → Inside part state ahead (go (path_ahead from) state (behind_name from))) → Inside part state ahead (then_read (if b then got (path_ahead from) state (behind_name from) else no_part_there (lacks_first_part from) state (behind_name from)) go)
    by true stops = stops refl
    by false stops = none (is_unbuilt_part (lacks_first_part from) (kind_ahead (behind_name from)))

-- behind a key of a class and a name
keyed_name : (key name : Bool) → (key && name) ≡ true → name ≡ true
keyed_name true name e = e
keyed_name false name e = absurd cc

keyed_friend_stops : (room : ℕ) (from : Ahead) (state : CxxState) (ahead : Ahead) → begins_keyed ahead ≡ true → Inside (some_friends room false from) state ahead (keyed_friend room from state ahead)
unfolding keyed_friend class_or_functions
keyed_friend_stops room from state ahead keyed =
    path_inside (class_or_functions room from ahead) (behind ahead) (λ whole.
    which_in (is_punct punct.SEMICOLON (kind_ahead (behind_name (behind ahead))))
    (λ ends. leads_in (in_friend_class (record { keyed = keyed; whole = whole; ends = ends })) (later_here state) (behind_stands ahead) (friend_class_stops (is_keyword keyword.UNION (kind_ahead ahead)) state (behind ahead) (keyed_name (is_class_key (kind_ahead ahead)) (begins_name (behind ahead)) keyed) whole))
    (λ none. friend_functions_stop room false from state ahead))

friends_behind_stop : (room : ℕ) (is_inline : Bool) (from : Ahead) (state : CxxState) (ahead : Ahead) → Stops (some_friends room is_inline from) state ahead (friends_behind room is_inline from state ahead)
unfolding friends_behind
friends_behind_stop room true from state ahead = whole_stops (λ fault is. is) (friend_functions_stop room true from state ahead)
friends_behind_stop room false from state ahead = whole_stops (λ fault is. is) (which_in (begins_keyed ahead) (λ keyed. keyed_friend_stops room from state ahead keyed) (λ none. friend_functions_stop room false from state ahead))

-- the tokens behind `inline`, where it stands, and `friend`
inline_stands : (ahead : Ahead) → EndsIn ahead.tokens (behind_inline ahead).tokens
inline_stands ahead = by (has_inline ahead)
  where
    by : (b : Bool) → EndsIn ahead.tokens (if b then behind ahead else ahead).tokens
    by true = behind_stands ahead
    by false = whole_stands ahead.tokens

friend_step_stops : (room : ℕ) (name : Option Lexeme) (so_far : Members) (state : CxxState) (ahead : Ahead) → begins_friend ahead ≡ true → Inside (some_members room name so_far) state ahead (friend_step room so_far state ahead)
unfolding friend_step
friend_step_stops room name so_far state ahead begins =
    then_calm (leads_in (in_friends begins) (later_here state) (past_stands ahead (behind_inline ahead) (inline_stands ahead)) (friends_behind_stop room (has_inline ahead) ahead state (behind_friend ahead))) (λ trees. give_in later_is_quiet (More (with_members trees so_far)))

-- ---- the list of members

access_tells : (so_far : Members) → Tells IsLater Quietly (access_step so_far)
unfolding access_step
access_tells so_far state ahead =
    then_in later_is_quiet (looked_in later_is_quiet state ahead) (λ from state ahead.
    then_in later_is_quiet (taken_in later_is_quiet state ahead) (λ word state ahead.
    then_in later_is_quiet (tokens_in later_is_quiet (punct_in unit_is_told punct.COLON) state ahead) (λ colon. give_in later_is_quiet (More (record so_far { access = access_by (kind_ahead from) })))))

list_step_stops : (room : ℕ) → ClassStops room → (name : Option Lexeme) (so_far : Members) (state : CxxState) (ahead : Ahead) → Inside (some_members room name so_far) state ahead (list_step room name so_far state ahead)
unfolding list_step_by declared_step using_step
list_step_stops room nested name so_far state ahead =
    if_in (is_punct punct.RIGHT_BRACE (kind_ahead ahead)) (calm (next_in later_is_quiet (Done so_far.trees) state ahead)) (
    if_in (is_punct punct.SEMICOLON (kind_ahead ahead)) (calm (next_in later_is_quiet (More so_far) state ahead)) (
    if_in (access_word (kind_ahead ahead)) (calm (access_tells so_far state ahead)) (
    which_in (is_keyword keyword.USING (kind_ahead ahead)) (λ is. then_calm (leads_here (in_member_using is) (member_using_stops so_far.access state ahead is)) (λ brought. give_in later_is_quiet (More so_far))) (λ none.
    which_in (begins_friend ahead) (λ is. friend_step_stops room name so_far state ahead is) (λ other.
    if_in (comes_later name (behind_words ahead)) (calm (quiet_in later_is_quiet refl))
    (then_calm (leads_here in_member (member_declaration_stops room nested so_far.access state ahead)) (λ tree. give_in later_is_quiet (More (with_member tree so_far)))))))))

members_stop : (room : ℕ) → ClassStops room → (head : Head) (bases : List CxxTree) (state : CxxState) (ahead : Ahead) → Stops (some_members room head.name (behind_bases bases head.access)) state ahead (list_at (suc room) head bases state ahead)
unfolding list_at class_at
members_stop room nested head bases state ahead = repeat_stops (some_members room head.name) (list_step room head.name) give_members (λ so_far s ahead fault is. is) (λ so_far more s t ahead rest is. next_member is) (list_step_stops room nested head.name) (λ so_far. give_in later_is_quiet so_far.trees) (count_ahead ahead) (behind_bases bases head.access) state ahead

-- ---- its head

-- behind its name the reader may stand elsewhere
head_stops : (room : ℕ) (so_far : Specifiers) (state : CxxState) (ahead : Ahead) → InsideBy IsElsewhere (a_class room so_far) state ahead (head_at state ahead)
unfolding head_at
head_stops room so_far state ahead = by (class_name_stops state (behind ahead))
  where
    head : Option Lexeme → Head
    head name = record { is_union = is_keyword keyword.UNION (kind_ahead ahead); access = key_access (kind_ahead ahead); name = name; place = place_or (place_ahead ahead) name }

    by : {r : Answer (Got CxxState (Option Lexeme))} → ToldIn IsElsewhere (ChainedOf whole_part a_class_name) state (behind ahead) r → InsideBy IsElsewhere (a_class room so_far) state ahead (then_read r (λ name. give (head name)))
    by (tells_read one elsewhere stands) = tells_read (record { value = head one.value; state = one.state; rest = one.rest }) elsewhere (ends_later ahead.tokens (behind ahead).tokens one.rest.tokens (behind_stands ahead) stands)
    by (tells_stop why told) = tells_stop why (told_within (a_class room so_far) a_class_name state state ahead (behind ahead) why in_class_name (behind_by_later state state (later_here state)) (behind_stands ahead) told)

-- ---- its bases

-- the reader stands in the scope of a class that is declared where it stood at home
abbrev InHome : CxxState → CxxState → CxxState → Type 0
InHome home state new = InSpace home new

-- it stands elsewhere then
in_space_elsewhere : (home begun : CxxState) → InSpace home begun → IsElsewhere home begun
in_space_elsewhere home begun is = record { grown = is.grown; scopes = is.scopes; best = is.best }

-- what is declared since the class began is kept where the reader stands at home again
home_later : (home begun : CxxState) → InSpace home begun → IsLater home (at_scope home.here.scope begun)
home_later home begun is = returns_later home begun (in_space_elsewhere home begun is)

home_behind : (state home t : CxxState) → IsElsewhere state home → IsLater home t → IsBehind state t
home_behind state home t elsewhere later = elsewhere_is_held.behind state t (elsewhere_later state home t elsewhere later)

-- behind them it stands in the scope of the class again
entered_again : (room : ℕ) (so_far : Specifiers) (of : BaseList) (state home begun : CxxState) (ahead colon : Ahead) → NamesBases state ahead of (at_scope home.here.scope begun) (behind colon) → IsElsewhere state home → InSpace home begun → EndsIn ahead.tokens colon.tokens
    → {r : Answer (Got CxxState (List CxxTree))} → Stops (some_bases of) (at_scope home.here.scope begun) (behind colon) r → InsideBy (InHome home) (a_class room so_far) state ahead (then_read r (λ bases. ask (stand_in begun.here.scope) >>= λ entered. give bases))
entered_again room so_far of state home begun ahead colon names elsewhere is stands (tells_read one later ends) =
    let outside = at_scope home.here.scope begun in
    let inside = begun.here.scope in
    tells_read (record { value = one.value; state = at_scope inside one.state; rest = one.rest })
    (stands_in home one.state inside (later_is_kept.later home outside one.state (home_later home begun is) later) (λ scopes. round_grown home.here.scope outside one.state inside later.grown (is.round scopes)))
    (ends_later ahead.tokens (behind colon).tokens one.rest.tokens (past_stands ahead colon stands) ends)
entered_again room so_far of state home begun ahead colon names elsewhere is stands (tells_stop why told) =
    let outside = at_scope home.here.scope begun in
    tells_stop why (told_within (a_class room so_far) (some_bases of) state outside ahead (behind colon) why (in_bases names) (home_behind state home outside elsewhere (home_later home begun is)) (past_stands ahead colon stands) told)

-- where the class has some
bases_or_none_stop : (room : ℕ) (so_far : Specifiers) (head : Head) (state home : CxxState) (begun : ℕ × CxxState) (ahead colon : Ahead) → Gives head_at state ahead head home colon → class_begins head home ≡ Ok begun → IsElsewhere state home → InSpace home begun.1 → EndsIn ahead.tokens colon.tokens
    → InsideBy (InHome home) (a_class room so_far) state ahead (bases_or_none home.here.scope begun.0 head.access begun.1 colon)
unfolding bases_at
bases_or_none_stop room so_far head state home begun ahead colon gives begins elsewhere is stands =
    which_in (is_punct punct.COLON (kind_ahead colon)) (λ has.
    entered_again room so_far (bases_in begun.0 head.access begun.1.here.scope) state home begun.1 ahead colon (names_bases head colon home begun gives begins has) elsewhere is stands (bases_stop (bases_in begun.0 head.access begun.1.here.scope) (at_scope home.here.scope begun.1) (behind colon)))
    (λ none. tells_read (record { value = []; state = begun.1; rest = colon }) is stands)

-- ---- the whole

-- what stops those of a class, and what is read of them in its scope
data InsideClass (room : ℕ) (so_far : Specifiers) (state : CxxState) (ahead : Ahead) (opened : CxxState) (rest : Ahead) : Answer (Got CxxState (List CxxTree)) → Type 0 where
  read_inside : (one : Got CxxState (List CxxTree)) → IsLater opened one.state → EndsIn rest.tokens one.rest.tokens → InsideClass room so_far state ahead opened rest (Ok one)
  stopped_inside : (why : Stopped) → ChainedOf within_part (a_class room so_far) state ahead why → InsideClass room so_far state ahead opened rest (Err why)

-- where the reading of its members stops
abbrev MembersStop : ℕ → Type 0
MembersStop room = (so_far : Specifiers) (head : Head) (bases : List CxxTree) (state opened : CxxState) (ahead rest : Ahead) → BeginsClass state ahead head bases opened rest → IsBehind state opened → EndsIn ahead.tokens rest.tokens → InsideClass room so_far state ahead opened rest (list_at room head bases opened rest)

inside_none : MembersStop zero
unfolding list_at
inside_none so_far head bases state opened ahead rest begins is stands = stopped_inside _ tt

inside_class : (room : ℕ) → ClassStops room → MembersStop (suc room)
inside_class room nested so_far head bases state opened ahead rest begins is stands = by (members_stop room nested head bases opened rest)
  where
    by : {r : Answer (Got CxxState (List CxxTree))} → Stops (some_members room head.name (behind_bases bases head.access)) opened rest r → InsideClass (suc room) so_far state ahead opened rest r
    by (tells_read one later ends) = read_inside one later ends
    by (tells_stop why told) = stopped_inside why (told_within (a_class (suc room) so_far) (some_members room head.name (behind_bases bases head.access)) state opened ahead rest why (in_class begins) is stands told)

no_anonymous_tells : (head : Head) → Tells IsLater Quietly (no_anonymous_union head)
unfolding no_anonymous_union
no_anonymous_tells head state ahead = if_in (head.is_union && (is_none head.name && is_punct punct.SEMICOLON (kind_ahead ahead))) (quiet_in later_is_quiet refl) (same_in later_is_quiet tt state ahead)

-- behind them the reader stands where it did
abbrev behind_end : Specifiers → Head → ℕ → Ahead → List CxxTree → Reads CxxState Specifiers
behind_end so_far head number from members = no_anonymous_union head >>= λ whole. defaults_kept None None >>= λ left. looked >>= λ to. give (with_class so_far number (class_tree head number (members ++ left) from to))

abbrev behind_members : ℕ → Specifiers → Head → ℕ → Ahead → List CxxTree → Reads CxxState Specifiers
behind_members outside so_far head number from members = ask (end_class number head.place) >>= λ ended. ask (stand_in outside) >>= λ outer. behind_end so_far head number from members

behind_end_tells : (so_far : Specifiers) (head : Head) (number : ℕ) (from : Ahead) (members : List CxxTree) → Tells IsLater Quietly (behind_end so_far head number from members)
behind_end_tells so_far head number from members state after =
    then_in later_is_quiet (no_anonymous_tells head state after) (λ whole state after.
    then_in later_is_quiet (kept_tells None None state after) (λ left state after.
    then_in later_is_quiet (looked_in later_is_quiet state after) (λ to. give_in later_is_quiet (with_class so_far number (class_tree head number (members ++ left) from to)))))

-- where it has ended, and what is told of that at home
class_left : {part : Part} (state home : CxxState) (ahead rest : Ahead) (go : Unit {0} → Reads CxxState Specifiers) → IsElsewhere state home → EndsIn ahead.tokens rest.tokens → Tells IsLater Quietly (go tt) → {r : Answer (Unit {0} × CxxState)} → ToldBy IsLater Quietly home ahead r
    → Inside part state ahead (then_read (answered r rest) (λ ended. ask (stand_in state.here.scope) >>= go))
class_left state home ahead rest go elsewhere stands tells (tells_answer one later) =
    let outer = at_scope state.here.scope one.1 in
    calm_from (returns_later state one.1 (elsewhere_later state home one.1 elsewhere later)) stands (tells outer rest)
class_left {part = part} state home ahead rest go elsewhere stands tells (tells_refusal why quiet) = tells_stop why (quiet_told within_part part state ahead why quiet)

class_ends : (room : ℕ) (so_far : Specifiers) (head : Head) (number : ℕ) (state home opened : CxxState) (ahead rest : Ahead) → IsElsewhere state home → InSpace home opened → EndsIn ahead.tokens rest.tokens → {r : Answer (Got CxxState (List CxxTree))} → InsideClass room so_far state ahead opened rest r
    → Inside (a_class room so_far) state ahead (then_read r (behind_members state.here.scope so_far head number ahead))
class_ends room so_far head number state home opened ahead rest elsewhere is stands (read_inside one later ends) =
    class_left state home ahead one.rest (λ outer. behind_end so_far head number ahead one.value) elsewhere (ends_later ahead.tokens rest.tokens one.rest.tokens stands ends) (behind_end_tells so_far head number ahead one.value) (end_tells home opened one.state ahead number head.place is later)
class_ends room so_far head number state home opened ahead rest elsewhere is stands (stopped_inside why told) = tells_stop why told

-- behind the bases
abbrev behind_bases_of : ℕ → ℕ → Specifiers → Head → ℕ → Ahead → List CxxTree → Reads CxxState Specifiers
behind_bases_of outside room so_far head number from bases = taken >>= λ opened. list_at room head bases >>= behind_members outside so_far head number from

based_stops : (room : ℕ) → MembersStop room → (so_far : Specifiers) (head : Head) (state home : CxxState) (ahead colon : Ahead) (begun : ℕ × CxxState) → Gives head_at state ahead head home colon → class_begins head home ≡ Ok begun → IsElsewhere state home → {r : Answer (Got CxxState (List CxxTree))} → InsideBy (InHome home) (a_class room so_far) state ahead r
    → ((one : Got CxxState (List CxxTree)) → r ≡ Ok one → bases_or_none home.here.scope begun.0 head.access begun.1 colon ≡ Ok one) → Inside (a_class room so_far) state ahead (then_read r (behind_bases_of state.here.scope room so_far head begun.0 ahead))
based_stops room inside so_far head state home ahead colon begun gives begins elsewhere (tells_read one is stands) reads =
    class_ends room so_far head begun.0 state home one.state ahead (behind one.rest) elsewhere is (past_stands ahead one.rest stands)
    (inside so_far head one.value state one.state ahead (behind one.rest) (begins_class colon one.rest home begun one.state gives begins (reads one refl)) (behind_later state home one.state (elsewhere_is_held.behind state home elsewhere) (elsewhere_is_held.behind home one.state (in_space_elsewhere home one.state is))) (past_stands ahead one.rest stands))
based_stops room inside so_far head state home ahead colon begun gives begins elsewhere (tells_stop why told) reads = tells_stop why told

begun_stops : (room : ℕ) → MembersStop room → (so_far : Specifiers) (head : Head) (state home : CxxState) (ahead colon : Ahead) → Gives head_at state ahead head home colon → IsElsewhere state home → EndsIn ahead.tokens colon.tokens → {r : Answer (ℕ × CxxState)} → ToldBy InSpace Quietly home colon r → ((begun : ℕ × CxxState) → r ≡ Ok begun → class_begins head home ≡ Ok begun)
    → Inside (a_class room so_far) state ahead (then_read (answered r colon) (λ number. bases_or_none home.here.scope number head.access >>= behind_bases_of state.here.scope room so_far head number ahead))
begun_stops room inside so_far head state home ahead colon gives elsewhere stands (tells_answer one is) begins =
    based_stops room inside so_far head state home ahead colon one gives (begins one refl) elsewhere (bases_or_none_stop room so_far head state home one ahead colon gives (begins one refl) elsewhere is stands) (λ bases reads. reads)
begun_stops room inside so_far head state home ahead colon gives elsewhere stands (tells_refusal why quiet) begins = tells_stop why (quiet_told within_part (a_class room so_far) state ahead why quiet)

begins_tells : (is_union : Bool) (place : Place) (name : Option Lexeme) (state : CxxState) (ahead : Ahead) → ToldBy InSpace Quietly state ahead (begins_by is_union place name state)
begins_tells is_union place (Some name) state ahead = begin_tells is_union name state ahead
begins_tells is_union place None state ahead = unnamed_tells is_union place state ahead

-- behind its head
abbrev behind_head : ℕ → ℕ → Specifiers → Ahead → Head → Reads CxxState Specifiers
behind_head outside room so_far from head = standing >>= λ home. ask (class_begins head) >>= λ number. bases_or_none home number head.access >>= behind_bases_of outside room so_far head number from

headed_stops : (room : ℕ) → MembersStop room → (so_far : Specifiers) (state : CxxState) (ahead : Ahead) {r : Answer (Got CxxState Head)} → InsideBy IsElsewhere (a_class room so_far) state ahead r → ((one : Got CxxState Head) → r ≡ Ok one → head_at state ahead ≡ Ok one)
    → Inside (a_class room so_far) state ahead (then_read r (behind_head state.here.scope room so_far ahead))
headed_stops room inside so_far state ahead (tells_read one elsewhere stands) reads =
    let head = one.value in
    begun_stops room inside so_far head state one.state ahead one.rest (reads one refl) elsewhere stands (begins_tells head.is_union head.place head.name one.state one.rest) (λ begun is. is)
headed_stops room inside so_far state ahead (tells_stop why told) reads = tells_stop why told

class_stops_by : (room : ℕ) → MembersStop room → ClassStops room
unfolding class_at class_by
class_stops_by room inside so_far state ahead = whole_stops (λ fault is. is) (headed_stops room inside so_far state ahead (head_stops room so_far state ahead) (λ one is. is))

pub class_stops : (room : ℕ) → ClassStops room
class_stops zero = class_stops_by zero inside_none
class_stops (suc room) = class_stops_by (suc room) (inside_class room (class_stops room))
