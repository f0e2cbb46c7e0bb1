-- Where the reading of a declaration stops.
use Rattle.std.proofs.Common.{arith, ◌≡◌, ◌<◌, refl, sym, subst}
use Rattle.std.specs.Prelude.{ℕ, zero, suc, Bool, true, false, List, [], ◌∷◌, ◌++◌, Option, Some, None, Ok, Err}
use Rattle.cxx_model.specs.declared.keyword.TheConstants as keyword
use Rattle.cxx_model.specs.declared.punct.TheConstants as punct
use Rattle.cxx_model.specs.declared.stop.LimitKind.TheVariants.{Nesting}
use Rattle.cxx_model.specs.Stops.{Answer, Stopped, Limited}
use Rattle.cxx_model.specs.Text.Lexemes.{Lexeme}
use Rattle.cxx_model.specs.Types.Trees.{CxxType}
use Rattle.cxx_reading.specs.declared.specifier.Naming.TheVariants as naming
use Rattle.cxx_reading.specs.Declarators.{Declarator, declared_type, Specifiers, is_function_type, own_parameters}
use Rattle.cxx_reading.specs.Declaring.{at_scope, declare_object, define_object, scope_count}
use Rattle.cxx_reading.specs.Reads.{Ahead, Asks, Got, Reads, More, Done, ◌>>=◌, then_read, answered, ask, taken, give, count_ahead, kind_ahead, place_ahead, behind}
use Rattle.cxx_declare.specs.Outside.{stand_in}
use Rattle.cxx_reading.specs.Productions as unit_production
use Rattle.cxx_reading.specs.Spaces.{close_space, open_space, open_unnamed}
use Rattle.cxx_reading.specs.State.{CxxState}
use Rattle.cxx_reading.specs.Tokens.{is_keyword, is_name, is_punct, token_in}
use Rattle.cxx_reading.specs.Trees.{CxxTree}
use Rattle.cxx_reading.specs.Units.{specifiers_tree, declarator_tree, name_in as name_of_declarator, declared_fits, ends_declarator, give_trees, no_declarators, said_by, empty_tree, another_ahead, linkages_passed, linkage_list, inside_step, Said, Listed}
use Rattle.cxx_language.specs.Made.{defined_object, extern_object}
use Rattle.cxx_language.specs.Objects.{begins_initializer}
use Rattle.cxx_language.specs.Spaces.{behind_namespace, give_part, namespace_at, part_tree, space_opened, space_or_alias}
use Rattle.cxx_language.specs.Later.{Declares}
use Rattle.cxx_language.specs.Units.{behind_list, declaration_at, declaration_by, declaration_tree, declarator_step, declarators_at, declarators_of, declared_by, declared_function, function_declared, function_ended, init_declarator_at, linkage_by, member_agrees, linkage_opened, linked_by, linked_one, not_ended, plain_declaration_at, simple_declaration_at}
use Rattle.cxx_language_laws.specs.Stopping.{BeginsBody, Gives, Initializes, IsLinked, IsNoSpace, Leads, OpensSpace, Part, a_body, a_declaration, a_namespace, a_simple_declaration, alias_name, an_initializer, begins_body, by_definition, by_extern, declarator_of, in_alias, in_declaration, in_declarator, in_space, next_declaration, opens_named, opens_unnamed, some_declarations, to_using, to_linked_using, to_linked_namespace, to_namespace, next_declarator, some_declarators, to_body, to_braces, to_declarators, to_initializer, to_linked, to_unlinked}
use Rattle.cxx_language_laws.specs.Told.{EndsIn}
use Rattle.cxx_language_laws.proofs.Begun.{Begun, Brings, HaveBegun, brings, brings_none, declarator_has_begun, own_has_begun}
use Rattle.cxx_language_laws.proofs.BodiesStop.{LeadsToBody, function_body_stops}
use Rattle.cxx_language_laws.proofs.LaterBodies.{all_specifiers_stop}
use Rattle.cxx_language_laws.proofs.Declared.{alone_tells, bare_synonym_tells, ended_by_tells, function_declared_tells, give_trees_tells, linkages_tell, linked_tree_tells, no_declaration_tells, nothing_tells, one_tree_tells}
use Rattle.cxx_language_laws.proofs.DeclaratorsStop.{agrees_stops, defined_part_stops, extern_part_stops, fits_stops, member_stops, which_reads}
use Rattle.cxx_language_laws.proofs.Later.{IsLater, declared_is_there, defined_is_there, define_tells, later_is_quiet, object_tells}
use Rattle.cxx_language_laws.proofs.Opened.{InSpace, open_space_tells, open_unnamed_tells, space_closed}
use Rattle.cxx_language_laws.proofs.Reached.{IsElsewhere, count_more, returns_later}
use Rattle.cxx_language_laws.proofs.Lists.{left}
use Rattle.cxx_language_laws.proofs.Spaces.{alias_or_not_stops, using_stops}
use Rattle.cxx_language_laws.proofs.Stopping.{ChainedOf, Inside, InsideBy, IsHeld, Stops, asked_held, calm, calm_from, calm_held, elsewhere_is_held, leads_elsewhere, leads_here, leads_in, quiet_held, quiet_told, repeat_stops, then_calm, then_held, told_within, which_in, whole_calm, whole_stops, within_part}
use Rattle.cxx_language_laws.proofs.Tells.{Quietly, Tells, ToldBy, tells_answer, tells_read, tells_refusal, tells_stop, behind_stands, twice_behind, ends_later, then_from, then_in, if_in, same_in, next_in, give_in, looked_in, past_stands, quiet_in}

-- ---- bodies (8.4)

behind_list_stops : {kept : CxxState → CxxState → Type 0} → IsHeld kept → {part : Part} {state : CxxState} {ahead : Ahead} (room : ℕ) (name : Lexeme) (of : CxxType) (number list : ℕ) (between : CxxState) (rest : Ahead) → list < scope_count between.graph → kept state between → EndsIn ahead.tokens rest.tokens
    → (is_punct punct.LEFT_BRACE (kind_ahead rest) ≡ true → LeadsToBody part state ahead room name of number list between rest) → InsideBy kept part state ahead (behind_list room name of number (Some list) between rest)
behind_list_stops held room name of number list between rest there later stands leads =
    which_in (is_punct punct.LEFT_BRACE (kind_ahead rest)) (λ brace. then_held held (function_body_stops held room name of number list between rest there later stands (leads brace)) one_tree_tells) (λ none.
    if_in (is_keyword keyword.TRY (kind_ahead rest)) (quiet_held refl) (quiet_held refl))

not_ended_stops : {kept : CxxState → CxxState → Type 0} → IsHeld kept → {part : Part} {state : CxxState} {ahead : Ahead} (room : ℕ) (is_first : Bool) (name : Lexeme) (of : CxxType) (number : ℕ) (own : Option ℕ) (between : CxxState) (rest : Ahead) → ((list : ℕ) → own ≡ Some list → list < scope_count between.graph) → kept state between → EndsIn ahead.tokens rest.tokens
    → ((list : ℕ) → is_first ≡ true → own ≡ Some list → is_punct punct.LEFT_BRACE (kind_ahead rest) ≡ true → LeadsToBody part state ahead room name of number list between rest) → InsideBy kept part state ahead (not_ended room is_first name of number own between rest)
not_ended_stops held room true name of number None between rest there later stands leads = quiet_held refl
not_ended_stops held room true name of number (Some list) between rest there later stands leads = behind_list_stops held room name of number list between rest (there list refl) later stands (leads list refl refl)
not_ended_stops held room false name of number own between rest there later stands leads = quiet_held refl

function_ended_stops : {kept : CxxState → CxxState → Type 0} → IsHeld kept → {part : Part} {state : CxxState} {ahead : Ahead} (room : ℕ) (is_first : Bool) (declarator : Declarator) (of : CxxType) (number : ℕ) (between : CxxState) (rest : Ahead) → ((list : ℕ) → own_parameters declarator.layers ≡ Some list → list < scope_count between.graph) → kept state between → EndsIn ahead.tokens rest.tokens
    → ((list : ℕ) → is_first ≡ true → own_parameters declarator.layers ≡ Some list → is_punct punct.LEFT_BRACE (kind_ahead rest) ≡ true → LeadsToBody part state ahead room (name_of_declarator declarator) of number list between rest)
    → InsideBy kept part state ahead (function_ended room is_first declarator of number between rest)
unfolding function_ended
function_ended_stops held room is_first declarator of number between rest there later stands leads =
    which_in (ends_declarator (kind_ahead rest)) (λ ends. calm_held held later stands (same_in later_is_quiet [] between rest)) (λ none. not_ended_stops held room is_first (name_of_declarator declarator) of number (own_parameters declarator.layers) between rest there later stands leads)

-- with room for one more bracket
leads_to_body : (room less : ℕ) (said : Said) (so_far : Listed) (declarator : Declarator) (state between after : CxxState) (ahead rest : Ahead) → room ≡ suc less → so_far.is_first ≡ true → Gives (declarator_of room naming.Qualified) state ahead declarator between rest
    → said.is_typedef ≡ false → is_function_type (declared_type declarator.layers said.of) ≡ true → BeginsBody said declarator between after → is_punct punct.LEFT_BRACE (kind_ahead rest) ≡ true → Leads (some_declarators room said so_far) state ahead (a_body less) after (behind rest)
leads_to_body room less said so_far declarator state between after ahead rest is_more is_first is no_synonym function begins brace =
    subst (λ (n : ℕ). Leads (some_declarators n said so_far) state ahead (a_body less) after (behind rest)) (sym is_more)
    (to_body is_first (subst (λ (n : ℕ). Gives (declarator_of n naming.Qualified) state ahead declarator between rest) is_more is) no_synonym function begins brace)

declared_function_stops : {kept : CxxState → CxxState → Type 0} → IsHeld kept → (room : ℕ) (said : Said) (so_far : Listed) (declarator : Declarator) (from : Ahead) (state between : CxxState) (ahead rest : Ahead) → Gives (declarator_of room naming.Qualified) state ahead declarator between rest → HaveBegun between declarator.layers
    → said.is_typedef ≡ false → is_function_type (declared_type declarator.layers said.of) ≡ true → kept state between → EndsIn ahead.tokens rest.tokens
    → InsideBy kept (some_declarators room said so_far) state ahead (declared_function room said so_far.is_first declarator from between rest)
unfolding declared_function
declared_function_stops held room said so_far declarator from state between ahead rest is begun no_synonym function later stands =
    let name = name_of_declarator declarator in
    let of = declared_type declarator.layers said.of in
    asked_held held _ (function_declared said declarator) (function_declared_tells said declarator between rest) later (λ answer is_declared keeps later.
    let more = count_more between answer.1 keeps.grown in
    then_held held (function_ended_stops held room so_far.is_first declarator of answer.0 answer.1 rest (λ list is_own. let there = own_has_begun between declarator.layers list begun is_own in omega (arith, there, more)) later stands
    (λ list is_first is_own brace less defined body is_more is_defined begins. leads_to_body room less said so_far declarator state between body.1 ahead rest is_more is_first is no_synonym function (begins_body list answer defined body is_own is_declared is_defined begins) brace))
    (λ body. give_in later_is_quiet _))

-- ---- one declarator

-- from an initializer of this declarator
abbrev LeadsOn : ℕ → Said → Listed → Declarator → CxxState → Ahead → CxxState → Ahead → Type 0
LeadsOn room said so_far declarator state ahead between rest = (number : ℕ) (after : CxxState) → Initializes said declarator between number after → begins_initializer rest ≡ true → Leads (some_declarators room said so_far) state ahead (an_initializer room (name_of_declarator declarator) (declared_type declarator.layers said.of) number) after rest

extern_object_stops : {kept : CxxState → CxxState → Type 0} → IsHeld kept → (room : ℕ) (said : Said) (so_far : Listed) (declarator : Declarator) (from : Ahead) (state between : CxxState) (ahead rest : Ahead) → said.is_extern ≡ true → LeadsOn room said so_far declarator state ahead between rest → kept state between → EndsIn ahead.tokens rest.tokens
    → InsideBy kept (some_declarators room said so_far) state ahead (extern_object room said declarator from between rest)
unfolding extern_object
extern_object_stops held room said so_far declarator from state between ahead rest is_extern leads later stands =
    let name = name_of_declarator declarator in
    let of = declared_type declarator.layers said.of in
    asked_held held _ (declare_object name of) (object_tells name of between rest) later (λ answer is_declared keeps later.
    then_held held (extern_part_stops held answer.1 rest room name of answer.0 (declared_is_there name of between answer is_declared) (λ begins defined is_defined. leads answer.0 defined.1 (by_extern answer defined is_extern is_declared is_defined) begins) later stands) (λ parts state ahead.
    then_in later_is_quiet (looked_in later_is_quiet state ahead) (λ to. give_in later_is_quiet (declarator_tree true name of answer.0 (declarator.parts ++ parts) from to))))

defined_object_stops : {kept : CxxState → CxxState → Type 0} → IsHeld kept → (room : ℕ) (said : Said) (so_far : Listed) (declarator : Declarator) (from : Ahead) (state between : CxxState) (ahead rest : Ahead) → said.is_extern ≡ false → LeadsOn room said so_far declarator state ahead between rest → kept state between → EndsIn ahead.tokens rest.tokens
    → InsideBy kept (some_declarators room said so_far) state ahead (defined_object room said declarator from between rest)
unfolding defined_object
defined_object_stops held room said so_far declarator from state between ahead rest no_extern leads later stands =
    let name = name_of_declarator declarator in
    let of = declared_type declarator.layers said.of in
    asked_held held _ (define_object name of) (define_tells name of between rest) later (λ answer is_defined keeps later.
    then_held held (defined_part_stops held answer.1 rest room name of answer.0 (defined_is_there name of between answer is_defined) (leads answer.0 answer.1 (by_definition answer no_extern is_defined)) later stands) (λ parts state ahead.
    then_in later_is_quiet (looked_in later_is_quiet state ahead) (λ to. give_in later_is_quiet (declarator_tree false name of answer.0 (declarator.parts ++ parts) from to))))

declared_by_stops : {kept : CxxState → CxxState → Type 0} → IsHeld kept → (room : ℕ) (said : Said) (so_far : Listed) (from : Ahead) (declarator : Declarator) (state between : CxxState) (ahead rest : Ahead) → Gives (declarator_of room naming.Qualified) state ahead declarator between rest → HaveBegun between declarator.layers → kept state between → EndsIn ahead.tokens rest.tokens
    → InsideBy kept (some_declarators room said so_far) state ahead (declared_by room said so_far.is_first from declarator between rest)
declared_by_stops held room said so_far from declarator state between ahead rest is begun later stands =
    which_reads said.is_typedef _ _ between rest (λ synonym. calm_held held later stands (then_in later_is_quiet (bare_synonym_tells said declarator from between rest) alone_tells)) (λ no_synonym.
    which_reads (is_function_type (declared_type declarator.layers said.of)) _ _ between rest (λ function. declared_function_stops held room said so_far declarator from state between ahead rest is begun no_synonym function later stands) (λ no_function.
    let leads : LeadsOn room said so_far declarator state ahead between rest = λ number after initializes begins. to_initializer is no_synonym no_function initializes begins in
    which_reads said.is_extern _ _ between rest (λ is_extern. then_held held (extern_object_stops held room said so_far declarator from state between ahead rest is_extern leads later stands) alone_tells)
    (λ no_extern. then_held held (defined_object_stops held room said so_far declarator from state between ahead rest no_extern leads later stands) alone_tells)))

is_begun : {r : Answer (Got CxxState Declarator)} {state : CxxState} (one : Got CxxState Declarator) → Brings Begun state r → r ≡ Ok one → HaveBegun one.state one.value.layers
is_begun one (brings other later are) e = subst (λ (g : Got CxxState Declarator). HaveBegun g.state g.value.layers) (by e) are
  where
    same : Answer (Got CxxState Declarator) → Answer (Got CxxState Declarator) → Type 0
    same x y = x ≡ y

    by : same (Ok other) (Ok one) → other ≡ one
    by e = cc
is_begun one (brings_none why) e = absurd cc

-- behind it the reader stands where it stood before
abbrev back : CxxState → Declares → Reads CxxState Declares
back state one = ask (stand_in state.here.scope) >>= λ left. give one

returns_stops : {part : Part} (state : CxxState) (ahead : Ahead) {r : Answer (Got CxxState Declares)} → InsideBy IsElsewhere part state ahead r → Inside part state ahead (then_read r (back state))
returns_stops state ahead (tells_read one elsewhere stands) = tells_read (record { value = one.value; state = at_scope state.here.scope one.state; rest = one.rest }) (returns_later state one.state elsewhere) stands
returns_stops state ahead (tells_stop why told) = tells_stop why told

-- what stops it, up to there
member_declared_stops : (room : ℕ) (said : Said) (so_far : Listed) (state : CxxState) (ahead : Ahead)
    → InsideBy IsElsewhere (some_declarators room said so_far) state ahead (then_read (declarator_of room naming.Qualified state ahead) (λ declarator. declared_fits said declarator >>= λ fits. member_agrees said declarator >>= λ agrees. declared_by room said so_far.is_first ahead declarator))
member_declared_stops room said so_far state ahead =
    then_from (λ declarator. declared_fits said declarator >>= λ fits. member_agrees said declarator >>= λ agrees. declared_by room said so_far.is_first ahead declarator) (leads_elsewhere in_declarator (member_stops room state ahead)) (λ one is elsewhere stands.
    fits_stops said one.value (λ fits. member_agrees said one.value >>= λ agrees. declared_by room said so_far.is_first ahead one.value) one.state one.rest (
    agrees_stops said one.value (λ agrees. declared_by room said so_far.is_first ahead one.value) one.state one.rest
    (declared_by_stops elsewhere_is_held room said so_far ahead one.value state one.state ahead one.rest is (is_begun one (declarator_has_begun room naming.Qualified state ahead) is) elsewhere stands)))

-- readers one behind another
behind_both : {A B C D E : Type 0} (r : Answer (Got CxxState A)) (fits : A → Reads CxxState B) (agrees : A → Reads CxxState C) (one : A → Reads CxxState D) (last : D → Reads CxxState E)
    → then_read r (λ x. fits x >>= λ y. agrees x >>= λ z. one x >>= last) ≡ then_read (then_read r (λ x. fits x >>= λ y. agrees x >>= λ z. one x)) last
behind_both (Err why) fits agrees one last = refl
behind_both {B = B} {C = C} (Ok got) fits agrees one last = by_fits (fits got.value got.state got.rest)
  where
    by_agrees : (r : Answer (Got CxxState C)) → then_read r (λ z. one got.value >>= last) ≡ then_read (then_read r (λ z. one got.value)) last
    by_agrees (Err why) = refl
    by_agrees (Ok two) = refl

    by_fits : (r : Answer (Got CxxState B)) → then_read r (λ y. agrees got.value >>= λ z. one got.value >>= last) ≡ then_read (then_read r (λ y. agrees got.value >>= λ z. one got.value)) last
    by_fits (Err why) = refl
    by_fits (Ok two) = by_agrees (agrees got.value two.state two.rest)

init_declarator_stops : (room : ℕ) (said : Said) (so_far : Listed) (state : CxxState) (ahead : Ahead) → Inside (some_declarators room said so_far) state ahead (init_declarator_at room said so_far.is_first state ahead)
unfolding init_declarator_at
init_declarator_stops room said so_far state ahead =
    subst (Inside (some_declarators room said so_far) state ahead) (sym (behind_both (declarator_of room naming.Qualified state ahead) (declared_fits said) (member_agrees said) (declared_by room said so_far.is_first ahead) (back state)))
    (returns_stops state ahead (member_declared_stops room said so_far state ahead))

declarator_step_stops : (room : ℕ) (said : Said) (so_far : Listed) (state : CxxState) (ahead : Ahead) → Inside (some_declarators room said so_far) state ahead (declarator_step room said so_far state ahead)
unfolding declarator_step
declarator_step_stops room said so_far state ahead = then_calm (init_declarator_stops room said so_far state ahead) (ended_by_tells so_far)

declarators_stop : (room : ℕ) (said : Said) (state : CxxState) (ahead : Ahead) → Stops (some_declarators room said no_declarators) state ahead (declarators_at room said state ahead)
unfolding declarators_at
declarators_stop room said state ahead = repeat_stops (some_declarators room said) (declarator_step room said) give_trees (λ so_far s ahead fault is. is) (λ so_far more s t ahead rest is. next_declarator is) (declarator_step_stops room said) give_trees_tells (count_ahead ahead) no_declarators state ahead

-- ---- one declaration

declarators_of_stop : (room : ℕ) (as_extern : Bool) (specifiers : Specifiers) (state : CxxState) (ahead : Ahead) → Stops (some_declarators room (said_by as_extern specifiers) no_declarators) state ahead (declarators_of room as_extern specifiers state ahead)
unfolding declarators_of
declarators_of_stop room as_extern specifiers state ahead = if_in (is_punct punct.SEMICOLON (kind_ahead ahead)) (whole_calm (nothing_tells specifiers state ahead)) (declarators_stop room (said_by as_extern specifiers) state ahead)

simple_stops : (room : ℕ) (as_extern : Bool) (state : CxxState) (ahead : Ahead) → Stops (a_simple_declaration room as_extern) state ahead (simple_declaration_at room as_extern state ahead)
unfolding simple_declaration_at
simple_stops room as_extern state ahead =
    whole_stops (λ fault is. is) (then_from _ (all_specifiers_stop room as_extern state ahead) (λ one is later stands.
    then_calm (leads_in (to_declarators is) later stands (declarators_of_stop room as_extern one.value one.state one.rest)) (λ declarators state rest.
    then_in later_is_quiet (looked_in later_is_quiet state rest) (λ to. give_in later_is_quiet (declaration_tree (specifiers_tree one.value ahead one.rest) declarators ahead to)))))

plain_stops : (room : ℕ) (as_extern : Bool) (state : CxxState) (ahead : Ahead) → Stops (a_simple_declaration room as_extern) state ahead (plain_declaration_at room as_extern state ahead)
unfolding plain_declaration_at
plain_stops room as_extern state ahead = if_in (is_punct punct.SEMICOLON (kind_ahead ahead)) (whole_calm (next_in later_is_quiet (empty_tree ahead) state ahead)) (if_in (another_ahead (kind_ahead ahead)) (whole_calm (no_declaration_tells state ahead)) (simple_stops room as_extern state ahead))

-- ---- between braces

-- what stands between the braces of a namespace or a linkage, with room for so many more
data OpenedStops : ℕ → CxxState → Ahead → Answer (Got CxxState (List CxxTree)) → Type 0 where
  no_room : (state : CxxState) (ahead : Ahead) → OpenedStops zero state ahead (Err (Limited Nesting))
  with_room : (room : ℕ) (state : CxxState) (ahead : Ahead) (r : Answer (Got CxxState (List CxxTree))) → Stops (some_declarations room []) state ahead r → OpenedStops (suc room) state ahead r

abbrev EachOpened : ℕ → Type 0
EachOpened room = (state : CxxState) (ahead : Ahead) → OpenedStops room state ahead (linkage_opened room state ahead)

-- ---- namespaces (7.3.1)

-- what stops those in a namespace, and what is read of them in its scope
data InsideSpace (room : ℕ) (state : CxxState) (ahead : Ahead) (opened : CxxState) (rest : Ahead) : Answer (Got CxxState (List CxxTree)) → Type 0 where
  read_inside : (one : Got CxxState (List CxxTree)) → IsLater opened one.state → EndsIn rest.tokens one.rest.tokens → InsideSpace room state ahead opened rest (Ok one)
  stopped_inside : (why : Stopped) → ChainedOf within_part (a_namespace room) state ahead why → InsideSpace room state ahead opened rest (Err why)

inside_space : (room : ℕ) (state opened : CxxState) (ahead rest : Ahead) → OpensSpace state ahead opened rest → InSpace state opened → EndsIn ahead.tokens rest.tokens → {r : Answer (Got CxxState (List CxxTree))} → OpenedStops room opened rest r → InsideSpace room state ahead opened rest r
inside_space zero state opened ahead rest opens is stands (no_room _ _) = stopped_inside _ tt
inside_space (suc room) state opened ahead rest opens is stands (with_room _ _ _ _ (tells_read one later ends)) = read_inside one later ends
inside_space (suc room) state opened ahead rest opens is stands (with_room _ _ _ _ (tells_stop why told)) = stopped_inside why (told_within (a_namespace (suc room)) (some_declarations room []) state opened ahead rest why (in_space opens) (record { grown = is.grown; scopes = is.scopes }) stands told)

-- behind them the reader stands where it did
abbrev behind_space : Ahead → List CxxTree → Reads CxxState CxxTree
behind_space from trees = ask close_space >>= λ closed. give_part unit_production.namespace_definition from trees

give_part_calm : (number : ℕ) (from : Ahead) (inside : List CxxTree) → Tells IsLater Quietly (give_part number from inside)
give_part_calm number from inside state ahead = then_in later_is_quiet (looked_in later_is_quiet state ahead) (λ to. give_in later_is_quiet (part_tree number inside from to))

space_ends : (room : ℕ) (state opened : CxxState) (ahead rest from : Ahead) → InSpace state opened → EndsIn ahead.tokens rest.tokens → {r : Answer (Got CxxState (List CxxTree))} → InsideSpace room state ahead opened rest r → Inside (a_namespace room) state ahead (then_read r (behind_space from))
unfolding close_space
space_ends room state opened ahead rest from is stands (read_inside one later ends) = calm_from (space_closed state opened one.state is later) (ends_later ahead.tokens rest.tokens one.rest.tokens stands ends) (give_part_calm unit_production.namespace_definition from one.value (left one.state) one.rest)
space_ends room state opened ahead rest from is stands (stopped_inside why told) = tells_stop why told

begun_space_stops : (room : ℕ) → EachOpened room → (state : CxxState) (ahead brace from : Ahead) → EndsIn ahead.tokens brace.tokens → {r : Answer (Unit {0} × CxxState)} → ToldBy InSpace Quietly state brace r → ((opened : Unit {0} × CxxState) → r ≡ Ok opened → OpensSpace state ahead opened.1 (behind brace))
    → Inside (a_namespace room) state ahead (then_read (answered r brace) (λ begun. taken >>= λ opened. linkage_opened room >>= behind_space from))
begun_space_stops room each state ahead brace from stands (tells_answer one is) opens = space_ends room state one.1 ahead (behind brace) from is (past_stands ahead brace stands) (inside_space room state one.1 ahead (behind brace) (opens one refl) is (past_stands ahead brace stands) (each one.1 (behind brace)))
begun_space_stops room each state ahead brace from stands (tells_refusal why quiet) opens = tells_stop why (quiet_told within_part (a_namespace room) state ahead why quiet)

space_opened_stops : (room : ℕ) → EachOpened room → (begin : Asks CxxState (Unit {0})) (state : CxxState) (ahead brace from : Ahead) → EndsIn ahead.tokens brace.tokens → ToldBy InSpace Quietly state brace (begin state) → ((opened : Unit {0} × CxxState) → begin state ≡ Ok opened → OpensSpace state ahead opened.1 (behind brace))
    → Inside (a_namespace room) state ahead (space_opened begin (linkage_opened room) from state brace)
unfolding space_opened
space_opened_stops room each begin state ahead brace from stands tells opens = begun_space_stops room each state ahead brace from stands tells opens

named_space_stops : (room : ℕ) → EachOpened room → (state : CxxState) (ahead : Ahead) → is_punct punct.LEFT_BRACE (kind_ahead (behind ahead)) ≡ false → is_name (kind_ahead (behind ahead)) ≡ true
    → Inside (a_namespace room) state ahead (space_or_alias (linkage_opened room) ahead (token_in (behind ahead).tokens) state (behind (behind ahead)))
named_space_stops room each state ahead unnamed named =
    which_in (is_punct punct.LEFT_BRACE (kind_ahead (behind (behind ahead)))) (λ brace. space_opened_stops room each (open_space (token_in (behind ahead).tokens)) state ahead (behind (behind ahead)) ahead (twice_behind ahead) (open_space_tells (token_in (behind ahead).tokens) state (behind (behind ahead))) (λ opened is. opens_named opened unnamed named brace is))
    (λ none. alias_or_not_stops state ahead (behind ahead) ahead (alias_name ahead) (behind_stands ahead) (λ equals. in_alias (record { named = named; equals = equals })))

namespace_stops : (room : ℕ) → EachOpened room → (state : CxxState) (ahead : Ahead) → Stops (a_namespace room) state ahead (namespace_at (linkage_opened room) state ahead)
unfolding namespace_at behind_namespace
namespace_stops room each state ahead =
    whole_stops (λ fault is. is) (
    which_in (is_punct punct.LEFT_BRACE (kind_ahead (behind ahead))) (λ brace. space_opened_stops room each (open_unnamed (place_ahead ahead)) state ahead (behind ahead) ahead (behind_stands ahead) (open_unnamed_tells (place_ahead ahead) state (behind ahead)) (λ opened is. opens_unnamed opened brace is)) (λ no_brace.
    which_in (is_name (kind_ahead (behind ahead))) (λ named. named_space_stops room each state ahead no_brace named) (λ none. calm (quiet_in later_is_quiet refl))))

-- ---- linkage (7.5)

braces_stop : (room : ℕ) (state after : CxxState) (ahead rest : Ahead) → IsNoSpace ahead → Gives linkages_passed state ahead true after rest → is_punct punct.LEFT_BRACE (kind_ahead rest) ≡ true → IsLater state after → EndsIn ahead.tokens rest.tokens → {r : Answer (Got CxxState (List CxxTree))} → OpenedStops room after (behind rest) r → Inside (a_declaration room) state ahead r
braces_stop zero state after ahead rest no_space is brace later stands (no_room _ _) = calm (quiet_in later_is_quiet refl)
braces_stop (suc room) state after ahead rest no_space is brace later stands (with_room _ _ _ _ stops) = leads_in (to_braces no_space is brace) later (past_stands ahead rest stands) stops

linked_one_stops : (room : ℕ) → EachOpened room → (state after : CxxState) (ahead rest : Ahead) → IsLinked state ahead after rest → IsLater state after → EndsIn ahead.tokens rest.tokens → Inside (a_declaration room) state ahead (linked_one room (linkage_opened room) after rest)
unfolding linked_one
linked_one_stops room each state after ahead rest is later stands =
    which_in (is_keyword keyword.NAMESPACE (kind_ahead rest)) (λ word. leads_in (to_linked_namespace is word) later stands (namespace_stops room each after rest)) (λ no_namespace.
    which_in (is_keyword keyword.USING (kind_ahead rest)) (λ using. leads_in (to_linked_using is (record { no_namespace = no_namespace; is_using = using })) later stands (using_stops after rest))
    (λ no_using. leads_in (to_linked is (record { no_namespace = no_namespace; no_using = no_using })) later stands (plain_stops room true after rest)))

linked_by_stops : (room : ℕ) → EachOpened room → (state after : CxxState) (ahead rest : Ahead) → IsNoSpace ahead → Gives linkages_passed state ahead true after rest → IsLater state after → EndsIn ahead.tokens rest.tokens
    → Inside (a_declaration room) state ahead (linked_by room (linkage_opened room) after rest)
unfolding linkage_list
linked_by_stops room each state after ahead rest no_space is later stands =
    which_in (is_punct punct.LEFT_BRACE (kind_ahead rest)) (λ brace. braces_stop room state after ahead rest no_space is brace later stands (each after (behind rest)))
    (λ no_brace. then_calm (linked_one_stops room each state after ahead rest (record { before = no_space; passed = is; no_brace = no_brace }) later stands) one_tree_tells)

linkage_by_stops : (room : ℕ) → EachOpened room → (any : Bool) (state after : CxxState) (ahead rest : Ahead) → IsNoSpace ahead → Gives linkages_passed state ahead any after rest → IsLater state after → EndsIn ahead.tokens rest.tokens
    → Inside (a_declaration room) state ahead (linkage_by room (linkage_opened room) ahead any after rest)
linkage_by_stops room each true state after ahead rest no_space is later stands = then_calm (linked_by_stops room each state after ahead rest no_space is later stands) (linked_tree_tells ahead)
linkage_by_stops room each false state after ahead rest no_space is later stands = leads_in (to_unlinked no_space is) later stands (plain_stops room false after rest)

a_declaration_stops : (room : ℕ) → EachOpened room → (state : CxxState) (ahead : Ahead) → Stops (a_declaration room) state ahead (declaration_at room state ahead)
unfolding declaration_at declaration_by
a_declaration_stops room each state ahead =
    whole_stops (λ fault is. is) (
    which_in (is_keyword keyword.NAMESPACE (kind_ahead ahead)) (λ word. leads_here (to_namespace word) (namespace_stops room each state ahead)) (λ no_namespace.
    which_in (is_keyword keyword.USING (kind_ahead ahead)) (λ using. leads_here (to_using (record { no_namespace = no_namespace; is_using = using })) (using_stops state ahead)) (λ no_using.
    let no_space : IsNoSpace ahead = record { no_namespace = no_namespace; no_using = no_using } in
    then_from (linkage_by room (linkage_opened room) ahead) (calm (linkages_tell state ahead)) (λ one is later stands. linkage_by_stops room each one.value state one.state ahead one.rest no_space is later stands))))

inside_step_stops : (room : ℕ) → EachOpened room → (so_far : List CxxTree) (state : CxxState) (ahead : Ahead) → Inside (some_declarations room so_far) state ahead (inside_step (declaration_at room) so_far state ahead)
unfolding inside_step
inside_step_stops room each so_far state ahead =
    if_in (is_punct punct.RIGHT_BRACE (kind_ahead ahead)) (calm (next_in later_is_quiet (Done so_far) state ahead))
    (then_calm (leads_here in_declaration (a_declaration_stops room each state ahead)) (λ tree. give_in later_is_quiet (More (so_far ++ tree ∷ []))))

each_opened : (room : ℕ) → EachOpened room
unfolding linkage_opened declaration_at
each_opened zero state ahead = no_room state ahead
each_opened (suc room) state ahead =
    with_room room state ahead _ (repeat_stops (some_declarations room) (inside_step (declaration_at room)) give (λ so_far s ahead fault is. is) (λ so_far more s t ahead rest is. next_declaration is) (inside_step_stops room (each_opened room)) (λ so_far. give_in later_is_quiet so_far) (count_ahead ahead) [] state ahead)

-- what stops a declaration is true where its reading stops
pub declaration_stops : (room : ℕ) (state : CxxState) (ahead : Ahead) → Stops (a_declaration room) state ahead (declaration_at room state ahead)
declaration_stops room state ahead = a_declaration_stops room (each_opened room) state ahead
