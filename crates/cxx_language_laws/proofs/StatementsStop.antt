-- Where the reading of statements stops.
use Rattle.std.proofs.Common.{◌≡◌, refl}
use Rattle.std.specs.Prelude.{ℕ, zero, suc, Bool, true, false, ◌||◌, if◌then◌else◌, List, [], ◌∷◌, ◌++◌, Option, Some, None, Ok, codes}
use Rattle.cxx_model.specs.declared.keyword.TheConstants as keyword
use Rattle.cxx_model.specs.declared.punct.TheConstants as punct
use Rattle.cxx_model.specs.declared.fault.FaultText.TheVariants as says
use Rattle.cxx_model.specs.declared.stop.LimitKind.TheVariants.{Nesting}
use Rattle.cxx_model.specs.Stops.{Answer, Stopped, Limited, fault}
use Rattle.cxx_model.specs.Text.Lexemes.{Lexeme}
use Rattle.cxx_model.specs.Types.Trees.{CxxType}
use Rattle.cxx_reading.specs.declared.specifier.Naming.TheVariants as naming
use Rattle.cxx_reading.specs.declared.specifier.SpecifierPlace.TheVariants as where_
use Rattle.cxx_reading.specs.Declarators.{Declarator, declared_type, Specifiers, is_function_type}
use Rattle.cxx_reading.specs.Declaring.{define_object, enter_block, leave_block}
use Rattle.cxx_reading.specs.Initializers.{operand_of}
use Rattle.cxx_reading.specs.Reads.{Ahead, Got, Reads, More, Done, ◌>>=◌, beside, got, looked, then_read, answered, tokens, give, place_ahead, count_ahead, kind_ahead, behind}
use Rattle.cxx_reading.specs.State.{CxxState}
use Rattle.cxx_reading.specs.Tokens.{is_keyword, is_name, is_punct, punct_taken, refused}
use Rattle.cxx_reading.specs.Trees.{CxxTree}
use Rattle.cxx_reading.specs.Units.{Said, Listed, specifiers_tree, declarator_tree, name_in as name_of_declarator, declared_fits, give_trees, no_declarators, said_by, simple_tree}
use Rattle.cxx_statements.specs.declared.parts.Head.{Head}
use Rattle.cxx_statements.specs.declared.parts.Head.TheVariants as head
use Rattle.cxx_statements.specs.declared.parts.Purpose.TheVariants as purpose
use Rattle.cxx_statements.specs.Productions as production
use Rattle.cxx_statements.specs.Statements.{CxxTarget, to_bool, to_promoted, to_type, to_result, Switch, Around, nothing_around, in_a_loop, in_a_switch, behind_loop, statement_tree, word_tree, no_part, keyword_taken, condition_ended, condition_at as bracket_condition_at, last_condition_at, expression_statement, declaration_statement, plain_by, plain_statement, begins_statement, begins_no_object, first_part, some_condition, second_part, some_step, third_part, loop_parts_at, block_in, begun, sub_in, else_part, other_part, if_ended, if_in as if_statement, switch_in, loop_ended, while_in, do_in, for_in, some_answer, answer, return_in, with_label, case_of, label_in, label_of, label_at, is_label, label_step, labels_in, plain_in, flat_in, keyword_in, unlabelled_in, statement_in, sub_statement_at, statement_step, never_ended, statements_in, statements_at, within, body_at}
use Rattle.cxx_language.specs.Spaces.{behind_word, local_alias_at}
use Rattle.cxx_language.specs.Blocks.{locally_declared, local_declarator_at, local_step, local_declarators_at, local_declarators_of, local_declaration_at, simple_local_at, tested_object, tested_by, tested_declarator_at, condition_tree, declared_condition_at}
use Rattle.cxx_language.specs.Made.{defined_object}
use Rattle.cxx_language.specs.Statements.{condition_at, condition_by, expression_for, parts_at}
use Rattle.cxx_language_laws.specs.Stopping.{BeginsFor, Enters, Gives, HasCondition, IsNoSpace, IsOpened, Leads, Part, a_body, a_condition_initializer, a_declared_condition, a_local_declaration, a_plain_statement, a_statement, an_expression, an_inner_statement, an_unlabelled_statement, alias_name, in_local_alias, to_local_using, beginning_of, behind_do, behind_else, behind_for, behind_if, behind_labels, behind_switch, behind_while, body_of, condition_initializer_of, declarator_of, in_body, in_bracket, in_condition, in_condition_specifiers, in_label, in_labels, in_local_declarator, in_local_specifiers, in_statement, inner_statement_of, is_conditional, is_declaration_of, next_label, next_local_declarator, next_statement, some_labels, some_local_declarators, some_statements, specifiers_of, statement_of, statement_step_of, to_answer, to_block, to_condition, to_condition_declarator, to_condition_initializer, to_declared_condition, to_expression, to_first_part, to_inner_block, to_last_condition, to_local_declaration, to_local_declarators, to_local_initializer, to_plain_statement, to_second_part, to_statement, to_third_part, unlabelled_of}
use Rattle.cxx_language_laws.specs.Told.{EndsIn}
use Rattle.cxx_language_laws.proofs.Asked.{constant_tells, phrases_tell}
use Rattle.cxx_language_laws.proofs.Both.{both_tell}
use Rattle.cxx_language_laws.proofs.Declared.{bare_synonym_tells, declarator_ended_tells, give_trees_tells, nothing_tells}
use Rattle.cxx_language_laws.proofs.DeclaratorsStop.{declarator_stops, defined_part_stops, fits_stops, specifiers_stop, which_reads}
use Rattle.cxx_language_laws.proofs.Later.{IsLater, defined_is_there, define_tells, later_is_kept, later_is_quiet}
use Rattle.cxx_language_laws.proofs.Lists.{entered_behind, left, left_later}
use Rattle.cxx_model.specs.declared.facts.ScopeKind.TheVariants as scope_kind
use Rattle.cxx_language_laws.proofs.Objects.{HasNumber}
use Rattle.cxx_language_laws.proofs.Reached.{IsBehind, later_is_told, behind_by_later, behind_later}
use Rattle.cxx_language_laws.proofs.Scopes.{entered}
use Rattle.cxx_language_laws.proofs.Spaces.{alias_or_not_stops, using_stops}
use Rattle.cxx_language_laws.proofs.Stopping.{Calm, ChainedOf, later_is_held, Inside, Stops, calm, calm_from, innermost_stops, later_here, leads_here, leads_in, quiet_told, repeat_stops, then_asked, then_calm, told_within, which_in, whole_calm, whole_stops, within_part}
use Rattle.cxx_language_laws.proofs.Tells.{IsTold, Quietly, ToldIn, Tells, ToldBy, tells_answer, tells_read, tells_refusal, tells_stop, whole_stands, ends_later, behind_stands, past_stands, twice_behind, from_in, past_in, then_from, then_in, if_in, same_in, next_in, give_in, looked_in, ask_in, punct_in, quiet_in, returned_in, tokens_in, unit_is_told}
use Rattle.cxx_language_laws.proofs.TellsBlocks.{condition_part_tells, keep_tested_tells, local_extern_tells, local_function_tells, tested_function_tells}
use Rattle.cxx_language_laws.proofs.TellsBodies.{IsInBlock, become_tells, enter_tells, expression_tells, is_declared_tells, statement_head_tells, step_tells}
use Rattle.cxx_language_laws.proofs.TellsLevels.{conditional_tells}
use Rattle.cxx_language_laws.proofs.TellsStatements.{default_tells, empty_in_tells, fresh_tells, jump_tells, labelled_tells}

-- ---- expressions

whole_expression_stops : (room : ℕ) (s : CxxState) (ahead : Ahead) → Stops (an_expression room purpose.Whole) s ahead (expression_for room purpose.Whole s ahead)
whole_expression_stops room s ahead = innermost_stops tt (λ fault is. is) (expression_tells room s ahead)

constant_stops : (room : ℕ) (s : CxxState) (ahead : Ahead) → Stops (an_expression room purpose.Constant) s ahead (expression_for room purpose.Constant s ahead)
constant_stops room s ahead = innermost_stops tt (λ fault is. is) (conditional_tells later_is_told (phrases_tell room (both_tell room).types) (both_tell room).phrases s ahead)

step_stops : (room : ℕ) (s : CxxState) (ahead : Ahead) → Stops (an_expression room purpose.Step) s ahead (expression_for room purpose.Step s ahead)
step_stops room s ahead = innermost_stops tt (λ fault is. is) (step_tells room s ahead)

-- ---- declarations in blocks

local_object_stops : (room : ℕ) (said : Said) (so_far : Listed) (declarator : Declarator) (from : Ahead) (state between : CxxState) (ahead rest : Ahead) → Gives (declarator_of room naming.Required) state ahead declarator between rest → said.is_typedef ≡ false
    → is_function_type (declared_type declarator.layers said.of) ≡ false → said.is_extern ≡ false → IsLater state between → EndsIn ahead.tokens rest.tokens → Inside (some_local_declarators room said so_far) state ahead (defined_object room said declarator from between rest)
unfolding defined_object
local_object_stops room said so_far declarator from state between ahead rest is no_synonym no_function no_extern later stands =
    let name = name_of_declarator declarator in
    let of = declared_type declarator.layers said.of in
    then_asked _ (define_object name of) (define_tells name of between rest) later stands (λ answer is_defined later.
    then_calm (defined_part_stops later_is_held answer.1 rest room name of answer.0 (defined_is_there name of between answer is_defined) (λ begins. to_local_initializer is no_synonym no_function no_extern is_defined begins) later stands) (λ parts state ahead.
    then_in later_is_quiet (looked_in later_is_quiet state ahead) (λ to. give_in later_is_quiet (declarator_tree false name of answer.0 (declarator.parts ++ parts) from to))))

locally_stops : (room : ℕ) (said : Said) (so_far : Listed) (from : Ahead) (declarator : Declarator) (state between : CxxState) (ahead rest : Ahead) → Gives (declarator_of room naming.Required) state ahead declarator between rest → IsLater state between → EndsIn ahead.tokens rest.tokens
    → Inside (some_local_declarators room said so_far) state ahead (locally_declared room said from declarator between rest)
locally_stops room said so_far from declarator state between ahead rest is later stands =
    which_reads said.is_typedef _ _ between rest (λ synonym. calm_from later stands (bare_synonym_tells said declarator from between rest)) (λ no_synonym.
    which_reads (is_function_type (declared_type declarator.layers said.of)) _ _ between rest (λ function. calm_from later stands (local_function_tells said from declarator between rest)) (λ no_function.
    which_reads said.is_extern _ _ between rest (λ is_extern. calm_from later stands (local_extern_tells said from declarator between rest))
    (λ no_extern. local_object_stops room said so_far declarator from state between ahead rest is no_synonym no_function no_extern later stands)))

local_declarator_stops : (room : ℕ) (said : Said) (so_far : Listed) (state : CxxState) (ahead : Ahead) → Inside (some_local_declarators room said so_far) state ahead (local_declarator_at room said state ahead)
unfolding local_declarator_at
local_declarator_stops room said so_far state ahead =
    then_from (λ declarator. declared_fits said declarator >>= λ fits. locally_declared room said ahead declarator) (leads_here in_local_declarator (declarator_stops room state ahead)) (λ one is later stands.
    fits_stops said one.value (λ fits. locally_declared room said ahead one.value) one.state one.rest (locally_stops room said so_far ahead one.value state one.state ahead one.rest is later stands))

local_step_stops : (room : ℕ) (said : Said) (so_far : Listed) (state : CxxState) (ahead : Ahead) → Inside (some_local_declarators room said so_far) state ahead (local_step room said so_far state ahead)
unfolding local_step
local_step_stops room said so_far state ahead = then_calm (local_declarator_stops room said so_far state ahead) (declarator_ended_tells so_far)

local_declarators_stop : (room : ℕ) (said : Said) (state : CxxState) (ahead : Ahead) → Stops (some_local_declarators room said no_declarators) state ahead (local_declarators_at room said state ahead)
unfolding local_declarators_at
local_declarators_stop room said state ahead = repeat_stops (some_local_declarators room said) (local_step room said) give_trees (λ so_far s ahead fault is. is) (λ so_far more s t ahead rest is. next_local_declarator is) (local_step_stops room said) give_trees_tells (count_ahead ahead) no_declarators state ahead

local_declarators_of_stop : (room : ℕ) (specifiers : Specifiers) (state : CxxState) (ahead : Ahead) → Stops (some_local_declarators room (said_by false specifiers) no_declarators) state ahead (local_declarators_of room specifiers state ahead)
unfolding local_declarators_of
local_declarators_of_stop room specifiers state ahead = if_in (is_punct punct.SEMICOLON (kind_ahead ahead)) (whole_calm (nothing_tells specifiers state ahead)) (local_declarators_stop room (said_by false specifiers) state ahead)

simple_local_stops : (room : ℕ) (state : CxxState) (ahead : Ahead) → IsNoSpace ahead → Inside (a_local_declaration room) state ahead (simple_local_at room state ahead)
unfolding simple_local_at
simple_local_stops room state ahead no_space =
    then_from _ (leads_here (in_local_specifiers no_space) (specifiers_stop room where_.Block state ahead)) (λ one is later stands.
    then_calm (leads_in (to_local_declarators no_space is) later stands (local_declarators_of_stop room one.value one.state one.rest)) (λ declarators state rest.
    then_in later_is_quiet (looked_in later_is_quiet state rest) (λ to. give_in later_is_quiet (simple_tree (specifiers_tree one.value ahead one.rest) declarators ahead to))))

-- 7.3.2
local_alias_stops : (room : ℕ) (state : CxxState) (ahead : Ahead) → is_keyword keyword.NAMESPACE (kind_ahead ahead) ≡ true → Inside (a_local_declaration room) state ahead (local_alias_at state ahead)
unfolding local_alias_at behind_word
local_alias_stops room state ahead word =
    which_in (is_name (kind_ahead (behind ahead))) (λ named. alias_or_not_stops state ahead (behind ahead) ahead (alias_name ahead) (behind_stands ahead) (λ equals. in_local_alias word (record { named = named; equals = equals }))) (λ none. calm (quiet_in later_is_quiet refl))

local_declaration_stops : (room : ℕ) (state : CxxState) (ahead : Ahead) → Stops (a_local_declaration room) state ahead (local_declaration_at room state ahead)
unfolding local_declaration_at
local_declaration_stops room state ahead =
    whole_stops (λ fault is. is) (
    which_in (is_keyword keyword.NAMESPACE (kind_ahead ahead)) (λ word. local_alias_stops room state ahead word) (λ no_namespace.
    which_in (is_keyword keyword.USING (kind_ahead ahead)) (λ using. leads_here (to_local_using (record { no_namespace = no_namespace; is_using = using })) (using_stops state ahead))
    (λ no_using. simple_local_stops room state ahead (record { no_namespace = no_namespace; no_using = no_using }))))

-- ---- conditions

condition_initializer_stops : (room : ℕ) (name : Lexeme) (of : CxxType) (number : ℕ) (state : CxxState) (ahead : Ahead) → HasNumber number state → Stops (a_condition_initializer room name of number) state ahead (condition_initializer_of room name of number state ahead)
condition_initializer_stops room name of number state ahead there = innermost_stops tt (λ fault is. is) (condition_part_tells room name of number state ahead there)

tested_object_stops : (room : ℕ) (specifiers : Specifiers) (declarator : Declarator) (from : Ahead) (state between after : CxxState) (ahead middle rest : Ahead) → Gives (specifiers_of room where_.TypeId) state ahead specifiers between middle → Gives (declarator_of room naming.Required) between middle declarator after rest
    → is_function_type (declared_type declarator.layers (said_by false specifiers).of) ≡ false → IsLater state after → EndsIn ahead.tokens rest.tokens → Inside (a_declared_condition room) state ahead (tested_object room (said_by false specifiers) declarator from after rest)
unfolding tested_object
tested_object_stops room specifiers declarator from state between after ahead middle rest is_specified is_declared no_function later stands =
    let name = name_of_declarator declarator in
    let of = declared_type declarator.layers (said_by false specifiers).of in
    then_asked _ (define_object name of) (define_tells name of after rest) later stands (λ answer is_defined later.
    then_calm (leads_in (to_condition_initializer is_specified is_declared no_function is_defined) later stands (condition_initializer_stops room name of answer.0 answer.1 rest (defined_is_there name of after answer is_defined))) (λ parts state ahead.
    then_in later_is_quiet (ask_in ahead (keep_tested_tells answer.0 state ahead)) (λ kept state ahead.
    then_in later_is_quiet (looked_in later_is_quiet state ahead) (λ to. give_in later_is_quiet (declarator_tree false name of answer.0 (declarator.parts ++ parts) from to)))))

tested_stops : (room : ℕ) (specifiers : Specifiers) (state between : CxxState) (ahead middle : Ahead) → Gives (specifiers_of room where_.TypeId) state ahead specifiers between middle → IsLater state between → EndsIn ahead.tokens middle.tokens
    → Inside (a_declared_condition room) state ahead (tested_declarator_at room (said_by false specifiers) between middle)
unfolding tested_declarator_at
tested_stops room specifiers state between ahead middle is_specified later stands =
    let said = said_by false specifiers in
    then_from (λ declarator. declared_fits said declarator >>= λ fits. tested_by room said middle declarator) (leads_in (to_condition_declarator is_specified) later stands (declarator_stops room between middle)) (λ one is later stands.
    fits_stops said one.value (λ fits. tested_by room said middle one.value) one.state one.rest (
    which_reads (is_function_type (declared_type one.value.layers said.of)) _ _ one.state one.rest (λ function. calm_from later stands (tested_function_tells said one.value one.state one.rest))
    (λ no_function. tested_object_stops room specifiers one.value middle state between one.state ahead middle one.rest is_specified is no_function later stands)))

declared_condition_stops : (room : ℕ) (state : CxxState) (ahead : Ahead) → Stops (a_declared_condition room) state ahead (declared_condition_at room state ahead)
unfolding declared_condition_at
declared_condition_stops room state ahead =
    whole_stops (λ fault is. is) (then_from _ (leads_here in_condition_specifiers (specifiers_stop room where_.TypeId state ahead)) (λ one is later stands.
    then_calm (tested_stops room one.value state one.state ahead one.rest is later stands) (λ declarator state rest.
    then_in later_is_quiet (looked_in later_is_quiet state rest) (λ to. give_in later_is_quiet (condition_tree (said_by false one.value).of (specifiers_tree one.value ahead one.rest) declarator ahead to)))))

condition_by_stops : (room : ℕ) (declares : Bool) (s t : CxxState) (ahead rest : Ahead) → Gives (is_declaration_of room) s ahead declares t rest → IsLater s t → EndsIn ahead.tokens rest.tokens → Inside (an_expression room purpose.Condition) s ahead (condition_by room declares t rest)
condition_by_stops room true s t ahead rest is later stands = leads_in (to_declared_condition is) later stands (declared_condition_stops room t rest)
condition_by_stops room false s t ahead rest is later stands = leads_in (in_condition is) later stands (whole_expression_stops room t rest)

condition_stops : (room : ℕ) (s : CxxState) (ahead : Ahead) → Stops (an_expression room purpose.Condition) s ahead (expression_for room purpose.Condition s ahead)
unfolding condition_at
condition_stops room s ahead = whole_stops (λ fault is. is) (then_from (condition_by room) (calm (is_declared_tells room s ahead)) (λ one is later stands. condition_by_stops room one.value s one.state ahead one.rest is later stands))

-- ---- expressions and declarations as statements

plain_by_stops : (room : ℕ) (begins : Head) (s t : CxxState) (ahead rest : Ahead) → Gives (beginning_of room) s ahead begins t rest → IsLater s t → EndsIn ahead.tokens rest.tokens → Inside (a_plain_statement room) s ahead (plain_by (parts_at room) begins t rest)
unfolding declaration_statement expression_statement parts_at
plain_by_stops room head.Declaration s t ahead rest is later stands =
    then_calm (leads_in (to_local_declaration is) later stands (local_declaration_stops room t rest)) (λ tree state ahead.
    then_in later_is_quiet (looked_in later_is_quiet state ahead) (λ to. give_in later_is_quiet (statement_tree production.declaration_statement (tree ∷ []) rest to)))
plain_by_stops room head.Expression s t ahead rest is later stands =
    then_calm (leads_in (to_expression is) later stands (whole_expression_stops room t rest)) (λ tree state ahead.
    then_in later_is_quiet (tokens_in later_is_quiet (punct_in unit_is_told punct.SEMICOLON) state ahead) (λ ended state ahead.
    then_in later_is_quiet (looked_in later_is_quiet state ahead) (λ to. give_in later_is_quiet (statement_tree production.expression_statement (tree ∷ []) rest to))))

plain_stops : (room : ℕ) (s : CxxState) (ahead : Ahead) → Stops (a_plain_statement room) s ahead (plain_statement (parts_at room) s ahead)
unfolding plain_statement parts_at
plain_stops room s ahead = whole_stops (λ fault is. is) (then_from (plain_by (parts_at room)) (calm (statement_head_tells room s ahead)) (λ one is later stands. plain_by_stops room one.value s one.state ahead one.rest is later stands))

-- ---- labels

case_stops : (room : ℕ) (so_far : List CxxTree × Around) (switch : Switch) (s : CxxState) (ahead : Ahead) → is_keyword keyword.CASE (kind_ahead ahead) ≡ true → Inside (some_labels room so_far) s ahead (case_of (parts_at room) switch s ahead)
unfolding case_of parts_at
case_stops room so_far switch s ahead case =
    let word = place_ahead ahead in
    then_calm (leads_in (in_label case) (later_here s) (behind_stands ahead) (constant_stops room s (behind ahead))) (λ tree state rest.
    then_in later_is_quiet (ask_in rest (become_tells later_is_quiet (to_type switch.of) tree state rest)) (λ constant state rest.
    then_in later_is_quiet (ask_in rest (constant_tells later_is_quiet constant state rest)) (λ value state rest.
    then_in later_is_quiet (fresh_tells later_is_quiet word value switch state rest) (λ is_fresh state rest.
    then_in later_is_quiet (tokens_in later_is_quiet (punct_in unit_is_told punct.COLON) state rest) (λ colon state rest.
    then_in later_is_quiet (looked_in later_is_quiet state rest) (λ to. give_in later_is_quiet (word_tree production.label (codes "case") (constant ∷ []) ahead to, with_label value switch)))))))

label_of_stops : (room : ℕ) (so_far : List CxxTree × Around) (around : Around) (switch : Option Switch) (s : CxxState) (ahead : Ahead) → Inside (some_labels room so_far) s ahead (label_of (parts_at room) around switch s ahead)
unfolding label_in
label_of_stops room so_far around None s ahead = calm (quiet_in later_is_quiet refl)
label_of_stops room so_far around (Some switch) s ahead =
    then_calm (which_in (is_keyword keyword.CASE (kind_ahead ahead)) (case_stops room so_far switch s ahead) (λ none. calm (default_tells later_is_quiet switch s ahead))) (λ one. give_in later_is_quiet (one.0, record around { switch = Some one.1 }))

label_step_stops : (room : ℕ) (so_far : List CxxTree × Around) (s : CxxState) (ahead : Ahead) → Inside (some_labels room so_far) s ahead (label_step (parts_at room) so_far s ahead)
unfolding label_step label_at
label_step_stops room so_far s ahead =
    if_in (is_label (kind_ahead ahead)) (then_calm (label_of_stops room so_far so_far.1 so_far.1.switch s ahead) (λ one. give_in later_is_quiet (More (so_far.0 ++ one.0 ∷ [], one.1)))) (calm (same_in later_is_quiet (Done so_far) s ahead))

labels_stop : (room : ℕ) (around : Around) (s : CxxState) (ahead : Ahead) → Stops (some_labels room ([], around)) s ahead (labels_in (parts_at room) around s ahead)
unfolding labels_in
labels_stop room around s ahead = repeat_stops (some_labels room) (label_step (parts_at room)) give (λ so_far s ahead fault is. is) (λ so_far more s t ahead rest is. next_label is) (label_step_stops room) (λ so_far. give_in later_is_quiet so_far) (count_ahead ahead) ([], around) s ahead

-- ---- wherever the reader stands

-- what stops it there is true within a part that began before
abbrev Of : Part → CxxState → Ahead → CxxState → Ahead → Stopped → Type 0
Of part s ahead t rest why = ChainedOf within_part part s ahead why

of_told : (part : Part) (s : CxxState) (ahead : Ahead) → IsTold IsLater (Of part s ahead)
of_told part s ahead = record { keeps = later_is_kept; quiet = λ t rest why quiet. quiet_told within_part part s ahead why quiet; sooner = λ t u one two why first stands told. told }

abbrev From : {A : Type 0} → Part → CxxState → Ahead → CxxState → Ahead → Answer (Got CxxState A) → Type 0
From part s ahead t rest r = ToldIn IsLater (Of part s ahead) t rest r

-- the same of what stays in a block that it enters
abbrev InBlock : {A : Type 0} → Part → CxxState → Ahead → CxxState → Ahead → Answer (Got CxxState A) → Type 0
InBlock part s ahead t rest r = ToldIn (IsInBlock None) (Of part s ahead) t rest r

inside : {A : Type 0} {part : Part} {s : CxxState} {ahead : Ahead} {r : Answer (Got CxxState A)} → From part s ahead s ahead r → Inside part s ahead r
inside (tells_read one keeps stands) = tells_read one keeps stands
inside (tells_stop why true_of) = tells_stop why true_of

calm_of : {A : Type 0} {part : Part} {s : CxxState} {ahead : Ahead} {t : CxxState} {rest : Ahead} {r : Answer (Got CxxState A)} → Calm t rest r → From part s ahead t rest r
calm_of (tells_read one keeps stands) = tells_read one keeps stands
calm_of {part = part} {s = s} {ahead = ahead} (tells_stop why quiet) = tells_stop why (quiet_told within_part part s ahead why quiet)

leads_of : {A : Type 0} {part next : Part} {s : CxxState} {ahead : Ahead} {t : CxxState} {rest : Ahead} {r : Answer (Got CxxState A)} → Leads part s ahead next t rest → IsBehind s t → EndsIn ahead.tokens rest.tokens → Stops next t rest r → From part s ahead t rest r
leads_of leads reached stands (tells_read one keeps ends) = tells_read one keeps ends
leads_of {part = part} {next = next} {s = s} {ahead = ahead} {t = t} {rest = rest} leads reached stands (tells_stop why true_of) = tells_stop why (told_within part next s t ahead rest why leads reached stands true_of)

past_of : {A : Type 0} {part : Part} {s : CxxState} {ahead : Ahead} {t : CxxState} {rest : Ahead} {r : Answer (Got CxxState A)} → From part s ahead t (behind rest) r → From part s ahead t rest r
past_of {part = part} {s = s} {ahead = ahead} tells = past_in (of_told part s ahead) tells

then_of : {A B : Type 0} {part : Part} {s : CxxState} {ahead : Ahead} {t : CxxState} {rest : Ahead} {r : Answer (Got CxxState A)} (go : A → Reads CxxState B) → From part s ahead t rest r
    → ((one : Got CxxState A) → r ≡ Ok one → IsLater t one.state → EndsIn rest.tokens one.rest.tokens → From part s ahead one.state one.rest (go one.value one.state one.rest)) → From part s ahead t rest (then_read r go)
then_of {part = part} {s = s} {ahead = ahead} {t = t} {rest = rest} go first second = then_from go first (λ one is later stands. from_in (of_told part s ahead) t one.state rest one.rest later stands (second one is later stands))

then_quiet : {A B : Type 0} {part : Part} {s : CxxState} {ahead : Ahead} {t : CxxState} {rest : Ahead} {r : Answer (Got CxxState A)} (go : A → Reads CxxState B) → From part s ahead t rest r → ((x : A) → Tells IsLater Quietly (go x)) → From part s ahead t rest (then_read r go)
then_quiet go first second = then_of go first (λ one is later stands. calm_of (second one.value one.state one.rest))

-- a test decides what is read
which_of : {A : Type 0} {kept : CxxState → CxxState → Type 0} {told : CxxState → Ahead → Stopped → Type 0} {t : CxxState} {rest : Ahead} (b : Bool) {x y : Answer (Got CxxState A)} → (b ≡ true → ToldIn kept told t rest x) → (b ≡ false → ToldIn kept told t rest y) → ToldIn kept told t rest (if b then x else y)
which_of true x y = x refl
which_of false x y = y refl

-- a mark or a keyword that has to stand there
punct_of : {B : Type 0} {part : Part} {s : CxxState} {ahead : Ahead} {t : CxxState} {rest : Ahead} (n : ℕ) (go : Unit {0} → Reads CxxState B) → (is_punct n (kind_ahead rest) ≡ true → From part s ahead t (behind rest) (go tt t (behind rest))) → From part s ahead t rest (then_read (tokens (punct_taken n) t rest) go)
unfolding punct_taken
punct_of {B = B} {part = part} {s = s} {ahead = ahead} {t = t} {rest = rest} n go goes = by (is_punct n (kind_ahead rest)) tt goes
  where
    by : (b : Bool) (u : Unit {0}) → (b ≡ true → From part s ahead t (behind rest) (go u t (behind rest))) → From part s ahead t rest (then_read (beside t (if b then got u u (behind rest) else refused u rest)) go)
    by true u goes = past_of (goes refl)
    by false u goes = tells_stop (fault (place_ahead rest) says.SyntaxError) (quiet_told within_part part s ahead (fault (place_ahead rest) says.SyntaxError) refl)

keyword_of : {B : Type 0} {part : Part} {s : CxxState} {ahead : Ahead} {t : CxxState} {rest : Ahead} (n : ℕ) (go : Unit {0} → Reads CxxState B) → (is_keyword n (kind_ahead rest) ≡ true → From part s ahead t (behind rest) (go tt t (behind rest))) → From part s ahead t rest (then_read (tokens (keyword_taken n) t rest) go)
keyword_of {B = B} {part = part} {s = s} {ahead = ahead} {t = t} {rest = rest} n go goes = by (is_keyword n (kind_ahead rest)) tt goes
  where
    by : (b : Bool) (u : Unit {0}) → (b ≡ true → From part s ahead t (behind rest) (go u t (behind rest))) → From part s ahead t rest (then_read (beside t (if b then got u u (behind rest) else refused u rest)) go)
    by true u goes = past_of (goes refl)
    by false u goes = tells_stop (fault (place_ahead rest) says.SyntaxError) (quiet_told within_part part s ahead (fault (place_ahead rest) says.SyntaxError) refl)

-- ---- blocks that are entered

block_reached : (t u : CxxState) → IsInBlock None t u → IsBehind t u
block_reached t u first = behind_later t (entered (scope_kind.Block None) t) u (entered_behind (scope_kind.Block None) t) (behind_by_later (entered (scope_kind.Block None) t) u first)

block_on : (t u v : CxxState) → IsInBlock None t u → IsLater u v → IsInBlock None t v
block_on t u v first later = later_is_kept.later (entered (scope_kind.Block None) t) u v first later

enter_of : {B : Type 0} {kept : CxxState → CxxState → Type 0} {part : Part} {s : CxxState} {ahead : Ahead} {t : CxxState} {rest : Ahead} (go : Unit {0} → Reads CxxState B) → ((entered : Unit {0} × CxxState) → Enters t entered → IsInBlock None t entered.1 → ToldIn kept (Of part s ahead) t rest (go entered.0 entered.1 rest))
    → ToldIn kept (Of part s ahead) t rest (then_read (answered (enter_block None t) rest) go)
enter_of {B = B} {kept = kept} {part = part} {s = s} {ahead = ahead} {t = t} {rest = rest} go goes = by (enter_tells None t rest) goes
  where
    by : {r : Answer (Unit {0} × CxxState)} → ToldBy (IsInBlock None) Quietly t rest r → ((entered : Unit {0} × CxxState) → r ≡ Ok entered → IsInBlock None t entered.1 → ToldIn kept (Of part s ahead) t rest (go entered.0 entered.1 rest)) → ToldIn kept (Of part s ahead) t rest (then_read (answered r rest) go)
    by (tells_answer one first) goes = goes one refl first
    by (tells_refusal why quiet) goes = tells_stop why (quiet_told within_part part s ahead why quiet)

-- what is read in it stays in it
stays_of : {A : Type 0} {part : Part} {s : CxxState} {ahead : Ahead} {t u : CxxState} {rest : Ahead} {r : Answer (Got CxxState A)} → IsInBlock None t u → From part s ahead u rest r → InBlock part s ahead t rest r
stays_of {t = t} {u = u} first (tells_read one later stands) = tells_read one (block_on t u one.state first later) stands
stays_of first (tells_stop why true_of) = tells_stop why true_of

-- what is read behind it leaves it
then_entered_of : {A B : Type 0} {part : Part} {s : CxxState} {ahead : Ahead} {t : CxxState} {rest : Ahead} {r : Answer (Got CxxState A)} (go : A → Reads CxxState B) → InBlock part s ahead t rest r
    → ((one : Got CxxState A) → r ≡ Ok one → IsInBlock None t one.state → EndsIn rest.tokens one.rest.tokens → From part s ahead t one.rest (go one.value one.state one.rest)) → From part s ahead t rest (then_read r go)
then_entered_of {part = part} {s = s} {ahead = ahead} {t = t} {rest = rest} go (tells_read one first stands) second = from_in (of_told part s ahead) t t rest one.rest (later_here t) stands (second one refl first stands)
then_entered_of go (tells_stop why true_of) second = tells_stop why true_of

outward_of : {A B : Type 0} {part : Part} {s : CxxState} {ahead : Ahead} {t u : CxxState} {rest : Ahead} {r : Answer (Got CxxState A)} (go : A → Reads CxxState B) → IsInBlock None t u → From part s ahead u rest r
    → ((one : Got CxxState A) → r ≡ Ok one → IsInBlock None t one.state → EndsIn rest.tokens one.rest.tokens → From part s ahead t one.rest (go one.value one.state one.rest)) → From part s ahead t rest (then_read r go)
outward_of go first tells second = then_entered_of go (stays_of first tells) second

leave_of : {B : Type 0} {part : Part} {s : CxxState} {ahead : Ahead} {t u : CxxState} {rest : Ahead} {go : Unit {0} → Reads CxxState B} → IsInBlock None t u → ((x : Unit {0}) → Tells IsLater Quietly (go x)) → From part s ahead t rest (then_read (answered (leave_block u) rest) go)
unfolding leave_block
leave_of {part = part} {s = s} {ahead = ahead} {t = t} {u = u} {rest = rest} first tells = from_in (of_told part s ahead) t (left u) rest rest (left_later (scope_kind.Block None) t u first) (whole_stands rest.tokens) (calm_of (tells tt (left u) rest))

-- ---- statements up to the end of a block

abbrev EachStops : ℕ → Type 0
EachStops room = (around : Around) (s : CxxState) (ahead : Ahead) → Stops (a_statement room around) s ahead (statement_of room around s ahead)

-- with room for one bracket less
abbrev InnerStops : ℕ → Type 0
InnerStops zero = Unit {0}
InnerStops (suc room) = EachStops room

statement_step_stops : (room : ℕ) → EachStops room → (so_far : List CxxTree × Around) (s : CxxState) (ahead : Ahead) → Inside (some_statements room so_far) s ahead (statement_step_of room so_far s ahead)
unfolding statement_step
statement_step_stops room each so_far s ahead =
    if_in (is_punct punct.RIGHT_BRACE (kind_ahead ahead)) (calm (next_in later_is_quiet (Done so_far) s ahead)) (then_calm (leads_here in_statement (each so_far.1 s ahead)) (λ one. give_in later_is_quiet (More (so_far.0 ++ one.0 ∷ [], one.1))))

statements_stop : (room : ℕ) → EachStops room → (around : Around) (s : CxxState) (ahead : Ahead) → Stops (some_statements room ([], around)) s ahead (statements_in (parts_at room) (within parts_at room) around s ahead)
unfolding statements_in
statements_stop room each around s ahead = repeat_stops (some_statements room) (statement_step_of room) never_ended (λ so_far s ahead fault is. is) (λ so_far more s t ahead rest is. next_statement is) (statement_step_stops room each) (λ so_far state ahead. quiet_in later_is_quiet refl) (count_ahead ahead) ([], around) s ahead

-- the statements of a block, which is entered where the reader stands
block_statements_of : {part : Part} {s : CxxState} {ahead : Ahead} (room : ℕ) → EachStops room → (around : Around) (t : CxxState) (rest : Ahead) → IsBehind s t → EndsIn ahead.tokens rest.tokens → ((entered : Unit {0} × CxxState) → Enters t entered → Leads part s ahead (some_statements room ([], around)) entered.1 rest)
    → From part s ahead t rest (statements_at (parts_at room) (within parts_at room) around t rest)
unfolding statements_at parts_at
block_statements_of {s = s} room each around t rest reached stands leads =
    enter_of _ (λ entered is first. outward_of _ first (leads_of (leads entered is) (behind_later s t entered.1 reached (block_reached t entered.1 first)) stands (statements_stop room each around entered.1 rest)) (λ one is_read last ends. leave_of last (λ left. give_in later_is_quiet one.value)))

abbrev LeadsToBlock : Part → ℕ → Around → CxxState → Ahead → Type 0
LeadsToBlock part zero around s ahead = Unit {0}
LeadsToBlock part (suc room) around s ahead = (entered : Unit {0} × CxxState) → Enters s entered → Leads part s ahead (some_statements room ([], around)) entered.1 (behind ahead)

block_stops : {part : Part} (room : ℕ) → InnerStops room → (around : Around) (s : CxxState) (ahead : Ahead) → LeadsToBlock part room around s ahead → Inside part s ahead (block_in (within parts_at room) around s ahead)
unfolding block_in within
block_stops zero inner around s ahead leads = calm (quiet_in later_is_quiet refl)
block_stops (suc room) inner around s ahead leads =
    inside (past_of (then_quiet _ (block_statements_of room inner around s (behind ahead) (behind_by_later s s (later_here s)) (behind_stands ahead) leads) (λ inside_it state rest.
    then_in later_is_quiet (looked_in later_is_quiet state rest) (λ to. give_in later_is_quiet (statement_tree production.block inside_it.0 ahead to, inside_it.1)))))

-- ---- statements in statements

begun_tells : (room : ℕ) → Tells IsLater Quietly (begun (parts_at room))
unfolding begun parts_at
begun_tells room state ahead = if_in (begins_statement (kind_ahead ahead) || is_punct punct.SEMICOLON (kind_ahead ahead)) (same_in later_is_quiet tt state ahead) (then_in later_is_quiet (returned_in ahead (statement_head_tells room state ahead)) (λ begins. give_in later_is_quiet tt))

nested_stops : (room : ℕ) → InnerStops room → (around : Around) (begins : Unit {0}) (s t : CxxState) (ahead rest : Ahead) → is_punct punct.LEFT_BRACE (kind_ahead ahead) ≡ false → Gives (begun (parts_at room)) s ahead begins t rest → IsLater s t → EndsIn ahead.tokens rest.tokens
    → From (an_inner_statement room around) s ahead t rest ((within parts_at room).sub_statement around t rest)
unfolding within sub_statement_at parts_at
nested_stops zero inner around begins s t ahead rest no_brace is later stands = calm_of (quiet_in later_is_quiet refl)
nested_stops (suc room) inner around begins s t ahead rest no_brace is later stands =
    enter_of _ (λ entered enters first. outward_of _ first (leads_of (to_statement no_brace is enters) (behind_later s t entered.1 (behind_by_later s t later) (block_reached t entered.1 first)) stands (inner around entered.1 rest)) (λ one is_read last ends. leave_of last (λ left. give_in later_is_quiet one.value)))

inner_block_leads : (room : ℕ) (around : Around) (s : CxxState) (ahead : Ahead) → is_punct punct.LEFT_BRACE (kind_ahead ahead) ≡ true → LeadsToBlock (an_inner_statement room around) room around s ahead
inner_block_leads zero around s ahead brace = tt
inner_block_leads (suc room) around s ahead brace = λ entered is. to_inner_block brace is

inner_statement_stops : (room : ℕ) → InnerStops room → (around : Around) (s : CxxState) (ahead : Ahead) → Stops (an_inner_statement room around) s ahead (inner_statement_of room around s ahead)
unfolding sub_in
inner_statement_stops room inner around s ahead =
    whole_stops (λ fault is. is) (which_in (is_punct punct.LEFT_BRACE (kind_ahead ahead)) (λ brace. block_stops room inner around s ahead (inner_block_leads room around s ahead brace)) (λ no_brace.
    inside (then_of _ (calm_of (begun_tells room s ahead)) (λ one is later stands. nested_stops room inner around one.value s one.state ahead one.rest no_brace is later stands))))

-- ---- conditions

ended_tells : (room : ℕ) (target : CxxTarget) (tree : CxxTree) → Tells IsLater Quietly (condition_ended (parts_at room) target tree)
unfolding parts_at
ended_tells room target tree state ahead =
    then_in later_is_quiet (ask_in ahead (become_tells later_is_quiet target tree state ahead)) (λ value state ahead.
    then_in later_is_quiet (tokens_in later_is_quiet (punct_in unit_is_told punct.RIGHT_PARENTHESIS) state ahead) (λ closed. give_in later_is_quiet value))

-- a statement stands ahead, which has a condition in brackets
abbrev IsConditional : Ahead → Type 0
IsConditional ahead = (is_conditional (kind_ahead ahead) ≡ true) × IsOpened ahead

bracket_stops : (room : ℕ) (around : Around) (target : CxxTarget) (s : CxxState) (ahead : Ahead) → IsConditional ahead → InBlock (an_unlabelled_statement room around) s ahead s (in_bracket ahead) ((within parts_at room).condition target s (in_bracket ahead))
unfolding within bracket_condition_at parts_at
bracket_stops zero around target s ahead begins = tells_stop (Limited Nesting) (quiet_told within_part (an_unlabelled_statement zero around) s ahead (Limited Nesting) refl)
bracket_stops (suc room) around target s ahead begins =
    enter_of _ (λ entered is first. stays_of first (then_quiet _ (leads_of (to_condition begins.0 begins.1 is) (block_reached s entered.1 first) (twice_behind ahead) (condition_stops room entered.1 (in_bracket ahead))) (ended_tells room target)))

-- what follows the statement in one that has a scope of its own
left_tells : (number : ℕ) (from : Ahead) (trees : List CxxTree) (around : Around) (left : Unit {0}) → Tells {A = CxxTree × Around} IsLater Quietly (λ state ahead. then_read (looked state ahead) (λ to. give (statement_tree number trees from to, around)))
left_tells number from trees around left state ahead = then_in later_is_quiet (looked_in later_is_quiet state ahead) (λ to. give_in later_is_quiet (statement_tree number trees from to, around))

-- ---- selection

other_stops : (room : ℕ) → InnerStops room → (around : Around) (condition : CxxTree) (one : CxxTree × Around) (s between t : CxxState) (ahead middle rest : Ahead) → is_keyword keyword.IF (kind_ahead ahead) ≡ true → HasCondition room to_bool s ahead condition between middle
    → Gives (inner_statement_of room around) between middle one t rest → IsBehind s t → EndsIn ahead.tokens rest.tokens → From (an_unlabelled_statement room around) s ahead t rest (other_part (parts_at room) (within parts_at room) one.1 t rest)
unfolding other_part else_part
other_stops room inner around condition one s between t ahead middle rest word has is reached stands =
    which_of (is_keyword keyword.ELSE (kind_ahead rest)) (λ other.
    past_of (then_quiet _ (leads_of (behind_else word has is other) reached (past_stands ahead rest stands) (inner_statement_stops room inner one.1 t (behind rest))) (λ other. give_in later_is_quiet (other.0 ∷ [], other.1))))
    (λ none. same_in (of_told (an_unlabelled_statement room around) s ahead) ([], one.1) t rest)

if_stops : (room : ℕ) → InnerStops room → (around : Around) (s : CxxState) (ahead : Ahead) → is_conditional (kind_ahead ahead) ≡ true → is_keyword keyword.IF (kind_ahead ahead) ≡ true → Inside (an_unlabelled_statement room around) s ahead (if_statement (parts_at room) (within parts_at room) around s ahead)
unfolding if_statement if_ended parts_at
if_stops room inner around s ahead begins word =
    inside (past_of (punct_of punct.LEFT_PARENTHESIS _ (λ opens.
    then_entered_of _ (bracket_stops room around to_bool s ahead (begins, opens)) (λ condition is first stands.
    let has : HasCondition room to_bool s ahead condition.value condition.state condition.rest = record { opens = opens; gives = is } in
    let before = ends_later ahead.tokens (in_bracket ahead).tokens condition.rest.tokens (twice_behind ahead) stands in
    outward_of _ first (leads_of (behind_if word has) (block_reached s condition.state first) before (inner_statement_stops room inner around condition.state condition.rest)) (λ one is_one second ends.
    outward_of _ second (other_stops room inner around condition.value one.value s condition.state one.state ahead condition.rest one.rest word has is_one (block_reached s one.state second) (ends_later ahead.tokens condition.rest.tokens one.rest.tokens before ends)) (λ other is_other third last.
    leave_of third (left_tells production.selection ahead (condition.value ∷ one.value.0 ∷ other.value.0) other.value.1)))))))

switch_stops : (room : ℕ) → InnerStops room → (around : Around) (s : CxxState) (ahead : Ahead) → is_conditional (kind_ahead ahead) ≡ true → is_keyword keyword.SWITCH (kind_ahead ahead) ≡ true → Inside (an_unlabelled_statement room around) s ahead (switch_in (parts_at room) (within parts_at room) around s ahead)
unfolding switch_in parts_at
switch_stops room inner around s ahead begins word =
    inside (past_of (punct_of punct.LEFT_PARENTHESIS _ (λ opens.
    then_entered_of _ (bracket_stops room around to_promoted s ahead (begins, opens)) (λ condition is first stands.
    outward_of _ first (leads_of (behind_switch word (record { opens = opens; gives = is })) (block_reached s condition.state first) (ends_later ahead.tokens (in_bracket ahead).tokens condition.rest.tokens (twice_behind ahead) stands) (inner_statement_stops room inner (in_a_switch (operand_of condition.value).of around) condition.state condition.rest)) (λ body is_body second ends.
    leave_of second (left_tells production.switch ahead (condition.value ∷ body.value.0 ∷ []) around))))))

-- ---- loops

loop_stops : {part : Part} {s : CxxState} {ahead : Ahead} (room : ℕ) → InnerStops room → (number : ℕ) (from : Ahead) (before : List CxxTree) (around : Around) (t u : CxxState) (rest : Ahead) → IsBehind s t → IsInBlock None t u → EndsIn ahead.tokens rest.tokens → Leads part s ahead (an_inner_statement room (in_a_loop around)) u rest
    → From part s ahead t rest (loop_ended (parts_at room) (within parts_at room) number from before around u rest)
unfolding loop_ended parts_at
loop_stops {s = s} room inner number from before around t u rest reached first stands leads =
    outward_of _ first (leads_of leads (behind_later s t u reached (block_reached t u first)) stands (inner_statement_stops room inner (in_a_loop around) u rest)) (λ body is_body second ends.
    leave_of second (left_tells number from (before ++ body.value.0 ∷ []) (behind_loop around body.value.1)))

while_stops : (room : ℕ) → InnerStops room → (around : Around) (s : CxxState) (ahead : Ahead) → is_conditional (kind_ahead ahead) ≡ true → is_keyword keyword.WHILE (kind_ahead ahead) ≡ true → Inside (an_unlabelled_statement room around) s ahead (while_in (parts_at room) (within parts_at room) around s ahead)
unfolding while_in
while_stops room inner around s ahead begins word =
    inside (past_of (punct_of punct.LEFT_PARENTHESIS _ (λ opens.
    then_entered_of _ (bracket_stops room around to_bool s ahead (begins, opens)) (λ condition is first stands.
    loop_stops room inner production.while ahead (condition.value ∷ []) around s condition.state condition.rest (behind_by_later s s (later_here s)) first (ends_later ahead.tokens (in_bracket ahead).tokens condition.rest.tokens (twice_behind ahead) stands)
    (behind_while word (record { opens = opens; gives = is }))))))

last_condition_stops : (room : ℕ) (around : Around) (body : CxxTree × Around) (s t : CxxState) (ahead rest : Ahead) → is_keyword keyword.DO (kind_ahead ahead) ≡ true → Gives (inner_statement_of room (in_a_loop around)) s (behind ahead) body t rest → is_keyword keyword.WHILE (kind_ahead rest) ≡ true → IsOpened rest → IsLater s t → EndsIn ahead.tokens rest.tokens
    → From (an_unlabelled_statement room around) s ahead t (in_bracket rest) ((within parts_at room).last_condition t (in_bracket rest))
unfolding within last_condition_at parts_at
last_condition_stops zero around body s t ahead rest word is loops opens later stands = calm_of (quiet_in later_is_quiet refl)
last_condition_stops (suc room) around body s t ahead rest word is loops opens later stands =
    then_quiet _ (leads_of (to_last_condition word is loops opens) (behind_by_later s t later) (past_stands ahead (behind rest) (past_stands ahead rest stands)) (whole_expression_stops room t (in_bracket rest))) (ended_tells room to_bool)

do_stops : (room : ℕ) → InnerStops room → (around : Around) (s : CxxState) (ahead : Ahead) → is_keyword keyword.DO (kind_ahead ahead) ≡ true → Inside (an_unlabelled_statement room around) s ahead (do_in (parts_at room) (within parts_at room) around s ahead)
unfolding do_in
do_stops room inner around s ahead word =
    inside (past_of (then_of _ (leads_of (behind_do word) (behind_by_later s s (later_here s)) (behind_stands ahead) (inner_statement_stops room inner (in_a_loop around) s (behind ahead))) (λ body is later stands.
    keyword_of keyword.WHILE _ (λ loops. punct_of punct.LEFT_PARENTHESIS _ (λ opens.
    then_quiet _ (last_condition_stops room around body.value s body.state ahead body.rest word is loops opens later (ends_later ahead.tokens (behind ahead).tokens body.rest.tokens (behind_stands ahead) stands)) (λ condition state rest.
    then_in later_is_quiet (tokens_in later_is_quiet (punct_in unit_is_told punct.SEMICOLON) state rest) (λ ended state rest.
    then_in later_is_quiet (looked_in later_is_quiet state rest) (λ to. give_in later_is_quiet (statement_tree production.do_ (body.value.0 ∷ condition ∷ []) ahead to, behind_loop around body.value.1)))))))))

-- ---- `for`

first_stops : (room : ℕ) (around : Around) (s : CxxState) (ahead : Ahead) (entered : Unit {0} × CxxState) → BeginsFor s ahead entered → IsBehind s entered.1 → From (an_unlabelled_statement (suc room) around) s ahead entered.1 (in_bracket ahead) (first_part (parts_at room) entered.1 (in_bracket ahead))
unfolding first_part
first_stops room around s ahead entered begins reached =
    which_of (is_punct punct.SEMICOLON (kind_ahead (in_bracket ahead))) (λ ends. calm_of (next_in later_is_quiet (no_part (in_bracket ahead)) entered.1 (in_bracket ahead))) (λ goes_on.
    which_of (begins_statement (kind_ahead (in_bracket ahead)) || begins_no_object (kind_ahead (in_bracket ahead))) (λ other. calm_of (quiet_in later_is_quiet refl)) (λ plain.
    leads_of (to_first_part begins goes_on plain) reached (twice_behind ahead) (plain_stops room entered.1 (in_bracket ahead))))

second_stops : (room : ℕ) (around : Around) (s : CxxState) (ahead : Ahead) (entered : Unit {0} × CxxState) (first : CxxTree) (t : CxxState) (rest : Ahead) → BeginsFor s ahead entered → Gives (first_part (parts_at room)) entered.1 (in_bracket ahead) first t rest → IsBehind s t → EndsIn ahead.tokens rest.tokens
    → From (an_unlabelled_statement (suc room) around) s ahead t rest (second_part (parts_at room) t rest)
unfolding second_part some_condition parts_at
second_stops room around s ahead entered first t rest begins is reached stands =
    which_of (is_punct punct.SEMICOLON (kind_ahead rest)) (λ ends. calm_of (next_in later_is_quiet (no_part rest) t rest)) (λ goes_on.
    then_quiet _ (leads_of (to_second_part begins is goes_on) reached stands (condition_stops room t rest)) (λ tree state rest.
    then_in later_is_quiet (ask_in rest (become_tells later_is_quiet to_bool tree state rest)) (λ value state rest.
    then_in later_is_quiet (tokens_in later_is_quiet (punct_in unit_is_told punct.SEMICOLON) state rest) (λ ended. give_in later_is_quiet value))))

third_stops : (room : ℕ) (around : Around) (s : CxxState) (ahead : Ahead) (entered : Unit {0} × CxxState) (first second : CxxTree) (between t : CxxState) (middle rest : Ahead) → BeginsFor s ahead entered → Gives (first_part (parts_at room)) entered.1 (in_bracket ahead) first between middle → Gives (second_part (parts_at room)) between middle second t rest → IsBehind s t → EndsIn ahead.tokens rest.tokens
    → From (an_unlabelled_statement (suc room) around) s ahead t rest (third_part (parts_at room) t rest)
unfolding third_part some_step parts_at
third_stops room around s ahead entered first second between t middle rest begins is is_second reached stands =
    which_of (is_punct punct.RIGHT_PARENTHESIS (kind_ahead rest)) (λ ends. calm_of (next_in later_is_quiet (no_part rest) t rest)) (λ goes_on.
    then_quiet _ (leads_of (to_third_part begins is is_second goes_on) reached stands (step_stops room t rest)) (λ tree state rest.
    then_in later_is_quiet (tokens_in later_is_quiet (punct_in unit_is_told punct.RIGHT_PARENTHESIS) state rest) (λ closed. give_in later_is_quiet tree)))

loop_parts_stop : (room : ℕ) (around : Around) (s : CxxState) (ahead : Ahead) → is_keyword keyword.FOR (kind_ahead ahead) ≡ true → IsOpened ahead → InBlock (an_unlabelled_statement room around) s ahead s (in_bracket ahead) ((within parts_at room).loop_parts s (in_bracket ahead))
unfolding within loop_parts_at parts_at
loop_parts_stop zero around s ahead word opens = tells_stop (Limited Nesting) (quiet_told within_part (an_unlabelled_statement zero around) s ahead (Limited Nesting) refl)
loop_parts_stop (suc room) around s ahead word opens =
    enter_of _ (λ entered enters block.
    let begins : BeginsFor s ahead entered = record { word = word; opens = opens; enters = enters } in
    let reached = block_reached s entered.1 block in
    stays_of block (then_of _ (first_stops room around s ahead entered begins reached) (λ first is later stands.
    let reached = behind_later s entered.1 first.state reached (behind_by_later entered.1 first.state later) in
    let stands = ends_later ahead.tokens (in_bracket ahead).tokens first.rest.tokens (twice_behind ahead) stands in
    then_of _ (second_stops room around s ahead entered first.value first.state first.rest begins is reached stands) (λ second is_second later ends.
    let reached = behind_later s first.state second.state reached (behind_by_later first.state second.state later) in
    let stands = ends_later ahead.tokens first.rest.tokens second.rest.tokens stands ends in
    then_quiet _ (third_stops room around s ahead entered first.value second.value first.state second.state first.rest second.rest begins is is_second reached stands) (λ third. give_in later_is_quiet (first.value ∷ second.value ∷ third ∷ []))))))

for_stops : (room : ℕ) → InnerStops room → (around : Around) (s : CxxState) (ahead : Ahead) → is_keyword keyword.FOR (kind_ahead ahead) ≡ true → Inside (an_unlabelled_statement room around) s ahead (for_in (parts_at room) (within parts_at room) around s ahead)
unfolding for_in
for_stops room inner around s ahead word =
    inside (past_of (punct_of punct.LEFT_PARENTHESIS _ (λ opens.
    then_entered_of _ (loop_parts_stop room around s ahead word opens) (λ all is first stands.
    loop_stops room inner production.for ahead all.value around s all.state all.rest (behind_by_later s s (later_here s)) first (ends_later ahead.tokens (in_bracket ahead).tokens all.rest.tokens (twice_behind ahead) stands) (behind_for word opens is)))))

-- ---- statements without labels

answer_stops : (room : ℕ) (around : Around) (s : CxxState) (ahead : Ahead) → is_keyword keyword.RETURN (kind_ahead ahead) ≡ true → From (an_unlabelled_statement room around) s ahead s (behind ahead) (answer (parts_at room) s (behind ahead))
unfolding answer some_answer parts_at
answer_stops room around s ahead word =
    which_of (is_punct punct.SEMICOLON (kind_ahead (behind ahead))) (λ ends. calm_of (next_in later_is_quiet [] s (behind ahead))) (λ goes_on.
    then_quiet _ (leads_of (to_answer word goes_on) (behind_by_later s s (later_here s)) (behind_stands ahead) (whole_expression_stops room s (behind ahead))) (λ tree state rest.
    then_in later_is_quiet (ask_in rest (become_tells later_is_quiet to_result tree state rest)) (λ value state rest.
    then_in later_is_quiet (tokens_in later_is_quiet (punct_in unit_is_told punct.SEMICOLON) state rest) (λ ended. give_in later_is_quiet (value ∷ [])))))

return_stops : (room : ℕ) (around : Around) (s : CxxState) (ahead : Ahead) → is_keyword keyword.RETURN (kind_ahead ahead) ≡ true → Inside (an_unlabelled_statement room around) s ahead (return_in (parts_at room) around s ahead)
unfolding return_in
return_stops room around s ahead word =
    inside (past_of (then_quiet _ (answer_stops room around s ahead word) (λ value state rest.
    then_in later_is_quiet (looked_in later_is_quiet state rest) (λ to. give_in later_is_quiet (statement_tree production.return value ahead to, around)))))

or_no : (a b : Bool) → a ≡ false → b ≡ false → (a || b) ≡ false
or_no true b one two = one
or_no false b one two = two

or_left : (a b : Bool) → a ≡ true → (a || b) ≡ true
or_left true b is = refl
or_left false b is = absurd cc

or_right : (a b : Bool) → b ≡ true → (a || b) ≡ true
or_right true b is = refl
or_right false b is = is

block_leads : (room : ℕ) (around : Around) (s : CxxState) (ahead : Ahead) → is_punct punct.LEFT_BRACE (kind_ahead ahead) ≡ true → LeadsToBlock (an_unlabelled_statement room around) room around s ahead
block_leads zero around s ahead brace = tt
block_leads (suc room) around s ahead brace = λ entered is. to_block brace is

unlabelled_stops : (room : ℕ) → InnerStops room → (around : Around) (s : CxxState) (ahead : Ahead) → Stops (an_unlabelled_statement room around) s ahead (unlabelled_of room around s ahead)
unfolding unlabelled_in keyword_in flat_in plain_in
unlabelled_stops room inner around s ahead =
    let k = kind_ahead ahead in
    let has_if = is_keyword keyword.IF k in
    let has_switch = is_keyword keyword.SWITCH k in
    let has_while = is_keyword keyword.WHILE k in
    whole_stops (λ fault is. is) (
    which_in (is_punct punct.LEFT_BRACE k) (λ brace. block_stops room inner around s ahead (block_leads room around s ahead brace)) (λ no_brace.
    which_in (is_punct punct.SEMICOLON k) (λ ends. calm (empty_in_tells later_is_quiet around s ahead)) (λ no_end.
    which_in has_if (λ word. if_stops room inner around s ahead (or_left has_if (has_switch || has_while) word) word) (λ no_if.
    which_in has_switch (λ word. switch_stops room inner around s ahead (or_right has_if (has_switch || has_while) (or_left has_switch has_while word)) word) (λ no_switch.
    which_in has_while (λ word. while_stops room inner around s ahead (or_right has_if (has_switch || has_while) (or_right has_switch has_while word)) word) (λ no_while.
    which_in (is_keyword keyword.DO k) (λ word. do_stops room inner around s ahead word) (λ no_do.
    which_in (is_keyword keyword.FOR k) (λ word. for_stops room inner around s ahead word) (λ no_for.
    which_in (is_keyword keyword.BREAK k) (λ word. calm (jump_tells later_is_quiet (codes "break") around.breaks around s ahead)) (λ no_break.
    which_in (is_keyword keyword.CONTINUE k) (λ word. calm (jump_tells later_is_quiet (codes "continue") around.in_loop around s ahead)) (λ no_continue.
    which_in (is_keyword keyword.RETURN k) (λ word. return_stops room around s ahead word) (λ no_return.
    then_calm (leads_here (to_plain_statement (or_no _ _ no_brace (or_no _ _ no_end (or_no _ _ no_if (or_no _ _ no_switch (or_no _ _ no_while (or_no _ _ no_do (or_no _ _ no_for (or_no _ _ no_break (or_no _ _ no_continue no_return)))))))))) (plain_stops room s ahead))
    (λ tree. give_in later_is_quiet (tree, around)))))))))))))

-- ---- statements

each_stops : (room : ℕ) → InnerStops room → EachStops room
unfolding statement_in
each_stops room inner around s ahead =
    whole_stops (λ fault is. is) (then_from _ (leads_here in_labels (labels_stop room around s ahead)) (λ labels is later stands.
    then_calm (leads_in (behind_labels is) later stands (unlabelled_stops room inner labels.value.1 labels.state labels.rest)) (labelled_tells later_is_quiet ahead labels.value.0)))

all_stop : (room : ℕ) → EachStops room
all_stop zero = each_stops zero tt
all_stop (suc room) = each_stops (suc room) (all_stop room)

-- what stops a body is true where its reading stops
pub body_stops : (room : ℕ) (s : CxxState) (ahead : Ahead) → Stops (a_body room) s ahead (body_of room s ahead)
unfolding body_at
body_stops room s ahead = whole_stops (λ fault is. is) (then_calm (leads_here in_body (statements_stop room (all_stop room) nothing_around s ahead)) (λ inside_it. give_in later_is_quiet inside_it.0))
