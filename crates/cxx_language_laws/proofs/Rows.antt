-- Worked units with expressions: the words of their plain forms, and the faults of others.
use Rattle.std.specs.Prelude.{ℕ, ◌≡◌, refl, List, [], ◌∷◌, map, flat_map, Option, Some, None, Result, Ok, Err, codes}
use Rattle.cxx_model.specs.declared.fault.FaultText.{FaultText}
use Rattle.cxx_model.specs.declared.fault.FaultText.TheVariants as says
use Rattle.cxx_model.specs.declared.fault.LeftOut.TheVariants as form
use Rattle.cxx_model.specs.declared.place.Place.{Place}
use Rattle.cxx_model.specs.declared.token.Token.{Token}
use Rattle.cxx_model.specs.Printing.Names.{printed_name}
use Rattle.cxx_model.specs.Stops.{Answer, Faulty, Limited}
use Rattle.cxx_model.specs.Text.Lexemes.{lexemes}
use Rattle.cxx_model.specs.Text.Tokens.{Unread, tokens_of}
use Rattle.cxx_form.specs.Order.{lines, names_of_text}
use Rattle.cxx_reading.specs.Units.{CxxReading}
use Rattle.cxx_reading.specs.Words.{literal_word}
use Rattle.cxx_form.specs.Text.{words_on}
use Rattle.cxx_language.specs.Units.{unit_reading}
use Rattle.cxx_model.specs.Choice.Better.{is_better}
use Rattle.cxx_model.specs.Choice.Standard.{standard_sequence as standard_sequence_of_standard}
use Rattle.cxx_model.specs.Choice.StandardOrder.{compare}
use Rattle.cxx_model.specs.Facts.Pending.{is_pending}
use Rattle.cxx_model.specs.Printing.Names.{stem, printed_name as printed_name_of_names}
use Rattle.cxx_model.specs.Printing.Reports.{report, limit_report}
use Rattle.cxx_model.specs.Text.Spelling.{keywords, alternatives, operators, digraphs, word_kind, number_kind, literal as literal_of_spelling, hash, operator, slash, percent, spelling_of, literal_type, literal_value, piece_length}
use Rattle.cxx_model.specs.Text.Tokens.{longest_within, front, tokens_from, tokens_of as tokens_of_of_tokens, lengths_from, string_length}
use Rattle.cxx_meaning.specs.Conversions.Arithmetic.{usual}
use Rattle.cxx_meaning.specs.Conversions.BuiltIn.{follow, is_stepped, steps_to, before, after, unary_by, unary_family_result, unary_result, beside_integer, subscripted, added_to, added as added_of_built_in, distance, subtracted, compared_pointers, compared_by, assigned, binary_by as binary_by_of_built_in, compound_on, compound, compound_result, family_result, binary_result, built_in_result}
use Rattle.cxx_meaning.specs.Conversions.Casts.{const_cast, goes_down, static_pointers, static_kinds, static_objects, static_only, static_unless, static_cast, reinterpret_cast, cast_operand, added as added_of_casts, between, cast_between, cast_by_two, cast_else, cast_unless, cast as cast_of_casts}
use Rattle.cxx_meaning.specs.Conversions.Conditional.{shared_pointers, arms_of_arithmetic, arms_of_enumeration, arms_of_pointer, arms_of_void, arms_of, conditional as conditional_of_conditional}
use Rattle.cxx_meaning.specs.Conversions.Derived.{is_derived}
use Rattle.cxx_meaning.specs.Conversions.Enumerations.{promoted}
use Rattle.cxx_meaning.specs.Conversions.Order.{is_proper_part, is_no_pointer_to_bool, way_of_pointers, way_of_classes, way_of, is_shorter, is_nearer, has_nearer_class, is_less_qualified, refers_to_less, is_bound_to_less, order_of}
use Rattle.cxx_meaning.specs.Conversions.Pointers.{is_complete_class, is_complete_object, both_ready, common_class, common_other, common_pointer}
use Rattle.cxx_meaning.specs.Conversions.Sizes.{extent_of, member_extent, enumerations_in, class_extent, added as added_of_sizes, layouts_of, class_in, object_extent, size_of}
use Rattle.cxx_meaning.specs.Conversions.Standard.{pointer_to_class, pointer_to_other, steps_of_pointers, step_of_enumeration, is_text as is_text_of_standard, steps_of_arithmetic, steps_of_enumeration, steps_of_pointer, steps_of_kinds, value_step, class_step as class_step_of_standard, steps_to_scalar, steps_to_class, steps_by_kinds, steps_of_value, related_kinds, related, steps_of_related, steps_of_unrelated, steps_by_relation, steps_of_reference, steps_between, standard_sequence as standard_sequence_of_standard_2}
use Rattle.cxx_computed.specs.Values.{converted_value, value_in, unary_value, binary_value}
use Rattle.cxx_computed.specs.Formulas.{constant_of, needed, computed}
use Rattle.cxx_constant.specs.Constants.{part_of, constant as constant_of_constants}
use Rattle.cxx_constant.specs.Forms.{value_of_literal, operator_number, form_of}
use Rattle.cxx_reading.specs.Choosing.{candidates as candidates_of_choosing, rated as rated_of_choosing, chosen as chosen_of_choosing, refusals as refusals_of_choosing, ties as ties_of_choosing, choice as choice_of_choosing}
use Rattle.cxx_reading.specs.Constants.{no_expression}
use Rattle.cxx_reading.specs.Declarators.{declared_type, refused_in}
use Rattle.cxx_reading.specs.Declaring.{free_object, added as added_of_declaring, free, declare, declare_synonym, undefined, declare_object, define_object, define_declared, enter_parameters, leave_parameters, declare_parameter, declare_enumeration, declare_value, declare_enumerator, end_enumeration, kind_here, type_here, elaborated_here}
use Rattle.cxx_reading.specs.Plain.{names_of_text as names_of_text_of_plain, plain_text as plain_text_of_plain}
use Rattle.cxx_reading.specs.Reads.{repeat}
use Rattle.cxx_reading.specs.Seen.{declared_in, sought_from, found, found_types}
use Rattle.cxx_reading.specs.Shapes.{suffixes_by, bracket_step, brackets_passed, key_shape, name_shape, keyword_shape, run_step, run_passed, begins_type, is_abstract_list, prefix_step, prefix_passed, list_shape, suffix_step, declarator_passed, default_step, default_passed, piece_step, parameters_shape}
use Rattle.cxx_reading.specs.Specifiers.{storage_step, inline_step, const_step, volatile_step, word_step, named_step, elaborated_step, enumeration_body, defined_step, list_step, type_name_step, named_list_step, key_step, enumeration_step, class_named_step, class_behind, class_name_step, class_key_step, class_step as class_step_of_specifiers, other_step, keyword_step, specifier_step, typed, specifiers_from}
use Rattle.cxx_reading.specs.Syntax.{cv_step, cv_at, array_suffix, exceptions_at, function_suffix, bracket_suffix, suffix_at, suffixes_at, qualified_part, name_part, grouped_part, bracket_part, star_part, ampersand_part, declarator_at, pointed_at, referred_at, grouped_at, parameter_fits, default_at, parameter_at, list_ended, comma_passed, parameter_ended, parameter_step, parameters_over, some_parameters, list_at, parameters_at, no_value, enumerator_ended}
use Rattle.cxx_reading.specs.TextOrder.{lines as lines_of_text_order, text_order, text_name}
use Rattle.cxx_reading.specs.Tokens.{passed_from, no_part_there, path_taken, kind_of_name, is_punct, is_keyword, is_name, is_end, is_number, punct_taken, no_declaration, no_declarator}
use Rattle.cxx_reading.specs.Units.{declared_fits, complete_object, uninitialized, synonym_ended, declared_synonym, declarator_ended, nothing_declared, linkage_step, linkages_passed, linkage_list, inside_step}
use Rattle.cxx_strings.specs.SideBySide.{strings_from, side_by_side}
use Rattle.cxx_phrases.specs.Arguments.{argument_ended as argument_ended_of_arguments, argument_step as argument_step_of_arguments, arguments_over as arguments_over_of_arguments, some_arguments, arguments_behind, arguments_at}
use Rattle.cxx_phrases.specs.Brackets.{opened_step, opened_over, opened_passed, closed_step, closed_passed, name_closed, name_opened, called_name, cast_passed, begins_cast}
use Rattle.cxx_phrases.specs.Initializers.{clause_comma, clause_ended, clause_step, some_clauses, clauses_behind, clauses_at, braces_at, clause_at, copy_at, aggregate_at, equals_at, list_behind, direct_at, initializer_at as initializer_at_of_initializers_2}
use Rattle.cxx_phrases.specs.Knot.{type_declared, type_id_fits, type_id_at, type_passed_at}
use Rattle.cxx_phrases.specs.Levels.{no_member, member_operand, operation, operation_step, operations_at, operations_part, binary_at, conditional_part, conditional_by, conditional_at, assignment_part, assignment_by, assignment_behind, assignment_at, comma_part, comma_step, commas_at, whole_at}
use Rattle.cxx_phrases.specs.Operands.{call_step, subscript_step, step_step, selected_name, selected_step, postfix_step, postfixes_at, cast_at as cast_at_of_operands, parenthesis_part, cast_or_parenthesis, called_part, called_or_not, bracket_at, prefix_at, size_at, primary_part, operand_at, sized_operand, sized_type, sized_at}
use Rattle.cxx_phrases.specs.Operators.{is_of_level, selects_member, is_assignment, is_prefix, is_step, operator_ahead, is_literal, is_this, is_cast_word, base_of_kind, begins_expression}
use Rattle.cxx_phrases.specs.Primary.{literal_part, this_part, name_at, called_at, named_call as named_call_of_primary, value_name_at, functional_cast, functional_at, type_name_at, named_at, word_at, cast_opened, cast_closed, cast_word_at, parenthesis_at, primary_at}
use Rattle.cxx_expr.specs.Calls.{fallback_more, fallbacks, chosen_call, function_call, through_signature, through, value_call, called, name_call, based_on, based, implied_chosen, implied_call, member_converted, member_chosen, member_function_call, member_among, member_in as member_in_of_calls, member_call, call}
use Rattle.cxx_expr.specs.Casts.{explicit_found, static_found, explicit_built, explicit, static_built, static_cast_of, constant as constant_of_casts, reinterpreted, cast_as, cast as cast_of_casts_2, zero, several, functional}
use Rattle.cxx_expr.specs.Bases.{is_only_base, one_base}
use Rattle.cxx_expr.specs.Converting.{convert_at, convert_known, convert, convert_more, convert_each}
use Rattle.cxx_expr.specs.Elaborating.{parenthesis, by_production, elaborate}
use Rattle.cxx_expr.specs.Initializing.{part, array_whole, value_whole, initialize}
use Rattle.cxx_expr.specs.Literals.{is_text as is_text_of_literals, text_length, text_operand, operand_of_literal, literal as literal_of_literals}
use Rattle.cxx_expr.specs.Members.{selected_by, placed_on, selected_noted, selected_in, selected, pointed, arrow}
use Rattle.cxx_expr.specs.Steps.{declaring, is_static_at, step as step_of_steps}
use Rattle.cxx_this.specs.This.{function_round, class_at as class_at_of_this, this_in}
use Rattle.cxx_expr.specs.Implied.{this, object_for, member_named, named_here, name}
use Rattle.cxx_expr.specs.Names.{is_function_at as is_function_at_of_names, meant_by, static_class, named}
use Rattle.cxx_expr.specs.Operands.{judged, judged_to, judged_beside}
use Rattle.cxx_expr.specs.Operators.{operator_in, built, unconverted, own_meaning, prefix_built, prefix_asked, prefix, step_built, step, operand_beside, binary_built, binary_asked, binary_by as binary_by_of_operators, arms_built, arms, conditional_built, conditional as conditional_of_operators}
use Rattle.cxx_expr.specs.SizesOf.{type_of_operand, measured, size}
use Rattle.cxx_overload.specs.Calls.{decided}
use Rattle.cxx_overload.specs.Candidates.{candidates as candidates_of_candidates, candidates_within}
use Rattle.cxx_overload.specs.Choices.{chosen as chosen_of_choices, refusals as refusals_of_choices, ties as ties_of_choices, choice as choice_of_choices}
use Rattle.cxx_overload.specs.Viability.{rated_one, rated as rated_of_viability}
use Rattle.cxx_answers.specs.Answers.{name_here, bound_here, call_here, size_here, is_null_here, constant_here as constant_here_of_answers_here, fallback_here, questions}
use Rattle.cxx_answers.specs.Defaults.{begin_default, end_default, is_list_of_class, is_default_later, offer_default, begin_later, end_later}
use Rattle.cxx_answers.specs.Members.{member_here, naming_here, qualifier_here}
use Rattle.cxx_paths.specs.Behind.{region_behind}
use Rattle.cxx_declare.specs.Functions.{declare_function}
use Rattle.cxx_language.specs.Answers.{asking}
use Rattle.cxx_language.specs.Known.{noted, note_known}
use Rattle.cxx_language.specs.Objects.{some_elements, initialized_part, without_initializer, defined_part as defined_part_of_objects_here, defined_later as defined_later_of_objects_here, extern_part as extern_part_of_objects_here}
use Rattle.cxx_knot.specs.Readers.{valued as valued_of_readers_here, bound_value as bound_value_of_readers_here, bound_at as bound_at_of_readers_here, value_at as value_at_of_readers_here, enumerator_at as enumerator_at_of_readers_here, enumerator_step as enumerator_step_of_readers_here, enumerators_at as enumerators_at_of_readers_here, fallback_now, fallback_later, fallback_at, both}
use Rattle.cxx_language.specs.Made.{extern_object as extern_object_of_units_here, defined_object as defined_object_of_units_here}
use Rattle.cxx_language.specs.Units.{function_declared, declared_function, init_declarator_at as init_declarator_at_of_units_here, declarator_step as declarator_step_of_units_here, declarators_at as declarators_at_of_units_here, declarators_of as declarators_of_of_units_here, simple_declaration_at as simple_declaration_at_of_units_here, plain_declaration_at as plain_declaration_at_of_units_here, linked_one as linked_one_of_units_here, declaration_by as declaration_by_of_units_here, linkage_opened as linkage_opened_of_units_here, declaration_at as declaration_at_of_units_here, unit_step as unit_step_of_units_here, unit_reading as unit_reading_of_units_here}
use Rattle.cxx_heads.specs.Heads.{name_step, name_passed, list_step as list_step_of_heads_of_heads, exceptions_step, suffix_step as suffix_step_of_heads_of_heads, suffixes_passed, closing_step, closed_passed as closed_passed_of_heads_of_heads, bound_step, bounds_passed, declarator_begins, specifiers_begin, is_declaration, head_at, type_word_step, types_alone, initializer_follows, condition_begins, is_declared_condition}
use Rattle.cxx_statements.specs.Statements.{condition_at, last_condition_at, expression_statement, declaration_statement, plain_statement, begins_statement, begins_no_object, first_part, some_condition, second_part, some_step, third_part, loop_parts_at, block_in, begun, sub_in, else_part, other_part, if_ended, if_in, switch_in, loop_ended, while_in, do_in, for_in, jump_taken, jump_in, some_answer, answer, return_in, fresh_label, case_of, default_taken, default_of, label_in, label_at, is_label, label_step, labels_in, empty_statement, empty_in, plain_in, flat_in, keyword_in, unlabelled_in, labelled, statement_in, sub_statement_at, statement_step, statements_in, statements_at, within, body_at}
use Rattle.cxx_language.specs.Blocks.{local_declarator_at, local_step, local_declarators_at, local_declarators_of, local_declaration_at, condition_value, condition_part, keep_tested, tested_object, tested_declarator_at, declared_condition_at}
use Rattle.cxx_language.specs.Statements.{statement_head, set_in_step, step_at, condition_at as condition_at_of_statements_of_language, tested, switched, labelled as labelled_of_statements_of_language, returned, parts_at}
use Rattle.cxx_language.specs.Bodies.{statements_within, complete_head, function_body}
use Rattle.cxx_language.specs.Units.{function_ended as function_ended_of_units_of_language}
use Rattle.cxx_reading.specs.Declaring.{enter_block, leave_block, begin_body, end_body}
use Rattle.cxx_form.specs.Text.{plain_text, printed_calls, functions_of_text}
use Rattle.cxx_form.specs.Definitions.{class_declaring, definition_words}
use Rattle.cxx_form.specs.Order.{lines as lines_of_order_of_form, text_order as text_order_of_order_of_form, names_of_text as names_of_text_of_order_of_form}
use Rattle.cxx_statement_text.specs.Calls.{statement_calls}
use Rattle.cxx_statement_text.specs.Statements.{statement_lines, body_lines}
use Rattle.cxx_statement_text.specs.Written.{object_line_at, statement_at, lines_at, lines_or_empty_at}
use Rattle.cxx_reading.specs.Linked.{home_of, linked_in, clash_in_space, clash_apart, first_clash}
use Rattle.cxx_reading.specs.Givers.{giver, with_givers}
use Rattle.cxx_reading.specs.Spaces.{opened_before, unnamed_before, open_again, open_new, open_space, declare_unnamed, new_unnamed, open_unnamed, close_space, declare_alias, declare_directive, space_here}
use Rattle.cxx_reading.specs.Declaring.{free_linked, first_member_object, first_member_function, declare_linked_object}
use Rattle.cxx_meaning.specs.Lookups.Sightings.{is_by_friend, sighting_in, standing, unhidden, least_of, named_by, entities, is_function_at, odd_pair, found_of}
use Rattle.cxx_meaning.specs.Lookups.Ordinary.{standing_shown, sightings_at, found_in_scope, ordinary_in}
use Rattle.cxx_meaning.specs.Lookups.Directives.{nominates, reached, shows}
use Rattle.cxx_meaning.specs.Lookups.Scopes.{up, first_space, first_common}
use Rattle.cxx_meaning.specs.Lookups.Gathered.{with_scopes, spread, with_facts}
use Rattle.cxx_meaning.specs.Lookups.Associated.{with_parts, followed, everything, parts, collected, associated, standing_in_each, befriended, adl}
use Rattle.cxx_declare.specs.Outside.{enter_member, agree_here, declare_again as declare_again_of_outside, scope_of_class}
use Rattle.cxx_declare.specs.OutsideClasses.{enter_class as enter_class_of_outside}
use Rattle.cxx_reading.specs.Paths.{sought_in, holder, region_by, region_of, space_region_of, using_region_of, found_of as found_of_paths}
use Rattle.cxx_reading.specs.Usings.{brought_in, bring_each, bring_here}
use Rattle.cxx_paths.specs.Using.{class_of_part, member_region_of}
use Rattle.cxx_declare.specs.MemberUsings.{bring_members, bring_member}
use Rattle.cxx_meaning.specs.Lookups.Qualified.{leads_to, searched, standing_in}
use Rattle.cxx_language.specs.Spaces.{brought_name_at, using_declaration_at, member_using_at, space_name_at, alias_at, behind_word, local_alias_at, space_opened, behind_namespace, namespace_at, directive_at, using_at}
use Rattle.cxx_language.specs.Blocks.{local_function, linked_ended, local_extern, simple_local_at, tested_function}
use Rattle.cxx_answers.specs.Answers.{functions_of_call}
use Rattle.cxx_language.specs.Values.{constant_part, member_value}
use Rattle.cxx_language.specs.Classes.{head_at as head_at_of_classes, class_name, no_bit_field, whole_member, data_member, synonym_member, declared_member, named_member_at, member_at, member_step, members_by, nested_or_not, member_specifiers_by, member_declaration_by, access_step, declared_step, using_step, list_step_by as list_step_of_classes, list_at as list_at_of_classes, no_virtual, base_access, base_taken, base_at, base_ended, base_step, base_list, bases_at, no_anonymous_union, class_by, class_at, class_or_not, declaration_specifiers, declared_behind, pure_taken, class_whole}
use Rattle.cxx_language.specs.Later.{member_body, all_read, each_read, waiting_read, body_read, list_there, default_read, later_read, defaults_read}
use Rattle.cxx_later.specs.Defaults.{deferred_step, deferred_passed, defaults_kept}
use Rattle.cxx_later.specs.Passing.{body_later, body_passed, token_passed, passing_step, ends_where, forward_to, forward_step}
use Rattle.cxx_language.specs.Synonyms.{bare_synonym, no_words_behind}
use Rattle.cxx_declare.specs.Bases.{base_named, declare_known, declare_base}
use Rattle.cxx_declare.specs.ClassDefinitions.{enter_class, define_again, define_new, enter_unnamed, begin_unnamed, begin_class, declare_member, added_each, end_class}
use Rattle.cxx_implicit.specs.Members.{implicit_members}
use Rattle.cxx_reading.specs.Classes.{reserved, declare_again, declare_new, declare_class, first_open, open_of, class_named, class_here}
use Rattle.cxx_meaning.specs.Lookups.Member.{clash, declared_in as declared_in_of_member, declares_member, member, member_by, member_in, member_of, members_in, not_redeclared, own_ways, ways, ways_after, with_base}
use Rattle.cxx_subobjects.specs.Paths.{base_paths, subobjects}

spells_by : Answer CxxReading → List (List ℕ)
unfolding function_round class_at_of_this this_in this object_for member_named named_here declaring is_static_at step_of_steps placed_on based_on based region_behind naming_here qualifier_here implied_chosen implied_call is_this this_part function_declared declare_again_of_outside class_declaring convert_at explicit_found static_found is_only_base one_base base_paths subobjects is_better standard_sequence_of_standard compare is_pending stem printed_name_of_names report limit_report keywords alternatives operators digraphs word_kind number_kind literal_of_spelling hash operator slash percent spelling_of literal_type literal_value piece_length longest_within front tokens_from tokens_of_of_tokens lengths_from string_length usual follow is_stepped steps_to before after unary_by unary_family_result unary_result beside_integer subscripted added_to added_of_built_in distance subtracted compared_pointers compared_by assigned binary_by_of_built_in compound_on compound compound_result family_result binary_result built_in_result const_cast goes_down static_pointers static_kinds static_objects static_only static_unless static_cast reinterpret_cast cast_operand added_of_casts between cast_between cast_by_two cast_else cast_unless cast_of_casts shared_pointers arms_of_arithmetic arms_of_enumeration arms_of_pointer arms_of_void arms_of conditional_of_conditional is_derived promoted is_proper_part is_no_pointer_to_bool way_of_pointers way_of_classes way_of is_shorter is_nearer has_nearer_class is_less_qualified refers_to_less is_bound_to_less order_of is_complete_class is_complete_object both_ready common_class common_other common_pointer extent_of member_extent enumerations_in class_extent added_of_sizes layouts_of class_in object_extent size_of pointer_to_class pointer_to_other steps_of_pointers step_of_enumeration is_text_of_standard steps_of_arithmetic steps_of_enumeration steps_of_pointer steps_of_kinds value_step class_step_of_standard steps_to_scalar steps_to_class steps_by_kinds steps_of_value related_kinds related steps_of_related steps_of_unrelated steps_by_relation steps_of_reference steps_between standard_sequence_of_standard_2 converted_value value_in unary_value binary_value constant_of needed computed part_of constant_of_constants value_of_literal operator_number form_of candidates_of_choosing rated_of_choosing chosen_of_choosing refusals_of_choosing ties_of_choosing choice_of_choosing no_expression declared_type refused_in added_of_declaring free declare declare_synonym declare_function undefined declare_object free_object define_object define_declared enter_parameters leave_parameters declare_parameter declare_enumeration declare_value declare_enumerator end_enumeration kind_here type_here elaborated_here names_of_text_of_plain plain_text_of_plain repeat declared_in sought_from found found_types bracket_step brackets_passed key_shape name_shape keyword_shape run_step run_passed begins_type is_abstract_list prefix_step prefix_passed list_shape suffix_step declarator_passed default_step default_passed piece_step parameters_shape storage_step inline_step const_step volatile_step word_step named_step elaborated_step enumeration_body defined_step list_step key_step enumeration_step class_step_of_specifiers other_step keyword_step specifier_step typed specifiers_from cv_step cv_at array_suffix exceptions_at function_suffix bracket_suffix suffix_at suffixes_at name_part grouped_part bracket_part star_part ampersand_part declarator_at pointed_at referred_at grouped_at parameter_fits default_at parameter_at list_ended comma_passed parameter_ended parameter_step parameters_over some_parameters list_at parameters_at no_value enumerator_ended lines_of_text_order text_order text_name is_punct is_keyword is_name is_end is_number punct_taken no_declaration no_declarator declared_fits complete_object uninitialized declared_function synonym_ended declared_synonym bare_synonym no_words_behind declarator_ended nothing_declared linkage_step linkages_passed linkage_list inside_step strings_from side_by_side argument_ended_of_arguments argument_step_of_arguments arguments_over_of_arguments some_arguments arguments_behind arguments_at opened_step opened_over opened_passed closed_step closed_passed name_closed name_opened called_name cast_passed begins_cast clause_comma clause_ended clause_step some_clauses clauses_behind clauses_at braces_at clause_at copy_at aggregate_at equals_at list_behind direct_at initializer_at_of_initializers_2 type_declared type_id_fits type_id_at type_passed_at no_member member_operand operation operation_step operations_at operations_part binary_at conditional_part conditional_by conditional_at assignment_part assignment_by assignment_behind assignment_at comma_part comma_step commas_at whole_at call_step subscript_step step_step postfix_step postfixes_at cast_at_of_operands parenthesis_part cast_or_parenthesis called_part called_or_not bracket_at prefix_at size_at primary_part operand_at sized_operand sized_type sized_at is_of_level selects_member is_assignment is_prefix is_step selected_name selected_step selected_by selected_noted selected_in selected is_function_at_of_names member_converted member_chosen member_function_call member_among member_in_of_calls member_call pointed arrow member_here operator_ahead is_literal is_cast_word base_of_kind begins_expression literal_part name_at called_at named_call_of_primary value_name_at functional_cast functional_at type_name_at named_at word_at cast_opened cast_closed cast_word_at parenthesis_at primary_at fallback_more fallbacks chosen_call function_call through_signature through value_call called name_call call explicit_built explicit static_built static_cast_of constant_of_casts reinterpreted cast_as cast_of_casts_2 zero several functional convert_known convert convert_more convert_each parenthesis by_production elaborate part array_whole value_whole initialize is_text_of_literals text_length text_operand operand_of_literal literal_of_literals meant_by static_class named name judged judged_to judged_beside operator_in built unconverted own_meaning prefix_built prefix_asked prefix step_built step operand_beside binary_built binary_asked binary_by_of_operators arms_built arms conditional_built conditional_of_operators type_of_operand measured size decided candidates_of_candidates candidates_within chosen_of_choices refusals_of_choices ties_of_choices choice_of_choices rated_one rated_of_viability name_here bound_here call_here size_here is_null_here constant_here_of_answers_here fallback_here questions is_list_of_class is_default_later offer_default begin_later end_later begin_default end_default asking noted note_known some_elements initialized_part without_initializer defined_part_of_objects_here defined_later_of_objects_here extern_part_of_objects_here valued_of_readers_here bound_value_of_readers_here bound_at_of_readers_here value_at_of_readers_here enumerator_at_of_readers_here enumerator_step_of_readers_here enumerators_at_of_readers_here fallback_now fallback_later fallback_at both extern_object_of_units_here defined_object_of_units_here init_declarator_at_of_units_here declarator_step_of_units_here declarators_at_of_units_here declarators_of_of_units_here simple_declaration_at_of_units_here plain_declaration_at_of_units_here linked_one_of_units_here declaration_by_of_units_here linkage_opened_of_units_here declaration_at_of_units_here unit_step_of_units_here unit_reading_of_units_here name_step name_passed list_step_of_heads_of_heads exceptions_step suffix_step_of_heads_of_heads suffixes_passed closing_step closed_passed_of_heads_of_heads bound_step bounds_passed declarator_begins specifiers_begin is_declaration head_at type_word_step types_alone initializer_follows condition_begins is_declared_condition condition_at last_condition_at expression_statement declaration_statement plain_statement begins_statement begins_no_object first_part some_condition second_part some_step third_part loop_parts_at block_in begun sub_in else_part other_part if_ended if_in switch_in loop_ended while_in do_in for_in jump_taken jump_in some_answer answer return_in fresh_label case_of default_taken default_of label_in label_at is_label label_step labels_in empty_statement empty_in plain_in flat_in keyword_in unlabelled_in labelled statement_in sub_statement_at statement_step statements_in statements_at within body_at local_declarator_at local_step local_declarators_at local_declarators_of local_declaration_at condition_value condition_part keep_tested tested_object tested_declarator_at declared_condition_at statement_head set_in_step step_at condition_at_of_statements_of_language tested switched labelled_of_statements_of_language returned parts_at statements_within complete_head function_body function_ended_of_units_of_language enter_block leave_block begin_body end_body plain_text printed_calls functions_of_text definition_words lines_of_order_of_form text_order_of_order_of_form names_of_text_of_order_of_form statement_calls statement_lines body_lines object_line_at statement_at lines_at lines_or_empty_at home_of linked_in clash_in_space clash_apart first_clash giver with_givers opened_before unnamed_before open_again open_new open_space declare_unnamed new_unnamed open_unnamed close_space declare_alias declare_directive space_here free_linked first_member_object first_member_function declare_linked_object is_by_friend sighting_in standing unhidden least_of named_by entities is_function_at odd_pair found_of standing_shown sightings_at found_in_scope ordinary_in nominates reached shows up first_space first_common with_scopes spread with_facts with_parts followed everything parts collected associated standing_in_each befriended adl space_name_at alias_at behind_word local_alias_at space_opened behind_namespace namespace_at directive_at using_at local_function linked_ended local_extern simple_local_at tested_function functions_of_call type_name_step named_list_step suffixes_by passed_from no_part_there path_taken kind_of_name qualified_part enter_member scope_of_class agree_here sought_in holder region_by region_of space_region_of using_region_of found_of_paths brought_in bring_each bring_here leads_to searched standing_in brought_name_at using_declaration_at head_at_of_classes class_name enter_class_of_outside no_bit_field whole_member constant_part member_value data_member declared_behind member_body body_later body_passed token_passed passing_step deferred_step deferred_passed defaults_kept pure_taken synonym_member declared_member named_member_at member_at member_step members_by nested_or_not member_specifiers_by member_declaration_by access_step declared_step list_step_of_classes list_at_of_classes class_at no_virtual base_access base_taken base_at base_ended base_step base_list bases_at no_anonymous_union class_by class_whole all_read default_read later_read defaults_read each_read waiting_read body_read list_there ends_where forward_to forward_step class_or_not declaration_specifiers base_named declare_known declare_base enter_class define_again define_new enter_unnamed begin_unnamed begin_class declare_member added_each end_class implicit_members clash declared_in_of_member declares_member member member_by member_in member_of members_in not_redeclared own_ways ways ways_after with_base class_named_step class_behind class_name_step class_key_step reserved declare_again declare_new declare_class first_open open_of class_named class_here class_of_part member_region_of bring_members bring_member member_using_at using_step
spells_by (Ok reading) = map (λ word. word.spelling) (flat_map (λ line. flat_map (λ words. words) (words_on (names_of_text reading.state) reading.state.graph line)) (lines reading.state))
spells_by (Err why) = []

spells_tokens : List ℕ → Result (List Token) Unread → List (List ℕ)
unfolding function_round class_at_of_this this_in this object_for member_named named_here declaring is_static_at step_of_steps placed_on based_on based region_behind naming_here qualifier_here implied_chosen implied_call is_this this_part function_declared declare_again_of_outside class_declaring convert_at explicit_found static_found is_only_base one_base base_paths subobjects is_better standard_sequence_of_standard compare is_pending stem printed_name_of_names report limit_report keywords alternatives operators digraphs word_kind number_kind literal_of_spelling hash operator slash percent spelling_of literal_type literal_value piece_length longest_within front tokens_from tokens_of_of_tokens lengths_from string_length usual follow is_stepped steps_to before after unary_by unary_family_result unary_result beside_integer subscripted added_to added_of_built_in distance subtracted compared_pointers compared_by assigned binary_by_of_built_in compound_on compound compound_result family_result binary_result built_in_result const_cast goes_down static_pointers static_kinds static_objects static_only static_unless static_cast reinterpret_cast cast_operand added_of_casts between cast_between cast_by_two cast_else cast_unless cast_of_casts shared_pointers arms_of_arithmetic arms_of_enumeration arms_of_pointer arms_of_void arms_of conditional_of_conditional is_derived promoted is_proper_part is_no_pointer_to_bool way_of_pointers way_of_classes way_of is_shorter is_nearer has_nearer_class is_less_qualified refers_to_less is_bound_to_less order_of is_complete_class is_complete_object both_ready common_class common_other common_pointer extent_of member_extent enumerations_in class_extent added_of_sizes layouts_of class_in object_extent size_of pointer_to_class pointer_to_other steps_of_pointers step_of_enumeration is_text_of_standard steps_of_arithmetic steps_of_enumeration steps_of_pointer steps_of_kinds value_step class_step_of_standard steps_to_scalar steps_to_class steps_by_kinds steps_of_value related_kinds related steps_of_related steps_of_unrelated steps_by_relation steps_of_reference steps_between standard_sequence_of_standard_2 converted_value value_in unary_value binary_value constant_of needed computed part_of constant_of_constants value_of_literal operator_number form_of candidates_of_choosing rated_of_choosing chosen_of_choosing refusals_of_choosing ties_of_choosing choice_of_choosing no_expression declared_type refused_in added_of_declaring free declare declare_synonym declare_function undefined declare_object free_object define_object define_declared enter_parameters leave_parameters declare_parameter declare_enumeration declare_value declare_enumerator end_enumeration kind_here type_here elaborated_here names_of_text_of_plain plain_text_of_plain repeat declared_in sought_from found found_types bracket_step brackets_passed key_shape name_shape keyword_shape run_step run_passed begins_type is_abstract_list prefix_step prefix_passed list_shape suffix_step declarator_passed default_step default_passed piece_step parameters_shape storage_step inline_step const_step volatile_step word_step named_step elaborated_step enumeration_body defined_step list_step key_step enumeration_step class_step_of_specifiers other_step keyword_step specifier_step typed specifiers_from cv_step cv_at array_suffix exceptions_at function_suffix bracket_suffix suffix_at suffixes_at name_part grouped_part bracket_part star_part ampersand_part declarator_at pointed_at referred_at grouped_at parameter_fits default_at parameter_at list_ended comma_passed parameter_ended parameter_step parameters_over some_parameters list_at parameters_at no_value enumerator_ended lines_of_text_order text_order text_name is_punct is_keyword is_name is_end is_number punct_taken no_declaration no_declarator declared_fits complete_object uninitialized declared_function synonym_ended declared_synonym bare_synonym no_words_behind declarator_ended nothing_declared linkage_step linkages_passed linkage_list inside_step strings_from side_by_side argument_ended_of_arguments argument_step_of_arguments arguments_over_of_arguments some_arguments arguments_behind arguments_at opened_step opened_over opened_passed closed_step closed_passed name_closed name_opened called_name cast_passed begins_cast clause_comma clause_ended clause_step some_clauses clauses_behind clauses_at braces_at clause_at copy_at aggregate_at equals_at list_behind direct_at initializer_at_of_initializers_2 type_declared type_id_fits type_id_at type_passed_at no_member member_operand operation operation_step operations_at operations_part binary_at conditional_part conditional_by conditional_at assignment_part assignment_by assignment_behind assignment_at comma_part comma_step commas_at whole_at call_step subscript_step step_step postfix_step postfixes_at cast_at_of_operands parenthesis_part cast_or_parenthesis called_part called_or_not bracket_at prefix_at size_at primary_part operand_at sized_operand sized_type sized_at is_of_level selects_member is_assignment is_prefix is_step selected_name selected_step selected_by selected_noted selected_in selected is_function_at_of_names member_converted member_chosen member_function_call member_among member_in_of_calls member_call pointed arrow member_here operator_ahead is_literal is_cast_word base_of_kind begins_expression literal_part name_at called_at named_call_of_primary value_name_at functional_cast functional_at type_name_at named_at word_at cast_opened cast_closed cast_word_at parenthesis_at primary_at fallback_more fallbacks chosen_call function_call through_signature through value_call called name_call call explicit_built explicit static_built static_cast_of constant_of_casts reinterpreted cast_as cast_of_casts_2 zero several functional convert_known convert convert_more convert_each parenthesis by_production elaborate part array_whole value_whole initialize is_text_of_literals text_length text_operand operand_of_literal literal_of_literals meant_by static_class named name judged judged_to judged_beside operator_in built unconverted own_meaning prefix_built prefix_asked prefix step_built step operand_beside binary_built binary_asked binary_by_of_operators arms_built arms conditional_built conditional_of_operators type_of_operand measured size decided candidates_of_candidates candidates_within chosen_of_choices refusals_of_choices ties_of_choices choice_of_choices rated_one rated_of_viability name_here bound_here call_here size_here is_null_here constant_here_of_answers_here fallback_here questions is_list_of_class is_default_later offer_default begin_later end_later begin_default end_default asking noted note_known some_elements initialized_part without_initializer defined_part_of_objects_here defined_later_of_objects_here extern_part_of_objects_here valued_of_readers_here bound_value_of_readers_here bound_at_of_readers_here value_at_of_readers_here enumerator_at_of_readers_here enumerator_step_of_readers_here enumerators_at_of_readers_here fallback_now fallback_later fallback_at both extern_object_of_units_here defined_object_of_units_here init_declarator_at_of_units_here declarator_step_of_units_here declarators_at_of_units_here declarators_of_of_units_here simple_declaration_at_of_units_here plain_declaration_at_of_units_here linked_one_of_units_here declaration_by_of_units_here linkage_opened_of_units_here declaration_at_of_units_here unit_step_of_units_here unit_reading_of_units_here name_step name_passed list_step_of_heads_of_heads exceptions_step suffix_step_of_heads_of_heads suffixes_passed closing_step closed_passed_of_heads_of_heads bound_step bounds_passed declarator_begins specifiers_begin is_declaration head_at type_word_step types_alone initializer_follows condition_begins is_declared_condition condition_at last_condition_at expression_statement declaration_statement plain_statement begins_statement begins_no_object first_part some_condition second_part some_step third_part loop_parts_at block_in begun sub_in else_part other_part if_ended if_in switch_in loop_ended while_in do_in for_in jump_taken jump_in some_answer answer return_in fresh_label case_of default_taken default_of label_in label_at is_label label_step labels_in empty_statement empty_in plain_in flat_in keyword_in unlabelled_in labelled statement_in sub_statement_at statement_step statements_in statements_at within body_at local_declarator_at local_step local_declarators_at local_declarators_of local_declaration_at condition_value condition_part keep_tested tested_object tested_declarator_at declared_condition_at statement_head set_in_step step_at condition_at_of_statements_of_language tested switched labelled_of_statements_of_language returned parts_at statements_within complete_head function_body function_ended_of_units_of_language enter_block leave_block begin_body end_body plain_text printed_calls functions_of_text definition_words lines_of_order_of_form text_order_of_order_of_form names_of_text_of_order_of_form statement_calls statement_lines body_lines object_line_at statement_at lines_at lines_or_empty_at home_of linked_in clash_in_space clash_apart first_clash giver with_givers opened_before unnamed_before open_again open_new open_space declare_unnamed new_unnamed open_unnamed close_space declare_alias declare_directive space_here free_linked first_member_object first_member_function declare_linked_object is_by_friend sighting_in standing unhidden least_of named_by entities is_function_at odd_pair found_of standing_shown sightings_at found_in_scope ordinary_in nominates reached shows up first_space first_common with_scopes spread with_facts with_parts followed everything parts collected associated standing_in_each befriended adl space_name_at alias_at behind_word local_alias_at space_opened behind_namespace namespace_at directive_at using_at local_function linked_ended local_extern simple_local_at tested_function functions_of_call type_name_step named_list_step suffixes_by passed_from no_part_there path_taken kind_of_name qualified_part enter_member scope_of_class agree_here sought_in holder region_by region_of space_region_of using_region_of found_of_paths brought_in bring_each bring_here leads_to searched standing_in brought_name_at using_declaration_at head_at_of_classes class_name enter_class_of_outside no_bit_field whole_member constant_part member_value data_member declared_behind member_body body_later body_passed token_passed passing_step deferred_step deferred_passed defaults_kept pure_taken synonym_member declared_member named_member_at member_at member_step members_by nested_or_not member_specifiers_by member_declaration_by access_step declared_step list_step_of_classes list_at_of_classes class_at no_virtual base_access base_taken base_at base_ended base_step base_list bases_at no_anonymous_union class_by class_whole all_read default_read later_read defaults_read each_read waiting_read body_read list_there ends_where forward_to forward_step class_or_not declaration_specifiers base_named declare_known declare_base enter_class define_again define_new enter_unnamed begin_unnamed begin_class declare_member added_each end_class implicit_members clash declared_in_of_member declares_member member member_by member_in member_of members_in not_redeclared own_ways ways ways_after with_base class_named_step class_behind class_name_step class_key_step reserved declare_again declare_new declare_class first_open open_of class_named class_here class_of_part member_region_of bring_members bring_member member_using_at using_step
spells_tokens bytes (Ok tokens) = spells_by (unit_reading (record { depth = 64 }) (lexemes bytes tokens))
spells_tokens bytes (Err why) = []

spells : List ℕ → List (List ℕ)
unfolding function_round class_at_of_this this_in this object_for member_named named_here declaring is_static_at step_of_steps placed_on based_on based region_behind naming_here qualifier_here implied_chosen implied_call is_this this_part function_declared declare_again_of_outside class_declaring convert_at explicit_found static_found is_only_base one_base base_paths subobjects is_better standard_sequence_of_standard compare is_pending stem printed_name_of_names report limit_report keywords alternatives operators digraphs word_kind number_kind literal_of_spelling hash operator slash percent spelling_of literal_type literal_value piece_length longest_within front tokens_from tokens_of_of_tokens lengths_from string_length usual follow is_stepped steps_to before after unary_by unary_family_result unary_result beside_integer subscripted added_to added_of_built_in distance subtracted compared_pointers compared_by assigned binary_by_of_built_in compound_on compound compound_result family_result binary_result built_in_result const_cast goes_down static_pointers static_kinds static_objects static_only static_unless static_cast reinterpret_cast cast_operand added_of_casts between cast_between cast_by_two cast_else cast_unless cast_of_casts shared_pointers arms_of_arithmetic arms_of_enumeration arms_of_pointer arms_of_void arms_of conditional_of_conditional is_derived promoted is_proper_part is_no_pointer_to_bool way_of_pointers way_of_classes way_of is_shorter is_nearer has_nearer_class is_less_qualified refers_to_less is_bound_to_less order_of is_complete_class is_complete_object both_ready common_class common_other common_pointer extent_of member_extent enumerations_in class_extent added_of_sizes layouts_of class_in object_extent size_of pointer_to_class pointer_to_other steps_of_pointers step_of_enumeration is_text_of_standard steps_of_arithmetic steps_of_enumeration steps_of_pointer steps_of_kinds value_step class_step_of_standard steps_to_scalar steps_to_class steps_by_kinds steps_of_value related_kinds related steps_of_related steps_of_unrelated steps_by_relation steps_of_reference steps_between standard_sequence_of_standard_2 converted_value value_in unary_value binary_value constant_of needed computed part_of constant_of_constants value_of_literal operator_number form_of candidates_of_choosing rated_of_choosing chosen_of_choosing refusals_of_choosing ties_of_choosing choice_of_choosing no_expression declared_type refused_in added_of_declaring free declare declare_synonym declare_function undefined declare_object free_object define_object define_declared enter_parameters leave_parameters declare_parameter declare_enumeration declare_value declare_enumerator end_enumeration kind_here type_here elaborated_here names_of_text_of_plain plain_text_of_plain repeat declared_in sought_from found found_types bracket_step brackets_passed key_shape name_shape keyword_shape run_step run_passed begins_type is_abstract_list prefix_step prefix_passed list_shape suffix_step declarator_passed default_step default_passed piece_step parameters_shape storage_step inline_step const_step volatile_step word_step named_step elaborated_step enumeration_body defined_step list_step key_step enumeration_step class_step_of_specifiers other_step keyword_step specifier_step typed specifiers_from cv_step cv_at array_suffix exceptions_at function_suffix bracket_suffix suffix_at suffixes_at name_part grouped_part bracket_part star_part ampersand_part declarator_at pointed_at referred_at grouped_at parameter_fits default_at parameter_at list_ended comma_passed parameter_ended parameter_step parameters_over some_parameters list_at parameters_at no_value enumerator_ended lines_of_text_order text_order text_name is_punct is_keyword is_name is_end is_number punct_taken no_declaration no_declarator declared_fits complete_object uninitialized declared_function synonym_ended declared_synonym bare_synonym no_words_behind declarator_ended nothing_declared linkage_step linkages_passed linkage_list inside_step strings_from side_by_side argument_ended_of_arguments argument_step_of_arguments arguments_over_of_arguments some_arguments arguments_behind arguments_at opened_step opened_over opened_passed closed_step closed_passed name_closed name_opened called_name cast_passed begins_cast clause_comma clause_ended clause_step some_clauses clauses_behind clauses_at braces_at clause_at copy_at aggregate_at equals_at list_behind direct_at initializer_at_of_initializers_2 type_declared type_id_fits type_id_at type_passed_at no_member member_operand operation operation_step operations_at operations_part binary_at conditional_part conditional_by conditional_at assignment_part assignment_by assignment_behind assignment_at comma_part comma_step commas_at whole_at call_step subscript_step step_step postfix_step postfixes_at cast_at_of_operands parenthesis_part cast_or_parenthesis called_part called_or_not bracket_at prefix_at size_at primary_part operand_at sized_operand sized_type sized_at is_of_level selects_member is_assignment is_prefix is_step selected_name selected_step selected_by selected_noted selected_in selected is_function_at_of_names member_converted member_chosen member_function_call member_among member_in_of_calls member_call pointed arrow member_here operator_ahead is_literal is_cast_word base_of_kind begins_expression literal_part name_at called_at named_call_of_primary value_name_at functional_cast functional_at type_name_at named_at word_at cast_opened cast_closed cast_word_at parenthesis_at primary_at fallback_more fallbacks chosen_call function_call through_signature through value_call called name_call call explicit_built explicit static_built static_cast_of constant_of_casts reinterpreted cast_as cast_of_casts_2 zero several functional convert_known convert convert_more convert_each parenthesis by_production elaborate part array_whole value_whole initialize is_text_of_literals text_length text_operand operand_of_literal literal_of_literals meant_by static_class named name judged judged_to judged_beside operator_in built unconverted own_meaning prefix_built prefix_asked prefix step_built step operand_beside binary_built binary_asked binary_by_of_operators arms_built arms conditional_built conditional_of_operators type_of_operand measured size decided candidates_of_candidates candidates_within chosen_of_choices refusals_of_choices ties_of_choices choice_of_choices rated_one rated_of_viability name_here bound_here call_here size_here is_null_here constant_here_of_answers_here fallback_here questions is_list_of_class is_default_later offer_default begin_later end_later begin_default end_default asking noted note_known some_elements initialized_part without_initializer defined_part_of_objects_here defined_later_of_objects_here extern_part_of_objects_here valued_of_readers_here bound_value_of_readers_here bound_at_of_readers_here value_at_of_readers_here enumerator_at_of_readers_here enumerator_step_of_readers_here enumerators_at_of_readers_here fallback_now fallback_later fallback_at both extern_object_of_units_here defined_object_of_units_here init_declarator_at_of_units_here declarator_step_of_units_here declarators_at_of_units_here declarators_of_of_units_here simple_declaration_at_of_units_here plain_declaration_at_of_units_here linked_one_of_units_here declaration_by_of_units_here linkage_opened_of_units_here declaration_at_of_units_here unit_step_of_units_here unit_reading_of_units_here name_step name_passed list_step_of_heads_of_heads exceptions_step suffix_step_of_heads_of_heads suffixes_passed closing_step closed_passed_of_heads_of_heads bound_step bounds_passed declarator_begins specifiers_begin is_declaration head_at type_word_step types_alone initializer_follows condition_begins is_declared_condition condition_at last_condition_at expression_statement declaration_statement plain_statement begins_statement begins_no_object first_part some_condition second_part some_step third_part loop_parts_at block_in begun sub_in else_part other_part if_ended if_in switch_in loop_ended while_in do_in for_in jump_taken jump_in some_answer answer return_in fresh_label case_of default_taken default_of label_in label_at is_label label_step labels_in empty_statement empty_in plain_in flat_in keyword_in unlabelled_in labelled statement_in sub_statement_at statement_step statements_in statements_at within body_at local_declarator_at local_step local_declarators_at local_declarators_of local_declaration_at condition_value condition_part keep_tested tested_object tested_declarator_at declared_condition_at statement_head set_in_step step_at condition_at_of_statements_of_language tested switched labelled_of_statements_of_language returned parts_at statements_within complete_head function_body function_ended_of_units_of_language enter_block leave_block begin_body end_body plain_text printed_calls functions_of_text definition_words lines_of_order_of_form text_order_of_order_of_form names_of_text_of_order_of_form statement_calls statement_lines body_lines object_line_at statement_at lines_at lines_or_empty_at spells_tokens home_of linked_in clash_in_space clash_apart first_clash giver with_givers opened_before unnamed_before open_again open_new open_space declare_unnamed new_unnamed open_unnamed close_space declare_alias declare_directive space_here free_linked first_member_object first_member_function declare_linked_object is_by_friend sighting_in standing unhidden least_of named_by entities is_function_at odd_pair found_of standing_shown sightings_at found_in_scope ordinary_in nominates reached shows up first_space first_common with_scopes spread with_facts with_parts followed everything parts collected associated standing_in_each befriended adl space_name_at alias_at behind_word local_alias_at space_opened behind_namespace namespace_at directive_at using_at local_function linked_ended local_extern simple_local_at tested_function functions_of_call type_name_step named_list_step suffixes_by passed_from no_part_there path_taken kind_of_name qualified_part enter_member scope_of_class agree_here sought_in holder region_by region_of space_region_of using_region_of found_of_paths brought_in bring_each bring_here leads_to searched standing_in brought_name_at using_declaration_at head_at_of_classes class_name enter_class_of_outside no_bit_field whole_member constant_part member_value data_member declared_behind member_body body_later body_passed token_passed passing_step deferred_step deferred_passed defaults_kept pure_taken synonym_member declared_member named_member_at member_at member_step members_by nested_or_not member_specifiers_by member_declaration_by access_step declared_step list_step_of_classes list_at_of_classes class_at no_virtual base_access base_taken base_at base_ended base_step base_list bases_at no_anonymous_union class_by class_whole all_read default_read later_read defaults_read each_read waiting_read body_read list_there ends_where forward_to forward_step class_or_not declaration_specifiers base_named declare_known declare_base enter_class define_again define_new enter_unnamed begin_unnamed begin_class declare_member added_each end_class implicit_members clash declared_in_of_member declares_member member member_by member_in member_of members_in not_redeclared own_ways ways ways_after with_base class_named_step class_behind class_name_step class_key_step reserved declare_again declare_new declare_class first_open open_of class_named class_here class_of_part member_region_of bring_members bring_member member_using_at using_step
spells bytes = spells_tokens bytes (tokens_of bytes)

record Saying : Type 0 where
  place : Place
  text : FaultText

said_by : Answer CxxReading → Option Saying
unfolding function_round class_at_of_this this_in this object_for member_named named_here declaring is_static_at step_of_steps placed_on based_on based region_behind naming_here qualifier_here implied_chosen implied_call is_this this_part function_declared declare_again_of_outside class_declaring convert_at explicit_found static_found is_only_base one_base base_paths subobjects is_better standard_sequence_of_standard compare is_pending stem printed_name_of_names report limit_report keywords alternatives operators digraphs word_kind number_kind literal_of_spelling hash operator slash percent spelling_of literal_type literal_value piece_length longest_within front tokens_from tokens_of_of_tokens lengths_from string_length usual follow is_stepped steps_to before after unary_by unary_family_result unary_result beside_integer subscripted added_to added_of_built_in distance subtracted compared_pointers compared_by assigned binary_by_of_built_in compound_on compound compound_result family_result binary_result built_in_result const_cast goes_down static_pointers static_kinds static_objects static_only static_unless static_cast reinterpret_cast cast_operand added_of_casts between cast_between cast_by_two cast_else cast_unless cast_of_casts shared_pointers arms_of_arithmetic arms_of_enumeration arms_of_pointer arms_of_void arms_of conditional_of_conditional is_derived promoted is_proper_part is_no_pointer_to_bool way_of_pointers way_of_classes way_of is_shorter is_nearer has_nearer_class is_less_qualified refers_to_less is_bound_to_less order_of is_complete_class is_complete_object both_ready common_class common_other common_pointer extent_of member_extent enumerations_in class_extent added_of_sizes layouts_of class_in object_extent size_of pointer_to_class pointer_to_other steps_of_pointers step_of_enumeration is_text_of_standard steps_of_arithmetic steps_of_enumeration steps_of_pointer steps_of_kinds value_step class_step_of_standard steps_to_scalar steps_to_class steps_by_kinds steps_of_value related_kinds related steps_of_related steps_of_unrelated steps_by_relation steps_of_reference steps_between standard_sequence_of_standard_2 converted_value value_in unary_value binary_value constant_of needed computed part_of constant_of_constants value_of_literal operator_number form_of candidates_of_choosing rated_of_choosing chosen_of_choosing refusals_of_choosing ties_of_choosing choice_of_choosing no_expression declared_type refused_in added_of_declaring free declare declare_synonym declare_function undefined declare_object free_object define_object define_declared enter_parameters leave_parameters declare_parameter declare_enumeration declare_value declare_enumerator end_enumeration kind_here type_here elaborated_here names_of_text_of_plain plain_text_of_plain repeat declared_in sought_from found found_types bracket_step brackets_passed key_shape name_shape keyword_shape run_step run_passed begins_type is_abstract_list prefix_step prefix_passed list_shape suffix_step declarator_passed default_step default_passed piece_step parameters_shape storage_step inline_step const_step volatile_step word_step named_step elaborated_step enumeration_body defined_step list_step key_step enumeration_step class_step_of_specifiers other_step keyword_step specifier_step typed specifiers_from cv_step cv_at array_suffix exceptions_at function_suffix bracket_suffix suffix_at suffixes_at name_part grouped_part bracket_part star_part ampersand_part declarator_at pointed_at referred_at grouped_at parameter_fits default_at parameter_at list_ended comma_passed parameter_ended parameter_step parameters_over some_parameters list_at parameters_at no_value enumerator_ended lines_of_text_order text_order text_name is_punct is_keyword is_name is_end is_number punct_taken no_declaration no_declarator declared_fits complete_object uninitialized declared_function synonym_ended declared_synonym bare_synonym no_words_behind declarator_ended nothing_declared linkage_step linkages_passed linkage_list inside_step strings_from side_by_side argument_ended_of_arguments argument_step_of_arguments arguments_over_of_arguments some_arguments arguments_behind arguments_at opened_step opened_over opened_passed closed_step closed_passed name_closed name_opened called_name cast_passed begins_cast clause_comma clause_ended clause_step some_clauses clauses_behind clauses_at braces_at clause_at copy_at aggregate_at equals_at list_behind direct_at initializer_at_of_initializers_2 type_declared type_id_fits type_id_at type_passed_at no_member member_operand operation operation_step operations_at operations_part binary_at conditional_part conditional_by conditional_at assignment_part assignment_by assignment_behind assignment_at comma_part comma_step commas_at whole_at call_step subscript_step step_step postfix_step postfixes_at cast_at_of_operands parenthesis_part cast_or_parenthesis called_part called_or_not bracket_at prefix_at size_at primary_part operand_at sized_operand sized_type sized_at is_of_level selects_member is_assignment is_prefix is_step selected_name selected_step selected_by selected_noted selected_in selected is_function_at_of_names member_converted member_chosen member_function_call member_among member_in_of_calls member_call pointed arrow member_here operator_ahead is_literal is_cast_word base_of_kind begins_expression literal_part name_at called_at named_call_of_primary value_name_at functional_cast functional_at type_name_at named_at word_at cast_opened cast_closed cast_word_at parenthesis_at primary_at fallback_more fallbacks chosen_call function_call through_signature through value_call called name_call call explicit_built explicit static_built static_cast_of constant_of_casts reinterpreted cast_as cast_of_casts_2 zero several functional convert_known convert convert_more convert_each parenthesis by_production elaborate part array_whole value_whole initialize is_text_of_literals text_length text_operand operand_of_literal literal_of_literals meant_by static_class named name judged judged_to judged_beside operator_in built unconverted own_meaning prefix_built prefix_asked prefix step_built step operand_beside binary_built binary_asked binary_by_of_operators arms_built arms conditional_built conditional_of_operators type_of_operand measured size decided candidates_of_candidates candidates_within chosen_of_choices refusals_of_choices ties_of_choices choice_of_choices rated_one rated_of_viability name_here bound_here call_here size_here is_null_here constant_here_of_answers_here fallback_here questions is_list_of_class is_default_later offer_default begin_later end_later begin_default end_default asking noted note_known some_elements initialized_part without_initializer defined_part_of_objects_here defined_later_of_objects_here extern_part_of_objects_here valued_of_readers_here bound_value_of_readers_here bound_at_of_readers_here value_at_of_readers_here enumerator_at_of_readers_here enumerator_step_of_readers_here enumerators_at_of_readers_here fallback_now fallback_later fallback_at both extern_object_of_units_here defined_object_of_units_here init_declarator_at_of_units_here declarator_step_of_units_here declarators_at_of_units_here declarators_of_of_units_here simple_declaration_at_of_units_here plain_declaration_at_of_units_here linked_one_of_units_here declaration_by_of_units_here linkage_opened_of_units_here declaration_at_of_units_here unit_step_of_units_here unit_reading_of_units_here name_step name_passed list_step_of_heads_of_heads exceptions_step suffix_step_of_heads_of_heads suffixes_passed closing_step closed_passed_of_heads_of_heads bound_step bounds_passed declarator_begins specifiers_begin is_declaration head_at type_word_step types_alone initializer_follows condition_begins is_declared_condition condition_at last_condition_at expression_statement declaration_statement plain_statement begins_statement begins_no_object first_part some_condition second_part some_step third_part loop_parts_at block_in begun sub_in else_part other_part if_ended if_in switch_in loop_ended while_in do_in for_in jump_taken jump_in some_answer answer return_in fresh_label case_of default_taken default_of label_in label_at is_label label_step labels_in empty_statement empty_in plain_in flat_in keyword_in unlabelled_in labelled statement_in sub_statement_at statement_step statements_in statements_at within body_at local_declarator_at local_step local_declarators_at local_declarators_of local_declaration_at condition_value condition_part keep_tested tested_object tested_declarator_at declared_condition_at statement_head set_in_step step_at condition_at_of_statements_of_language tested switched labelled_of_statements_of_language returned parts_at statements_within complete_head function_body function_ended_of_units_of_language enter_block leave_block begin_body end_body plain_text printed_calls functions_of_text definition_words lines_of_order_of_form text_order_of_order_of_form names_of_text_of_order_of_form statement_calls statement_lines body_lines object_line_at statement_at lines_at lines_or_empty_at home_of linked_in clash_in_space clash_apart first_clash giver with_givers opened_before unnamed_before open_again open_new open_space declare_unnamed new_unnamed open_unnamed close_space declare_alias declare_directive space_here free_linked first_member_object first_member_function declare_linked_object is_by_friend sighting_in standing unhidden least_of named_by entities is_function_at odd_pair found_of standing_shown sightings_at found_in_scope ordinary_in nominates reached shows up first_space first_common with_scopes spread with_facts with_parts followed everything parts collected associated standing_in_each befriended adl space_name_at alias_at behind_word local_alias_at space_opened behind_namespace namespace_at directive_at using_at local_function linked_ended local_extern simple_local_at tested_function functions_of_call type_name_step named_list_step suffixes_by passed_from no_part_there path_taken kind_of_name qualified_part enter_member scope_of_class agree_here sought_in holder region_by region_of space_region_of using_region_of found_of_paths brought_in bring_each bring_here leads_to searched standing_in brought_name_at using_declaration_at head_at_of_classes class_name enter_class_of_outside no_bit_field whole_member constant_part member_value data_member declared_behind member_body body_later body_passed token_passed passing_step deferred_step deferred_passed defaults_kept pure_taken synonym_member declared_member named_member_at member_at member_step members_by nested_or_not member_specifiers_by member_declaration_by access_step declared_step list_step_of_classes list_at_of_classes class_at no_virtual base_access base_taken base_at base_ended base_step base_list bases_at no_anonymous_union class_by class_whole all_read default_read later_read defaults_read each_read waiting_read body_read list_there ends_where forward_to forward_step class_or_not declaration_specifiers base_named declare_known declare_base enter_class define_again define_new enter_unnamed begin_unnamed begin_class declare_member added_each end_class implicit_members clash declared_in_of_member declares_member member member_by member_in member_of members_in not_redeclared own_ways ways ways_after with_base class_named_step class_behind class_name_step class_key_step reserved declare_again declare_new declare_class first_open open_of class_named class_here class_of_part member_region_of bring_members bring_member member_using_at using_step
said_by (Ok reading) = None
said_by (Err (Faulty fault)) = Some (record { place = fault.place; text = fault.text })
said_by (Err (Limited kind)) = None

said_of_tokens : List ℕ → Result (List Token) Unread → Option Saying
unfolding function_round class_at_of_this this_in this object_for member_named named_here declaring is_static_at step_of_steps placed_on based_on based region_behind naming_here qualifier_here implied_chosen implied_call is_this this_part function_declared declare_again_of_outside class_declaring convert_at explicit_found static_found is_only_base one_base base_paths subobjects is_better standard_sequence_of_standard compare is_pending stem printed_name_of_names report limit_report keywords alternatives operators digraphs word_kind number_kind literal_of_spelling hash operator slash percent spelling_of literal_type literal_value piece_length longest_within front tokens_from tokens_of_of_tokens lengths_from string_length usual follow is_stepped steps_to before after unary_by unary_family_result unary_result beside_integer subscripted added_to added_of_built_in distance subtracted compared_pointers compared_by assigned binary_by_of_built_in compound_on compound compound_result family_result binary_result built_in_result const_cast goes_down static_pointers static_kinds static_objects static_only static_unless static_cast reinterpret_cast cast_operand added_of_casts between cast_between cast_by_two cast_else cast_unless cast_of_casts shared_pointers arms_of_arithmetic arms_of_enumeration arms_of_pointer arms_of_void arms_of conditional_of_conditional is_derived promoted is_proper_part is_no_pointer_to_bool way_of_pointers way_of_classes way_of is_shorter is_nearer has_nearer_class is_less_qualified refers_to_less is_bound_to_less order_of is_complete_class is_complete_object both_ready common_class common_other common_pointer extent_of member_extent enumerations_in class_extent added_of_sizes layouts_of class_in object_extent size_of pointer_to_class pointer_to_other steps_of_pointers step_of_enumeration is_text_of_standard steps_of_arithmetic steps_of_enumeration steps_of_pointer steps_of_kinds value_step class_step_of_standard steps_to_scalar steps_to_class steps_by_kinds steps_of_value related_kinds related steps_of_related steps_of_unrelated steps_by_relation steps_of_reference steps_between standard_sequence_of_standard_2 converted_value value_in unary_value binary_value constant_of needed computed part_of constant_of_constants value_of_literal operator_number form_of candidates_of_choosing rated_of_choosing chosen_of_choosing refusals_of_choosing ties_of_choosing choice_of_choosing no_expression declared_type refused_in added_of_declaring free declare declare_synonym declare_function undefined declare_object free_object define_object define_declared enter_parameters leave_parameters declare_parameter declare_enumeration declare_value declare_enumerator end_enumeration kind_here type_here elaborated_here names_of_text_of_plain plain_text_of_plain repeat declared_in sought_from found found_types bracket_step brackets_passed key_shape name_shape keyword_shape run_step run_passed begins_type is_abstract_list prefix_step prefix_passed list_shape suffix_step declarator_passed default_step default_passed piece_step parameters_shape storage_step inline_step const_step volatile_step word_step named_step elaborated_step enumeration_body defined_step list_step key_step enumeration_step class_step_of_specifiers other_step keyword_step specifier_step typed specifiers_from cv_step cv_at array_suffix exceptions_at function_suffix bracket_suffix suffix_at suffixes_at name_part grouped_part bracket_part star_part ampersand_part declarator_at pointed_at referred_at grouped_at parameter_fits default_at parameter_at list_ended comma_passed parameter_ended parameter_step parameters_over some_parameters list_at parameters_at no_value enumerator_ended lines_of_text_order text_order text_name is_punct is_keyword is_name is_end is_number punct_taken no_declaration no_declarator declared_fits complete_object uninitialized declared_function synonym_ended declared_synonym bare_synonym no_words_behind declarator_ended nothing_declared linkage_step linkages_passed linkage_list inside_step strings_from side_by_side argument_ended_of_arguments argument_step_of_arguments arguments_over_of_arguments some_arguments arguments_behind arguments_at opened_step opened_over opened_passed closed_step closed_passed name_closed name_opened called_name cast_passed begins_cast clause_comma clause_ended clause_step some_clauses clauses_behind clauses_at braces_at clause_at copy_at aggregate_at equals_at list_behind direct_at initializer_at_of_initializers_2 type_declared type_id_fits type_id_at type_passed_at no_member member_operand operation operation_step operations_at operations_part binary_at conditional_part conditional_by conditional_at assignment_part assignment_by assignment_behind assignment_at comma_part comma_step commas_at whole_at call_step subscript_step step_step postfix_step postfixes_at cast_at_of_operands parenthesis_part cast_or_parenthesis called_part called_or_not bracket_at prefix_at size_at primary_part operand_at sized_operand sized_type sized_at is_of_level selects_member is_assignment is_prefix is_step selected_name selected_step selected_by selected_noted selected_in selected is_function_at_of_names member_converted member_chosen member_function_call member_among member_in_of_calls member_call pointed arrow member_here operator_ahead is_literal is_cast_word base_of_kind begins_expression literal_part name_at called_at named_call_of_primary value_name_at functional_cast functional_at type_name_at named_at word_at cast_opened cast_closed cast_word_at parenthesis_at primary_at fallback_more fallbacks chosen_call function_call through_signature through value_call called name_call call explicit_built explicit static_built static_cast_of constant_of_casts reinterpreted cast_as cast_of_casts_2 zero several functional convert_known convert convert_more convert_each parenthesis by_production elaborate part array_whole value_whole initialize is_text_of_literals text_length text_operand operand_of_literal literal_of_literals meant_by static_class named name judged judged_to judged_beside operator_in built unconverted own_meaning prefix_built prefix_asked prefix step_built step operand_beside binary_built binary_asked binary_by_of_operators arms_built arms conditional_built conditional_of_operators type_of_operand measured size decided candidates_of_candidates candidates_within chosen_of_choices refusals_of_choices ties_of_choices choice_of_choices rated_one rated_of_viability name_here bound_here call_here size_here is_null_here constant_here_of_answers_here fallback_here questions is_list_of_class is_default_later offer_default begin_later end_later begin_default end_default asking noted note_known some_elements initialized_part without_initializer defined_part_of_objects_here defined_later_of_objects_here extern_part_of_objects_here valued_of_readers_here bound_value_of_readers_here bound_at_of_readers_here value_at_of_readers_here enumerator_at_of_readers_here enumerator_step_of_readers_here enumerators_at_of_readers_here fallback_now fallback_later fallback_at both extern_object_of_units_here defined_object_of_units_here init_declarator_at_of_units_here declarator_step_of_units_here declarators_at_of_units_here declarators_of_of_units_here simple_declaration_at_of_units_here plain_declaration_at_of_units_here linked_one_of_units_here declaration_by_of_units_here linkage_opened_of_units_here declaration_at_of_units_here unit_step_of_units_here unit_reading_of_units_here name_step name_passed list_step_of_heads_of_heads exceptions_step suffix_step_of_heads_of_heads suffixes_passed closing_step closed_passed_of_heads_of_heads bound_step bounds_passed declarator_begins specifiers_begin is_declaration head_at type_word_step types_alone initializer_follows condition_begins is_declared_condition condition_at last_condition_at expression_statement declaration_statement plain_statement begins_statement begins_no_object first_part some_condition second_part some_step third_part loop_parts_at block_in begun sub_in else_part other_part if_ended if_in switch_in loop_ended while_in do_in for_in jump_taken jump_in some_answer answer return_in fresh_label case_of default_taken default_of label_in label_at is_label label_step labels_in empty_statement empty_in plain_in flat_in keyword_in unlabelled_in labelled statement_in sub_statement_at statement_step statements_in statements_at within body_at local_declarator_at local_step local_declarators_at local_declarators_of local_declaration_at condition_value condition_part keep_tested tested_object tested_declarator_at declared_condition_at statement_head set_in_step step_at condition_at_of_statements_of_language tested switched labelled_of_statements_of_language returned parts_at statements_within complete_head function_body function_ended_of_units_of_language enter_block leave_block begin_body end_body plain_text printed_calls functions_of_text definition_words lines_of_order_of_form text_order_of_order_of_form names_of_text_of_order_of_form statement_calls statement_lines body_lines object_line_at statement_at lines_at lines_or_empty_at home_of linked_in clash_in_space clash_apart first_clash giver with_givers opened_before unnamed_before open_again open_new open_space declare_unnamed new_unnamed open_unnamed close_space declare_alias declare_directive space_here free_linked first_member_object first_member_function declare_linked_object is_by_friend sighting_in standing unhidden least_of named_by entities is_function_at odd_pair found_of standing_shown sightings_at found_in_scope ordinary_in nominates reached shows up first_space first_common with_scopes spread with_facts with_parts followed everything parts collected associated standing_in_each befriended adl space_name_at alias_at behind_word local_alias_at space_opened behind_namespace namespace_at directive_at using_at local_function linked_ended local_extern simple_local_at tested_function functions_of_call type_name_step named_list_step suffixes_by passed_from no_part_there path_taken kind_of_name qualified_part enter_member scope_of_class agree_here sought_in holder region_by region_of space_region_of using_region_of found_of_paths brought_in bring_each bring_here leads_to searched standing_in brought_name_at using_declaration_at head_at_of_classes class_name enter_class_of_outside no_bit_field whole_member constant_part member_value data_member declared_behind member_body body_later body_passed token_passed passing_step deferred_step deferred_passed defaults_kept pure_taken synonym_member declared_member named_member_at member_at member_step members_by nested_or_not member_specifiers_by member_declaration_by access_step declared_step list_step_of_classes list_at_of_classes class_at no_virtual base_access base_taken base_at base_ended base_step base_list bases_at no_anonymous_union class_by class_whole all_read default_read later_read defaults_read each_read waiting_read body_read list_there ends_where forward_to forward_step class_or_not declaration_specifiers base_named declare_known declare_base enter_class define_again define_new enter_unnamed begin_unnamed begin_class declare_member added_each end_class implicit_members clash declared_in_of_member declares_member member member_by member_in member_of members_in not_redeclared own_ways ways ways_after with_base class_named_step class_behind class_name_step class_key_step reserved declare_again declare_new declare_class first_open open_of class_named class_here class_of_part member_region_of bring_members bring_member member_using_at using_step
said_of_tokens bytes (Ok tokens) = said_by (unit_reading (record { depth = 64 }) (lexemes bytes tokens))
said_of_tokens bytes (Err why) = None

said : List ℕ → Option Saying
unfolding function_round class_at_of_this this_in this object_for member_named named_here declaring is_static_at step_of_steps placed_on based_on based region_behind naming_here qualifier_here implied_chosen implied_call is_this this_part function_declared declare_again_of_outside class_declaring convert_at explicit_found static_found is_only_base one_base base_paths subobjects is_better standard_sequence_of_standard compare is_pending stem printed_name_of_names report limit_report keywords alternatives operators digraphs word_kind number_kind literal_of_spelling hash operator slash percent spelling_of literal_type literal_value piece_length longest_within front tokens_from tokens_of_of_tokens lengths_from string_length usual follow is_stepped steps_to before after unary_by unary_family_result unary_result beside_integer subscripted added_to added_of_built_in distance subtracted compared_pointers compared_by assigned binary_by_of_built_in compound_on compound compound_result family_result binary_result built_in_result const_cast goes_down static_pointers static_kinds static_objects static_only static_unless static_cast reinterpret_cast cast_operand added_of_casts between cast_between cast_by_two cast_else cast_unless cast_of_casts shared_pointers arms_of_arithmetic arms_of_enumeration arms_of_pointer arms_of_void arms_of conditional_of_conditional is_derived promoted is_proper_part is_no_pointer_to_bool way_of_pointers way_of_classes way_of is_shorter is_nearer has_nearer_class is_less_qualified refers_to_less is_bound_to_less order_of is_complete_class is_complete_object both_ready common_class common_other common_pointer extent_of member_extent enumerations_in class_extent added_of_sizes layouts_of class_in object_extent size_of pointer_to_class pointer_to_other steps_of_pointers step_of_enumeration is_text_of_standard steps_of_arithmetic steps_of_enumeration steps_of_pointer steps_of_kinds value_step class_step_of_standard steps_to_scalar steps_to_class steps_by_kinds steps_of_value related_kinds related steps_of_related steps_of_unrelated steps_by_relation steps_of_reference steps_between standard_sequence_of_standard_2 converted_value value_in unary_value binary_value constant_of needed computed part_of constant_of_constants value_of_literal operator_number form_of candidates_of_choosing rated_of_choosing chosen_of_choosing refusals_of_choosing ties_of_choosing choice_of_choosing no_expression declared_type refused_in added_of_declaring free declare declare_synonym declare_function undefined declare_object free_object define_object define_declared enter_parameters leave_parameters declare_parameter declare_enumeration declare_value declare_enumerator end_enumeration kind_here type_here elaborated_here names_of_text_of_plain plain_text_of_plain repeat declared_in sought_from found found_types bracket_step brackets_passed key_shape name_shape keyword_shape run_step run_passed begins_type is_abstract_list prefix_step prefix_passed list_shape suffix_step declarator_passed default_step default_passed piece_step parameters_shape storage_step inline_step const_step volatile_step word_step named_step elaborated_step enumeration_body defined_step list_step key_step enumeration_step class_step_of_specifiers other_step keyword_step specifier_step typed specifiers_from cv_step cv_at array_suffix exceptions_at function_suffix bracket_suffix suffix_at suffixes_at name_part grouped_part bracket_part star_part ampersand_part declarator_at pointed_at referred_at grouped_at parameter_fits default_at parameter_at list_ended comma_passed parameter_ended parameter_step parameters_over some_parameters list_at parameters_at no_value enumerator_ended lines_of_text_order text_order text_name is_punct is_keyword is_name is_end is_number punct_taken no_declaration no_declarator declared_fits complete_object uninitialized declared_function synonym_ended declared_synonym bare_synonym no_words_behind declarator_ended nothing_declared linkage_step linkages_passed linkage_list inside_step strings_from side_by_side argument_ended_of_arguments argument_step_of_arguments arguments_over_of_arguments some_arguments arguments_behind arguments_at opened_step opened_over opened_passed closed_step closed_passed name_closed name_opened called_name cast_passed begins_cast clause_comma clause_ended clause_step some_clauses clauses_behind clauses_at braces_at clause_at copy_at aggregate_at equals_at list_behind direct_at initializer_at_of_initializers_2 type_declared type_id_fits type_id_at type_passed_at no_member member_operand operation operation_step operations_at operations_part binary_at conditional_part conditional_by conditional_at assignment_part assignment_by assignment_behind assignment_at comma_part comma_step commas_at whole_at call_step subscript_step step_step postfix_step postfixes_at cast_at_of_operands parenthesis_part cast_or_parenthesis called_part called_or_not bracket_at prefix_at size_at primary_part operand_at sized_operand sized_type sized_at is_of_level selects_member is_assignment is_prefix is_step selected_name selected_step selected_by selected_noted selected_in selected is_function_at_of_names member_converted member_chosen member_function_call member_among member_in_of_calls member_call pointed arrow member_here operator_ahead is_literal is_cast_word base_of_kind begins_expression literal_part name_at called_at named_call_of_primary value_name_at functional_cast functional_at type_name_at named_at word_at cast_opened cast_closed cast_word_at parenthesis_at primary_at fallback_more fallbacks chosen_call function_call through_signature through value_call called name_call call explicit_built explicit static_built static_cast_of constant_of_casts reinterpreted cast_as cast_of_casts_2 zero several functional convert_known convert convert_more convert_each parenthesis by_production elaborate part array_whole value_whole initialize is_text_of_literals text_length text_operand operand_of_literal literal_of_literals meant_by static_class named name judged judged_to judged_beside operator_in built unconverted own_meaning prefix_built prefix_asked prefix step_built step operand_beside binary_built binary_asked binary_by_of_operators arms_built arms conditional_built conditional_of_operators type_of_operand measured size decided candidates_of_candidates candidates_within chosen_of_choices refusals_of_choices ties_of_choices choice_of_choices rated_one rated_of_viability name_here bound_here call_here size_here is_null_here constant_here_of_answers_here fallback_here questions is_list_of_class is_default_later offer_default begin_later end_later begin_default end_default asking noted note_known some_elements initialized_part without_initializer defined_part_of_objects_here defined_later_of_objects_here extern_part_of_objects_here valued_of_readers_here bound_value_of_readers_here bound_at_of_readers_here value_at_of_readers_here enumerator_at_of_readers_here enumerator_step_of_readers_here enumerators_at_of_readers_here fallback_now fallback_later fallback_at both extern_object_of_units_here defined_object_of_units_here init_declarator_at_of_units_here declarator_step_of_units_here declarators_at_of_units_here declarators_of_of_units_here simple_declaration_at_of_units_here plain_declaration_at_of_units_here linked_one_of_units_here declaration_by_of_units_here linkage_opened_of_units_here declaration_at_of_units_here unit_step_of_units_here unit_reading_of_units_here name_step name_passed list_step_of_heads_of_heads exceptions_step suffix_step_of_heads_of_heads suffixes_passed closing_step closed_passed_of_heads_of_heads bound_step bounds_passed declarator_begins specifiers_begin is_declaration head_at type_word_step types_alone initializer_follows condition_begins is_declared_condition condition_at last_condition_at expression_statement declaration_statement plain_statement begins_statement begins_no_object first_part some_condition second_part some_step third_part loop_parts_at block_in begun sub_in else_part other_part if_ended if_in switch_in loop_ended while_in do_in for_in jump_taken jump_in some_answer answer return_in fresh_label case_of default_taken default_of label_in label_at is_label label_step labels_in empty_statement empty_in plain_in flat_in keyword_in unlabelled_in labelled statement_in sub_statement_at statement_step statements_in statements_at within body_at local_declarator_at local_step local_declarators_at local_declarators_of local_declaration_at condition_value condition_part keep_tested tested_object tested_declarator_at declared_condition_at statement_head set_in_step step_at condition_at_of_statements_of_language tested switched labelled_of_statements_of_language returned parts_at statements_within complete_head function_body function_ended_of_units_of_language enter_block leave_block begin_body end_body plain_text printed_calls functions_of_text definition_words lines_of_order_of_form text_order_of_order_of_form names_of_text_of_order_of_form statement_calls statement_lines body_lines object_line_at statement_at lines_at lines_or_empty_at said_of_tokens home_of linked_in clash_in_space clash_apart first_clash giver with_givers opened_before unnamed_before open_again open_new open_space declare_unnamed new_unnamed open_unnamed close_space declare_alias declare_directive space_here free_linked first_member_object first_member_function declare_linked_object is_by_friend sighting_in standing unhidden least_of named_by entities is_function_at odd_pair found_of standing_shown sightings_at found_in_scope ordinary_in nominates reached shows up first_space first_common with_scopes spread with_facts with_parts followed everything parts collected associated standing_in_each befriended adl space_name_at alias_at behind_word local_alias_at space_opened behind_namespace namespace_at directive_at using_at local_function linked_ended local_extern simple_local_at tested_function functions_of_call type_name_step named_list_step suffixes_by passed_from no_part_there path_taken kind_of_name qualified_part enter_member scope_of_class agree_here sought_in holder region_by region_of space_region_of using_region_of found_of_paths brought_in bring_each bring_here leads_to searched standing_in brought_name_at using_declaration_at head_at_of_classes class_name enter_class_of_outside no_bit_field whole_member constant_part member_value data_member declared_behind member_body body_later body_passed token_passed passing_step deferred_step deferred_passed defaults_kept pure_taken synonym_member declared_member named_member_at member_at member_step members_by nested_or_not member_specifiers_by member_declaration_by access_step declared_step list_step_of_classes list_at_of_classes class_at no_virtual base_access base_taken base_at base_ended base_step base_list bases_at no_anonymous_union class_by class_whole all_read default_read later_read defaults_read each_read waiting_read body_read list_there ends_where forward_to forward_step class_or_not declaration_specifiers base_named declare_known declare_base enter_class define_again define_new enter_unnamed begin_unnamed begin_class declare_member added_each end_class implicit_members clash declared_in_of_member declares_member member member_by member_in member_of members_in not_redeclared own_ways ways ways_after with_base class_named_step class_behind class_name_step class_key_step reserved declare_again declare_new declare_class first_open open_of class_named class_here class_of_part member_region_of bring_members bring_member member_using_at using_step
said bytes = said_of_tokens bytes (tokens_of bytes)

-- 5.3.1, 5.14: words that are operators
form_1 : spells (codes "bool b = not true and false;") ≡ codes "bool" ∷ printed_name 1 (codes "b") ∷ codes "=" ∷ codes "(" ∷ codes "!" ∷ codes "true" ∷ codes ")" ∷ codes "&&" ∷ codes "false" ∷ codes ";" ∷ []
unfolding spells spells_tokens spells_by
form_1 = refl

-- 5.6, 5.7: the usual arithmetic conversions
form_2 : spells (codes "int a = 1 + 'b' * 2u;") ≡ codes "int" ∷ printed_name 1 (codes "a") ∷ codes "=" ∷ codes "static_cast" ∷ codes "<" ∷ codes "int" ∷ codes ">" ∷ codes "(" ∷ codes "static_cast" ∷ codes "<" ∷ codes "unsigned" ∷ codes ">" ∷ codes "(" ∷ codes "1" ∷ codes ")" ∷ codes "+" ∷ codes "(" ∷ codes "static_cast" ∷ codes "<" ∷ codes "unsigned" ∷ codes ">" ∷ codes "(" ∷ codes "'b'" ∷ codes ")" ∷ codes "*" ∷ codes "2u" ∷ codes ")" ∷ codes ")" ∷ codes ";" ∷ []
unfolding spells spells_tokens spells_by
form_2 = refl

-- 7.2, 5.6: an enumerator in a bound
form_3 : spells (codes "enum { n = 7 / 2 }; char t[n];") ≡ codes "enum" ∷ printed_name 1 (codes "unnamed") ∷ codes "{" ∷ printed_name 2 (codes "n") ∷ codes "=" ∷ (literal_word 3).spelling ∷ codes "}" ∷ codes ";" ∷ codes "char" ∷ printed_name 3 (codes "t") ∷ codes "[" ∷ (literal_word 3).spelling ∷ codes "]" ∷ codes ";" ∷ []
unfolding spells spells_tokens spells_by
form_3 = refl

-- integer literals stay as they are written (2.13.1)
form_4 : spells (codes "int a = 0; int b = 017; int c = 0x1F; int d = 2147483647;") ≡ codes "int" ∷ printed_name 1 (codes "a") ∷ codes "=" ∷ codes "0" ∷ codes ";" ∷ codes "int" ∷ printed_name 2 (codes "b") ∷ codes "=" ∷ codes "017" ∷ codes ";" ∷ codes "int" ∷ printed_name 3 (codes "c") ∷ codes "=" ∷ codes "0x1F" ∷ codes ";" ∷ codes "int" ∷ printed_name 4 (codes "d") ∷ codes "=" ∷ codes "2147483647" ∷ codes ";" ∷ []
unfolding spells spells_tokens spells_by
form_4 = refl

-- truth values (2.13.5)
form_5 : spells (codes "bool a = true; bool b = false; int c = true; char d = false;") ≡ codes "bool" ∷ printed_name 1 (codes "a") ∷ codes "=" ∷ codes "true" ∷ codes ";" ∷ codes "bool" ∷ printed_name 2 (codes "b") ∷ codes "=" ∷ codes "false" ∷ codes ";" ∷ codes "int" ∷ printed_name 3 (codes "c") ∷ codes "=" ∷ codes "static_cast" ∷ codes "<" ∷ codes "int" ∷ codes ">" ∷ codes "(" ∷ codes "true" ∷ codes ")" ∷ codes ";" ∷ codes "char" ∷ printed_name 4 (codes "d") ∷ codes "=" ∷ codes "static_cast" ∷ codes "<" ∷ codes "char" ∷ codes ">" ∷ codes "(" ∷ codes "false" ∷ codes ")" ∷ codes ";" ∷ []
unfolding spells spells_tokens spells_by
form_5 = refl

-- a string goes to a pointer without const (4.2 p2)
form_6 : spells (codes "char *a = \"abc\"; wchar_t *b = L\"abc\"; char *c = (\"abc\");") ≡ codes "char" ∷ codes "*" ∷ printed_name 1 (codes "a") ∷ codes "=" ∷ codes "\"abc\"" ∷ codes ";" ∷ codes "wchar_t" ∷ codes "*" ∷ printed_name 2 (codes "b") ∷ codes "=" ∷ codes "L\"abc\"" ∷ codes ";" ∷ codes "char" ∷ codes "*" ∷ printed_name 3 (codes "c") ∷ codes "=" ∷ codes "\"abc\"" ∷ codes ";" ∷ []
unfolding spells spells_tokens spells_by
form_6 = refl

-- names of objects (5.1)
form_7 : spells (codes "int x = 1; int y = x; long z = y; int x__7 = x; bool b = z;") ≡ codes "int" ∷ printed_name 1 (codes "x") ∷ codes "=" ∷ codes "1" ∷ codes ";" ∷ codes "int" ∷ printed_name 2 (codes "y") ∷ codes "=" ∷ printed_name 1 (codes "x") ∷ codes ";" ∷ codes "long" ∷ printed_name 3 (codes "z") ∷ codes "=" ∷ codes "static_cast" ∷ codes "<" ∷ codes "long" ∷ codes ">" ∷ codes "(" ∷ printed_name 2 (codes "y") ∷ codes ")" ∷ codes ";" ∷ codes "int" ∷ printed_name 4 (codes "x") ∷ codes "=" ∷ printed_name 1 (codes "x") ∷ codes ";" ∷ codes "bool" ∷ printed_name 5 (codes "b") ∷ codes "=" ∷ codes "static_cast" ∷ codes "<" ∷ codes "bool" ∷ codes ">" ∷ codes "(" ∷ printed_name 3 (codes "z") ∷ codes ")" ∷ codes ";" ∷ []
unfolding spells spells_tokens spells_by
form_7 = refl

-- a name means the object to which it refers (5 p6, 8.5.3)
form_8 : spells (codes "int x; int &r = x; int y = r; int &s = r; int *p = &r;") ≡ codes "int" ∷ printed_name 1 (codes "x") ∷ codes ";" ∷ codes "int" ∷ codes "&" ∷ printed_name 2 (codes "r") ∷ codes "=" ∷ printed_name 1 (codes "x") ∷ codes ";" ∷ codes "int" ∷ printed_name 3 (codes "y") ∷ codes "=" ∷ printed_name 2 (codes "r") ∷ codes ";" ∷ codes "int" ∷ codes "&" ∷ printed_name 4 (codes "s") ∷ codes "=" ∷ printed_name 2 (codes "r") ∷ codes ";" ∷ codes "int" ∷ codes "*" ∷ printed_name 5 (codes "p") ∷ codes "=" ∷ codes "&" ∷ printed_name 2 (codes "r") ∷ codes ";" ∷ []
unfolding spells spells_tokens spells_by
form_8 = refl

-- a name of a function is converted to bool (4.3, 4.12)
form_9 : spells (codes "int f(int); bool b = f; bool c = &f; bool d = *f;") ≡ codes "int" ∷ printed_name 1 (codes "f") ∷ codes "(" ∷ codes "int" ∷ codes ")" ∷ codes ";" ∷ codes "bool" ∷ printed_name 2 (codes "b") ∷ codes "=" ∷ codes "static_cast" ∷ codes "<" ∷ codes "bool" ∷ codes ">" ∷ codes "(" ∷ printed_name 1 (codes "f") ∷ codes ")" ∷ codes ";" ∷ codes "bool" ∷ printed_name 3 (codes "c") ∷ codes "=" ∷ codes "static_cast" ∷ codes "<" ∷ codes "bool" ∷ codes ">" ∷ codes "(" ∷ codes "&" ∷ printed_name 1 (codes "f") ∷ codes ")" ∷ codes ";" ∷ codes "bool" ∷ printed_name 4 (codes "d") ∷ codes "=" ∷ codes "static_cast" ∷ codes "<" ∷ codes "bool" ∷ codes ">" ∷ codes "(" ∷ codes "*" ∷ printed_name 1 (codes "f") ∷ codes ")" ∷ codes ";" ∷ []
unfolding spells spells_tokens spells_by
form_9 = refl

-- parentheses are not printed where they are not needed (5.1 p5)
form_10 : spells (codes "int x = (1); int y = ((x)); int z = (((2))); int *p = &(x); const char *s = ((\"a\"));") ≡ codes "int" ∷ printed_name 1 (codes "x") ∷ codes "=" ∷ codes "1" ∷ codes ";" ∷ codes "int" ∷ printed_name 2 (codes "y") ∷ codes "=" ∷ printed_name 1 (codes "x") ∷ codes ";" ∷ codes "int" ∷ printed_name 3 (codes "z") ∷ codes "=" ∷ codes "2" ∷ codes ";" ∷ codes "int" ∷ codes "*" ∷ printed_name 4 (codes "p") ∷ codes "=" ∷ codes "&" ∷ printed_name 1 (codes "x") ∷ codes ";" ∷ codes "const" ∷ codes "char" ∷ codes "*" ∷ printed_name 5 (codes "s") ∷ codes "=" ∷ codes "\"a\"" ∷ codes ";" ∷ []
unfolding spells spells_tokens spells_by
form_10 = refl

-- unary plus of pointers, arrays and functions (5.3.1 p6)
form_11 : spells (codes "int *p; int a[2]; int f(); int *q = +p, *r = +a; int (*g)() = +f; const char *s = +\"abc\";") ≡ codes "int" ∷ printed_name 1 (codes "f") ∷ codes "(" ∷ codes ")" ∷ codes ";" ∷ codes "int" ∷ codes "*" ∷ printed_name 2 (codes "p") ∷ codes ";" ∷ codes "int" ∷ printed_name 3 (codes "a") ∷ codes "[" ∷ (literal_word 2).spelling ∷ codes "]" ∷ codes ";" ∷ codes "int" ∷ codes "*" ∷ printed_name 4 (codes "q") ∷ codes "=" ∷ codes "+" ∷ printed_name 2 (codes "p") ∷ codes ";" ∷ codes "int" ∷ codes "*" ∷ printed_name 5 (codes "r") ∷ codes "=" ∷ codes "+" ∷ printed_name 3 (codes "a") ∷ codes ";" ∷ codes "int" ∷ codes "(" ∷ codes "*" ∷ printed_name 6 (codes "g") ∷ codes ")" ∷ codes "(" ∷ codes ")" ∷ codes "=" ∷ codes "+" ∷ printed_name 1 (codes "f") ∷ codes ";" ∷ codes "const" ∷ codes "char" ∷ codes "*" ∷ printed_name 7 (codes "s") ∷ codes "=" ∷ codes "+" ∷ codes "\"abc\"" ∷ codes ";" ∷ []
unfolding spells spells_tokens spells_by
form_11 = refl

-- one prefix operator behind another (5.3)
form_12 : spells (codes "int x; bool b; int a = - -x, c = + +x, d = ~~x, e = -+x, f = +-x, g = -~x; bool h = !!b;") ≡ codes "int" ∷ printed_name 1 (codes "x") ∷ codes ";" ∷ codes "bool" ∷ printed_name 2 (codes "b") ∷ codes ";" ∷ codes "int" ∷ printed_name 3 (codes "a") ∷ codes "=" ∷ codes "-" ∷ codes "(" ∷ codes "-" ∷ printed_name 1 (codes "x") ∷ codes ")" ∷ codes ";" ∷ codes "int" ∷ printed_name 4 (codes "c") ∷ codes "=" ∷ codes "+" ∷ codes "(" ∷ codes "+" ∷ printed_name 1 (codes "x") ∷ codes ")" ∷ codes ";" ∷ codes "int" ∷ printed_name 5 (codes "d") ∷ codes "=" ∷ codes "~" ∷ codes "(" ∷ codes "~" ∷ printed_name 1 (codes "x") ∷ codes ")" ∷ codes ";" ∷ codes "int" ∷ printed_name 6 (codes "e") ∷ codes "=" ∷ codes "-" ∷ codes "(" ∷ codes "+" ∷ printed_name 1 (codes "x") ∷ codes ")" ∷ codes ";" ∷ codes "int" ∷ printed_name 7 (codes "f") ∷ codes "=" ∷ codes "+" ∷ codes "(" ∷ codes "-" ∷ printed_name 1 (codes "x") ∷ codes ")" ∷ codes ";" ∷ codes "int" ∷ printed_name 8 (codes "g") ∷ codes "=" ∷ codes "-" ∷ codes "(" ∷ codes "~" ∷ printed_name 1 (codes "x") ∷ codes ")" ∷ codes ";" ∷ codes "bool" ∷ printed_name 9 (codes "h") ∷ codes "=" ∷ codes "!" ∷ codes "(" ∷ codes "!" ∷ printed_name 2 (codes "b") ∷ codes ")" ∷ codes ";" ∷ []
unfolding spells spells_tokens spells_by
form_12 = refl

-- steps and indirection (5.2.6, 5.3.1)
form_13 : spells (codes "int *p; int x = *p++, y = (*p)++, z = ++*p, w = *++p, v = *--p, u = (*p)--;") ≡ codes "int" ∷ codes "*" ∷ printed_name 1 (codes "p") ∷ codes ";" ∷ codes "int" ∷ printed_name 2 (codes "x") ∷ codes "=" ∷ codes "*" ∷ codes "(" ∷ printed_name 1 (codes "p") ∷ codes "++" ∷ codes ")" ∷ codes ";" ∷ codes "int" ∷ printed_name 3 (codes "y") ∷ codes "=" ∷ codes "(" ∷ codes "*" ∷ printed_name 1 (codes "p") ∷ codes ")" ∷ codes "++" ∷ codes ";" ∷ codes "int" ∷ printed_name 4 (codes "z") ∷ codes "=" ∷ codes "++" ∷ codes "(" ∷ codes "*" ∷ printed_name 1 (codes "p") ∷ codes ")" ∷ codes ";" ∷ codes "int" ∷ printed_name 5 (codes "w") ∷ codes "=" ∷ codes "*" ∷ codes "(" ∷ codes "++" ∷ printed_name 1 (codes "p") ∷ codes ")" ∷ codes ";" ∷ codes "int" ∷ printed_name 6 (codes "v") ∷ codes "=" ∷ codes "*" ∷ codes "(" ∷ codes "--" ∷ printed_name 1 (codes "p") ∷ codes ")" ∷ codes ";" ∷ codes "int" ∷ printed_name 7 (codes "u") ∷ codes "=" ∷ codes "(" ∷ codes "*" ∷ printed_name 1 (codes "p") ∷ codes ")" ∷ codes "--" ∷ codes ";" ∷ []
unfolding spells spells_tokens spells_by
form_13 = refl

-- a step is converted behind it (5.2.6, 4.7)
form_14 : spells (codes "char c; long a = c++, b = ++c; double d = c--;") ≡ codes "char" ∷ printed_name 1 (codes "c") ∷ codes ";" ∷ codes "long" ∷ printed_name 2 (codes "a") ∷ codes "=" ∷ codes "static_cast" ∷ codes "<" ∷ codes "long" ∷ codes ">" ∷ codes "(" ∷ printed_name 1 (codes "c") ∷ codes "++" ∷ codes ")" ∷ codes ";" ∷ codes "long" ∷ printed_name 3 (codes "b") ∷ codes "=" ∷ codes "static_cast" ∷ codes "<" ∷ codes "long" ∷ codes ">" ∷ codes "(" ∷ codes "++" ∷ printed_name 1 (codes "c") ∷ codes ")" ∷ codes ";" ∷ codes "double" ∷ printed_name 4 (codes "d") ∷ codes "=" ∷ codes "static_cast" ∷ codes "<" ∷ codes "double" ∷ codes ">" ∷ codes "(" ∷ printed_name 1 (codes "c") ∷ codes "--" ∷ codes ")" ∷ codes ";" ∷ []
unfolding spells spells_tokens spells_by
form_14 = refl

-- two casts at several levels, the words counted from outside (5.4 p5, 5.2.11)
form_15 : spells (codes "const int *const *p; char **a = (char **)p; int ***b = (int ***)p; char *c = (char *)p;") ≡ codes "const" ∷ codes "int" ∷ codes "*" ∷ codes "const" ∷ codes "*" ∷ printed_name 1 (codes "p") ∷ codes ";" ∷ codes "char" ∷ codes "*" ∷ codes "*" ∷ printed_name 2 (codes "a") ∷ codes "=" ∷ codes "const_cast" ∷ codes "<" ∷ codes "char" ∷ codes "*" ∷ codes "*" ∷ codes ">" ∷ codes "(" ∷ codes "reinterpret_cast" ∷ codes "<" ∷ codes "const" ∷ codes "char" ∷ codes "*" ∷ codes "const" ∷ codes "*" ∷ codes ">" ∷ codes "(" ∷ printed_name 1 (codes "p") ∷ codes ")" ∷ codes ")" ∷ codes ";" ∷ codes "int" ∷ codes "*" ∷ codes "*" ∷ codes "*" ∷ printed_name 3 (codes "b") ∷ codes "=" ∷ codes "const_cast" ∷ codes "<" ∷ codes "int" ∷ codes "*" ∷ codes "*" ∷ codes "*" ∷ codes ">" ∷ codes "(" ∷ codes "reinterpret_cast" ∷ codes "<" ∷ codes "int" ∷ codes "*" ∷ codes "const" ∷ codes "*" ∷ codes "const" ∷ codes "*" ∷ codes ">" ∷ codes "(" ∷ printed_name 1 (codes "p") ∷ codes ")" ∷ codes ")" ∷ codes ";" ∷ codes "char" ∷ codes "*" ∷ printed_name 4 (codes "c") ∷ codes "=" ∷ codes "const_cast" ∷ codes "<" ∷ codes "char" ∷ codes "*" ∷ codes ">" ∷ codes "(" ∷ codes "reinterpret_cast" ∷ codes "<" ∷ codes "const" ∷ codes "char" ∷ codes "*" ∷ codes ">" ∷ codes "(" ∷ printed_name 1 (codes "p") ∷ codes ")" ∷ codes ")" ∷ codes ";" ∷ []
unfolding spells spells_tokens spells_by
form_15 = refl

-- pointers to void and at two levels are compared, the example (5.9 p2)
form_16 : spells (codes "void *p;\nconst int *q;\nint **pi;\nconst int *const *pci;\nbool a = p <= q, b = pi <= pci;") ≡ codes "void" ∷ codes "*" ∷ printed_name 1 (codes "p") ∷ codes ";" ∷ codes "const" ∷ codes "int" ∷ codes "*" ∷ printed_name 2 (codes "q") ∷ codes ";" ∷ codes "int" ∷ codes "*" ∷ codes "*" ∷ printed_name 3 (codes "pi") ∷ codes ";" ∷ codes "const" ∷ codes "int" ∷ codes "*" ∷ codes "const" ∷ codes "*" ∷ printed_name 4 (codes "pci") ∷ codes ";" ∷ codes "bool" ∷ printed_name 5 (codes "a") ∷ codes "=" ∷ printed_name 1 (codes "p") ∷ codes "<=" ∷ codes "static_cast" ∷ codes "<" ∷ codes "const" ∷ codes "void" ∷ codes "*" ∷ codes ">" ∷ codes "(" ∷ printed_name 2 (codes "q") ∷ codes ")" ∷ codes ";" ∷ codes "bool" ∷ printed_name 6 (codes "b") ∷ codes "=" ∷ printed_name 3 (codes "pi") ∷ codes "<=" ∷ printed_name 4 (codes "pci") ∷ codes ";" ∷ []
unfolding spells spells_tokens spells_by
form_16 = refl

-- a pointer is less than a null pointer constant, as the common type allows (5.9 p2)
form_17 : spells (codes "int *p; bool a = p < 0, b = 0 >= p;") ≡ codes "int" ∷ codes "*" ∷ printed_name 1 (codes "p") ∷ codes ";" ∷ codes "bool" ∷ printed_name 2 (codes "a") ∷ codes "=" ∷ printed_name 1 (codes "p") ∷ codes "<" ∷ codes "static_cast" ∷ codes "<" ∷ codes "int" ∷ codes "*" ∷ codes ">" ∷ codes "(" ∷ codes "0" ∷ codes ")" ∷ codes ";" ∷ codes "bool" ∷ printed_name 3 (codes "b") ∷ codes "=" ∷ codes "static_cast" ∷ codes "<" ∷ codes "int" ∷ codes "*" ∷ codes ">" ∷ codes "(" ∷ codes "0" ∷ codes ")" ∷ codes ">=" ∷ printed_name 1 (codes "p") ∷ codes ";" ∷ []
unfolding spells spells_tokens spells_by
form_17 = refl

-- multiplication binds stronger than addition (5.6, 5.7)
form_18 : spells (codes "int x, y, z; int a = x + y * z, b = x * y + z, c = (x + y) * z, d = x - y / z % x;") ≡ codes "int" ∷ printed_name 1 (codes "x") ∷ codes ";" ∷ codes "int" ∷ printed_name 2 (codes "y") ∷ codes ";" ∷ codes "int" ∷ printed_name 3 (codes "z") ∷ codes ";" ∷ codes "int" ∷ printed_name 4 (codes "a") ∷ codes "=" ∷ printed_name 1 (codes "x") ∷ codes "+" ∷ codes "(" ∷ printed_name 2 (codes "y") ∷ codes "*" ∷ printed_name 3 (codes "z") ∷ codes ")" ∷ codes ";" ∷ codes "int" ∷ printed_name 5 (codes "b") ∷ codes "=" ∷ codes "(" ∷ printed_name 1 (codes "x") ∷ codes "*" ∷ printed_name 2 (codes "y") ∷ codes ")" ∷ codes "+" ∷ printed_name 3 (codes "z") ∷ codes ";" ∷ codes "int" ∷ printed_name 6 (codes "c") ∷ codes "=" ∷ codes "(" ∷ printed_name 1 (codes "x") ∷ codes "+" ∷ printed_name 2 (codes "y") ∷ codes ")" ∷ codes "*" ∷ printed_name 3 (codes "z") ∷ codes ";" ∷ codes "int" ∷ printed_name 7 (codes "d") ∷ codes "=" ∷ printed_name 1 (codes "x") ∷ codes "-" ∷ codes "(" ∷ codes "(" ∷ printed_name 2 (codes "y") ∷ codes "/" ∷ printed_name 3 (codes "z") ∷ codes ")" ∷ codes "%" ∷ printed_name 1 (codes "x") ∷ codes ")" ∷ codes ";" ∷ []
unfolding spells spells_tokens spells_by
form_18 = refl

-- digraphs are printed as their brackets (2.5)
form_19 : spells (codes "int a<:2:> = <% 1, 2 %>; int x = a<:1:>; int *p = &a<:0:>;") ≡ codes "int" ∷ printed_name 1 (codes "a") ∷ codes "[" ∷ (literal_word 2).spelling ∷ codes "]" ∷ codes "=" ∷ codes "{" ∷ codes "1" ∷ codes "," ∷ codes "2" ∷ codes "}" ∷ codes ";" ∷ codes "int" ∷ printed_name 2 (codes "x") ∷ codes "=" ∷ printed_name 1 (codes "a") ∷ codes "[" ∷ codes "1" ∷ codes "]" ∷ codes ";" ∷ codes "int" ∷ codes "*" ∷ printed_name 3 (codes "p") ∷ codes "=" ∷ codes "&" ∷ printed_name 1 (codes "a") ∷ codes "[" ∷ codes "0" ∷ codes "]" ∷ codes ";" ∷ []
unfolding spells spells_tokens spells_by
form_19 = refl

-- operands that are prefix or postfix expressions stand in parentheses (5)
form_20 : spells (codes "int x; int *p; int a = -x + *p, b = x++ - --x, c = ~x & !x, d = +x * -x;") ≡ codes "int" ∷ printed_name 1 (codes "x") ∷ codes ";" ∷ codes "int" ∷ codes "*" ∷ printed_name 2 (codes "p") ∷ codes ";" ∷ codes "int" ∷ printed_name 3 (codes "a") ∷ codes "=" ∷ codes "(" ∷ codes "-" ∷ printed_name 1 (codes "x") ∷ codes ")" ∷ codes "+" ∷ codes "(" ∷ codes "*" ∷ printed_name 2 (codes "p") ∷ codes ")" ∷ codes ";" ∷ codes "int" ∷ printed_name 4 (codes "b") ∷ codes "=" ∷ codes "(" ∷ printed_name 1 (codes "x") ∷ codes "++" ∷ codes ")" ∷ codes "-" ∷ codes "(" ∷ codes "--" ∷ printed_name 1 (codes "x") ∷ codes ")" ∷ codes ";" ∷ codes "int" ∷ printed_name 5 (codes "c") ∷ codes "=" ∷ codes "(" ∷ codes "~" ∷ printed_name 1 (codes "x") ∷ codes ")" ∷ codes "&" ∷ codes "static_cast" ∷ codes "<" ∷ codes "int" ∷ codes ">" ∷ codes "(" ∷ codes "!" ∷ codes "static_cast" ∷ codes "<" ∷ codes "bool" ∷ codes ">" ∷ codes "(" ∷ printed_name 1 (codes "x") ∷ codes ")" ∷ codes ")" ∷ codes ";" ∷ codes "int" ∷ printed_name 6 (codes "d") ∷ codes "=" ∷ codes "(" ∷ codes "+" ∷ printed_name 1 (codes "x") ∷ codes ")" ∷ codes "*" ∷ codes "(" ∷ codes "-" ∷ printed_name 1 (codes "x") ∷ codes ")" ∷ codes ";" ∷ []
unfolding spells spells_tokens spells_by
form_20 = refl

-- a conditional binds weaker than binary operators (5.16)
form_21 : spells (codes "bool b; int x; int y = b || x ? x + 1 : x * 2, z = 1 + (b ? 1 : 2), w = x == 1 ? -x : ~x;") ≡ codes "bool" ∷ printed_name 1 (codes "b") ∷ codes ";" ∷ codes "int" ∷ printed_name 2 (codes "x") ∷ codes ";" ∷ codes "int" ∷ printed_name 3 (codes "y") ∷ codes "=" ∷ codes "(" ∷ printed_name 1 (codes "b") ∷ codes "||" ∷ codes "static_cast" ∷ codes "<" ∷ codes "bool" ∷ codes ">" ∷ codes "(" ∷ printed_name 2 (codes "x") ∷ codes ")" ∷ codes ")" ∷ codes "?" ∷ codes "(" ∷ printed_name 2 (codes "x") ∷ codes "+" ∷ codes "1" ∷ codes ")" ∷ codes ":" ∷ codes "(" ∷ printed_name 2 (codes "x") ∷ codes "*" ∷ codes "2" ∷ codes ")" ∷ codes ";" ∷ codes "int" ∷ printed_name 4 (codes "z") ∷ codes "=" ∷ codes "1" ∷ codes "+" ∷ codes "(" ∷ printed_name 1 (codes "b") ∷ codes "?" ∷ codes "1" ∷ codes ":" ∷ codes "2" ∷ codes ")" ∷ codes ";" ∷ codes "int" ∷ printed_name 5 (codes "w") ∷ codes "=" ∷ codes "(" ∷ printed_name 2 (codes "x") ∷ codes "==" ∷ codes "1" ∷ codes ")" ∷ codes "?" ∷ codes "(" ∷ codes "-" ∷ printed_name 2 (codes "x") ∷ codes ")" ∷ codes ":" ∷ codes "(" ∷ codes "~" ∷ printed_name 2 (codes "x") ∷ codes ")" ∷ codes ";" ∷ []
unfolding spells spells_tokens spells_by
form_21 = refl

-- a function hides an enumeration of its name (3.3.7, 13.3)
form_22 : spells (codes "enum f { a }; int f(int); int x = f(1); int g(long); enum g { b }; int y = g(1);") ≡ codes "enum" ∷ printed_name 1 (codes "f") ∷ codes "{" ∷ printed_name 2 (codes "a") ∷ codes "=" ∷ (literal_word 0).spelling ∷ codes "}" ∷ codes ";" ∷ codes "enum" ∷ printed_name 3 (codes "g") ∷ codes "{" ∷ printed_name 4 (codes "b") ∷ codes "=" ∷ (literal_word 0).spelling ∷ codes "}" ∷ codes ";" ∷ codes "int" ∷ printed_name 5 (codes "f") ∷ codes "(" ∷ codes "int" ∷ codes ")" ∷ codes ";" ∷ codes "int" ∷ printed_name 6 (codes "g") ∷ codes "(" ∷ codes "long" ∷ codes ")" ∷ codes ";" ∷ codes "int" ∷ printed_name 7 (codes "x") ∷ codes "=" ∷ printed_name 5 (codes "f") ∷ codes "(" ∷ codes "1" ∷ codes ")" ∷ codes ";" ∷ codes "int" ∷ printed_name 8 (codes "y") ∷ codes "=" ∷ printed_name 6 (codes "g") ∷ codes "(" ∷ codes "static_cast" ∷ codes "<" ∷ codes "long" ∷ codes ">" ∷ codes "(" ∷ codes "1" ∷ codes ")" ∷ codes ")" ∷ codes ";" ∷ []
unfolding spells spells_tokens spells_by
form_22 = refl

-- a called name in parentheses is a called name (13.3.1.1.1)
form_23 : spells (codes "int f(long); int f(char); int x = (f)('a'), y = ((f))(1L), z = (((f)))('b') + 1;") ≡ codes "int" ∷ printed_name 1 (codes "f") ∷ codes "(" ∷ codes "long" ∷ codes ")" ∷ codes ";" ∷ codes "int" ∷ printed_name 2 (codes "f") ∷ codes "(" ∷ codes "char" ∷ codes ")" ∷ codes ";" ∷ codes "int" ∷ printed_name 3 (codes "x") ∷ codes "=" ∷ printed_name 2 (codes "f") ∷ codes "(" ∷ codes "'a'" ∷ codes ")" ∷ codes ";" ∷ codes "int" ∷ printed_name 4 (codes "y") ∷ codes "=" ∷ printed_name 1 (codes "f") ∷ codes "(" ∷ codes "1L" ∷ codes ")" ∷ codes ";" ∷ codes "int" ∷ printed_name 5 (codes "z") ∷ codes "=" ∷ printed_name 2 (codes "f") ∷ codes "(" ∷ codes "'b'" ∷ codes ")" ∷ codes "+" ∷ codes "1" ∷ codes ";" ∷ []
unfolding spells spells_tokens spells_by
form_23 = refl

-- a call of a function, not through its pointer, where it stands alone (13.3.1.1.1)
form_24 : spells (codes "int f(int); int f(char); int (*p)(int); int x = f(1), y = p(1), z = (p)(1), w = f('a');") ≡ codes "int" ∷ printed_name 1 (codes "f") ∷ codes "(" ∷ codes "int" ∷ codes ")" ∷ codes ";" ∷ codes "int" ∷ printed_name 2 (codes "f") ∷ codes "(" ∷ codes "char" ∷ codes ")" ∷ codes ";" ∷ codes "int" ∷ codes "(" ∷ codes "*" ∷ printed_name 3 (codes "p") ∷ codes ")" ∷ codes "(" ∷ codes "int" ∷ codes ")" ∷ codes ";" ∷ codes "int" ∷ printed_name 4 (codes "x") ∷ codes "=" ∷ printed_name 1 (codes "f") ∷ codes "(" ∷ codes "1" ∷ codes ")" ∷ codes ";" ∷ codes "int" ∷ printed_name 5 (codes "y") ∷ codes "=" ∷ printed_name 3 (codes "p") ∷ codes "(" ∷ codes "1" ∷ codes ")" ∷ codes ";" ∷ codes "int" ∷ printed_name 6 (codes "z") ∷ codes "=" ∷ printed_name 3 (codes "p") ∷ codes "(" ∷ codes "1" ∷ codes ")" ∷ codes ";" ∷ codes "int" ∷ printed_name 7 (codes "w") ∷ codes "=" ∷ printed_name 2 (codes "f") ∷ codes "(" ∷ codes "'a'" ∷ codes ")" ∷ codes ";" ∷ []
unfolding spells spells_tokens spells_by
form_24 = refl

-- a comma behind an equals sign begins the next declarator (8.5, 5.17)
form_25 : spells (codes "int x = 1, y = x, z = (x, y), *p = &x, a[2] = { x, y };") ≡ codes "int" ∷ printed_name 1 (codes "x") ∷ codes "=" ∷ codes "1" ∷ codes ";" ∷ codes "int" ∷ printed_name 2 (codes "y") ∷ codes "=" ∷ printed_name 1 (codes "x") ∷ codes ";" ∷ codes "int" ∷ printed_name 3 (codes "z") ∷ codes "=" ∷ codes "(" ∷ printed_name 1 (codes "x") ∷ codes "," ∷ printed_name 2 (codes "y") ∷ codes ")" ∷ codes ";" ∷ codes "int" ∷ codes "*" ∷ printed_name 4 (codes "p") ∷ codes "=" ∷ codes "&" ∷ printed_name 1 (codes "x") ∷ codes ";" ∷ codes "int" ∷ printed_name 5 (codes "a") ∷ codes "[" ∷ (literal_word 2).spelling ∷ codes "]" ∷ codes "=" ∷ codes "{" ∷ printed_name 1 (codes "x") ∷ codes "," ∷ printed_name 2 (codes "y") ∷ codes "}" ∷ codes ";" ∷ []
unfolding spells spells_tokens spells_by
form_25 = refl

-- the first column of an array of arrays, the example (8.5.1 p11)
form_26 : spells (codes "float z[4][3] = {\n  { 1 }, { 2 }, { 3 }, { 4 }\n};") ≡ codes "float" ∷ printed_name 1 (codes "z") ∷ codes "[" ∷ (literal_word 4).spelling ∷ codes "]" ∷ codes "[" ∷ (literal_word 3).spelling ∷ codes "]" ∷ codes "=" ∷ codes "{" ∷ codes "{" ∷ codes "static_cast" ∷ codes "<" ∷ codes "float" ∷ codes ">" ∷ codes "(" ∷ codes "1" ∷ codes ")" ∷ codes "}" ∷ codes "," ∷ codes "{" ∷ codes "static_cast" ∷ codes "<" ∷ codes "float" ∷ codes ">" ∷ codes "(" ∷ codes "2" ∷ codes ")" ∷ codes "}" ∷ codes "," ∷ codes "{" ∷ codes "static_cast" ∷ codes "<" ∷ codes "float" ∷ codes ">" ∷ codes "(" ∷ codes "3" ∷ codes ")" ∷ codes "}" ∷ codes "," ∷ codes "{" ∷ codes "static_cast" ∷ codes "<" ∷ codes "float" ∷ codes ">" ∷ codes "(" ∷ codes "4" ∷ codes ")" ∷ codes "}" ∷ codes "}" ∷ codes ";" ∷ []
unfolding spells spells_tokens spells_by
form_26 = refl

-- an enumerator inside its own list has the first type that holds its value (7.2 p4, 4.5)
form_27 : spells (codes "enum { a = 5, b = a + 1, c = sizeof(int) + a, d = a - 6, e = -a, f = ~a };") ≡ codes "enum" ∷ printed_name 1 (codes "unnamed") ∷ codes "{" ∷ printed_name 2 (codes "a") ∷ codes "=" ∷ (literal_word 5).spelling ∷ codes "," ∷ printed_name 3 (codes "b") ∷ codes "=" ∷ (literal_word 6).spelling ∷ codes "," ∷ printed_name 4 (codes "c") ∷ codes "=" ∷ (literal_word 9).spelling ∷ codes "," ∷ printed_name 5 (codes "d") ∷ codes "=" ∷ codes "-" ∷ (literal_word 1).spelling ∷ codes "," ∷ printed_name 6 (codes "e") ∷ codes "=" ∷ codes "-" ∷ (literal_word 5).spelling ∷ codes "," ∷ printed_name 7 (codes "f") ∷ codes "=" ∷ codes "-" ∷ (literal_word 6).spelling ∷ codes "}" ∷ codes ";" ∷ []
unfolding spells spells_tokens spells_by
form_27 = refl

-- a reference to a const object (5.19, 8.5.3)
form_28 : spells (codes "const int n = 3; const int &r = n; char a[n]; int x = r;") ≡ codes "const" ∷ codes "int" ∷ printed_name 1 (codes "n") ∷ codes "=" ∷ codes "3" ∷ codes ";" ∷ codes "const" ∷ codes "int" ∷ codes "&" ∷ printed_name 2 (codes "r") ∷ codes "=" ∷ printed_name 1 (codes "n") ∷ codes ";" ∷ codes "char" ∷ printed_name 3 (codes "a") ∷ codes "[" ∷ (literal_word 3).spelling ∷ codes "]" ∷ codes ";" ∷ codes "int" ∷ printed_name 4 (codes "x") ∷ codes "=" ∷ printed_name 2 (codes "r") ∷ codes ";" ∷ []
unfolding spells spells_tokens spells_by
form_28 = refl

-- a default argument is converted to the type of its parameter, and each call without one has it (8.3.6)
form_29 : spells (codes "int f(int, long = 2); int x = f(1), y = f(1, 3L);") ≡ codes "int" ∷ printed_name 1 (codes "f") ∷ codes "(" ∷ codes "int" ∷ codes "," ∷ codes "long" ∷ codes ")" ∷ codes ";" ∷ codes "int" ∷ printed_name 2 (codes "x") ∷ codes "=" ∷ printed_name 1 (codes "f") ∷ codes "(" ∷ codes "1" ∷ codes "," ∷ codes "static_cast" ∷ codes "<" ∷ codes "long" ∷ codes ">" ∷ codes "(" ∷ codes "2" ∷ codes ")" ∷ codes ")" ∷ codes ";" ∷ codes "int" ∷ printed_name 3 (codes "y") ∷ codes "=" ∷ printed_name 1 (codes "f") ∷ codes "(" ∷ codes "1" ∷ codes "," ∷ codes "3L" ∷ codes ")" ∷ codes ";" ∷ []
unfolding spells spells_tokens spells_by
form_29 = refl

-- a call in a body means the function that is better than the other one (6.6.3, 8.4, 13.3.3)
form_30 : spells (codes "int f(int); int f(long); int g() { return f(1); }") ≡ codes "int" ∷ printed_name 1 (codes "f") ∷ codes "(" ∷ codes "int" ∷ codes ")" ∷ codes ";" ∷ codes "int" ∷ printed_name 2 (codes "f") ∷ codes "(" ∷ codes "long" ∷ codes ")" ∷ codes ";" ∷ codes "int" ∷ printed_name 3 (codes "g") ∷ codes "(" ∷ codes ")" ∷ codes ";" ∷ codes "int" ∷ printed_name 3 (codes "g") ∷ codes "(" ∷ codes ")" ∷ codes "{" ∷ codes "  " ∷ codes "return" ∷ printed_name 1 (codes "f") ∷ codes "(" ∷ codes "1" ∷ codes ")" ∷ codes ";" ∷ codes "}" ∷ []
unfolding spells spells_tokens spells_by
form_30 = refl

-- 5.6 p4: a division by zero
fault_1 : said (codes "enum { k = 1 / 0 };") ≡ Some (record { place = record { line = 1; column = 14 }; text = says.DivisionByZero })
unfolding said said_of_tokens said_by
fault_1 = refl

-- an empty parenthesis (5.1)
fault_2 : said (codes "int x = ();") ≡ Some (record { place = record { line = 1; column = 10 }; text = says.SyntaxError })
unfolding said said_of_tokens said_by
fault_2 = refl

-- a conditional without its middle (5.16)
fault_3 : said (codes "bool b; int x = b ? : 2;") ≡ Some (record { place = record { line = 1; column = 21 }; text = says.SyntaxError })
unfolding said said_of_tokens said_by
fault_3 = refl

-- no operand stands behind the size of a type (5.3.3)
fault_4 : said (codes "int y; int x = sizeof(int)y;") ≡ Some (record { place = record { line = 1; column = 27 }; text = says.SyntaxError })
unfolding said said_of_tokens said_by
fault_4 = refl

-- the name of a type before an operator (5)
fault_5 : said (codes "typedef int I; int x = I + 1;") ≡ Some (record { place = record { line = 1; column = 26 }; text = says.SyntaxError })
unfolding said said_of_tokens said_by
fault_5 = refl

-- dynamic_cast inside an expression is left out (5.2.7)
fault_6 : said (codes "void *p; int x = *(int *)dynamic_cast<void *>(p);") ≡ Some (record { place = record { line = 1; column = 26 }; text = says.LeftOut form.DynamicCast })
unfolding said said_of_tokens said_by
fault_6 = refl

-- the name of several functions behind an operator that calls is left out (13.4)
fault_7 : said (codes "int f(int); int f(char); int x = (*f)(1);") ≡ Some (record { place = record { line = 1; column = 36 }; text = says.LeftOut form.AddressOfSeveralFunctions })
unfolding said said_of_tokens said_by
fault_7 = refl

-- what a pointer to no class points to has no members (5.2.5)
fault_8 : said (codes "int *p; int y = p->z;") ≡ Some (record { place = record { line = 1; column = 18 }; text = says.OperandsDoNotFit })
unfolding said said_of_tokens said_by
fault_8 = refl

-- the sum of an enumerator and an integer is not read yet (5.7)
fault_9 : said (codes "enum E { a, b } e, f; int x = a + 1;") ≡ Some (record { place = record { line = 1; column = 33 }; text = says.NotBuilt })
unfolding said said_of_tokens said_by
fault_9 = refl

-- a logical operator with an enumerator is not read yet (5.14)
fault_10 : said (codes "enum E { a, b } e, f; bool x = true && a;") ≡ Some (record { place = record { line = 1; column = 37 }; text = says.NotBuilt })
unfolding said said_of_tokens said_by
fault_10 = refl

-- an undeclared name in the value of an enumerator (3.4.1, 7.2)
fault_11 : said (codes "enum { a = 1, b = a + c };") ≡ Some (record { place = record { line = 1; column = 23 }; text = says.UndeclaredName (codes "c") })
unfolding said said_of_tokens said_by
fault_11 = refl

-- an argument's fault comes before the undeclared called name (5.2.2)
fault_12 : said (codes "int x = f(1, y);") ≡ Some (record { place = record { line = 1; column = 14 }; text = says.UndeclaredName (codes "y") })
unfolding said said_of_tokens said_by
fault_12 = refl

-- an enumerator is no null pointer constant (4.10, 13.3.2)
fault_13 : said (codes "enum E { e }; int f(int *); int x = f(e);") ≡ Some (record { place = record { line = 1; column = 37 }; text = says.NoViableFunction })
unfolding said said_of_tokens said_by
fault_13 = refl

-- two conversions of an int (13.3.3.2)
fault_14 : said (codes "int f(long); int f(unsigned); int x = 1 + f(1);") ≡ Some (record { place = record { line = 1; column = 43 }; text = says.AmbiguousCall })
unfolding said said_of_tokens said_by
fault_14 = refl

-- a null pointer constant goes to a pointer and to bool (4.10, 4.12, 13.3.3.2)
fault_15 : said (codes "int f(bool); int f(int *); int x = f(0);") ≡ Some (record { place = record { line = 1; column = 36 }; text = says.AmbiguousCall })
unfolding said said_of_tokens said_by
fault_15 = refl

-- the call of a pointer to a pointer to a function (5.2.2)
fault_16 : said (codes "int (**p)(int); int y = p(1);") ≡ Some (record { place = record { line = 1; column = 25 }; text = says.OperandsDoNotFit })
unfolding said said_of_tokens said_by
fault_16 = refl

-- a fault through a result stands at the called name (5.2.2)
fault_17 : said (codes "int (*f(int))(char *); int x = f(1)(2);") ≡ Some (record { place = record { line = 1; column = 32 }; text = says.NoConversion })
unfolding said said_of_tokens said_by
fault_17 = refl

-- a postfix step is no lvalue (5.2.6)
fault_18 : said (codes "int x; int y = x++++;") ≡ Some (record { place = record { line = 1; column = 19 }; text = says.OperandsDoNotFit })
unfolding said said_of_tokens said_by
fault_18 = refl

-- a pointer is less than an integer (5.9)
fault_19 : said (codes "int *p; int x; bool b = p < x;") ≡ Some (record { place = record { line = 1; column = 27 }; text = says.OperandsDoNotFit })
unfolding said said_of_tokens said_by
fault_19 = refl

-- the size of an array without a bound (5.3.3)
fault_20 : said (codes "extern int a[]; unsigned long n = sizeof a;") ≡ Some (record { place = record { line = 1; column = 35 }; text = says.IncompleteClass })
unfolding said said_of_tokens said_by
fault_20 = refl

-- const_cast of an object to a reference to another type (5.2.11 p4)
fault_21 : said (codes "extern const int c; long &r = const_cast<long &>(c);") ≡ Some (record { place = record { line = 1; column = 31 }; text = says.OperandsDoNotFit })
unfolding said said_of_tokens said_by
fault_21 = refl

-- a pointer is initialized by a floating value (8.5)
fault_22 : said (codes "double d; int *p = d;") ≡ Some (record { place = record { line = 1; column = 18 }; text = says.NoConversion })
unfolding said said_of_tokens said_by
fault_22 = refl

-- a conditional of strings does not lose const in an initializer (8.5, 4.2)
fault_23 : said (codes "bool b; char *s = b ? \"a\" : \"b\";") ≡ Some (record { place = record { line = 1; column = 17 }; text = says.NoConversion })
unfolding said said_of_tokens said_by
fault_23 = refl

-- two values in the braces of an object (8.5 p13)
fault_24 : said (codes "int x = { 1, 2 };") ≡ Some (record { place = record { line = 1; column = 7 }; text = says.OperandsDoNotFit })
unfolding said said_of_tokens said_by
fault_24 = refl

-- a division by a constant of zero (5.6 p4, 5.19)
fault_25 : said (codes "const int z = 0; enum { a = 1, b = a / z };") ≡ Some (record { place = record { line = 1; column = 38 }; text = says.DivisionByZero })
unfolding said said_of_tokens said_by
fault_25 = refl

-- a default argument means no parameter (8.3.6 p9)
fault_26 : said (codes "int f(int a, int b = a);") ≡ Some (record { place = record { line = 1; column = 22 }; text = says.OperandsDoNotFit })
unfolding said said_of_tokens said_by
fault_26 = refl

-- a default argument is given once (8.3.6 p4)
fault_27 : said (codes "int f(int = 1); int f(int = 1);") ≡ Some (record { place = record { line = 1; column = 21 }; text = says.ConflictingDeclaration (codes "f") })
unfolding said said_of_tokens said_by
fault_27 = refl

-- a default argument has a value of the type of its parameter (8.3.6 p5)
fault_28 : said (codes "int f(int *p = 1);") ≡ Some (record { place = record { line = 1; column = 14 }; text = says.NoConversion })
unfolding said said_of_tokens said_by
fault_28 = refl

-- a default argument in front of a parameter without one is of no use to a call (8.3.6)
fault_29 : said (codes "int f(int = 1, int); int x = f();") ≡ Some (record { place = record { line = 1; column = 30 }; text = says.NoViableFunction })
unfolding said said_of_tokens said_by
fault_29 = refl

-- two values in brackets (8.5)
fault_30 : said (codes "int x(1, 2);") ≡ Some (record { place = record { line = 1; column = 6 }; text = says.OperandsDoNotFit })
unfolding said said_of_tokens said_by
fault_30 = refl

-- a name in a body that is not declared (3.4.1, 8.4)
fault_31 : said (codes "int x; int f(int y) { int z = y; return z + x + w; }") ≡ Some (record { place = record { line = 1; column = 49 }; text = says.UndeclaredName (codes "w") })
unfolding said said_of_tokens said_by
fault_31 = refl

-- ---- namespaces

-- 7.3.1: what is opened again means what was declared in it before
space_1 : said (codes "namespace N { int f(int); } namespace N { int a = f(1); }") ≡ None
unfolding said said_of_tokens said_by
space_1 = refl

-- 7.3.1, 3.4.1: behind a namespace its names are not seen
space_2 : said (codes "namespace N { int x; } int y = x;") ≡ Some (record { place = record { line = 1; column = 32 }; text = says.UndeclaredName (codes "x") })
unfolding said said_of_tokens said_by
space_2 = refl

-- 7.3.2, 7.3.4: by another name, and a directive
space_3 : said (codes "namespace N { int f(int); } namespace M = N; using namespace M; int a = f(1);") ≡ None
unfolding said said_of_tokens said_by
space_3 = refl

-- 7.3.1.1
space_4 : said (codes "namespace { int x; } int y = x;") ≡ None
unfolding said said_of_tokens said_by
space_4 = refl

-- 7.3.4: two directives, and one name in both
space_5 : said (codes "namespace A { int x; } namespace B { int x; } using namespace A; using namespace B; int y = x;") ≡ Some (record { place = record { line = 1; column = 93 }; text = says.AmbiguousName (codes "x") })
unfolding said said_of_tokens said_by
space_5 = refl

-- 3.4.6: what is no namespace is passed over
space_6 : said (codes "int N; using namespace N;") ≡ Some (record { place = record { line = 1; column = 24 }; text = says.UndeclaredName (codes "N") })
unfolding said said_of_tokens said_by
space_6 = refl

-- 3.4.2: the type of the argument finds a function that another one hides
space_7 : said (codes "namespace N { enum E { e }; int f(E); } using namespace N; namespace M { int f(int *); int a = f(e); }") ≡ None
unfolding said said_of_tokens said_by
space_7 = refl

-- 3.4.2: not so where the name stands in brackets
space_8 : said (codes "namespace N { enum E { e }; int f(E); } using namespace N; namespace M { int f(int *); int a = (f)(e); }") ≡ Some (record { place = record { line = 1; column = 97 }; text = says.NoViableFunction })
unfolding said said_of_tokens said_by
space_8 = refl

-- 3.5: what blocks declare is a member of the namespace round them
space_9 : said (codes "int g() { int f(long); extern int x; return f(x); } namespace N { int h() { extern int y; return y; } int y = 1; }") ≡ None
unfolding said said_of_tokens said_by
space_9 = refl

-- 7.3.2, 7.3.4: in a block
space_10 : said (codes "namespace N { int x; } int f() { namespace M = N; using namespace M; return x; } int y = x;") ≡ Some (record { place = record { line = 1; column = 90 }; text = says.UndeclaredName (codes "x") })
unfolding said said_of_tokens said_by
space_10 = refl

-- 7.3, 7.5: in a linkage, and one in it
space_11 : said (codes "extern \"C\" namespace N { extern \"C\" { int x; } int y = x; } int z = y;") ≡ Some (record { place = record { line = 1; column = 69 }; text = says.UndeclaredName (codes "y") })
unfolding said said_of_tokens said_by
space_11 = refl

-- 3.4.2: the call means what the type of its argument finds
space_12 : spells (codes "namespace N { enum E { e }; int f(E); } using namespace N; namespace M { int f(int *); int a = f(e); }") ≡ codes "enum" ∷ printed_name 1 (codes "E") ∷ codes "{" ∷ printed_name 2 (codes "e") ∷ codes "=" ∷ (literal_word 0).spelling ∷ codes "}" ∷ codes ";" ∷ codes "int" ∷ printed_name 3 (codes "f") ∷ codes "(" ∷ printed_name 1 (codes "E") ∷ codes ")" ∷ codes ";" ∷ codes "int" ∷ printed_name 4 (codes "f") ∷ codes "(" ∷ codes "int" ∷ codes "*" ∷ codes ")" ∷ codes ";" ∷ codes "int" ∷ printed_name 5 (codes "a") ∷ codes "=" ∷ printed_name 3 (codes "f") ∷ codes "(" ∷ printed_name 2 (codes "e") ∷ codes ")" ∷ codes ";" ∷ []
unfolding spells spells_tokens spells_by
space_12 = refl

-- 3.5: a function and an object of the namespace, that a block declares
space_13 : spells (codes "int g() { int f(long); extern int x; return f(x); }") ≡ codes "int" ∷ printed_name 1 (codes "g") ∷ codes "(" ∷ codes ")" ∷ codes ";" ∷ codes "int" ∷ printed_name 2 (codes "f") ∷ codes "(" ∷ codes "long" ∷ codes ")" ∷ codes ";" ∷ codes "extern" ∷ codes "int" ∷ printed_name 3 (codes "x") ∷ codes ";" ∷ codes "int" ∷ printed_name 1 (codes "g") ∷ codes "(" ∷ codes ")" ∷ codes "{" ∷ codes "  " ∷ codes "return" ∷ printed_name 2 (codes "f") ∷ codes "(" ∷ codes "static_cast" ∷ codes "<" ∷ codes "long" ∷ codes ">" ∷ codes "(" ∷ printed_name 3 (codes "x") ∷ codes ")" ∷ codes ")" ∷ codes ";" ∷ codes "}" ∷ []
unfolding spells spells_tokens spells_by
space_13 = refl

-- ---- names with qualifiers

-- 3.4.3.2: what a namespace itself declares; behind `::` alone, the unit
qualified_1 : said (codes "int x; namespace N { int f(int); int x; enum E { e }; } int y = N::f(N::e) + N::x + ::x + ::N::x;") ≡ None
unfolding said said_of_tokens said_by
qualified_1 = refl

-- 3.4.3: what is not declared there
qualified_2 : said (codes "namespace N { int x; } int y = N::z;") ≡ Some (record { place = record { line = 1; column = 35 }; text = says.UndeclaredName (codes "z") })
unfolding said said_of_tokens said_by
qualified_2 = refl

-- 3.4.3: a part before `::` that is not declared
qualified_3 : said (codes "int y = N::z;") ≡ Some (record { place = record { line = 1; column = 9 }; text = says.UndeclaredName (codes "N") })
unfolding said said_of_tokens said_by
qualified_3 = refl

-- 3.4.2: the types of its arguments find nothing for a name with qualifiers
qualified_4 : said (codes "namespace N { enum E { e }; int f(E); } namespace M { } int a = M::f(N::e);") ≡ Some (record { place = record { line = 1; column = 68 }; text = says.UndeclaredName (codes "f") })
unfolding said said_of_tokens said_by
qualified_4 = refl

-- 3.4.3.2: two namespaces that directives of one nominate
qualified_5 : said (codes "namespace A { int x; } namespace B { int x; } namespace C { using namespace A; using namespace B; } int y = C::x;") ≡ Some (record { place = record { line = 1; column = 112 }; text = says.AmbiguousName (codes "x") })
unfolding said said_of_tokens said_by
qualified_5 = refl

-- 7.3.3: a using-declaration declares what it brings where it stands
qualified_6 : said (codes "namespace N { int f(int); int f(char); } namespace M { using N::f; } int y = M::f(1) + M::f('c'); int z = f(1);") ≡ Some (record { place = record { line = 1; column = 107 }; text = says.UndeclaredName (codes "f") })
unfolding said said_of_tokens said_by
qualified_6 = refl

-- 8.3, 3.4.1: behind the name of a member its namespace is looked up
qualified_7 : said (codes "namespace N { int f(int); int g(int); extern int x; } int N::f(int a) { return g(a); } int N::x = g(1); int y = g(1);") ≡ Some (record { place = record { line = 1; column = 113 }; text = says.UndeclaredName (codes "g") })
unfolding said said_of_tokens said_by
qualified_7 = refl

-- 8.3: what has qualifiers was declared before, with that type
qualified_8 : said (codes "namespace N { int f(int); } int N::f(long) { return 1; }") ≡ Some (record { place = record { line = 1; column = 36 }; text = says.ConflictingDeclaration (codes "f") })
unfolding said said_of_tokens said_by
qualified_8 = refl

-- 8.3: in the plain form such a member is a declaration more of what its namespace declares
qualified_9 : spells (codes "namespace N { typedef int T; const int k = 3; T f(T); extern T x; } N::T N::f(T p) { return p + k; } int N::x = k, y = N::k;") ≡ codes "int" ∷ printed_name 1 (codes "f") ∷ codes "(" ∷ codes "int" ∷ codes ")" ∷ codes ";" ∷ codes "const" ∷ codes "int" ∷ printed_name 2 (codes "k") ∷ codes "=" ∷ codes "3" ∷ codes ";" ∷ codes "extern" ∷ codes "int" ∷ printed_name 3 (codes "x") ∷ codes ";" ∷ codes "int" ∷ printed_name 3 (codes "x") ∷ codes "=" ∷ printed_name 2 (codes "k") ∷ codes ";" ∷ codes "int" ∷ printed_name 4 (codes "y") ∷ codes "=" ∷ printed_name 2 (codes "k") ∷ codes ";" ∷ codes "int" ∷ printed_name 1 (codes "f") ∷ codes "(" ∷ codes "int" ∷ printed_name 5 (codes "p") ∷ codes ")" ∷ codes "{" ∷ codes "  " ∷ codes "return" ∷ printed_name 5 (codes "p") ∷ codes "+" ∷ printed_name 2 (codes "k") ∷ codes ";" ∷ codes "}" ∷ []
unfolding spells spells_tokens spells_by
qualified_9 = refl

-- 7.3.3: a using-declaration stands in no plain form
qualified_10 : spells (codes "namespace N { int f(int); int x; } using N::f; int g() { using N::x; return f(x); }") ≡ codes "int" ∷ printed_name 1 (codes "f") ∷ codes "(" ∷ codes "int" ∷ codes ")" ∷ codes ";" ∷ codes "int" ∷ printed_name 2 (codes "g") ∷ codes "(" ∷ codes ")" ∷ codes ";" ∷ codes "int" ∷ printed_name 3 (codes "x") ∷ codes ";" ∷ codes "int" ∷ printed_name 2 (codes "g") ∷ codes "(" ∷ codes ")" ∷ codes "{" ∷ codes "  " ∷ codes "return" ∷ printed_name 1 (codes "f") ∷ codes "(" ∷ printed_name 3 (codes "x") ∷ codes ")" ∷ codes ";" ∷ codes "}" ∷ []
unfolding spells spells_tokens spells_by
qualified_10 = refl

-- ---- classes

-- 9.2, 3.4.1: a name in a bound of a member that no scope outward declares
class_1 : said (codes "struct S { int a[n]; };") ≡ Some (record { place = record { line = 1; column = 18 }; text = says.UndeclaredName (codes "n") })
unfolding said said_of_tokens said_by
class_1 = refl

-- 9.2, 10.2: a member is found before its class is complete, and not named without an object (9.3)
class_2 : said (codes "struct S { int a; char c[a]; };") ≡ Some (record { place = record { line = 1; column = 26 }; text = says.OperandsDoNotFit })
unfolding said said_of_tokens said_by
class_2 = refl

-- 9, 9.2: the name of a class means it in its own scope, where it is not complete yet
class_3 : said (codes "struct S { S s; };") ≡ Some (record { place = record { line = 1; column = 14 }; text = says.IncompleteClass })
unfolding said said_of_tokens said_by
class_3 = refl

-- 9.2: a member is declared once
class_4 : said (codes "struct S { int a; char a; };") ≡ Some (record { place = record { line = 1; column = 24 }; text = says.ConflictingDeclaration (codes "a") })
unfolding said said_of_tokens said_by
class_4 = refl

-- 3.2: a class is defined once
class_5 : said (codes "struct S { int a; }; struct S { };") ≡ Some (record { place = record { line = 1; column = 29 }; text = says.ConflictingDeclaration (codes "S") })
unfolding said said_of_tokens said_by
class_5 = refl

-- 9.6: a bit-field is left out
class_6 : said (codes "struct S { int a : 3; };") ≡ Some (record { place = record { line = 1; column = 16 }; text = says.LeftOut form.BitField })
unfolding said said_of_tokens said_by
class_6 = refl

-- 9.2 p2: the body of a function in a class is read where the class has ended, with all its members
class_7 : said (codes "struct S { int f() { return x; } int y; };") ≡ Some (record { place = record { line = 1; column = 29 }; text = says.UndeclaredName (codes "x") })
unfolding said said_of_tokens said_by
class_7 = refl

-- and not before that
class_7_later : said (codes "struct S { int f() { return x; } int 1; };") ≡ Some (record { place = record { line = 1; column = 38 }; text = says.SyntaxError })
unfolding said said_of_tokens said_by
class_7_later = refl

-- where it stands its brackets have to close
class_7_brackets : said (codes "struct S { int f() { ( } };") ≡ Some (record { place = record { line = 1; column = 24 }; text = says.SyntaxError })
unfolding said said_of_tokens said_by
class_7_brackets = refl

-- 10.4 p2: only a virtual function is pure
class_7_pure : said (codes "struct S { virtual int f() = 0; int g() = 0; };") ≡ Some (record { place = record { line = 1; column = 41 }; text = says.SyntaxError })
unfolding said said_of_tokens said_by
class_7_pure = refl

-- 9.3: the definition stands outside of the class
class_7_defined : spells (codes "struct S { int f() { return n; } int n; };") ≡ codes "struct" ∷ printed_name 1 (codes "S") ∷ codes ";" ∷ codes "struct" ∷ printed_name 1 (codes "S") ∷ codes "{" ∷ codes "  " ∷ codes "int" ∷ printed_name 2 (codes "f") ∷ codes "(" ∷ codes ")" ∷ codes ";" ∷ codes "  " ∷ codes "int" ∷ printed_name 3 (codes "n") ∷ codes ";" ∷ codes "}" ∷ codes ";" ∷ codes "int" ∷ printed_name 1 (codes "S") ∷ codes "::" ∷ printed_name 2 (codes "f") ∷ codes "(" ∷ codes ")" ∷ codes "{" ∷ codes "  " ∷ codes "return" ∷ codes "(" ∷ codes "*" ∷ codes "this" ∷ codes ")" ∷ codes "." ∷ printed_name 3 (codes "n") ∷ codes ";" ∷ codes "}" ∷ []
unfolding spells spells_tokens spells_by
class_7_defined = refl

-- 8.3.6: a call of a member is filled up with the default arguments of its function
class_default : spells (codes "struct S { int f(int a = 1); }; int g(S &s) { return s.f(); }") ≡ codes "struct" ∷ printed_name 1 (codes "S") ∷ codes ";" ∷ codes "struct" ∷ printed_name 1 (codes "S") ∷ codes "{" ∷ codes "  " ∷ codes "int" ∷ printed_name 2 (codes "f") ∷ codes "(" ∷ codes "int" ∷ codes ")" ∷ codes ";" ∷ codes "}" ∷ codes ";" ∷ codes "int" ∷ printed_name 3 (codes "g") ∷ codes "(" ∷ printed_name 1 (codes "S") ∷ codes "&" ∷ codes ")" ∷ codes ";" ∷ codes "int" ∷ printed_name 3 (codes "g") ∷ codes "(" ∷ printed_name 1 (codes "S") ∷ codes "&" ∷ printed_name 4 (codes "s") ∷ codes ")" ∷ codes "{" ∷ codes "  " ∷ codes "return" ∷ printed_name 4 (codes "s") ∷ codes "." ∷ printed_name 2 (codes "f") ∷ codes "(" ∷ codes "1" ∷ codes ")" ∷ codes ";" ∷ codes "}" ∷ []
unfolding spells spells_tokens spells_by
class_default = refl

-- 9.2 p2: all members are known in a default argument
class_default_deferred : spells (codes "struct S { int f(int a = g()); static int g(); }; int h(S &s) { return s.f(); }") ≡ codes "struct" ∷ printed_name 1 (codes "S") ∷ codes ";" ∷ codes "struct" ∷ printed_name 1 (codes "S") ∷ codes "{" ∷ codes "  " ∷ codes "int" ∷ printed_name 2 (codes "f") ∷ codes "(" ∷ codes "int" ∷ codes ")" ∷ codes ";" ∷ codes "  " ∷ codes "static" ∷ codes "int" ∷ printed_name 3 (codes "g") ∷ codes "(" ∷ codes ")" ∷ codes ";" ∷ codes "}" ∷ codes ";" ∷ codes "int" ∷ printed_name 4 (codes "h") ∷ codes "(" ∷ printed_name 1 (codes "S") ∷ codes "&" ∷ codes ")" ∷ codes ";" ∷ codes "int" ∷ printed_name 4 (codes "h") ∷ codes "(" ∷ printed_name 1 (codes "S") ∷ codes "&" ∷ printed_name 5 (codes "s") ∷ codes ")" ∷ codes "{" ∷ codes "  " ∷ codes "return" ∷ printed_name 5 (codes "s") ∷ codes "." ∷ printed_name 2 (codes "f") ∷ codes "(" ∷ printed_name 1 (codes "S") ∷ codes "::" ∷ printed_name 3 (codes "g") ∷ codes "(" ∷ codes ")" ∷ codes ")" ∷ codes ";" ∷ codes "}" ∷ []
unfolding spells spells_tokens spells_by
class_default_deferred = refl

-- 9.4.2: the value of a static member that stands behind it
class_default_value : spells (codes "struct S { int f(int a = n); static const int n = 2; }; int g(S &s) { return s.f(); }") ≡ codes "struct" ∷ printed_name 1 (codes "S") ∷ codes ";" ∷ codes "struct" ∷ printed_name 1 (codes "S") ∷ codes "{" ∷ codes "  " ∷ codes "int" ∷ printed_name 2 (codes "f") ∷ codes "(" ∷ codes "int" ∷ codes ")" ∷ codes ";" ∷ codes "  " ∷ codes "static" ∷ codes "const" ∷ codes "int" ∷ printed_name 3 (codes "n") ∷ codes "=" ∷ (literal_word 2).spelling ∷ codes ";" ∷ codes "}" ∷ codes ";" ∷ codes "int" ∷ printed_name 4 (codes "g") ∷ codes "(" ∷ printed_name 1 (codes "S") ∷ codes "&" ∷ codes ")" ∷ codes ";" ∷ codes "int" ∷ printed_name 4 (codes "g") ∷ codes "(" ∷ printed_name 1 (codes "S") ∷ codes "&" ∷ printed_name 5 (codes "s") ∷ codes ")" ∷ codes "{" ∷ codes "  " ∷ codes "return" ∷ printed_name 5 (codes "s") ∷ codes "." ∷ printed_name 2 (codes "f") ∷ codes "(" ∷ printed_name 1 (codes "S") ∷ codes "::" ∷ printed_name 3 (codes "n") ∷ codes ")" ∷ codes ";" ∷ codes "}" ∷ []
unfolding spells spells_tokens spells_by
class_default_value = refl

-- and all default arguments are known in a body
class_default_called : spells (codes "struct S { int f() { return g(); } int g(int a = 2); };") ≡ codes "struct" ∷ printed_name 1 (codes "S") ∷ codes ";" ∷ codes "struct" ∷ printed_name 1 (codes "S") ∷ codes "{" ∷ codes "  " ∷ codes "int" ∷ printed_name 2 (codes "f") ∷ codes "(" ∷ codes ")" ∷ codes ";" ∷ codes "  " ∷ codes "int" ∷ printed_name 3 (codes "g") ∷ codes "(" ∷ codes "int" ∷ codes ")" ∷ codes ";" ∷ codes "}" ∷ codes ";" ∷ codes "int" ∷ printed_name 1 (codes "S") ∷ codes "::" ∷ printed_name 2 (codes "f") ∷ codes "(" ∷ codes ")" ∷ codes "{" ∷ codes "  " ∷ codes "return" ∷ codes "(" ∷ codes "*" ∷ codes "this" ∷ codes ")" ∷ codes "." ∷ printed_name 3 (codes "g") ∷ codes "(" ∷ codes "2" ∷ codes ")" ∷ codes ";" ∷ codes "}" ∷ []
unfolding spells spells_tokens spells_by
class_default_called = refl

-- 9.2 p2: those of a class in another one are read where the outermost class has ended
class_default_nested : spells (codes "struct O { struct I { int g(int a = O::h(1)) { return a; } }; static int h(int b = 2) { return b; } int k(I &i) { return i.g(); } };") ≡ codes "struct" ∷ printed_name 1 (codes "O") ∷ codes ";" ∷ codes "struct" ∷ printed_name 2 (codes "I") ∷ codes ";" ∷ codes "struct" ∷ printed_name 2 (codes "I") ∷ codes "{" ∷ codes "  " ∷ codes "int" ∷ printed_name 3 (codes "g") ∷ codes "(" ∷ codes "int" ∷ codes ")" ∷ codes ";" ∷ codes "}" ∷ codes ";" ∷ codes "struct" ∷ printed_name 1 (codes "O") ∷ codes "{" ∷ codes "  " ∷ codes "static" ∷ codes "int" ∷ printed_name 4 (codes "h") ∷ codes "(" ∷ codes "int" ∷ codes ")" ∷ codes ";" ∷ codes "  " ∷ codes "int" ∷ printed_name 5 (codes "k") ∷ codes "(" ∷ printed_name 2 (codes "I") ∷ codes "&" ∷ codes ")" ∷ codes ";" ∷ codes "}" ∷ codes ";" ∷ codes "int" ∷ printed_name 2 (codes "I") ∷ codes "::" ∷ printed_name 3 (codes "g") ∷ codes "(" ∷ codes "int" ∷ printed_name 6 (codes "a") ∷ codes ")" ∷ codes "{" ∷ codes "  " ∷ codes "return" ∷ printed_name 6 (codes "a") ∷ codes ";" ∷ codes "}" ∷ codes "int" ∷ printed_name 1 (codes "O") ∷ codes "::" ∷ printed_name 4 (codes "h") ∷ codes "(" ∷ codes "int" ∷ printed_name 7 (codes "b") ∷ codes ")" ∷ codes "{" ∷ codes "  " ∷ codes "return" ∷ printed_name 7 (codes "b") ∷ codes ";" ∷ codes "}" ∷ codes "int" ∷ printed_name 1 (codes "O") ∷ codes "::" ∷ printed_name 5 (codes "k") ∷ codes "(" ∷ printed_name 2 (codes "I") ∷ codes "&" ∷ printed_name 8 (codes "i") ∷ codes ")" ∷ codes "{" ∷ codes "  " ∷ codes "return" ∷ printed_name 8 (codes "i") ∷ codes "." ∷ printed_name 3 (codes "g") ∷ codes "(" ∷ printed_name 1 (codes "O") ∷ codes "::" ∷ printed_name 4 (codes "h") ∷ codes "(" ∷ codes "1" ∷ codes ")" ∷ codes ")" ∷ codes ";" ∷ codes "}" ∷ []
unfolding spells spells_tokens spells_by
class_default_nested = refl

-- 3.4.1, 8.3.6: a name in a default argument that no scope outward declares
class_default_unknown : said (codes "struct S { int f(int a = n); };") ≡ Some (record { place = record { line = 1; column = 26 }; text = says.UndeclaredName (codes "n") })
unfolding said said_of_tokens said_by
class_default_unknown = refl

-- it is read where the class has ended, and not before that
class_default_later : said (codes "struct S { int f(int a = n); int 1; };") ≡ Some (record { place = record { line = 1; column = 34 }; text = says.SyntaxError })
unfolding said said_of_tokens said_by
class_default_later = refl

-- where it stands its brackets have to close
class_default_brackets : said (codes "struct S { int f(int a = (]); };") ≡ Some (record { place = record { line = 1; column = 27 }; text = says.SyntaxError })
unfolding said said_of_tokens said_by
class_default_brackets = refl

-- default arguments are read before the bodies
class_default_first : said (codes "struct S { int f() { return m; } int g(int a = n); };") ≡ Some (record { place = record { line = 1; column = 48 }; text = says.UndeclaredName (codes "n") })
unfolding said said_of_tokens said_by
class_default_first = refl

-- 8.3.6: one that was not read yet fills up no call
class_default_order : said (codes "struct S { static int f(int a = g()); static int g(int b = 3); };") ≡ Some (record { place = record { line = 1; column = 33 }; text = says.OperandsDoNotFit })
unfolding said said_of_tokens said_by
class_default_order = refl

-- 13.3.3: a call in a default argument, of two functions of which none is better than the other
class_default_choice : said (codes "int f(long); int f(char); struct S { int g(int a = f(1)); };") ≡ Some (record { place = record { line = 1; column = 52 }; text = says.AmbiguousCall })
unfolding said said_of_tokens said_by
class_default_choice = refl

-- 8.3.6 p5: it has a value of the type of its parameter
class_default_converted : said (codes "struct S { int f(int *p = 1); };") ≡ Some (record { place = record { line = 1; column = 25 }; text = says.NoConversion })
unfolding said said_of_tokens said_by
class_default_converted = refl

-- 8.3.6 p9: it means no parameter
class_default_parameter : said (codes "struct S { int f(int a, int b = a); };") ≡ Some (record { place = record { line = 1; column = 33 }; text = says.OperandsDoNotFit })
unfolding said said_of_tokens said_by
class_default_parameter = refl

-- 8.3.6: where the function is defined outside of its class, one is not read yet
class_default_outside : said (codes "struct S { int f(int); }; int S::f(int a = 1) { return a; }") ≡ Some (record { place = record { line = 1; column = 42 }; text = says.NotBuilt })
unfolding said said_of_tokens said_by
class_default_outside = refl

-- one in a list that no member takes is read with its faults (8.3.6 p3)
class_default_of_none : said (codes "struct S { enum E { a = sizeof(int (*)(int x = y)) }; };") ≡ Some (record { place = record { line = 1; column = 48 }; text = says.UndeclaredName (codes "y") })
unfolding said said_of_tokens said_by
class_default_of_none = refl

-- 8.5: what constructors do is not read yet
class_8 : said (codes "class S { int a; public: int b, *c; } s;") ≡ Some (record { place = record { line = 1; column = 39 }; text = says.NotBuilt })
unfolding said said_of_tokens said_by
class_8 = refl

-- 5.2.5, 10.2: a name that is no member of the class
class_8_unknown : said (codes "struct S { int a; } *p; int x = p->b;") ≡ Some (record { place = record { line = 1; column = 36 }; text = says.UndeclaredName (codes "b") })
unfolding said said_of_tokens said_by
class_8_unknown = refl

-- 5.2.5: a class is complete where a member of its objects is named
class_8_incomplete : said (codes "struct S; S *p; int x = (*p).b;") ≡ Some (record { place = record { line = 1; column = 30 }; text = says.IncompleteClass })
unfolding said said_of_tokens said_by
class_8_incomplete = refl

-- 5.2.5 p4, 7.1.5.1: a member of a const object is const
class_8_const : said (codes "struct S { int a; }; void f(const S *p) { p->a = 1; }") ≡ Some (record { place = record { line = 1; column = 48 }; text = says.OperandsDoNotFit })
unfolding said said_of_tokens said_by
class_8_const = refl

-- 9.8: a class in a block is left out
class_9 : said (codes "void f() { struct S { int a; }; }") ≡ Some (record { place = record { line = 1; column = 12 }; text = says.LeftOut form.LocalClass })
unfolding said said_of_tokens said_by
class_9 = refl

-- 10, 3.4.1: a name of a base that no scope outward declares
class_bases : said (codes "struct D : B { };") ≡ Some (record { place = record { line = 1; column = 12 }; text = says.UndeclaredName (codes "B") })
unfolding said said_of_tokens said_by
class_bases = refl

-- 10.2: two members, of bases, that do not go together
class_bases_twofold : said (codes "struct A { int x; }; struct B { int x; }; struct D : A, B { char c[x]; };") ≡ Some (record { place = record { line = 1; column = 68 }; text = says.AmbiguousName (codes "x") })
unfolding said said_of_tokens said_by
class_bases_twofold = refl

-- 9.2: its members stand in the plain form, each in a declaration of its own
class_10 : spells (codes "struct S { int a; char *b, c[3]; } *p;") ≡ codes "struct" ∷ printed_name 1 (codes "S") ∷ codes ";" ∷ codes "struct" ∷ printed_name 1 (codes "S") ∷ codes "{" ∷ codes "  " ∷ codes "int" ∷ printed_name 2 (codes "a") ∷ codes ";" ∷ codes "  " ∷ codes "char" ∷ codes "*" ∷ printed_name 3 (codes "b") ∷ codes ";" ∷ codes "  " ∷ codes "char" ∷ printed_name 4 (codes "c") ∷ codes "[" ∷ (literal_word 3).spelling ∷ codes "]" ∷ codes ";" ∷ codes "}" ∷ codes ";" ∷ printed_name 1 (codes "S") ∷ codes "*" ∷ printed_name 5 (codes "p") ∷ codes ";" ∷ []
unfolding spells spells_tokens spells_by
class_10 = refl

-- 3.10 p9: a value of a class has the cv words of its type, and so have its members (5.2.5 p4)
class_11 : said (codes "struct S { int a[2]; }; const S f(); void g() { f().a[0] = 1; }") ≡ Some (record { place = record { line = 1; column = 58 }; text = says.OperandsDoNotFit })
unfolding said said_of_tokens said_by
class_11 = refl

-- 5.3.1 p2, 13.3.1.2 p9: the address of an object of a class, of which no more is known
class_12 : spells (codes "struct S; S *f(S &s) { return &s; }") ≡ codes "struct" ∷ printed_name 1 (codes "S") ∷ codes ";" ∷ printed_name 1 (codes "S") ∷ codes "*" ∷ printed_name 2 (codes "f") ∷ codes "(" ∷ printed_name 1 (codes "S") ∷ codes "&" ∷ codes ")" ∷ codes ";" ∷ printed_name 1 (codes "S") ∷ codes "*" ∷ printed_name 2 (codes "f") ∷ codes "(" ∷ printed_name 1 (codes "S") ∷ codes "&" ∷ printed_name 3 (codes "s") ∷ codes ")" ∷ codes "{" ∷ codes "  " ∷ codes "return" ∷ codes "&" ∷ printed_name 3 (codes "s") ∷ codes ";" ∷ codes "}" ∷ []
unfolding spells spells_tokens spells_by
class_12 = refl

-- 5.18: the second operand of a comma, of a class
class_13 : said (codes "struct S { int a; }; int f(const S &s) { (1, s).a = 2; }") ≡ Some (record { place = record { line = 1; column = 51 }; text = says.OperandsDoNotFit })
unfolding said said_of_tokens said_by
class_13 = refl

-- 7.1.3, 9: a class without a name, which only a synonym names
class_14 : spells (codes "typedef struct { int a; } T; T *p;") ≡ codes "struct" ∷ printed_name 1 (codes "unnamed") ∷ codes ";" ∷ codes "struct" ∷ printed_name 1 (codes "unnamed") ∷ codes "{" ∷ codes "  " ∷ codes "int" ∷ printed_name 2 (codes "a") ∷ codes ";" ∷ codes "}" ∷ codes ";" ∷ printed_name 1 (codes "unnamed") ∷ codes "*" ∷ printed_name 3 (codes "p") ∷ codes ";" ∷ []
unfolding spells spells_tokens spells_by
class_14 = refl

-- 7.1.3, 9.4.2: a name of a type in a class, and a static member
class_15 : spells (codes "struct S { typedef int I; I i; static long n; };") ≡ codes "struct" ∷ printed_name 1 (codes "S") ∷ codes ";" ∷ codes "struct" ∷ printed_name 1 (codes "S") ∷ codes "{" ∷ codes "  " ∷ codes "int" ∷ printed_name 2 (codes "i") ∷ codes ";" ∷ codes "  " ∷ codes "static" ∷ codes "long" ∷ printed_name 3 (codes "n") ∷ codes ";" ∷ codes "}" ∷ codes ";" ∷ []
unfolding spells spells_tokens spells_by
class_15 = refl

-- 9.2: a member that is static may have the type of its own class, and another one may not
class_16 : said (codes "struct S { static S s; S t; };") ≡ Some (record { place = record { line = 1; column = 26 }; text = says.IncompleteClass })
unfolding said said_of_tokens said_by
class_16 = refl

-- 9.7: a class in the list of another one, which ends before it
class_17 : spells (codes "struct A { struct B { int x; } b; };") ≡ codes "struct" ∷ printed_name 1 (codes "A") ∷ codes ";" ∷ codes "struct" ∷ printed_name 2 (codes "B") ∷ codes ";" ∷ codes "struct" ∷ printed_name 2 (codes "B") ∷ codes "{" ∷ codes "  " ∷ codes "int" ∷ printed_name 3 (codes "x") ∷ codes ";" ∷ codes "}" ∷ codes ";" ∷ codes "struct" ∷ printed_name 1 (codes "A") ∷ codes "{" ∷ codes "  " ∷ printed_name 2 (codes "B") ∷ printed_name 4 (codes "b") ∷ codes ";" ∷ codes "}" ∷ codes ";" ∷ []
unfolding spells spells_tokens spells_by
class_17 = refl

-- 13.3.1, 13.3.1.1.1: functions of the class of an object are called for it: one that may change it, one that may not, and one
-- that is static
class_18 : spells (codes "struct S { int f(); int f() const; static int f(char); }; void g(S &s, const S &c) { s.f(); c.f(); s.f('a'); }") ≡ codes "struct" ∷ printed_name 1 (codes "S") ∷ codes ";" ∷ codes "struct" ∷ printed_name 1 (codes "S") ∷ codes "{" ∷ codes "  " ∷ codes "int" ∷ printed_name 2 (codes "f") ∷ codes "(" ∷ codes ")" ∷ codes ";" ∷ codes "  " ∷ codes "int" ∷ printed_name 3 (codes "f") ∷ codes "(" ∷ codes ")" ∷ codes "const" ∷ codes ";" ∷ codes "  " ∷ codes "static" ∷ codes "int" ∷ printed_name 4 (codes "f") ∷ codes "(" ∷ codes "char" ∷ codes ")" ∷ codes ";" ∷ codes "}" ∷ codes ";" ∷ codes "void" ∷ printed_name 5 (codes "g") ∷ codes "(" ∷ printed_name 1 (codes "S") ∷ codes "&" ∷ codes "," ∷ codes "const" ∷ printed_name 1 (codes "S") ∷ codes "&" ∷ codes ")" ∷ codes ";" ∷ codes "void" ∷ printed_name 5 (codes "g") ∷ codes "(" ∷ printed_name 1 (codes "S") ∷ codes "&" ∷ printed_name 6 (codes "s") ∷ codes "," ∷ codes "const" ∷ printed_name 1 (codes "S") ∷ codes "&" ∷ printed_name 7 (codes "c") ∷ codes ")" ∷ codes "{" ∷ codes "  " ∷ printed_name 6 (codes "s") ∷ codes "." ∷ printed_name 2 (codes "f") ∷ codes "(" ∷ codes ")" ∷ codes ";" ∷ codes "  " ∷ printed_name 7 (codes "c") ∷ codes "." ∷ printed_name 3 (codes "f") ∷ codes "(" ∷ codes ")" ∷ codes ";" ∷ codes "  " ∷ printed_name 6 (codes "s") ∷ codes "." ∷ printed_name 4 (codes "f") ∷ codes "(" ∷ codes "'a'" ∷ codes ")" ∷ codes ";" ∷ codes "}" ∷ []
unfolding spells spells_tokens spells_by
class_18 = refl

-- 13.3.1 p3, 9.3.2 p4: a function that may change its object is not called for one that is const
class_19 : said (codes "struct S { int f(); }; void g(const S &s) { s.f(); }") ≡ Some (record { place = record { line = 1; column = 47 }; text = says.NoViableFunction })
unfolding said said_of_tokens said_by
class_19 = refl

-- 13.3.3, 5.2.5: two functions of the class of what is pointed to, of which none is better than the other
class_20 : said (codes "struct S { int f(int); int f(char); }; void g(S *p) { p->f(1L); }") ≡ Some (record { place = record { line = 1; column = 58 }; text = says.AmbiguousCall })
unfolding said said_of_tokens said_by
class_20 = refl

-- 9.3 p2, 9.3.1: a function of a class is defined behind it, where a name of a member means one of `*this`
class_21 : spells (codes "struct S { int n; int f(int) const; }; int S::f(int a) const { return n + a; }") ≡ codes "struct" ∷ printed_name 1 (codes "S") ∷ codes ";" ∷ codes "struct" ∷ printed_name 1 (codes "S") ∷ codes "{" ∷ codes "  " ∷ codes "int" ∷ printed_name 2 (codes "n") ∷ codes ";" ∷ codes "  " ∷ codes "int" ∷ printed_name 3 (codes "f") ∷ codes "(" ∷ codes "int" ∷ codes ")" ∷ codes "const" ∷ codes ";" ∷ codes "}" ∷ codes ";" ∷ codes "int" ∷ printed_name 1 (codes "S") ∷ codes "::" ∷ printed_name 3 (codes "f") ∷ codes "(" ∷ codes "int" ∷ printed_name 4 (codes "a") ∷ codes ")" ∷ codes "const" ∷ codes "{" ∷ codes "  " ∷ codes "return" ∷ codes "(" ∷ codes "*" ∷ codes "this" ∷ codes ")" ∷ codes "." ∷ printed_name 2 (codes "n") ∷ codes "+" ∷ printed_name 4 (codes "a") ∷ codes ";" ∷ codes "}" ∷ []
unfolding spells spells_tokens spells_by
class_21 = refl

-- 13.3.1.1.1 p3: a call by a name alone that means a function of its class is one for `*this`
class_22 : spells (codes "struct S { int f(int); int g(); }; int S::g() { return f(1); }") ≡ codes "struct" ∷ printed_name 1 (codes "S") ∷ codes ";" ∷ codes "struct" ∷ printed_name 1 (codes "S") ∷ codes "{" ∷ codes "  " ∷ codes "int" ∷ printed_name 2 (codes "f") ∷ codes "(" ∷ codes "int" ∷ codes ")" ∷ codes ";" ∷ codes "  " ∷ codes "int" ∷ printed_name 3 (codes "g") ∷ codes "(" ∷ codes ")" ∷ codes ";" ∷ codes "}" ∷ codes ";" ∷ codes "int" ∷ printed_name 1 (codes "S") ∷ codes "::" ∷ printed_name 3 (codes "g") ∷ codes "(" ∷ codes ")" ∷ codes "{" ∷ codes "  " ∷ codes "return" ∷ codes "(" ∷ codes "*" ∷ codes "this" ∷ codes ")" ∷ codes "." ∷ printed_name 2 (codes "f") ∷ codes "(" ∷ codes "1" ∷ codes ")" ∷ codes ";" ∷ codes "}" ∷ []
unfolding spells spells_tokens spells_by
class_22 = refl

-- 9.3.2: outside of functions that belong to an object there is no `this`
class_23 : said (codes "int f() { return this == 0; }") ≡ Some (record { place = record { line = 1; column = 18 }; text = says.OperandsDoNotFit })
unfolding said said_of_tokens said_by
class_23 = refl

-- 3.4.3.1, 5.2.2: a function of a base, called by its class behind an object
written_1 : spells (codes "struct B { int f(); }; struct D : B { int f(); }; int g(D &d) { return d.B::f(); }") ≡ codes "struct" ∷ printed_name 1 (codes "B") ∷ codes ";" ∷ codes "struct" ∷ printed_name 2 (codes "D") ∷ codes ";" ∷ codes "struct" ∷ printed_name 1 (codes "B") ∷ codes "{" ∷ codes "  " ∷ codes "int" ∷ printed_name 3 (codes "f") ∷ codes "(" ∷ codes ")" ∷ codes ";" ∷ codes "}" ∷ codes ";" ∷ codes "struct" ∷ printed_name 2 (codes "D") ∷ codes ":" ∷ printed_name 1 (codes "B") ∷ codes "{" ∷ codes "  " ∷ codes "int" ∷ printed_name 3 (codes "f") ∷ codes "(" ∷ codes ")" ∷ codes ";" ∷ codes "}" ∷ codes ";" ∷ codes "int" ∷ printed_name 4 (codes "g") ∷ codes "(" ∷ printed_name 2 (codes "D") ∷ codes "&" ∷ codes ")" ∷ codes ";" ∷ codes "int" ∷ printed_name 4 (codes "g") ∷ codes "(" ∷ printed_name 2 (codes "D") ∷ codes "&" ∷ printed_name 5 (codes "d") ∷ codes ")" ∷ codes "{" ∷ codes "  " ∷ codes "return" ∷ codes "static_cast" ∷ codes "<" ∷ printed_name 1 (codes "B") ∷ codes "&" ∷ codes ">" ∷ codes "(" ∷ printed_name 5 (codes "d") ∷ codes ")" ∷ codes "." ∷ printed_name 1 (codes "B") ∷ codes "::" ∷ printed_name 3 (codes "f") ∷ codes "(" ∷ codes ")" ∷ codes ";" ∷ codes "}" ∷ []
unfolding spells spells_tokens spells_by
written_1 = refl

-- 5.2.5, 10.2: a data member of a base of what is pointed to
written_2 : spells (codes "struct B { int n; }; struct D : B { int n; }; int g(D *p) { return p->B::n; }") ≡ codes "struct" ∷ printed_name 1 (codes "B") ∷ codes ";" ∷ codes "struct" ∷ printed_name 2 (codes "D") ∷ codes ";" ∷ codes "struct" ∷ printed_name 1 (codes "B") ∷ codes "{" ∷ codes "  " ∷ codes "int" ∷ printed_name 3 (codes "n") ∷ codes ";" ∷ codes "}" ∷ codes ";" ∷ codes "struct" ∷ printed_name 2 (codes "D") ∷ codes ":" ∷ printed_name 1 (codes "B") ∷ codes "{" ∷ codes "  " ∷ codes "int" ∷ printed_name 4 (codes "n") ∷ codes ";" ∷ codes "}" ∷ codes ";" ∷ codes "int" ∷ printed_name 5 (codes "g") ∷ codes "(" ∷ printed_name 2 (codes "D") ∷ codes "*" ∷ codes ")" ∷ codes ";" ∷ codes "int" ∷ printed_name 5 (codes "g") ∷ codes "(" ∷ printed_name 2 (codes "D") ∷ codes "*" ∷ printed_name 6 (codes "p") ∷ codes ")" ∷ codes "{" ∷ codes "  " ∷ codes "return" ∷ codes "static_cast" ∷ codes "<" ∷ printed_name 1 (codes "B") ∷ codes "&" ∷ codes ">" ∷ codes "(" ∷ codes "*" ∷ printed_name 6 (codes "p") ∷ codes ")" ∷ codes "." ∷ printed_name 3 (codes "n") ∷ codes ";" ∷ codes "}" ∷ []
unfolding spells spells_tokens spells_by
written_2 = refl

-- 9.3.1, 9.3.2: the class of a member stands behind `this`, or where its object is not written
written_3 : spells (codes "struct B { int n; int f(); }; struct D : B { int n; int g(); }; int D::g() { return this->B::n + B::n + B::f(); }") ≡ codes "struct" ∷ printed_name 1 (codes "B") ∷ codes ";" ∷ codes "struct" ∷ printed_name 2 (codes "D") ∷ codes ";" ∷ codes "struct" ∷ printed_name 1 (codes "B") ∷ codes "{" ∷ codes "  " ∷ codes "int" ∷ printed_name 3 (codes "n") ∷ codes ";" ∷ codes "  " ∷ codes "int" ∷ printed_name 4 (codes "f") ∷ codes "(" ∷ codes ")" ∷ codes ";" ∷ codes "}" ∷ codes ";" ∷ codes "struct" ∷ printed_name 2 (codes "D") ∷ codes ":" ∷ printed_name 1 (codes "B") ∷ codes "{" ∷ codes "  " ∷ codes "int" ∷ printed_name 5 (codes "n") ∷ codes ";" ∷ codes "  " ∷ codes "int" ∷ printed_name 6 (codes "g") ∷ codes "(" ∷ codes ")" ∷ codes ";" ∷ codes "}" ∷ codes ";" ∷ codes "int" ∷ printed_name 2 (codes "D") ∷ codes "::" ∷ printed_name 6 (codes "g") ∷ codes "(" ∷ codes ")" ∷ codes "{" ∷ codes "  " ∷ codes "return" ∷ codes "(" ∷ codes "static_cast" ∷ codes "<" ∷ printed_name 1 (codes "B") ∷ codes "&" ∷ codes ">" ∷ codes "(" ∷ codes "*" ∷ codes "this" ∷ codes ")" ∷ codes "." ∷ printed_name 3 (codes "n") ∷ codes "+" ∷ codes "static_cast" ∷ codes "<" ∷ printed_name 1 (codes "B") ∷ codes "&" ∷ codes ">" ∷ codes "(" ∷ codes "*" ∷ codes "this" ∷ codes ")" ∷ codes "." ∷ printed_name 3 (codes "n") ∷ codes ")" ∷ codes "+" ∷ codes "static_cast" ∷ codes "<" ∷ printed_name 1 (codes "B") ∷ codes "&" ∷ codes ">" ∷ codes "(" ∷ codes "*" ∷ codes "this" ∷ codes ")" ∷ codes "." ∷ printed_name 1 (codes "B") ∷ codes "::" ∷ printed_name 4 (codes "f") ∷ codes "(" ∷ codes ")" ∷ codes ";" ∷ codes "}" ∷ []
unfolding spells spells_tokens spells_by
written_3 = refl

-- 13.3.1.1.1: only the functions of the class that is written are candidates
written_4 : spells (codes "struct B { int f(int); }; struct D : B { int f(char); }; int g(D &d) { return d.B::f('a'); }") ≡ codes "struct" ∷ printed_name 1 (codes "B") ∷ codes ";" ∷ codes "struct" ∷ printed_name 2 (codes "D") ∷ codes ";" ∷ codes "struct" ∷ printed_name 1 (codes "B") ∷ codes "{" ∷ codes "  " ∷ codes "int" ∷ printed_name 3 (codes "f") ∷ codes "(" ∷ codes "int" ∷ codes ")" ∷ codes ";" ∷ codes "}" ∷ codes ";" ∷ codes "struct" ∷ printed_name 2 (codes "D") ∷ codes ":" ∷ printed_name 1 (codes "B") ∷ codes "{" ∷ codes "  " ∷ codes "int" ∷ printed_name 4 (codes "f") ∷ codes "(" ∷ codes "char" ∷ codes ")" ∷ codes ";" ∷ codes "}" ∷ codes ";" ∷ codes "int" ∷ printed_name 5 (codes "g") ∷ codes "(" ∷ printed_name 2 (codes "D") ∷ codes "&" ∷ codes ")" ∷ codes ";" ∷ codes "int" ∷ printed_name 5 (codes "g") ∷ codes "(" ∷ printed_name 2 (codes "D") ∷ codes "&" ∷ printed_name 6 (codes "d") ∷ codes ")" ∷ codes "{" ∷ codes "  " ∷ codes "return" ∷ codes "static_cast" ∷ codes "<" ∷ printed_name 1 (codes "B") ∷ codes "&" ∷ codes ">" ∷ codes "(" ∷ printed_name 6 (codes "d") ∷ codes ")" ∷ codes "." ∷ printed_name 1 (codes "B") ∷ codes "::" ∷ printed_name 3 (codes "f") ∷ codes "(" ∷ codes "static_cast" ∷ codes "<" ∷ codes "int" ∷ codes ">" ∷ codes "(" ∷ codes "'a'" ∷ codes ")" ∷ codes ")" ∷ codes ";" ∷ codes "}" ∷ []
unfolding spells spells_tokens spells_by
written_4 = refl

-- 3.4.5: the class of the object has no such member, and the first part is looked up where the name stands
written_5 : spells (codes "struct B { int n; }; namespace N { typedef B T; } struct D : B { }; int g(D &d) { return d.N::T::n; }") ≡ codes "struct" ∷ printed_name 1 (codes "B") ∷ codes ";" ∷ codes "struct" ∷ printed_name 2 (codes "D") ∷ codes ";" ∷ codes "struct" ∷ printed_name 1 (codes "B") ∷ codes "{" ∷ codes "  " ∷ codes "int" ∷ printed_name 3 (codes "n") ∷ codes ";" ∷ codes "}" ∷ codes ";" ∷ codes "struct" ∷ printed_name 2 (codes "D") ∷ codes ":" ∷ printed_name 1 (codes "B") ∷ codes "{" ∷ codes "}" ∷ codes ";" ∷ codes "int" ∷ printed_name 4 (codes "g") ∷ codes "(" ∷ printed_name 2 (codes "D") ∷ codes "&" ∷ codes ")" ∷ codes ";" ∷ codes "int" ∷ printed_name 4 (codes "g") ∷ codes "(" ∷ printed_name 2 (codes "D") ∷ codes "&" ∷ printed_name 5 (codes "d") ∷ codes ")" ∷ codes "{" ∷ codes "  " ∷ codes "return" ∷ codes "static_cast" ∷ codes "<" ∷ printed_name 1 (codes "B") ∷ codes "&" ∷ codes ">" ∷ codes "(" ∷ printed_name 5 (codes "d") ∷ codes ")" ∷ codes "." ∷ printed_name 3 (codes "n") ∷ codes ";" ∷ codes "}" ∷ []
unfolding spells spells_tokens spells_by
written_5 = refl

-- 3.4.5: the class of the object has such a member, which is found before what the name means where it stands
written_6 : spells (codes "struct B { int n; }; struct T { int n; }; struct D : B { typedef B T; }; int g(D &d) { return d.T::n; }") ≡ codes "struct" ∷ printed_name 1 (codes "B") ∷ codes ";" ∷ codes "struct" ∷ printed_name 2 (codes "T") ∷ codes ";" ∷ codes "struct" ∷ printed_name 3 (codes "D") ∷ codes ";" ∷ codes "struct" ∷ printed_name 1 (codes "B") ∷ codes "{" ∷ codes "  " ∷ codes "int" ∷ printed_name 4 (codes "n") ∷ codes ";" ∷ codes "}" ∷ codes ";" ∷ codes "struct" ∷ printed_name 2 (codes "T") ∷ codes "{" ∷ codes "  " ∷ codes "int" ∷ printed_name 5 (codes "n") ∷ codes ";" ∷ codes "}" ∷ codes ";" ∷ codes "struct" ∷ printed_name 3 (codes "D") ∷ codes ":" ∷ printed_name 1 (codes "B") ∷ codes "{" ∷ codes "}" ∷ codes ";" ∷ codes "int" ∷ printed_name 6 (codes "g") ∷ codes "(" ∷ printed_name 3 (codes "D") ∷ codes "&" ∷ codes ")" ∷ codes ";" ∷ codes "int" ∷ printed_name 6 (codes "g") ∷ codes "(" ∷ printed_name 3 (codes "D") ∷ codes "&" ∷ printed_name 7 (codes "d") ∷ codes ")" ∷ codes "{" ∷ codes "  " ∷ codes "return" ∷ codes "static_cast" ∷ codes "<" ∷ printed_name 1 (codes "B") ∷ codes "&" ∷ codes ">" ∷ codes "(" ∷ printed_name 7 (codes "d") ∷ codes ")" ∷ codes "." ∷ printed_name 4 (codes "n") ∷ codes ";" ∷ codes "}" ∷ []
unfolding spells spells_tokens spells_by
written_6 = refl

-- 3.4.3 p4: behind `::` alone the first part is one of the scope of the unit
written_7 : spells (codes "struct B { int n; }; struct D : B { }; int g(D &d) { return d.::B::n; }") ≡ codes "struct" ∷ printed_name 1 (codes "B") ∷ codes ";" ∷ codes "struct" ∷ printed_name 2 (codes "D") ∷ codes ";" ∷ codes "struct" ∷ printed_name 1 (codes "B") ∷ codes "{" ∷ codes "  " ∷ codes "int" ∷ printed_name 3 (codes "n") ∷ codes ";" ∷ codes "}" ∷ codes ";" ∷ codes "struct" ∷ printed_name 2 (codes "D") ∷ codes ":" ∷ printed_name 1 (codes "B") ∷ codes "{" ∷ codes "}" ∷ codes ";" ∷ codes "int" ∷ printed_name 4 (codes "g") ∷ codes "(" ∷ printed_name 2 (codes "D") ∷ codes "&" ∷ codes ")" ∷ codes ";" ∷ codes "int" ∷ printed_name 4 (codes "g") ∷ codes "(" ∷ printed_name 2 (codes "D") ∷ codes "&" ∷ printed_name 5 (codes "d") ∷ codes ")" ∷ codes "{" ∷ codes "  " ∷ codes "return" ∷ codes "static_cast" ∷ codes "<" ∷ printed_name 1 (codes "B") ∷ codes "&" ∷ codes ">" ∷ codes "(" ∷ printed_name 5 (codes "d") ∷ codes ")" ∷ codes "." ∷ printed_name 3 (codes "n") ∷ codes ";" ∷ codes "}" ∷ []
unfolding spells spells_tokens spells_by
written_7 = refl

-- 5.2.5: the class stays before a member of a value
written_8 : spells (codes "struct B { int n; }; struct D : B { }; D h(); int g() { return h().B::n; }") ≡ codes "struct" ∷ printed_name 1 (codes "B") ∷ codes ";" ∷ codes "struct" ∷ printed_name 2 (codes "D") ∷ codes ";" ∷ codes "struct" ∷ printed_name 1 (codes "B") ∷ codes "{" ∷ codes "  " ∷ codes "int" ∷ printed_name 3 (codes "n") ∷ codes ";" ∷ codes "}" ∷ codes ";" ∷ codes "struct" ∷ printed_name 2 (codes "D") ∷ codes ":" ∷ printed_name 1 (codes "B") ∷ codes "{" ∷ codes "}" ∷ codes ";" ∷ printed_name 2 (codes "D") ∷ printed_name 4 (codes "h") ∷ codes "(" ∷ codes ")" ∷ codes ";" ∷ codes "int" ∷ printed_name 5 (codes "g") ∷ codes "(" ∷ codes ")" ∷ codes ";" ∷ codes "int" ∷ printed_name 5 (codes "g") ∷ codes "(" ∷ codes ")" ∷ codes "{" ∷ codes "  " ∷ codes "return" ∷ printed_name 4 (codes "h") ∷ codes "(" ∷ codes ")" ∷ codes "." ∷ printed_name 1 (codes "B") ∷ codes "::" ∷ printed_name 3 (codes "n") ∷ codes ";" ∷ codes "}" ∷ []
unfolding spells spells_tokens spells_by
written_8 = refl

-- 9.4: static members by their class, behind an object and without one
written_9 : spells (codes "struct S { static int n; static int f(int); }; struct D : S { }; int g(D &d) { return d.S::n + d.S::f(1) + S::f(2); }") ≡ codes "struct" ∷ printed_name 1 (codes "S") ∷ codes ";" ∷ codes "struct" ∷ printed_name 2 (codes "D") ∷ codes ";" ∷ codes "struct" ∷ printed_name 1 (codes "S") ∷ codes "{" ∷ codes "  " ∷ codes "static" ∷ codes "int" ∷ printed_name 3 (codes "n") ∷ codes ";" ∷ codes "  " ∷ codes "static" ∷ codes "int" ∷ printed_name 4 (codes "f") ∷ codes "(" ∷ codes "int" ∷ codes ")" ∷ codes ";" ∷ codes "}" ∷ codes ";" ∷ codes "struct" ∷ printed_name 2 (codes "D") ∷ codes ":" ∷ printed_name 1 (codes "S") ∷ codes "{" ∷ codes "}" ∷ codes ";" ∷ codes "int" ∷ printed_name 5 (codes "g") ∷ codes "(" ∷ printed_name 2 (codes "D") ∷ codes "&" ∷ codes ")" ∷ codes ";" ∷ codes "int" ∷ printed_name 5 (codes "g") ∷ codes "(" ∷ printed_name 2 (codes "D") ∷ codes "&" ∷ printed_name 6 (codes "d") ∷ codes ")" ∷ codes "{" ∷ codes "  " ∷ codes "return" ∷ codes "(" ∷ printed_name 6 (codes "d") ∷ codes "." ∷ printed_name 1 (codes "S") ∷ codes "::" ∷ printed_name 3 (codes "n") ∷ codes "+" ∷ printed_name 6 (codes "d") ∷ codes "." ∷ printed_name 1 (codes "S") ∷ codes "::" ∷ printed_name 4 (codes "f") ∷ codes "(" ∷ codes "1" ∷ codes ")" ∷ codes ")" ∷ codes "+" ∷ printed_name 1 (codes "S") ∷ codes "::" ∷ printed_name 4 (codes "f") ∷ codes "(" ∷ codes "2" ∷ codes ")" ∷ codes ";" ∷ codes "}" ∷ []
unfolding spells spells_tokens spells_by
written_9 = refl

-- 3.4.5: a part before `::` that neither the class of the object has nor a scope outward declares
written_unknown : said (codes "struct B { int n; }; struct D : B { }; int g(D &d) { return d.C::n; }") ≡ Some (record { place = record { line = 1; column = 63 }; text = says.UndeclaredName (codes "C") })
unfolding said said_of_tokens said_by
written_unknown = refl

-- 3.4.3.2: one that the namespace before it does not declare
written_unknown_inside : said (codes "struct B { int n; }; namespace N { } struct D : B { }; int g(D &d) { return d.N::B::n; }") ≡ Some (record { place = record { line = 1; column = 82 }; text = says.UndeclaredName (codes "B") })
unfolding said said_of_tokens said_by
written_unknown_inside = refl

-- 3.4.3.1: one that the class before it does not have
written_unknown_in_class : said (codes "struct B { int n; }; struct D : B { }; int g(D &d) { return d.D::C::n; }") ≡ Some (record { place = record { line = 1; column = 66 }; text = says.UndeclaredName (codes "C") })
unfolding said said_of_tokens said_by
written_unknown_in_class = refl

-- 10.2: a name that is no member of the class that is written, though the class of the object has one
written_unknown_member : said (codes "struct B { int n; }; struct D : B { int m; }; int g(D *p) { return p->B::m; }") ≡ Some (record { place = record { line = 1; column = 74 }; text = says.UndeclaredName (codes "m") })
unfolding said said_of_tokens said_by
written_unknown_member = refl

-- the same of one that is called
written_unknown_function : said (codes "struct B { int n; }; struct D : B { int m(); }; int g(D &d) { return d.B::m(); }") ≡ Some (record { place = record { line = 1; column = 75 }; text = says.UndeclaredName (codes "m") })
unfolding said said_of_tokens said_by
written_unknown_function = refl

-- 9.3.1: a part before `::` of a name without an object
written_unknown_alone : said (codes "struct B { int f(); }; struct D : B { int g(); }; int D::g() { return C::f(); }") ≡ Some (record { place = record { line = 1; column = 71 }; text = says.UndeclaredName (codes "C") })
unfolding said said_of_tokens said_by
written_unknown_alone = refl

-- 7.3.4: a part before `::` that means two classes where the name stands
written_twofold : said (codes "namespace N { struct B { int n; }; } namespace M { struct B { int n; }; } using namespace N; using namespace M; struct D { int n; }; int g(D &d) { return d.B::n; }") ≡ Some (record { place = record { line = 1; column = 157 }; text = says.AmbiguousName (codes "B") })
unfolding said said_of_tokens said_by
written_twofold = refl

-- 10.2: one of which the class of the object has two, of bases, that do not go together
written_twofold_inherited : said (codes "struct B { int n; }; struct A { typedef B T; }; struct C { typedef B T; }; struct D : A, C { }; int g(D &d) { return d.T::n; }") ≡ Some (record { place = record { line = 1; column = 120 }; text = says.AmbiguousName (codes "T") })
unfolding said said_of_tokens said_by
written_twofold_inherited = refl

-- 10.2: two members of the class that is written, of bases, though the class of the object has one of its own
written_twofold_member : said (codes "struct A { int x; }; struct B { int x; }; struct C : A, B { }; struct D : C { int x; }; int g(D &d) { return d.C::x; }") ≡ Some (record { place = record { line = 1; column = 115 }; text = says.AmbiguousName (codes "x") })
unfolding said said_of_tokens said_by
written_twofold_member = refl

-- the same of functions that are called
written_twofold_function : said (codes "struct A { int f(); }; struct B { int f(); }; struct C : A, B { }; struct D : C { int f(); }; int g(D &d) { return d.C::f(); }") ≡ Some (record { place = record { line = 1; column = 121 }; text = says.AmbiguousName (codes "f") })
unfolding said said_of_tokens said_by
written_twofold_function = refl

-- 13.3.2: no function of the class that is written is viable, though one of the class of the object is
written_not_viable : said (codes "struct B { int f(int *); }; struct D : B { int f(int); }; int g(D &d) { return d.B::f(1); }") ≡ Some (record { place = record { line = 1; column = 85 }; text = says.NoViableFunction })
unfolding said said_of_tokens said_by
written_not_viable = refl

-- 13.3.3: two of its functions, of which none is better than the other
written_choice : said (codes "struct B { int f(int); int f(char); }; struct D : B { int f(long); }; int g(D &d) { return d.B::f(1L); }") ≡ Some (record { place = record { line = 1; column = 97 }; text = says.AmbiguousCall })
unfolding said said_of_tokens said_by
written_choice = refl

-- 13.3.1.1.1 p3: the same for `*this`, which is not written
written_choice_alone : said (codes "struct B { int f(int); int f(char); }; struct D : B { int f(long); int g(); }; int D::g() { return B::f(1L); }") ≡ Some (record { place = record { line = 1; column = 103 }; text = says.AmbiguousCall })
unfolding said said_of_tokens said_by
written_choice_alone = refl

-- 3.4.5: the qualifiers of a member mean a class
written_namespace : said (codes "namespace N { int f(); } struct D { int f(); }; int g(D &d) { return d.N::f(); }") ≡ Some (record { place = record { line = 1; column = 75 }; text = says.OperandsDoNotFit })
unfolding said said_of_tokens said_by
written_namespace = refl

-- 5.2.5: that of the object, or a base of it
written_other_class : said (codes "struct E { int n; }; struct D { int n; }; int g(D &d) { return d.E::n; }") ≡ Some (record { place = record { line = 1; column = 69 }; text = says.OperandsDoNotFit })
unfolding said said_of_tokens said_by
written_other_class = refl

-- 10.2: of which it has one
written_two_bases : said (codes "struct A { int x; }; struct B : A { }; struct C : A { }; struct D : B, C { }; int g(D &d) { return d.A::x; }") ≡ Some (record { place = record { line = 1; column = 105 }; text = says.AmbiguousBase })
unfolding said said_of_tokens said_by
written_two_bases = refl

-- 5.3.1 p2: with qualifiers and `&` before them it is a pointer to a member, though it means one of `*this`
written_address : said (codes "struct B { int n; }; struct D : B { int *g(); }; int *D::g() { return &B::n; }") ≡ Some (record { place = record { line = 1; column = 71 }; text = says.LeftOut form.PointerToMember })
unfolding said said_of_tokens said_by
written_address = refl

-- 9.3.1: outside of functions that belong to an object there is none for a function
written_no_object : said (codes "struct B { int f(); }; int g() { return B::f(); }") ≡ Some (record { place = record { line = 1; column = 44 }; text = says.OperandsDoNotFit })
unfolding said said_of_tokens said_by
written_no_object = refl

-- 7.3.3, 13.3.1: a using-declaration in a class brings functions that go with its own; one of them is called for its own class
brought_1 : spells (codes "struct B { void f(int); }; struct D : B { using B::f; void f(long); }; void g(D &d) { d.f(1); }") ≡ codes "struct" ∷ printed_name 1 (codes "B") ∷ codes ";" ∷ codes "struct" ∷ printed_name 2 (codes "D") ∷ codes ";" ∷ codes "struct" ∷ printed_name 1 (codes "B") ∷ codes "{" ∷ codes "  " ∷ codes "void" ∷ printed_name 3 (codes "f") ∷ codes "(" ∷ codes "int" ∷ codes ")" ∷ codes ";" ∷ codes "}" ∷ codes ";" ∷ codes "struct" ∷ printed_name 2 (codes "D") ∷ codes ":" ∷ printed_name 1 (codes "B") ∷ codes "{" ∷ codes "  " ∷ codes "void" ∷ printed_name 4 (codes "f") ∷ codes "(" ∷ codes "long" ∷ codes ")" ∷ codes ";" ∷ codes "}" ∷ codes ";" ∷ codes "void" ∷ printed_name 5 (codes "g") ∷ codes "(" ∷ printed_name 2 (codes "D") ∷ codes "&" ∷ codes ")" ∷ codes ";" ∷ codes "void" ∷ printed_name 5 (codes "g") ∷ codes "(" ∷ printed_name 2 (codes "D") ∷ codes "&" ∷ printed_name 6 (codes "d") ∷ codes ")" ∷ codes "{" ∷ codes "  " ∷ codes "static_cast" ∷ codes "<" ∷ printed_name 1 (codes "B") ∷ codes "&" ∷ codes ">" ∷ codes "(" ∷ printed_name 6 (codes "d") ∷ codes ")" ∷ codes "." ∷ printed_name 3 (codes "f") ∷ codes "(" ∷ codes "1" ∷ codes ")" ∷ codes ";" ∷ codes "}" ∷ []
unfolding spells spells_tokens spells_by
brought_1 = refl

-- 7.3.3 p12: one that has the parameters of a function of the class is hidden
brought_2 : spells (codes "struct B { int f(int); int f(char); }; struct D : B { using B::f; int f(int); }; int g(D &d) { return d.f(1) + d.f('c'); }") ≡ codes "struct" ∷ printed_name 1 (codes "B") ∷ codes ";" ∷ codes "struct" ∷ printed_name 2 (codes "D") ∷ codes ";" ∷ codes "struct" ∷ printed_name 1 (codes "B") ∷ codes "{" ∷ codes "  " ∷ codes "int" ∷ printed_name 3 (codes "f") ∷ codes "(" ∷ codes "int" ∷ codes ")" ∷ codes ";" ∷ codes "  " ∷ codes "int" ∷ printed_name 4 (codes "f") ∷ codes "(" ∷ codes "char" ∷ codes ")" ∷ codes ";" ∷ codes "}" ∷ codes ";" ∷ codes "struct" ∷ printed_name 2 (codes "D") ∷ codes ":" ∷ printed_name 1 (codes "B") ∷ codes "{" ∷ codes "  " ∷ codes "int" ∷ printed_name 3 (codes "f") ∷ codes "(" ∷ codes "int" ∷ codes ")" ∷ codes ";" ∷ codes "}" ∷ codes ";" ∷ codes "int" ∷ printed_name 5 (codes "g") ∷ codes "(" ∷ printed_name 2 (codes "D") ∷ codes "&" ∷ codes ")" ∷ codes ";" ∷ codes "int" ∷ printed_name 5 (codes "g") ∷ codes "(" ∷ printed_name 2 (codes "D") ∷ codes "&" ∷ printed_name 6 (codes "d") ∷ codes ")" ∷ codes "{" ∷ codes "  " ∷ codes "return" ∷ printed_name 6 (codes "d") ∷ codes "." ∷ printed_name 3 (codes "f") ∷ codes "(" ∷ codes "1" ∷ codes ")" ∷ codes "+" ∷ codes "static_cast" ∷ codes "<" ∷ printed_name 1 (codes "B") ∷ codes "&" ∷ codes ">" ∷ codes "(" ∷ printed_name 6 (codes "d") ∷ codes ")" ∷ codes "." ∷ printed_name 4 (codes "f") ∷ codes "(" ∷ codes "'c'" ∷ codes ")" ∷ codes ";" ∷ codes "}" ∷ []
unfolding spells spells_tokens spells_by
brought_2 = refl

-- 7.3.3: a data member, named behind an object and without one
brought_3 : spells (codes "struct B { int n; }; struct D : B { using B::n; int g(); }; int D::g() { return n; } int h(D &d) { return d.n; }") ≡ codes "struct" ∷ printed_name 1 (codes "B") ∷ codes ";" ∷ codes "struct" ∷ printed_name 2 (codes "D") ∷ codes ";" ∷ codes "struct" ∷ printed_name 1 (codes "B") ∷ codes "{" ∷ codes "  " ∷ codes "int" ∷ printed_name 3 (codes "n") ∷ codes ";" ∷ codes "}" ∷ codes ";" ∷ codes "struct" ∷ printed_name 2 (codes "D") ∷ codes ":" ∷ printed_name 1 (codes "B") ∷ codes "{" ∷ codes "  " ∷ codes "int" ∷ printed_name 4 (codes "g") ∷ codes "(" ∷ codes ")" ∷ codes ";" ∷ codes "}" ∷ codes ";" ∷ codes "int" ∷ printed_name 5 (codes "h") ∷ codes "(" ∷ printed_name 2 (codes "D") ∷ codes "&" ∷ codes ")" ∷ codes ";" ∷ codes "int" ∷ printed_name 2 (codes "D") ∷ codes "::" ∷ printed_name 4 (codes "g") ∷ codes "(" ∷ codes ")" ∷ codes "{" ∷ codes "  " ∷ codes "return" ∷ codes "(" ∷ codes "*" ∷ codes "this" ∷ codes ")" ∷ codes "." ∷ printed_name 3 (codes "n") ∷ codes ";" ∷ codes "}" ∷ codes "int" ∷ printed_name 5 (codes "h") ∷ codes "(" ∷ printed_name 2 (codes "D") ∷ codes "&" ∷ printed_name 6 (codes "d") ∷ codes ")" ∷ codes "{" ∷ codes "  " ∷ codes "return" ∷ printed_name 6 (codes "d") ∷ codes "." ∷ printed_name 3 (codes "n") ∷ codes ";" ∷ codes "}" ∷ []
unfolding spells spells_tokens spells_by
brought_3 = refl

-- 7.3.3: types and static members; the name of the class may be a synonym, in a namespace
brought_4 : spells (codes "namespace N { struct B { typedef int T; static int s; }; typedef B A; } struct D : N::B { using N::A::T; using N::A::s; T t; }; int g(D &d) { return d.t + D::s; }") ≡ codes "struct" ∷ printed_name 1 (codes "B") ∷ codes ";" ∷ codes "struct" ∷ printed_name 2 (codes "D") ∷ codes ";" ∷ codes "struct" ∷ printed_name 1 (codes "B") ∷ codes "{" ∷ codes "  " ∷ codes "static" ∷ codes "int" ∷ printed_name 3 (codes "s") ∷ codes ";" ∷ codes "}" ∷ codes ";" ∷ codes "struct" ∷ printed_name 2 (codes "D") ∷ codes ":" ∷ printed_name 1 (codes "B") ∷ codes "{" ∷ codes "  " ∷ codes "int" ∷ printed_name 4 (codes "t") ∷ codes ";" ∷ codes "}" ∷ codes ";" ∷ codes "int" ∷ printed_name 5 (codes "g") ∷ codes "(" ∷ printed_name 2 (codes "D") ∷ codes "&" ∷ codes ")" ∷ codes ";" ∷ codes "int" ∷ printed_name 5 (codes "g") ∷ codes "(" ∷ printed_name 2 (codes "D") ∷ codes "&" ∷ printed_name 6 (codes "d") ∷ codes ")" ∷ codes "{" ∷ codes "  " ∷ codes "return" ∷ printed_name 6 (codes "d") ∷ codes "." ∷ printed_name 4 (codes "t") ∷ codes "+" ∷ printed_name 1 (codes "B") ∷ codes "::" ∷ printed_name 3 (codes "s") ∷ codes ";" ∷ codes "}" ∷ []
unfolding spells spells_tokens spells_by
brought_4 = refl

-- 3.4.3.1, 10.2: no member of the class that is written before it
brought_unknown : said (codes "struct B { }; struct D : B { int f(); using B::f; };") ≡ Some (record { place = record { line = 1; column = 48 }; text = says.UndeclaredName (codes "f") })
unfolding said said_of_tokens said_by
brought_unknown = refl

-- 3.4.1: a part before `::` that is not declared
brought_unknown_class : said (codes "struct B { int f(); }; struct D : B { using C::f; };") ≡ Some (record { place = record { line = 1; column = 45 }; text = says.UndeclaredName (codes "C") })
unfolding said said_of_tokens said_by
brought_unknown_class = refl

-- 3.4.3.2: one that the namespace before it does not declare
brought_unknown_inside : said (codes "namespace N { } struct B { int f(); }; struct D : B { using N::B::f; };") ≡ Some (record { place = record { line = 1; column = 64 }; text = says.UndeclaredName (codes "B") })
unfolding said said_of_tokens said_by
brought_unknown_inside = refl

-- 3.4.3: the first of two
brought_unknown_first : said (codes "struct B { int f(); }; struct D : B { using N::B::f; };") ≡ Some (record { place = record { line = 1; column = 45 }; text = says.UndeclaredName (codes "N") })
unfolding said said_of_tokens said_by
brought_unknown_first = refl

-- 3.4.3 p4: behind `::` alone
brought_unknown_alone : said (codes "struct B { int f(); }; struct D : B { using ::f; };") ≡ Some (record { place = record { line = 1; column = 47 }; text = says.UndeclaredName (codes "f") })
unfolding said said_of_tokens said_by
brought_unknown_alone = refl

-- 10.2: two members of that class, of bases, that do not go together
brought_twofold : said (codes "struct A { int x; }; struct B { int x; }; struct C : A, B { }; struct D : C { using C::x; };") ≡ Some (record { place = record { line = 1; column = 88 }; text = says.AmbiguousName (codes "x") })
unfolding said said_of_tokens said_by
brought_twofold = refl

-- 7.3.4: a part before `::` that means two classes
brought_twofold_class : said (codes "namespace N { struct B { int f(); }; } namespace M { struct B { int f(); }; } using namespace N; using namespace M; struct D { using B::f; };") ≡ Some (record { place = record { line = 1; column = 134 }; text = says.AmbiguousName (codes "B") })
unfolding said said_of_tokens said_by
brought_twofold_class = refl

-- 10.2: one that is a member of the class before it, of bases, that do not go together
brought_twofold_inherited : said (codes "struct B { int n; }; struct A { typedef B T; }; struct C { typedef B T; }; struct E : A, C { }; struct D : B { using E::T::n; };") ≡ Some (record { place = record { line = 1; column = 121 }; text = says.AmbiguousName (codes "T") })
unfolding said said_of_tokens said_by
brought_twofold_inherited = refl

-- 7.3.3 p4: a namespace stands before it
brought_namespace : said (codes "namespace N { int f(); } struct D { using N::f; };") ≡ Some (record { place = record { line = 1; column = 43 }; text = says.WrongKindOfName (codes "N") })
unfolding said said_of_tokens said_by
brought_namespace = refl

-- 7.3.3 p4: a name behind `::` alone is none of a class
brought_of_unit : said (codes "int f(); struct D { using ::f; };") ≡ Some (record { place = record { line = 1; column = 29 }; text = says.WrongKindOfName (codes "f") })
unfolding said said_of_tokens said_by
brought_of_unit = refl

-- 7.3.3 p8: the same member twice
brought_twice : said (codes "struct B { int n; }; struct D : B { using B::n; using B::n; };") ≡ Some (record { place = record { line = 1; column = 58 }; text = says.ConflictingDeclaration (codes "n") })
unfolding said said_of_tokens said_by
brought_twice = refl

-- 7.3.3 p14, 10.2: a data member of a base that is there twice, at its use
brought_two_bases : said (codes "struct A { int x; }; struct B : A { }; struct C : A { }; struct D : B, C { using A::x; }; int g(D &d) { return d.x; }") ≡ Some (record { place = record { line = 1; column = 114 }; text = says.AmbiguousBase })
unfolding said said_of_tokens said_by
brought_two_bases = refl

-- 9.3.1: the same without an object
brought_two_bases_alone : said (codes "struct A { int x; }; struct B : A { }; struct C : A { }; struct D : B, C { using A::x; int g(); }; int D::g() { return x; }") ≡ Some (record { place = record { line = 1; column = 120 }; text = says.AmbiguousBase })
unfolding said said_of_tokens said_by
brought_two_bases_alone = refl

-- 10.2: the same of a function that is called
brought_two_bases_called : said (codes "struct A { int f(); }; struct B : A { }; struct C : A { }; struct D : B, C { using A::f; }; int g(D &d) { return d.f(); }") ≡ Some (record { place = record { line = 1; column = 116 }; text = says.AmbiguousBase })
unfolding said said_of_tokens said_by
brought_two_bases_called = refl

-- 13.3.2: the choice is among those of the class and those that are brought, and none is viable
brought_not_viable : said (codes "struct B { int f(int *); }; struct D : B { using B::f; int f(int, int); }; int g(D &d) { return d.f(1); }") ≡ Some (record { place = record { line = 1; column = 99 }; text = says.NoViableFunction })
unfolding said said_of_tokens said_by
brought_not_viable = refl

-- 13.3.3: none is the best
brought_choice : said (codes "struct B { int f(int); }; struct D : B { using B::f; int f(char); }; int g(D &d) { return d.f(1L); }") ≡ Some (record { place = record { line = 1; column = 93 }; text = says.AmbiguousCall })
unfolding said said_of_tokens said_by
brought_choice = refl

-- 7.3.4: one that means two objects there
brought_twofold_alone : said (codes "namespace N { int f; } namespace M { int f; } using namespace N; using namespace M; struct D { using ::f; };") ≡ Some (record { place = record { line = 1; column = 104 }; text = says.AmbiguousName (codes "f") })
unfolding said said_of_tokens said_by
brought_twofold_alone = refl

-- 9, 9.7: a class that another one declares, defined outside of that
outside_1 : spells (codes "struct A { struct B; }; struct A::B { int x; };") ≡ codes "struct" ∷ printed_name 1 (codes "A") ∷ codes ";" ∷ codes "struct" ∷ printed_name 2 (codes "B") ∷ codes ";" ∷ codes "struct" ∷ printed_name 1 (codes "A") ∷ codes "{" ∷ codes "}" ∷ codes ";" ∷ codes "struct" ∷ printed_name 2 (codes "B") ∷ codes "{" ∷ codes "  " ∷ codes "int" ∷ printed_name 3 (codes "x") ∷ codes ";" ∷ codes "}" ∷ codes ";" ∷ []
unfolding spells spells_tokens spells_by
outside_1 = refl

-- 3.4.1 p8: from there on names are looked up in the other class too
outside_2 : spells (codes "struct A { static int s; struct B; }; struct A::B { int f() { return s; } };") ≡ codes "struct" ∷ printed_name 1 (codes "A") ∷ codes ";" ∷ codes "struct" ∷ printed_name 2 (codes "B") ∷ codes ";" ∷ codes "struct" ∷ printed_name 1 (codes "A") ∷ codes "{" ∷ codes "  " ∷ codes "static" ∷ codes "int" ∷ printed_name 3 (codes "s") ∷ codes ";" ∷ codes "}" ∷ codes ";" ∷ codes "struct" ∷ printed_name 2 (codes "B") ∷ codes "{" ∷ codes "  " ∷ codes "int" ∷ printed_name 4 (codes "f") ∷ codes "(" ∷ codes ")" ∷ codes ";" ∷ codes "}" ∷ codes ";" ∷ codes "int" ∷ printed_name 2 (codes "B") ∷ codes "::" ∷ printed_name 4 (codes "f") ∷ codes "(" ∷ codes ")" ∷ codes "{" ∷ codes "  " ∷ codes "return" ∷ printed_name 1 (codes "A") ∷ codes "::" ∷ printed_name 3 (codes "s") ∷ codes ";" ∷ codes "}" ∷ []
unfolding spells spells_tokens spells_by
outside_2 = refl

-- 10: and so is that of a base
outside_3 : spells (codes "struct A { struct C { int n; }; struct B; }; struct A::B : C { }; int g(A::B &b) { return b.n; }") ≡ codes "struct" ∷ printed_name 1 (codes "A") ∷ codes ";" ∷ codes "struct" ∷ printed_name 2 (codes "C") ∷ codes ";" ∷ codes "struct" ∷ printed_name 3 (codes "B") ∷ codes ";" ∷ codes "struct" ∷ printed_name 2 (codes "C") ∷ codes "{" ∷ codes "  " ∷ codes "int" ∷ printed_name 4 (codes "n") ∷ codes ";" ∷ codes "}" ∷ codes ";" ∷ codes "struct" ∷ printed_name 1 (codes "A") ∷ codes "{" ∷ codes "}" ∷ codes ";" ∷ codes "struct" ∷ printed_name 3 (codes "B") ∷ codes ":" ∷ printed_name 2 (codes "C") ∷ codes "{" ∷ codes "}" ∷ codes ";" ∷ codes "int" ∷ printed_name 5 (codes "g") ∷ codes "(" ∷ printed_name 3 (codes "B") ∷ codes "&" ∷ codes ")" ∷ codes ";" ∷ codes "int" ∷ printed_name 5 (codes "g") ∷ codes "(" ∷ printed_name 3 (codes "B") ∷ codes "&" ∷ printed_name 6 (codes "b") ∷ codes ")" ∷ codes "{" ∷ codes "  " ∷ codes "return" ∷ printed_name 6 (codes "b") ∷ codes "." ∷ printed_name 4 (codes "n") ∷ codes ";" ∷ codes "}" ∷ []
unfolding spells spells_tokens spells_by
outside_3 = refl

-- 3.4.3.2: one that a namespace declares
outside_4 : spells (codes "namespace N { int n; struct B; } struct N::B { int f() { return n; } };") ≡ codes "struct" ∷ printed_name 1 (codes "B") ∷ codes ";" ∷ codes "struct" ∷ printed_name 1 (codes "B") ∷ codes "{" ∷ codes "  " ∷ codes "int" ∷ printed_name 2 (codes "f") ∷ codes "(" ∷ codes ")" ∷ codes ";" ∷ codes "}" ∷ codes ";" ∷ codes "int" ∷ printed_name 3 (codes "n") ∷ codes ";" ∷ codes "int" ∷ printed_name 1 (codes "B") ∷ codes "::" ∷ printed_name 2 (codes "f") ∷ codes "(" ∷ codes ")" ∷ codes "{" ∷ codes "  " ∷ codes "return" ∷ printed_name 3 (codes "n") ∷ codes ";" ∷ codes "}" ∷ []
unfolding spells spells_tokens spells_by
outside_4 = refl

-- 3.4.1: a part before `::` that is not declared
outside_unknown_class : said (codes "struct A::B { };") ≡ Some (record { place = record { line = 1; column = 8 }; text = says.UndeclaredName (codes "A") })
unfolding said said_of_tokens said_by
outside_unknown_class = refl

-- 3.4.3.1: one that the class before it does not declare
outside_unknown : said (codes "struct A { }; struct A::B { };") ≡ Some (record { place = record { line = 1; column = 25 }; text = says.UndeclaredName (codes "B") })
unfolding said said_of_tokens said_by
outside_unknown = refl

-- 3.4.4: what is no type is passed over
outside_unknown_type : said (codes "struct A { int B; }; struct A::B { };") ≡ Some (record { place = record { line = 1; column = 32 }; text = says.UndeclaredName (codes "B") })
unfolding said said_of_tokens said_by
outside_unknown_type = refl

-- 3.4.1: a base that neither the other class nor what is round it declares
outside_unknown_base : said (codes "struct A { struct B; }; struct A::B : C { };") ≡ Some (record { place = record { line = 1; column = 39 }; text = says.UndeclaredName (codes "C") })
unfolding said said_of_tokens said_by
outside_unknown_base = refl

-- 7.3.4: a part before `::` that means two classes
outside_twofold_class : said (codes "namespace N { struct A { struct B; }; } namespace M { struct A { }; } using namespace N; using namespace M; struct A::B { };") ≡ Some (record { place = record { line = 1; column = 116 }; text = says.AmbiguousName (codes "A") })
unfolding said said_of_tokens said_by
outside_twofold_class = refl

-- 3.4.3.2, 7.3.4: one that means two classes in the namespace before it
outside_twofold : said (codes "namespace N { struct B; } namespace M { struct B; } namespace P { using namespace N; using namespace M; } struct P::B { };") ≡ Some (record { place = record { line = 1; column = 117 }; text = says.AmbiguousName (codes "B") })
unfolding said said_of_tokens said_by
outside_twofold = refl

-- 10.2: two members of the class before it, of bases, that do not go together
outside_twofold_inherited : said (codes "struct A { typedef int T; }; struct C { typedef int T; }; struct D : A, C { }; struct D::T { };") ≡ Some (record { place = record { line = 1; column = 90 }; text = says.AmbiguousName (codes "T") })
unfolding said said_of_tokens said_by
outside_twofold_inherited = refl

-- 9: a class of a base of the class before it
outside_of_base : said (codes "struct A { struct B { }; }; struct C : A { }; struct C::B { };") ≡ Some (record { place = record { line = 1; column = 57 }; text = says.WrongKindOfName (codes "B") })
unfolding said said_of_tokens said_by
outside_of_base = refl
