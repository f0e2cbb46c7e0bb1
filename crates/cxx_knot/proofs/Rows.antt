-- Worked expressions and initializers: their trees, or the report of the first fault.
use Rattle.std.specs.Prelude.{ℕ, pos, false, ◌≡◌, refl, ◌++◌, ◌==◌, if◌then◌else◌, List, [], ◌∷◌, Option, Some, None, Result, Ok, Err, codes}
use Rattle.cxx_model.specs.declared.base.Base.TheVariants as base
use Rattle.cxx_model.specs.declared.fault.FaultText.{FaultText}
use Rattle.cxx_model.specs.declared.fault.FaultText.TheVariants as says
use Rattle.cxx_model.specs.declared.fault.LeftOut.TheVariants as form
use Rattle.cxx_model.specs.declared.stop.LimitKind.{LimitKind}
use Rattle.cxx_model.specs.declared.stop.LimitKind.TheVariants as limit
use Rattle.cxx_model.specs.declared.token.Token.{Token}
use Rattle.cxx_model.specs.declared.tree.Form.{Form}
use Rattle.cxx_model.specs.declared.tree.Form.TheVariants as by
use Rattle.cxx_model.specs.declared.tree.Kind.{Kind}
use Rattle.cxx_model.specs.declared.tree.Kind.TheVariants as kind
use Rattle.cxx_model.specs.Stops.{Answer, Faulty, Limited}
use Rattle.cxx_model.specs.Text.Lexemes.{first_place, lexemes}
use Rattle.cxx_model.specs.Text.Spelling.{spelling_of, keywords, alternatives, operators, digraphs, word_kind, number_kind, operator, literal, hash, slash, percent, literal_type, literal_value}
use Rattle.cxx_model.specs.Text.Tokens.{Unread, tokens_of, tokens_from, front, longest_within}
use Rattle.cxx_model.specs.Types.Trees.{CxxType, fundamental}
use Rattle.cxx_knot.specs.Readers.{Asking, here, valued, bound_value, bound_at, value_at, enumerator_at, enumerator_step, enumerators_at, fallback_now, fallback_at, both}
use Rattle.cxx_phrases.specs.declared.level.Level.{Level}
use Rattle.cxx_phrases.specs.declared.level.Level.TheVariants as level
use Rattle.cxx_phrases.specs.Initializers.{Initializer, expression_at}
use Rattle.cxx_strings.specs.SideBySide.{side_by_side, strings_from}
use Rattle.cxx_reading.specs.Kinds.{Kinds}
use Rattle.cxx_reading.specs.Reads.{Ahead, Got, place_ahead}
use Rattle.cxx_reading.specs.Trees.{CxxPath, CxxPathPart, CxxTree, CxxTrees, no_trees, tree_then, Label, last_part}
use Rattle.cxx_phrases.specs.Operators.{is_of_level, selects_member, is_assignment, is_prefix, is_step, operator_ahead, is_literal, is_cast_word, is_this, base_of_kind, begins_expression}
use Rattle.cxx_phrases.specs.Arguments.{argument_ended, argument_step, arguments_over, some_arguments, arguments_behind, arguments_at}
use Rattle.cxx_phrases.specs.Brackets.{opened_step, opened_over, opened_passed, closed_step, closed_passed, name_closed, name_opened, called_name, cast_passed, begins_cast}
use Rattle.cxx_phrases.specs.Primary.{literal_part, this_part, name_at, called_at, named_call, value_name_at, functional_cast, functional_at, type_name_at, named_at, word_at, cast_opened, cast_closed, cast_word_at, parenthesis_at, primary_at}
use Rattle.cxx_phrases.specs.Operands.{call_step, subscript_step, step_step, selected_name, selected_step, postfix_step, postfixes_at, cast_at, parenthesis_part, cast_or_parenthesis, called_part, called_or_not, bracket_at, prefix_at, size_at, primary_part, operand_at, sized_operand, sized_type, sized_at}
use Rattle.cxx_phrases.specs.Levels.{no_member, member_operand, operation, operation_step, operations_at, operations_part, binary_at, conditional_part, conditional_by, conditional_at, assignment_part, assignment_by, assignment_behind, assignment_at, comma_part, comma_step, commas_at, whole_at}
use Rattle.cxx_phrases.specs.Initializers.{clause_comma, clause_ended, clause_step, some_clauses, clauses_behind, clauses_at, braces_at, clause_at, copy_at, aggregate_at, equals_at, list_behind, direct_at, initializer_at}
use Rattle.cxx_phrases.specs.Knot.{type_declared, type_id_fits, type_id_at, type_passed_at}
use Rattle.cxx_reading.specs.Reads.{repeat}
use Rattle.cxx_reading.specs.Tokens.{is_punct, is_keyword, is_name, is_end, is_number, passed_from, no_part_there, path_taken, kind_of_name, punct_taken, no_declarator}
use Rattle.cxx_reading.specs.Declarators.{declared_type, refused_in}
use Rattle.cxx_reading.specs.Specifiers.{storage_step, inline_step, const_step, volatile_step, word_step, type_name_step, named_step, elaborated_step, enumeration_body, defined_step, list_step, named_list_step, key_step, enumeration_step, class_named_step, class_behind, class_name_step, class_key_step, class_step, other_step, keyword_step, specifier_step, typed, specifiers_from}
use Rattle.cxx_reading.specs.Shapes.{bracket_step, brackets_passed, key_shape, name_shape, keyword_shape, run_step, run_passed, begins_type, is_abstract_list, prefix_step, prefix_passed, list_shape, suffix_step, suffixes_by, declarator_passed, default_step, default_passed, piece_step, parameters_shape}
use Rattle.cxx_reading.specs.Constants.{no_expression}
use Rattle.cxx_reading.specs.Syntax.{cv_step, cv_at, array_suffix, exceptions_at, function_suffix, bracket_suffix, suffix_at, suffixes_at, qualified_part, name_part, grouped_part, bracket_part, star_part, ampersand_part, declarator_at, pointed_at, referred_at, grouped_at, parameter_fits, default_at, parameter_at, list_ended, comma_passed, parameter_ended, parameter_step, parameters_over, some_parameters, list_at, parameters_at, no_value, enumerator_ended}

-- ---- what trees look like: each its head and, in brackets, its children

abbrev words_in : List CxxPathPart → List ℕ
words_in [] = []
words_in (part ∷ []) = part.word
words_in (part ∷ next ∷ others) = part.word ++ (codes "::" ++ words_in (next ∷ others))

abbrev path_text : CxxPath → List ℕ
path_text path = if path.global then codes "::" ++ words_in path.parts else words_in path.parts

abbrev name_of : Option CxxPath → List ℕ
name_of None = []
name_of (Some path) = path_text path

abbrev type_head : Option CxxType → List ℕ
type_head None = []
type_head (Some of) = codes " T"

abbrev call_head : List ℕ → Option CxxPath → List ℕ
call_head spelling None = codes "call"
call_head spelling (Some path) = codes "call " ++ (spelling ++ path_text path)

abbrev head_of : Label → List ℕ
head_of label =
    if label.production == 22 then codes "{}" else (
    if label.production == 36 then name_of label.path else (
    if label.production == 39 then codes "()" else (
    if label.production == 40 then call_head label.spelling label.path else (
    if label.production == 41 then codes "type" else (
    if label.production == 42 then codes "." ++ name_of label.path else (
    if label.production == 43 then codes "->" ++ name_of label.path else (
    if label.production == 44 then codes "[]" else (
    if label.production == 45 then codes "post" ++ label.spelling else (
    if label.production == 46 then codes "pre" ++ label.spelling else (
    if label.production == 47 then codes "sizeof" ++ type_head label.of else (
    if label.production == 48 then by_bracket label.spelling else (
    if label.production == 54 then codes "parameter" else
    label.spelling))))))))))))
  where
    by_bracket : List ℕ → List ℕ
    by_bracket [] = []
    by_bracket (b ∷ spelling) = if b == 40 then codes "cast(" else b ∷ spelling

abbrev in_brackets : List ℕ → List ℕ
in_brackets [] = []
in_brackets text = codes "[" ++ (text ++ codes "]")

abbrev shown : CxxTrees → List ℕ
shown no_trees = []
shown (tree_then label children next) = (codes " " ++ (head_of label ++ in_brackets (shown children))) ++ shown next

abbrev shown_tree : CxxTree → List ℕ
shown_tree tree = shown (tree_then tree.label tree.children no_trees)

abbrev shown_each : List CxxTree → List ℕ
shown_each [] = []
shown_each (tree ∷ others) = shown_tree tree ++ shown_each others

-- ---- a user: names that begin with `T` are types, those that begin with `N` are namespaces, and the state holds the heads of the trees that were handed over

abbrev kind_of_word : List ℕ → Kind
kind_of_word [] = kind.Value
kind_of_word (b ∷ others) = if b == 84 then kind.OfType else (if b == 78 then kind.Space else kind.Value)

abbrev int : CxxType
int = fundamental base.Int

abbrev kinds : Kinds (List ℕ)
kinds = record {
  kind = λ path state. Ok (kind_of_word (last_part path.parts).word, state);
  type_named = λ path state. Ok (int, state);
  elaborated = λ path state. Ok (int, state);
  class_named = λ is_union is_all path state. Ok (int, state);
  entered = λ path state. Ok (tt, state);
  enumeration = λ name place state. Ok (0, state);
  enumerator = λ number name value state. Ok (tt, state);
  enumerated = λ number state. Ok (tt, state);
  constant = λ tree state. Ok (pos 3, state);
  enter_parameters = λ state. Ok (0, state);
  parameter = λ name place of state. Ok (tt, state);
  leave_parameters = λ state. Ok (tt, state);
}

abbrev handed : CxxTree → List ℕ → Answer (CxxTree × List ℕ)
handed tree state = Ok (tree, state ++ (codes " " ++ head_of tree.label))

abbrev user : ℕ → Asking (List ℕ)
user room = record {
  kinds = kinds;
  whole = handed;
  defaults = record {
    is_later = λ state. Ok (false, state);
    passed = λ index tree state. Ok (tt, state);
    begun = λ equals state. Ok (false, state);
    ended = λ equals was index of tree state. Ok (tree, state);
  };
}

-- what is read: a tree and the column of what is ahead then; the first fault by column and text; or a limit
pub data Row : Type 0 where
  Read : List ℕ → ℕ → Row
  Broken : ℕ → FaultText → Row
  PastLimit : LimitKind → Row
  NoTokens : Row

abbrev row_by : {A : Type 0} → (A → List ℕ) → Answer (Got (List ℕ) A) → Row
row_by view (Ok one) = Read (view one.value) (place_ahead one.rest).column
row_by view (Err (Faulty fault)) = Broken fault.place.column fault.text
row_by view (Err (Limited kind)) = PastLimit kind

abbrev ahead_of : List ℕ → List Token → Ahead
ahead_of bytes tokens = record { last = first_place; tokens = lexemes bytes tokens }

expression_row : Level → ℕ → List ℕ → Result (List Token) Unread → Row
unfolding spelling_of keywords alternatives operators digraphs word_kind number_kind operator literal hash slash percent literal_type literal_value tokens_of tokens_from front longest_within is_of_level selects_member is_assignment is_prefix is_step selected_name selected_step operator_ahead is_literal is_cast_word is_this base_of_kind begins_expression argument_ended argument_step arguments_over some_arguments arguments_behind arguments_at opened_step opened_over opened_passed closed_step closed_passed name_closed name_opened called_name cast_passed begins_cast literal_part this_part name_at called_at named_call value_name_at functional_cast functional_at type_name_at named_at word_at cast_opened cast_closed cast_word_at parenthesis_at primary_at call_step subscript_step step_step postfix_step postfixes_at cast_at parenthesis_part cast_or_parenthesis called_part called_or_not bracket_at prefix_at size_at primary_part operand_at sized_operand sized_type sized_at no_member member_operand operation operation_step operations_at operations_part binary_at conditional_part conditional_by conditional_at assignment_part assignment_by assignment_behind assignment_at comma_part comma_step commas_at whole_at clause_comma clause_ended clause_step some_clauses clauses_behind clauses_at braces_at clause_at copy_at aggregate_at equals_at list_behind direct_at initializer_at type_declared type_id_fits type_id_at type_passed_at repeat is_punct is_keyword is_name is_end is_number passed_from no_part_there path_taken kind_of_name punct_taken no_declarator declared_type refused_in storage_step inline_step const_step volatile_step word_step type_name_step named_step elaborated_step enumeration_body defined_step list_step named_list_step key_step enumeration_step class_named_step class_behind class_name_step class_key_step class_step other_step keyword_step specifier_step typed specifiers_from bracket_step brackets_passed key_shape name_shape keyword_shape run_step run_passed begins_type is_abstract_list prefix_step prefix_passed list_shape suffix_step suffixes_by declarator_passed default_step default_passed piece_step parameters_shape no_expression cv_step cv_at array_suffix exceptions_at function_suffix bracket_suffix suffix_at suffixes_at qualified_part name_part grouped_part bracket_part star_part ampersand_part declarator_at pointed_at referred_at grouped_at valued bound_value bound_at parameter_fits default_at parameter_at list_ended comma_passed parameter_ended parameter_step parameters_over some_parameters list_at parameters_at no_value value_at enumerator_at enumerator_ended enumerator_step enumerators_at fallback_now fallback_at both
expression_row level room bytes (Ok tokens) = row_by shown_tree (expression_at (here (user room) (both user room) room) (both user room).phrases level [] (ahead_of bytes tokens))
expression_row level room bytes (Err why) = NoTokens

-- an expression of a level, with room for so many brackets
row : Level → ℕ → List ℕ → Row
unfolding spelling_of keywords alternatives operators digraphs word_kind number_kind operator literal hash slash percent literal_type literal_value tokens_of tokens_from front longest_within expression_row
row level room bytes = expression_row level room bytes (tokens_of bytes)

abbrev order_by : Answer (Got (List ℕ) CxxTree) → List ℕ
order_by (Ok one) = one.state
order_by (Err why) = []

abbrev place_by : Answer (Got (List ℕ) CxxTree) → ℕ
place_by (Ok one) = one.value.label.place.column
place_by (Err why) = 0

order_row : List ℕ → Result (List Token) Unread → List ℕ
unfolding spelling_of keywords alternatives operators digraphs word_kind number_kind operator literal hash slash percent literal_type literal_value tokens_of tokens_from front longest_within is_of_level selects_member is_assignment is_prefix is_step selected_name selected_step operator_ahead is_literal is_cast_word is_this base_of_kind begins_expression argument_ended argument_step arguments_over some_arguments arguments_behind arguments_at opened_step opened_over opened_passed closed_step closed_passed name_closed name_opened called_name cast_passed begins_cast literal_part this_part name_at called_at named_call value_name_at functional_cast functional_at type_name_at named_at word_at cast_opened cast_closed cast_word_at parenthesis_at primary_at call_step subscript_step step_step postfix_step postfixes_at cast_at parenthesis_part cast_or_parenthesis called_part called_or_not bracket_at prefix_at size_at primary_part operand_at sized_operand sized_type sized_at no_member member_operand operation operation_step operations_at operations_part binary_at conditional_part conditional_by conditional_at assignment_part assignment_by assignment_behind assignment_at comma_part comma_step commas_at whole_at clause_comma clause_ended clause_step some_clauses clauses_behind clauses_at braces_at clause_at copy_at aggregate_at equals_at list_behind direct_at initializer_at type_declared type_id_fits type_id_at type_passed_at repeat is_punct is_keyword is_name is_end is_number passed_from no_part_there path_taken kind_of_name punct_taken no_declarator declared_type refused_in storage_step inline_step const_step volatile_step word_step type_name_step named_step elaborated_step enumeration_body defined_step list_step named_list_step key_step enumeration_step class_named_step class_behind class_name_step class_key_step class_step other_step keyword_step specifier_step typed specifiers_from bracket_step brackets_passed key_shape name_shape keyword_shape run_step run_passed begins_type is_abstract_list prefix_step prefix_passed list_shape suffix_step suffixes_by declarator_passed default_step default_passed piece_step parameters_shape no_expression cv_step cv_at array_suffix exceptions_at function_suffix bracket_suffix suffix_at suffixes_at qualified_part name_part grouped_part bracket_part star_part ampersand_part declarator_at pointed_at referred_at grouped_at valued bound_value bound_at parameter_fits default_at parameter_at list_ended comma_passed parameter_ended parameter_step parameters_over some_parameters list_at parameters_at no_value value_at enumerator_at enumerator_ended enumerator_step enumerators_at fallback_now fallback_at both
order_row bytes (Ok tokens) = order_by (expression_at (here (user 9) (both user 9) 9) (both user 9).phrases level.Whole [] (ahead_of bytes tokens))
order_row bytes (Err why) = []

-- the heads of the trees that a whole expression hands over, in order
order : List ℕ → List ℕ
unfolding spelling_of keywords alternatives operators digraphs word_kind number_kind operator literal hash slash percent literal_type literal_value tokens_of tokens_from front longest_within order_row
order bytes = order_row bytes (tokens_of bytes)

place_row : List ℕ → Result (List Token) Unread → ℕ
unfolding spelling_of keywords alternatives operators digraphs word_kind number_kind operator literal hash slash percent literal_type literal_value tokens_of tokens_from front longest_within is_of_level selects_member is_assignment is_prefix is_step selected_name selected_step operator_ahead is_literal is_cast_word is_this base_of_kind begins_expression argument_ended argument_step arguments_over some_arguments arguments_behind arguments_at opened_step opened_over opened_passed closed_step closed_passed name_closed name_opened called_name cast_passed begins_cast literal_part this_part name_at called_at named_call value_name_at functional_cast functional_at type_name_at named_at word_at cast_opened cast_closed cast_word_at parenthesis_at primary_at call_step subscript_step step_step postfix_step postfixes_at cast_at parenthesis_part cast_or_parenthesis called_part called_or_not bracket_at prefix_at size_at primary_part operand_at sized_operand sized_type sized_at no_member member_operand operation operation_step operations_at operations_part binary_at conditional_part conditional_by conditional_at assignment_part assignment_by assignment_behind assignment_at comma_part comma_step commas_at whole_at clause_comma clause_ended clause_step some_clauses clauses_behind clauses_at braces_at clause_at copy_at aggregate_at equals_at list_behind direct_at initializer_at type_declared type_id_fits type_id_at type_passed_at repeat is_punct is_keyword is_name is_end is_number passed_from no_part_there path_taken kind_of_name punct_taken no_declarator declared_type refused_in storage_step inline_step const_step volatile_step word_step type_name_step named_step elaborated_step enumeration_body defined_step list_step named_list_step key_step enumeration_step class_named_step class_behind class_name_step class_key_step class_step other_step keyword_step specifier_step typed specifiers_from bracket_step brackets_passed key_shape name_shape keyword_shape run_step run_passed begins_type is_abstract_list prefix_step prefix_passed list_shape suffix_step suffixes_by declarator_passed default_step default_passed piece_step parameters_shape no_expression cv_step cv_at array_suffix exceptions_at function_suffix bracket_suffix suffix_at suffixes_at qualified_part name_part grouped_part bracket_part star_part ampersand_part declarator_at pointed_at referred_at grouped_at valued bound_value bound_at parameter_fits default_at parameter_at list_ended comma_passed parameter_ended parameter_step parameters_over some_parameters list_at parameters_at no_value value_at enumerator_at enumerator_ended enumerator_step enumerators_at fallback_now fallback_at both
place_row bytes (Ok tokens) = place_by (expression_at (here (user 9) (both user 9) 9) (both user 9).phrases level.Whole [] (ahead_of bytes tokens))
place_row bytes (Err why) = 0

-- the column of the place of a whole expression
column : List ℕ → ℕ
unfolding spelling_of keywords alternatives operators digraphs word_kind number_kind operator literal hash slash percent literal_type literal_value tokens_of tokens_from front longest_within place_row
column bytes = place_row bytes (tokens_of bytes)

abbrev form_head : Form → List ℕ
form_head by.Copy = codes "copy:"
form_head by.Direct = codes "direct:"
form_head by.Default = codes "default:"
form_head by.Aggregate = codes "aggregate:"

abbrev shown_initializer : Initializer → List ℕ
shown_initializer one = form_head one.form ++ shown_each one.parts

initializer_row : List ℕ → Result (List Token) Unread → Row
unfolding spelling_of keywords alternatives operators digraphs word_kind number_kind operator literal hash slash percent literal_type literal_value tokens_of tokens_from front longest_within is_of_level selects_member is_assignment is_prefix is_step selected_name selected_step operator_ahead is_literal is_cast_word is_this base_of_kind begins_expression argument_ended argument_step arguments_over some_arguments arguments_behind arguments_at opened_step opened_over opened_passed closed_step closed_passed name_closed name_opened called_name cast_passed begins_cast literal_part this_part name_at called_at named_call value_name_at functional_cast functional_at type_name_at named_at word_at cast_opened cast_closed cast_word_at parenthesis_at primary_at call_step subscript_step step_step postfix_step postfixes_at cast_at parenthesis_part cast_or_parenthesis called_part called_or_not bracket_at prefix_at size_at primary_part operand_at sized_operand sized_type sized_at no_member member_operand operation operation_step operations_at operations_part binary_at conditional_part conditional_by conditional_at assignment_part assignment_by assignment_behind assignment_at comma_part comma_step commas_at whole_at clause_comma clause_ended clause_step some_clauses clauses_behind clauses_at braces_at clause_at copy_at aggregate_at equals_at list_behind direct_at initializer_at type_declared type_id_fits type_id_at type_passed_at repeat is_punct is_keyword is_name is_end is_number passed_from no_part_there path_taken kind_of_name punct_taken no_declarator declared_type refused_in storage_step inline_step const_step volatile_step word_step type_name_step named_step elaborated_step enumeration_body defined_step list_step named_list_step key_step enumeration_step class_named_step class_behind class_name_step class_key_step class_step other_step keyword_step specifier_step typed specifiers_from bracket_step brackets_passed key_shape name_shape keyword_shape run_step run_passed begins_type is_abstract_list prefix_step prefix_passed list_shape suffix_step suffixes_by declarator_passed default_step default_passed piece_step parameters_shape no_expression cv_step cv_at array_suffix exceptions_at function_suffix bracket_suffix suffix_at suffixes_at qualified_part name_part grouped_part bracket_part star_part ampersand_part declarator_at pointed_at referred_at grouped_at valued bound_value bound_at parameter_fits default_at parameter_at list_ended comma_passed parameter_ended parameter_step parameters_over some_parameters list_at parameters_at no_value value_at enumerator_at enumerator_ended enumerator_step enumerators_at fallback_now fallback_at both
initializer_row bytes (Ok tokens) = row_by shown_initializer (initializer_at (here (user 9) (both user 9) 9) (both user 9).phrases [] (ahead_of bytes tokens))
initializer_row bytes (Err why) = NoTokens

initializer : List ℕ → Row
unfolding spelling_of keywords alternatives operators digraphs word_kind number_kind operator literal hash slash percent literal_type literal_value tokens_of tokens_from front longest_within initializer_row
initializer bytes = initializer_row bytes (tokens_of bytes)

-- ---- precedence (5.6 to 5.18)

row_1 : row level.Whole 9 (codes "a + b * c") ≡ Read (codes " +[ a *[ b c]]") 10
unfolding row expression_row
row_1 = refl

row_2 : row level.Whole 9 (codes "a * b + c") ≡ Read (codes " +[ *[ a b] c]") 10
unfolding row expression_row
row_2 = refl

row_3 : row level.Whole 9 (codes "a - b - c") ≡ Read (codes " -[ -[ a b] c]") 10
unfolding row expression_row
row_3 = refl

row_4 : row level.Whole 9 (codes "a << b + c < d == e & f ^ g | h && i || j") ≡ Read (codes " ||[ &&[ |[ ^[ &[ ==[ <[ <<[ a +[ b c]] d] e] f] g] h] i] j]") 42
unfolding row expression_row
row_4 = refl

row_5 : row level.Whole 9 (codes "a || b && c | d ^ e & f == g < h << i + j * k") ≡ Read (codes " ||[ a &&[ b |[ c ^[ d &[ e ==[ f <[ g <<[ h +[ i *[ j k]]]]]]]]]]") 46
unfolding row expression_row
row_5 = refl

-- 5.17: assignment groups from the right
row_6 : row level.Whole 9 (codes "a = b = c") ≡ Read (codes " =[ a =[ b c]]") 10
unfolding row expression_row
row_6 = refl

row_7 : row level.Whole 9 (codes "a + b = c") ≡ Read (codes " =[ +[ a b] c]") 10
unfolding row expression_row
row_7 = refl

-- 5.16: the third operand is an assignment
row_8 : row level.Whole 9 (codes "b ? x : y = z") ≡ Read (codes " ?[ b x =[ y z]]") 14
unfolding row expression_row
row_8 = refl

row_9 : row level.Whole 9 (codes "b ? x, y : z, w") ≡ Read (codes " ,[ ?[ b ,[ x y] z] w]") 16
unfolding row expression_row
row_9 = refl

row_10 : row level.Whole 9 (codes "a ? b ? c : d : e ? f : g") ≡ Read (codes " ?[ a ?[ b c d] ?[ e f g]]") 26
unfolding row expression_row
row_10 = refl

row_11 : row level.Whole 9 (codes "a = b, c += d") ≡ Read (codes " ,[ =[ a b] +=[ c d]]") 14
unfolding row expression_row
row_11 = refl

row_12 : row level.Assignment 9 (codes "a, b") ≡ Read (codes " a") 2
unfolding row expression_row
row_12 = refl

-- 5.19: a constant is no assignment
row_13 : row level.Constant 9 (codes "a = b") ≡ Read (codes " a") 3
unfolding row expression_row
row_13 = refl

row_14 : row level.Constant 9 (codes "a || b ? c : d") ≡ Read (codes " ?[ ||[ a b] c d]") 15
unfolding row expression_row
row_14 = refl

row_15 : row level.Operand 9 (codes "-a + b") ≡ Read (codes " pre-[ a]") 4
unfolding row expression_row
row_15 = refl

-- 2.5
row_16 : row level.Whole 9 (codes "not a and b bitor c") ≡ Read (codes " &&[ pre![ a] |[ b c]]") 20
unfolding row expression_row
row_16 = refl

row_17 : row level.Whole 9 (codes "a xor_eq compl b") ≡ Read (codes " ^=[ a pre~[ b]]") 17
unfolding row expression_row
row_17 = refl

-- ---- primary expressions (5.1)

row_18 : row level.Whole 9 (codes "true") ≡ Read (codes " true") 5
unfolding row expression_row
row_18 = refl

row_19 : row level.Whole 9 (codes "'a'") ≡ Read (codes " 'a'") 4
unfolding row expression_row
row_19 = refl

row_20 : row level.Whole 9 (codes "\"ab\"") ≡ Read (codes " \"ab\"") 5
unfolding row expression_row side_by_side strings_from
row_20 = refl

row_20_beside : row level.Whole 9 (codes "\"a\"  \"b\"") ≡ Read (codes " \"a\" \"b\"") 9
unfolding row expression_row side_by_side strings_from
row_20_beside = refl

row_21 : row level.Whole 9 (codes "(a)") ≡ Read (codes " ()[ a]") 4
unfolding row expression_row
row_21 = refl

row_22 : row level.Whole 9 (codes "((a) + 1)") ≡ Read (codes " ()[ +[ ()[ a] 1]]") 10
unfolding row expression_row
row_22 = refl

-- 3.4.3: names with qualifiers
row_23 : row level.Whole 9 (codes "N::a") ≡ Read (codes " N::a") 5
unfolding row expression_row
row_23 = refl

row_24 : row level.Whole 9 (codes "::a") ≡ Read (codes " ::a") 4
unfolding row expression_row
row_24 = refl

row_24_more : row level.Whole 9 (codes ":: N :: M::a + 1") ≡ Read (codes " +[ ::N::M::a 1]") 17
unfolding row expression_row
row_24_more = refl

row_24_called : row level.Whole 9 (codes "N::f(1)(2)") ≡ Read (codes " call[ call N::f[ 1] 2]") 11
unfolding row expression_row
row_24_called = refl

row_24_type : row level.Whole 9 (codes "N::T(1)") ≡ Read (codes " type[ 1]") 8
unfolding row expression_row
row_24_type = refl

row_24_behind : row level.Whole 9 (codes "T::a") ≡ Read (codes " T::a") 5
unfolding row expression_row
row_24_behind = refl

-- 7.3: the name of a namespace is no expression
row_24_space : row level.Whole 9 (codes "a + N") ≡ Broken 5 says.SyntaxError
unfolding row expression_row
row_24_space = refl

row_24_spaces : row level.Whole 9 (codes "N::N") ≡ Broken 1 says.SyntaxError
unfolding row expression_row
row_24_spaces = refl

-- a part stands behind each `::`
row_24_open : row level.Whole 9 (codes "a + N::") ≡ Broken 8 says.SyntaxError
unfolding row expression_row
row_24_open = refl

row_24_twice : row level.Whole 9 (codes "N:: ::a") ≡ Broken 5 says.SyntaxError
unfolding row expression_row
row_24_twice = refl

row_24_none : row level.Whole 9 (codes ":: 1") ≡ Broken 4 says.SyntaxError
unfolding row expression_row
row_24_none = refl

row_24_word : row level.Whole 9 (codes "N::int(1)") ≡ Broken 4 says.SyntaxError
unfolding row expression_row
row_24_word = refl

row_24_operator : row level.Whole 9 (codes "N::operator+(a)") ≡ Broken 4 says.NotBuilt
unfolding row expression_row
row_24_operator = refl

row_24_template : row level.Whole 9 (codes "N::template f<int>(1)") ≡ Broken 4 says.NotBuilt
unfolding row expression_row
row_24_template = refl

row_24_destructor : row level.Whole 9 (codes "T::~T") ≡ Broken 4 says.NotBuilt
unfolding row expression_row
row_24_destructor = refl

row_24_new : row level.Whole 9 (codes "::new int") ≡ Broken 3 says.NotBuilt
unfolding row expression_row
row_24_new = refl

row_24_delete : row level.Whole 9 (codes "a + ::delete p") ≡ Broken 7 says.NotBuilt
unfolding row expression_row
row_24_delete = refl

row_25 : row level.Whole 9 (codes "this") ≡ Read (codes " this") 5
unfolding row expression_row
row_25 = refl

row_26 : row level.Whole 9 (codes "new int") ≡ Broken 1 says.NotBuilt
unfolding row expression_row
row_26 = refl

row_27 : row level.Whole 9 (codes "1 + delete p") ≡ Broken 5 says.NotBuilt
unfolding row expression_row
row_27 = refl

row_28 : row level.Whole 9 (codes "operator new(1)") ≡ Broken 1 says.NotBuilt
unfolding row expression_row
row_28 = refl

row_29 : row level.Whole 9 (codes "typename T::x(1)") ≡ Broken 1 says.NotBuilt
unfolding row expression_row
row_29 = refl

row_30 : row level.Whole 9 (codes "typeid(int)") ≡ Broken 1 (says.LeftOut form.Typeid)
unfolding row expression_row
row_30 = refl

row_31 : row level.Whole 9 (codes "dynamic_cast<T &>(a)") ≡ Broken 1 (says.LeftOut form.DynamicCast)
unfolding row expression_row
row_31 = refl

row_32 : row level.Whole 9 (codes "throw 1") ≡ Broken 1 (says.LeftOut form.Exception)
unfolding row expression_row
row_32 = refl

row_33 : row level.Whole 9 (codes "a, throw") ≡ Broken 4 (says.LeftOut form.Exception)
unfolding row expression_row
row_33 = refl

-- no assignment-expression begins there
row_34 : row level.Whole 9 (codes "1 + throw 2") ≡ Broken 5 says.SyntaxError
unfolding row expression_row
row_34 = refl

row_35 : row level.Whole 9 (codes "") ≡ Broken 1 says.SyntaxError
unfolding row expression_row
row_35 = refl

row_36 : row level.Whole 9 (codes "a +") ≡ Broken 4 says.SyntaxError
unfolding row expression_row
row_36 = refl

row_37 : row level.Whole 9 (codes "a + ]") ≡ Broken 5 says.SyntaxError
unfolding row expression_row
row_37 = refl

row_38 : row level.Whole 9 (codes "const") ≡ Broken 1 says.SyntaxError
unfolding row expression_row
row_38 = refl

row_39 : row level.Whole 9 (codes "(a") ≡ Broken 3 says.SyntaxError
unfolding row expression_row
row_39 = refl

row_40 : row level.Whole 9 (codes "()") ≡ Broken 2 says.SyntaxError
unfolding row expression_row
row_40 = refl

-- ---- postfix expressions (5.2)

row_41 : row level.Whole 9 (codes "f()") ≡ Read (codes " call f") 4
unfolding row expression_row
row_41 = refl

row_42 : row level.Whole 9 (codes "f(a, b = c, (d, e))") ≡ Read (codes " call f[ a =[ b c] ()[ ,[ d e]]]") 20
unfolding row expression_row
row_42 = refl

row_43 : row level.Whole 9 (codes "f(1)(2)[3]++") ≡ Read (codes " post++[ [][ call[ call f[ 1] 2] 3]]") 13
unfolding row expression_row
row_43 = refl

row_44 : row level.Whole 9 (codes "a[i, j]--") ≡ Read (codes " post--[ [][ a ,[ i j]]]") 10
unfolding row expression_row
row_44 = refl

row_45 : row level.Whole 9 (codes "(*p)(1)") ≡ Read (codes " call[ ()[ pre*[ p]] 1]") 8
unfolding row expression_row
row_45 = refl

-- 13.3.1.1.1: a called name in brackets
row_46 : row level.Whole 9 (codes "(f)(1)") ≡ Read (codes " call (f[ 1]") 7
unfolding row expression_row
row_46 = refl

row_47 : row level.Whole 9 (codes "((f))(1) + 2") ≡ Read (codes " +[ call (f[ 1] 2]") 13
unfolding row expression_row
row_47 = refl

row_48 : row level.Whole 9 (codes "(f)[1]") ≡ Read (codes " [][ ()[ f] 1]") 7
unfolding row expression_row
row_48 = refl

row_49 : row level.Whole 9 (codes "((f))") ≡ Read (codes " ()[ ()[ f]]") 6
unfolding row expression_row
row_49 = refl

row_50 : row level.Whole 9 (codes "((f)(1))") ≡ Read (codes " ()[ call (f[ 1]]") 9
unfolding row expression_row
row_50 = refl

row_50_qualified : row level.Whole 9 (codes "(N::f)(1)") ≡ Read (codes " call (N::f[ 1]") 10
unfolding row expression_row
row_50_qualified = refl

row_50_global : row level.Whole 9 (codes "((::f))(1)[2]") ≡ Read (codes " [][ call (::f[ 1] 2]") 14
unfolding row expression_row
row_50_global = refl

row_50_value : row level.Whole 9 (codes "(N::a) - 1") ≡ Read (codes " -[ ()[ N::a] 1]") 11
unfolding row expression_row
row_50_value = refl

row_50_space : row level.Whole 9 (codes "(N)(1)") ≡ Broken 2 says.SyntaxError
unfolding row expression_row
row_50_space = refl

row_50_open : row level.Whole 9 (codes "(N::)(1)") ≡ Broken 5 says.SyntaxError
unfolding row expression_row
row_50_open = refl

row_51 : row level.Whole 9 (codes "a.b") ≡ Read (codes " .b[ a]") 4
unfolding row expression_row
row_51 = refl

row_52 : row level.Whole 9 (codes "a->b.c[1]") ≡ Read (codes " [][ .c[ ->b[ a]] 1]") 10
unfolding row expression_row
row_52 = refl

row_52_called : row level.Whole 9 (codes "f(1).b = 2") ≡ Read (codes " =[ .b[ call f[ 1]] 2]") 11
unfolding row expression_row
row_52_called = refl

-- 3.4.5: a member with qualifiers
row_52_qualified : row level.Whole 9 (codes "a.N::b") ≡ Read (codes " .N::b[ a]") 7
unfolding row expression_row
row_52_qualified = refl

-- 12.4: the call of a destructor is left out
row_52_destructor : row level.Whole 9 (codes "a->~b()") ≡ Broken 4 (says.LeftOut form.DestructorCall)
unfolding row expression_row
row_52_destructor = refl

row_52_none : row level.Whole 9 (codes "a.(b)") ≡ Broken 3 says.SyntaxError
unfolding row expression_row
row_52_none = refl

row_53 : row level.Whole 9 (codes "a.*b") ≡ Broken 2 (says.LeftOut form.PointerToMember)
unfolding row expression_row
row_53 = refl

row_54 : row level.Whole 9 (codes "-a->*b") ≡ Broken 3 (says.LeftOut form.PointerToMember)
unfolding row expression_row
row_54 = refl

row_55 : row level.Whole 9 (codes "f(a b)") ≡ Broken 5 says.SyntaxError
unfolding row expression_row
row_55 = refl

row_56 : row level.Whole 9 (codes "f(a,)") ≡ Broken 5 says.SyntaxError
unfolding row expression_row
row_56 = refl

row_57 : row level.Whole 9 (codes "f(a") ≡ Broken 4 says.SyntaxError
unfolding row expression_row
row_57 = refl

row_58 : row level.Whole 9 (codes "f(throw 1)") ≡ Broken 3 (says.LeftOut form.Exception)
unfolding row expression_row
row_58 = refl

row_59 : row level.Whole 9 (codes "a[]") ≡ Broken 3 says.SyntaxError
unfolding row expression_row
row_59 = refl

-- ---- types with brackets (5.2.3)

row_60 : row level.Whole 9 (codes "T(1)") ≡ Read (codes " type[ 1]") 5
unfolding row expression_row
row_60 = refl

row_61 : row level.Whole 9 (codes "T()") ≡ Read (codes " type") 4
unfolding row expression_row
row_61 = refl

row_62 : row level.Whole 9 (codes "int(1) + char()") ≡ Read (codes " +[ type[ 1] type]") 16
unfolding row expression_row
row_62 = refl

-- a type begins an expression in no other way
row_63 : row level.Whole 9 (codes "T") ≡ Broken 2 says.SyntaxError
unfolding row expression_row
row_63 = refl

row_64 : row level.Whole 9 (codes "1 + T;") ≡ Broken 6 says.SyntaxError
unfolding row expression_row
row_64 = refl

row_65 : row level.Whole 9 (codes "T + 1") ≡ Broken 3 says.SyntaxError
unfolding row expression_row
row_65 = refl

row_66 : row level.Whole 9 (codes "int") ≡ Broken 4 says.SyntaxError
unfolding row expression_row
row_66 = refl

row_67 : row level.Whole 9 (codes "unsigned int(3)") ≡ Broken 10 says.SyntaxError
unfolding row expression_row
row_67 = refl

row_68 : row level.Whole 9 (codes "T(1)(2)") ≡ Read (codes " call[ type[ 1] 2]") 8
unfolding row expression_row
row_68 = refl

-- ---- casts (5.2.9 to 5.2.11, 5.4)

row_69 : row level.Whole 9 (codes "(T)-1") ≡ Read (codes " cast([ pre-[ 1]]") 6
unfolding row expression_row
row_69 = refl

row_70 : row level.Whole 9 (codes "(a)-1") ≡ Read (codes " -[ ()[ a] 1]") 6
unfolding row expression_row
row_70 = refl

row_71 : row level.Whole 9 (codes "(T)a + b") ≡ Read (codes " +[ cast([ a] b]") 9
unfolding row expression_row
row_71 = refl

row_72 : row level.Whole 9 (codes "(int)(char)a[1]") ≡ Read (codes " cast([ cast([ [][ a 1]]]") 16
unfolding row expression_row
row_72 = refl

row_73 : row level.Whole 9 (codes "(T)(a)") ≡ Read (codes " cast([ ()[ a]]") 7
unfolding row expression_row
row_73 = refl

row_74 : row level.Whole 9 (codes "(T)(a)(b)") ≡ Read (codes " cast([ call (a[ b]]") 10
unfolding row expression_row
row_74 = refl

-- the trees of a type stand before the operand
row_75 : row level.Whole 9 (codes "(int (*)(int))p") ≡ Read (codes " cast([ parameter p]") 16
unfolding row expression_row
row_75 = refl

row_76 : row level.Whole 9 (codes "(const T *)sizeof a") ≡ Read (codes " cast([ sizeof[ a]]") 20
unfolding row expression_row
row_76 = refl

row_77 : row level.Whole 9 (codes "(T)") ≡ Broken 3 says.SyntaxError
unfolding row expression_row
row_77 = refl

-- no operand begins there, so that is no cast
row_78 : row level.Whole 9 (codes "(T) / 2") ≡ Broken 3 says.SyntaxError
unfolding row expression_row
row_78 = refl

row_79 : row level.Whole 9 (codes "((T))(a)") ≡ Broken 4 says.SyntaxError
unfolding row expression_row
row_79 = refl

-- a declarator with a name is no part of a type
row_80 : row level.Whole 9 (codes "(int(x))") ≡ Read (codes " ()[ type[ x]]") 9
unfolding row expression_row
row_80 = refl

row_81 : row level.Whole 9 (codes "(T(x)) + 1") ≡ Read (codes " +[ ()[ type[ x]] 1]") 11
unfolding row expression_row
row_81 = refl

-- 8.2
row_82 : row level.Whole 9 (codes "(T())-1") ≡ Read (codes " cast([ pre-[ 1]]") 8
unfolding row expression_row
row_82 = refl

-- 8.3.1
row_83 : row level.Whole 9 (codes "(int &*)a") ≡ Broken 7 says.OperandsDoNotFit
unfolding row expression_row
row_83 = refl

-- no enumeration is defined there
row_84 : row level.Whole 9 (codes "(enum { })a") ≡ Broken 7 says.SyntaxError
unfolding row expression_row
row_84 = refl

row_85 : row level.Whole 9 (codes "(struct S)a") ≡ Read (codes " cast([ struct a]") 12
unfolding row expression_row
row_85 = refl

row_86 : row level.Whole 9 (codes "(N::T)a") ≡ Read (codes " cast([ a]") 8
unfolding row expression_row
row_86 = refl

row_86_pointer : row level.Whole 9 (codes "(const ::N::T *)-a") ≡ Read (codes " cast([ pre-[ a]]") 19
unfolding row expression_row
row_86_pointer = refl

row_86_operand : row level.Whole 9 (codes "(N::T)N::a") ≡ Read (codes " cast([ N::a]") 11
unfolding row expression_row
row_86_operand = refl

row_86_shape : row level.Whole 9 (codes "(int(N::a))") ≡ Read (codes " ()[ type[ N::a]]") 12
unfolding row expression_row
row_86_shape = refl

row_86_word : row level.Whole 9 (codes "static_cast<N::T>(a)") ≡ Read (codes " static_cast[ a]") 21
unfolding row expression_row
row_86_word = refl

row_87 : row level.Whole 9 (codes "static_cast<T>(a, b)") ≡ Read (codes " static_cast[ ,[ a b]]") 21
unfolding row expression_row
row_87 = refl

row_88 : row level.Whole 9 (codes "const_cast<char *>(a)[1]") ≡ Read (codes " [][ const_cast[ a] 1]") 25
unfolding row expression_row
row_88 = refl

row_89 : row level.Whole 9 (codes "reinterpret_cast<int (*)[3]>(a)++") ≡ Read (codes " post++[ reinterpret_cast[ 3 a]]") 34
unfolding row expression_row
row_89 = refl

row_90 : row level.Whole 9 (codes "static_cast<a>(1)") ≡ Broken 13 says.SyntaxError
unfolding row expression_row
row_90 = refl

row_91 : row level.Whole 9 (codes "static_cast<int> 1") ≡ Broken 18 says.SyntaxError
unfolding row expression_row
row_91 = refl

row_92 : row level.Whole 9 (codes "static_cast<int>()") ≡ Broken 18 says.SyntaxError
unfolding row expression_row
row_92 = refl

row_93 : row level.Whole 9 (codes "static_cast(1)") ≡ Broken 12 says.SyntaxError
unfolding row expression_row
row_93 = refl

-- ---- unary expressions (5.3)

row_94 : row level.Whole 9 (codes "- -a") ≡ Read (codes " pre-[ pre-[ a]]") 5
unfolding row expression_row
row_94 = refl

row_95 : row level.Whole 9 (codes "++*p") ≡ Read (codes " pre++[ pre*[ p]]") 5
unfolding row expression_row
row_95 = refl

row_96 : row level.Whole 9 (codes "!a++") ≡ Read (codes " pre![ post++[ a]]") 5
unfolding row expression_row
row_96 = refl

row_97 : row level.Whole 9 (codes "&(T)a") ≡ Read (codes " pre&[ cast([ a]]") 6
unfolding row expression_row
row_97 = refl

row_98 : row level.Whole 9 (codes "sizeof a + 1") ≡ Read (codes " +[ sizeof[ a] 1]") 13
unfolding row expression_row
row_98 = refl

row_99 : row level.Whole 9 (codes "sizeof(int)") ≡ Read (codes " sizeof T") 12
unfolding row expression_row
row_99 = refl

-- 5.3.3: a type in brackets ends there
row_100 : row level.Whole 9 (codes "sizeof(int)[3]") ≡ Read (codes " sizeof T") 12
unfolding row expression_row
row_100 = refl

row_101 : row level.Whole 9 (codes "sizeof(a)[3]") ≡ Read (codes " sizeof[ [][ ()[ a] 3]]") 13
unfolding row expression_row
row_101 = refl

row_102 : row level.Whole 9 (codes "sizeof(T) - 1") ≡ Read (codes " -[ sizeof T 1]") 14
unfolding row expression_row
row_102 = refl

row_103 : row level.Whole 9 (codes "sizeof(T)-a") ≡ Read (codes " -[ sizeof T a]") 12
unfolding row expression_row
row_103 = refl

row_103_type : row level.Whole 9 (codes "sizeof(N::T)") ≡ Read (codes " sizeof T") 13
unfolding row expression_row
row_103_type = refl

row_103_operand : row level.Whole 9 (codes "sizeof(N::a)") ≡ Read (codes " sizeof[ ()[ N::a]]") 13
unfolding row expression_row
row_103_operand = refl

row_104 : row level.Whole 9 (codes "sizeof (f)(1)") ≡ Read (codes " sizeof[ call (f[ 1]]") 14
unfolding row expression_row
row_104 = refl

row_105 : row level.Whole 9 (codes "sizeof sizeof a") ≡ Read (codes " sizeof[ sizeof[ a]]") 16
unfolding row expression_row
row_105 = refl

row_106 : row level.Whole 9 (codes "sizeof") ≡ Broken 7 says.SyntaxError
unfolding row expression_row
row_106 = refl

-- ---- the nesting of brackets and operators

row_107 : row level.Whole 1 (codes "(a)") ≡ Read (codes " ()[ a]") 4
unfolding row expression_row
row_107 = refl

row_108 : row level.Whole 1 (codes "((a))") ≡ PastLimit limit.Nesting
unfolding row expression_row
row_108 = refl

row_109 : row level.Whole 1 (codes "(f)(1)") ≡ Read (codes " call (f[ 1]") 7
unfolding row expression_row
row_109 = refl

row_110 : row level.Whole 1 (codes "((f))(1)") ≡ PastLimit limit.Nesting
unfolding row expression_row
row_110 = refl

row_111 : row level.Whole 0 (codes "f()") ≡ PastLimit limit.Nesting
unfolding row expression_row
row_111 = refl

row_112 : row level.Whole 0 (codes "f + a * b, c") ≡ Read (codes " ,[ +[ f *[ a b]] c]") 13
unfolding row expression_row
row_112 = refl

row_113 : row level.Whole 1 (codes "- -a") ≡ PastLimit limit.Nesting
unfolding row expression_row
row_113 = refl

row_114 : row level.Whole 1 (codes "a = b") ≡ Read (codes " =[ a b]") 6
unfolding row expression_row
row_114 = refl

row_115 : row level.Whole 1 (codes "a = b = c") ≡ PastLimit limit.Nesting
unfolding row expression_row
row_115 = refl

row_116 : row level.Whole 1 (codes "a ? b : c") ≡ Read (codes " ?[ a b c]") 10
unfolding row expression_row
row_116 = refl

row_117 : row level.Whole 1 (codes "a ? b : c ? d : e") ≡ PastLimit limit.Nesting
unfolding row expression_row
row_117 = refl

row_118 : row level.Whole 1 (codes "(T)a") ≡ Read (codes " cast([ a]") 5
unfolding row expression_row
row_118 = refl

row_119 : row level.Whole 1 (codes "sizeof(int)") ≡ PastLimit limit.Nesting
unfolding row expression_row
row_119 = refl

row_120 : row level.Whole 2 (codes "sizeof(int)") ≡ Read (codes " sizeof T") 12
unfolding row expression_row
row_120 = refl

row_121 : row level.Whole 1 (codes "static_cast<int>(a)") ≡ Read (codes " static_cast[ a]") 20
unfolding row expression_row
row_121 = refl

row_122 : row level.Whole 0 (codes "a[1]") ≡ PastLimit limit.Nesting
unfolding row expression_row
row_122 = refl

-- ---- places (5.2.1, 5.2.6, 5.6 to 5.18): the column of the place of the outermost tree

row_123 : column (codes "a + b") ≡ 3
unfolding column place_row
row_123 = refl

row_124 : column (codes "a = b") ≡ 3
unfolding column place_row
row_124 = refl

row_125 : column (codes "a ? b : c") ≡ 3
unfolding column place_row
row_125 = refl

row_126 : column (codes "f(1)[2]") ≡ 5
unfolding column place_row
row_126 = refl

row_127 : column (codes "a ++") ≡ 3
unfolding column place_row
row_127 = refl

row_128 : column (codes "- a") ≡ 1
unfolding column place_row
row_128 = refl

row_129 : column (codes "(f)(1)") ≡ 2
unfolding column place_row
row_129 = refl

row_130 : column (codes "  f(1)") ≡ 3
unfolding column place_row
row_130 = refl

-- that of the last part of a name
row_130_name : column (codes "N::M::a") ≡ 7
unfolding column place_row
row_130_name = refl

row_130_called : column (codes "N::f(1)") ≡ 4
unfolding column place_row
row_130_called = refl

row_130_bracket : column (codes "(N::f)(1)") ≡ 5
unfolding column place_row
row_130_bracket = refl

row_130_cast : column (codes "N::T(1)") ≡ 1
unfolding column place_row
row_130_cast = refl

row_131 : column (codes "(*p)(1)") ≡ 1
unfolding column place_row
row_131 = refl

row_132 : column (codes "(int)a") ≡ 1
unfolding column place_row
row_132 = refl

row_133 : column (codes "a, b, c") ≡ 5
unfolding column place_row
row_133 = refl

-- ---- the order in which expressions are handed over

row_134 : order (codes "a + f(b, c * d)[e]") ≡ codes " a b c d * call f e [] +"
unfolding order order_row
row_134 = refl

row_135 : order (codes "(T)(f)(1), -b") ≡ codes " 1 call (f cast( b pre- ,"
unfolding order order_row
row_135 = refl

row_135_qualified : order (codes "N::f(M::a, (::g)(b))") ≡ codes " M::a b call (::g call N::f"
unfolding order order_row
row_135_qualified = refl

row_136 : order (codes "sizeof(T) ? a : b") ≡ codes " sizeof T a b ?"
unfolding order order_row
row_136 = refl

-- ---- initializers (8.5)

row_137 : initializer (codes "= 1, b") ≡ Read (codes "copy: 1") 4
unfolding initializer initializer_row
row_137 = refl

row_138 : initializer (codes "= a = b") ≡ Read (codes "copy: =[ a b]") 8
unfolding initializer initializer_row
row_138 = refl

row_139 : initializer (codes "(a, b)") ≡ Read (codes "direct: a b") 7
unfolding initializer initializer_row
row_139 = refl

row_140 : initializer (codes "= { }") ≡ Read (codes "aggregate:") 6
unfolding initializer initializer_row
row_140 = refl

row_141 : initializer (codes "= { 1, { 2, 3, }, a = b }") ≡ Read (codes "aggregate: 1 {}[ 2 3] =[ a b]") 26
unfolding initializer initializer_row
row_141 = refl

row_142 : initializer (codes "= { { }, }") ≡ Read (codes "aggregate: {}") 11
unfolding initializer initializer_row
row_142 = refl

row_143 : initializer (codes "()") ≡ Broken 2 says.SyntaxError
unfolding initializer initializer_row
row_143 = refl

row_144 : initializer (codes "= ") ≡ Broken 3 says.SyntaxError
unfolding initializer initializer_row
row_144 = refl

row_145 : initializer (codes "= { , }") ≡ Broken 5 says.SyntaxError
unfolding initializer initializer_row
row_145 = refl

row_146 : initializer (codes "= { 1 2 }") ≡ Broken 7 says.SyntaxError
unfolding initializer initializer_row
row_146 = refl

row_147 : initializer (codes "= { 1, , }") ≡ Broken 8 says.SyntaxError
unfolding initializer initializer_row
row_147 = refl

row_148 : initializer (codes ";") ≡ Broken 1 says.SyntaxError
unfolding initializer initializer_row
row_148 = refl

row_149 : initializer (codes "(a") ≡ Broken 3 says.SyntaxError
unfolding initializer initializer_row
row_149 = refl
