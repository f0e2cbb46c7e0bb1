-- Where the reading of a declaration stops: in which of its parts, and of the statements in its body, in which state, and
-- with which tokens ahead. What stands before is read whole, and the reading of each part round that place stops with the
-- same fault.
use Rattle.std.specs.Prelude.{◌≡◌, ℕ, suc, Bool, true, false, ◌||◌, List, [], ◌∷◌, ◌++◌, Option, Some, None, Ok, Err}
use Rattle.cxx_model.specs.declared.facts.Access.{Access}
use Rattle.cxx_model.specs.declared.keyword.TheConstants as keyword
use Rattle.cxx_model.specs.declared.punct.TheConstants as punct
use Rattle.cxx_model.specs.declared.stop.Fault.{Fault}
use Rattle.cxx_model.specs.declared.token.TokenKind.{TokenKind}
use Rattle.cxx_model.specs.Stops.{Faulty}
use Rattle.cxx_model.specs.Text.Lexemes.{Lexeme}
use Rattle.cxx_model.specs.Types.Trees.{CxxType}
use Rattle.cxx_reading.specs.declared.specifier.Naming.{Naming}
use Rattle.cxx_reading.specs.declared.specifier.Naming.TheVariants as naming
use Rattle.cxx_reading.specs.declared.specifier.SpecifierPlace.{SpecifierPlace}
use Rattle.cxx_reading.specs.declared.specifier.SpecifierPlace.TheVariants as where_
use Rattle.cxx_reading.specs.Declarators.{Declarator, Specifiers, declared_type, has_type, is_function_type, own_parameters}
use Rattle.cxx_reading.specs.Declaring.{at_scope, begin_body, declare_object, define_declared, define_object, enter_block}
use Rattle.cxx_reading.specs.Initializers.{operand_of}
use Rattle.cxx_reading.specs.Reads.{Ahead, Reads, Turn, More, behind, give, got, kind_ahead, place_ahead, repeat}
use Rattle.cxx_reading.specs.Spaces.{open_space, open_unnamed}
use Rattle.cxx_reading.specs.Specifiers.{specifiers_at, specifiers_from}
use Rattle.cxx_reading.specs.State.{CxxState}
use Rattle.cxx_reading.specs.Syntax.{declarator_at}
use Rattle.cxx_reading.specs.Tokens.{behind_name, is_keyword, is_name, is_punct, is_whole_name, path_ahead, token_in}
use Rattle.cxx_reading.specs.Trees.{CxxTree, in_turn}
use Rattle.cxx_reading.specs.Units.{Said, Listed, give_trees, inside_step, linkages_passed, name_in, no_declarators, said_by}
use Rattle.cxx_language.specs.Blocks.{condition_part, declared_condition_at, local_declaration_at, local_step}
use Rattle.cxx_language.specs.Bodies.{result_of}
use Rattle.cxx_language.specs.Classes.{BaseList, Head as ClassHead, Labelled, Members, base_list, bases_in, bases_or_none, begins_friend, begins_keyed, begins_virtual, behind_bases, behind_inline, behind_virtual, class_at, class_begins, class_name, class_whole, declaration_specifiers, friend_class, friend_specifiers, friends_behind, friends_step, give_members, head_at, labelled, list_step, member_declaration_at, member_specifiers, member_step, specifiers_of_friend, type_of_member, words_of_member}
use Rattle.cxx_language.specs.Later.{defaults_read, each_read, later_read, waiting_read}
use Rattle.cxx_later.specs.Defaults.{LaterDefault, defaults_in, defaults_kept}
use Rattle.cxx_later.specs.Passing.{forward_to}
use Rattle.cxx_later.specs.Waiting.{Waiting, name_declared, waiting_in}
use Rattle.cxx_language.specs.Objects.{begins_initializer, initialized_part}
use Rattle.cxx_heads.specs.Heads.{is_declared_condition}
use Rattle.cxx_phrases.specs.Levels.{assignment_at}
use Rattle.cxx_statements.specs.declared.parts.Head.{Head}
use Rattle.cxx_statements.specs.declared.parts.Head.TheVariants as head
use Rattle.cxx_statements.specs.declared.parts.Purpose.{Purpose}
use Rattle.cxx_statements.specs.declared.parts.Purpose.TheVariants as purpose
use Rattle.cxx_statements.specs.Statements.{Around, CxxTarget, begins_no_object, begins_statement, begun, body_at, first_part, in_a_loop, in_a_switch, label_step, labels_in, never_ended, nothing_around, plain_statement, second_part, statement_in, statement_step, sub_in, to_bool, to_promoted, unlabelled_in, within}
use Rattle.cxx_language.specs.Asked.{answers, asked, inner_at, phrases_at}
use Rattle.cxx_language.specs.Statements.{expression_for, parts_at, statement_head}
use Rattle.cxx_language.specs.Spaces.{alias_at, member_using_at, namespace_at, using_at}
use Rattle.cxx_language.specs.Units.{declaration_at, declarator_step, function_declared, linkage_opened, simple_declaration_at}
use Rattle.cxx_language.specs.Values.{constant_part, has_value}
use Rattle.cxx_answers.specs.Defaults.{begin_later}
use Rattle.cxx_declare.specs.ClassDefinitions.{declare_member}
use Rattle.cxx_declare.specs.Outside.{stand_in}

-- a reader reads a value from a state with these tokens ahead, to another
abbrev pub Gives : {S A : Type 0} → Reads S A → S → Ahead → A → S → Ahead → Type 0
Gives read state ahead value after rest = read state ahead ≡ got value after rest

-- 7.1: the specifiers of a declaration, or of one in a block or a condition
abbrev pub specifiers_of : ℕ → SpecifierPlace → Reads CxxState Specifiers
specifiers_of room place = specifiers_at (asked room).kinds (inner_at room).types place

-- 7.1: those behind a class that is defined among the specifiers of a declaration of a namespace
abbrev pub further_specifiers_of : ℕ → SpecifierPlace → Specifiers → Reads CxxState Specifiers
further_specifiers_of room place so_far = specifiers_from (asked room).kinds (inner_at room).types place so_far

-- 8.3: a declarator with a name, which may have qualifiers or not
abbrev pub declarator_of : ℕ → Naming → Reads CxxState Declarator
declarator_of room naming = declarator_at (asked room).kinds (inner_at room).types naming

-- 8.5: the initializer of an object that has this name, this type and this declaration
abbrev pub initializer_of : ℕ → Lexeme → CxxType → ℕ → Reads CxxState (List CxxTree)
initializer_of room name of number = initialized_part answers (phrases_at room) (inner_at room).phrases name of number

-- 8.3.6: a default argument, behind its `=`
abbrev pub default_of : ℕ → Reads CxxState CxxTree
default_of room = assignment_at (phrases_at room) (inner_at room).phrases

-- 6.4: the initializer of an object that a condition declares
abbrev pub condition_initializer_of : ℕ → Lexeme → CxxType → ℕ → Reads CxxState (List CxxTree)
condition_initializer_of room name of number = condition_part answers (phrases_at room) (inner_at room).phrases name of number

-- 8.4: the statements of a body
abbrev pub body_of : ℕ → Reads CxxState (List CxxTree)
body_of room = body_at parts_at room

-- 6.8: whether a declaration or an expression begins
abbrev pub beginning_of : ℕ → Reads CxxState Head
beginning_of room = statement_head room

-- 6.4: whether a condition declares an object
abbrev pub is_declaration_of : ℕ → Reads CxxState Bool
is_declaration_of room = is_declared_condition (asked room).kinds (inner_at room).types

-- clause 6: statements up to the end of a block, one more
abbrev pub statement_step_of : ℕ → List CxxTree × Around → Reads CxxState (Turn (List CxxTree × Around) (List CxxTree × Around))
statement_step_of room so_far = statement_step (parts_at room) (within parts_at room) so_far

abbrev pub statement_of : ℕ → Around → Reads CxxState (CxxTree × Around)
statement_of room around = statement_in (parts_at room) (within parts_at room) around

-- a statement behind its labels
abbrev pub unlabelled_of : ℕ → Around → Reads CxxState (CxxTree × Around)
unlabelled_of room around = unlabelled_in (parts_at room) (within parts_at room) around

-- 6.4, 6.5: a statement in another one
abbrev pub inner_statement_of : ℕ → Around → Reads CxxState (CxxTree × Around)
inner_statement_of room around = sub_in (parts_at room) (within parts_at room) around

-- What is read, with room for so many brackets, and of a list what was read of it so far.
pub data Part : Type 0 where
  -- clause 7
  a_declaration : ℕ → Part
  -- 7.3.1, 7.5: declarations between the braces of a namespace or a linkage
  some_declarations : ℕ → List CxxTree → Part
  -- 7.3.1, 7.3.2: from the word `namespace` on
  a_namespace : ℕ → Part
  -- 7.3.2: another name of a namespace, from its `=` on
  an_alias : Ahead → Lexeme → Part
  -- 7.3.3, 7.3.4: from the word `using` on
  a_using : Part
  -- clause 7: a declaration that is no linkage, and whether it counts as if it had the word `extern`
  a_simple_declaration : ℕ → Bool → Part
  -- clause 8: the declarators behind specifiers
  some_declarators : ℕ → Said → Listed → Part
  -- 7.1: specifiers, with the values of the enumerators in them, up to a class that is defined among them
  some_specifiers : ℕ → SpecifierPlace → Part
  -- clause 9: the definition of a class, from its key on, behind other specifiers
  a_class : ℕ → Specifiers → Part
  -- 9, 3.4.3: its name behind the key, if it has one, which may have qualifiers
  a_class_name : Part
  -- clause 10: the bases of a class, behind the `:`
  some_bases : BaseList → Part
  -- 9.2: the members of the class with a name, up to the end of their list
  some_members : ℕ → Option Lexeme → Members → Part
  -- 7.3.3: in their list, a using-declaration with an access (11), from the word `using` on
  a_member_using : Access → Part
  -- 11.4: in their list, friends, from behind the word `friend` on, and whether `inline` stands before that
  some_friends : ℕ → Bool → Ahead → Part
  -- a class that is a friend, behind its key, and whether that is the one of a union
  a_friend_class : Bool → Part
  -- functions that are friends
  some_friend_declarators : ℕ → Said → Listed → Part
  -- 9.2: a declaration of members with an access (11)
  a_member_declaration : ℕ → Access → Part
  some_member_declarators : ℕ → Labelled → Said → Listed → Part
  -- 9.4.2: the value of a static constant in its class, from its `=` on
  a_member_value : ℕ → Lexeme → CxxType → ℕ → Part
  -- 8.3.6, 9.2: the default arguments of the functions in a class, where it has ended
  some_defaults : List LaterDefault → Part
  -- 8.3.6: one of them, behind its `=`
  a_default : ℕ → Part
  -- 9.2: the bodies of the functions in a class, where it has ended
  some_bodies : List Waiting → List CxxTree → Part
  -- 7.1: the specifiers behind a class that is defined among them, or behind `friend`
  some_further_specifiers : ℕ → SpecifierPlace → Specifiers → Part
  -- 8.3: a declarator, with bounds and parameters
  a_declarator : ℕ → Naming → Part
  -- 8.5: an initializer, from `=` or `(` on
  an_initializer : ℕ → Lexeme → CxxType → ℕ → Part
  -- 8.4: the statements of the body of a function, behind its `{`, with its end
  a_body : ℕ → Part
  -- 6.3: the statements up to the end of a block
  some_statements : ℕ → List CxxTree × Around → Part
  -- clause 6: a statement
  a_statement : ℕ → Around → Part
  -- 6.1: the labels before a statement
  some_labels : ℕ → List CxxTree × Around → Part
  -- a statement behind its labels
  an_unlabelled_statement : ℕ → Around → Part
  -- 6.4, 6.5: a statement in another one
  an_inner_statement : ℕ → Around → Part
  -- 6.2, 6.7: a statement that is an expression or a declaration
  a_plain_statement : ℕ → Part
  -- clause 5: an expression of a statement; a condition may be a declaration
  an_expression : ℕ → Purpose → Part
  -- 6.7: a declaration in a block
  a_local_declaration : ℕ → Part
  some_local_declarators : ℕ → Said → Listed → Part
  -- 6.4: a declaration in a condition
  a_declared_condition : ℕ → Part
  a_condition_initializer : ℕ → Lexeme → CxxType → ℕ → Part

-- it has no part in turn: expressions stand in it, or names of namespaces, classes, bases, friends or members that are brought
abbrev pub IsInnermost : Part → Type 0
IsInnermost (an_alias from name) = Unit {0}
IsInnermost a_using = Unit {0}
IsInnermost (some_specifiers room place) = Unit {0}
IsInnermost a_class_name = Unit {0}
IsInnermost (some_bases of) = Unit {0}
IsInnermost (a_member_using access) = Unit {0}
IsInnermost (a_friend_class is_union) = Unit {0}
IsInnermost (some_further_specifiers room place so_far) = Unit {0}
IsInnermost (a_declarator room naming) = Unit {0}
IsInnermost (a_member_value room name of number) = Unit {0}
IsInnermost (a_default room) = Unit {0}
IsInnermost (an_initializer room name of number) = Unit {0}
IsInnermost (an_expression room purpose.Whole) = Unit {0}
IsInnermost (an_expression room purpose.Constant) = Unit {0}
IsInnermost (an_expression room purpose.Step) = Unit {0}
IsInnermost (a_condition_initializer room name of number) = Unit {0}
IsInnermost _ = ⊥

-- for some number of turns
abbrev pub IsStoppedIn : {A B : Type 0} → (A → Reads CxxState (Turn A B)) → (A → Reads CxxState B) → A → CxxState → Ahead → Fault → Type 0
IsStoppedIn step over so_far state ahead fault = (turns : ℕ) × (repeat step over turns so_far state ahead ≡ Err (Faulty fault))

-- The reading of a part, from a state with these tokens ahead, stops with a fault.
abbrev pub IsStopped : Part → CxxState → Ahead → Fault → Type 0
IsStopped (a_declaration room) state ahead fault = declaration_at room state ahead ≡ Err (Faulty fault)
IsStopped (some_declarations room so_far) state ahead fault = IsStoppedIn (inside_step (declaration_at room)) give so_far state ahead fault
IsStopped (a_namespace room) state ahead fault = namespace_at (linkage_opened room) state ahead ≡ Err (Faulty fault)
IsStopped (an_alias from name) state ahead fault = alias_at from name state ahead ≡ Err (Faulty fault)
IsStopped a_using state ahead fault = using_at state ahead ≡ Err (Faulty fault)
IsStopped (a_simple_declaration room as_extern) state ahead fault = simple_declaration_at room as_extern state ahead ≡ Err (Faulty fault)
IsStopped (some_declarators room said so_far) state ahead fault = IsStoppedIn (declarator_step room said) give_trees so_far state ahead fault
IsStopped (some_specifiers room place) state ahead fault = specifiers_of room place state ahead ≡ Err (Faulty fault)
IsStopped (a_class room so_far) state ahead fault = class_at room so_far state ahead ≡ Err (Faulty fault)
IsStopped a_class_name state ahead fault = class_name state ahead ≡ Err (Faulty fault)
IsStopped (some_bases of) state ahead fault = base_list of state ahead ≡ Err (Faulty fault)
IsStopped (some_members room name so_far) state ahead fault = IsStoppedIn (list_step room name) give_members so_far state ahead fault
IsStopped (a_member_using access) state ahead fault = member_using_at access state ahead ≡ Err (Faulty fault)
IsStopped (some_friends room is_inline from) state ahead fault = friends_behind room is_inline from state ahead ≡ Err (Faulty fault)
IsStopped (a_friend_class is_union) state ahead fault = friend_class is_union (path_ahead ahead) state (behind_name ahead) ≡ Err (Faulty fault)
IsStopped (some_friend_declarators room said so_far) state ahead fault = IsStoppedIn (friends_step room said) give_trees so_far state ahead fault
IsStopped (a_member_declaration room access) state ahead fault = member_declaration_at room access state ahead ≡ Err (Faulty fault)
IsStopped (some_member_declarators room access said so_far) state ahead fault = IsStoppedIn (member_step room access said) give_trees so_far state ahead fault
IsStopped (some_defaults defaults) state ahead fault = defaults_read defaults state ahead ≡ Err (Faulty fault)
IsStopped (a_default room) state ahead fault = default_of room state ahead ≡ Err (Faulty fault)
IsStopped (some_bodies waiting so_far) state ahead fault = each_read waiting so_far state ahead ≡ Err (Faulty fault)
IsStopped (some_further_specifiers room place so_far) state ahead fault = further_specifiers_of room place so_far state ahead ≡ Err (Faulty fault)
IsStopped (a_declarator room naming) state ahead fault = declarator_of room naming state ahead ≡ Err (Faulty fault)
IsStopped (a_member_value room name of number) state ahead fault = constant_part room name of number state ahead ≡ Err (Faulty fault)
IsStopped (an_initializer room name of number) state ahead fault = initializer_of room name of number state ahead ≡ Err (Faulty fault)
IsStopped (a_body room) state ahead fault = body_of room state ahead ≡ Err (Faulty fault)
IsStopped (some_statements room so_far) state ahead fault = IsStoppedIn (statement_step_of room) never_ended so_far state ahead fault
IsStopped (a_statement room around) state ahead fault = statement_of room around state ahead ≡ Err (Faulty fault)
IsStopped (some_labels room so_far) state ahead fault = IsStoppedIn (label_step (parts_at room)) give so_far state ahead fault
IsStopped (an_unlabelled_statement room around) state ahead fault = unlabelled_of room around state ahead ≡ Err (Faulty fault)
IsStopped (an_inner_statement room around) state ahead fault = inner_statement_of room around state ahead ≡ Err (Faulty fault)
IsStopped (a_plain_statement room) state ahead fault = plain_statement (parts_at room) state ahead ≡ Err (Faulty fault)
IsStopped (an_expression room purpose) state ahead fault = expression_for room purpose state ahead ≡ Err (Faulty fault)
IsStopped (a_local_declaration room) state ahead fault = local_declaration_at room state ahead ≡ Err (Faulty fault)
IsStopped (some_local_declarators room said so_far) state ahead fault = IsStoppedIn (local_step room said) give_trees so_far state ahead fault
IsStopped (a_declared_condition room) state ahead fault = declared_condition_at room state ahead ≡ Err (Faulty fault)
IsStopped (a_condition_initializer room name of number) state ahead fault = condition_initializer_of room name of number state ahead ≡ Err (Faulty fault)

-- 7.3: neither a namespace nor a directive or a using-declaration is ahead
pub record IsNoSpace (ahead : Ahead) : Type 0 where
  pub no_namespace : is_keyword keyword.NAMESPACE (kind_ahead ahead) ≡ false
  pub no_using : is_keyword keyword.USING (kind_ahead ahead) ≡ false

-- 7.3.3, 7.3.4: a using-declaration or a directive is ahead
pub record IsUsing (ahead : Ahead) : Type 0 where
  pub no_namespace : is_keyword keyword.NAMESPACE (kind_ahead ahead) ≡ false
  pub is_using : is_keyword keyword.USING (kind_ahead ahead) ≡ true

-- 7.5: specifications of linkage are passed, and no brace is behind them
pub record IsLinked (state : CxxState) (ahead : Ahead) (after : CxxState) (rest : Ahead) : Type 0 where
  pub before : IsNoSpace ahead
  pub passed : Gives linkages_passed state ahead true after rest
  pub no_brace : is_punct punct.LEFT_BRACE (kind_ahead rest) ≡ false

-- 7.3.1: Behind the word `namespace` a namespace begins, by its name or without one. The reader stands in its scope then,
-- that of an earlier opening where there is one, with the declarations behind its brace ahead.
pub data OpensSpace (state : CxxState) (ahead : Ahead) : CxxState → Ahead → Type 0 where
  opens_named : (opened : Unit {0} × CxxState) → is_punct punct.LEFT_BRACE (kind_ahead (behind ahead)) ≡ false → is_name (kind_ahead (behind ahead)) ≡ true → is_punct punct.LEFT_BRACE (kind_ahead (behind (behind ahead))) ≡ true
      → open_space (token_in (behind ahead).tokens) state ≡ Ok opened → OpensSpace state ahead opened.1 (behind (behind (behind ahead)))
  opens_unnamed : (opened : Unit {0} × CxxState) → is_punct punct.LEFT_BRACE (kind_ahead (behind ahead)) ≡ true → open_unnamed (place_ahead ahead) state ≡ Ok opened → OpensSpace state ahead opened.1 (behind (behind ahead))

-- 7.3.2: behind the word `namespace` and a name stands `=`
pub record IsAlias (ahead : Ahead) : Type 0 where
  pub named : is_name (kind_ahead (behind ahead)) ≡ true
  pub equals : is_punct punct.EQUALS (kind_ahead (behind (behind ahead))) ≡ true

-- the other name that an alias gives
abbrev pub alias_name : Ahead → Lexeme
alias_name ahead = token_in (behind ahead).tokens

-- 9, 3.3.6, 10: The head of a class stands ahead, its key and its name, if it has one, behind which the reader stands in what declares
-- the class, the class begins there, and its bases are read where it has some. The reader stands in its scope then, with its
-- members ahead, behind the brace.
pub data BeginsClass (state : CxxState) (ahead : Ahead) (head : ClassHead) (bases : List CxxTree) : CxxState → Ahead → Type 0 where
  begins_class : (colon brace : Ahead) (home : CxxState) (begun : ℕ × CxxState) (entered : CxxState) → Gives head_at state ahead head home colon → class_begins head home ≡ Ok begun → Gives (bases_or_none home.here.scope begun.0 head.access) begun.1 colon bases entered brace
      → BeginsClass state ahead head bases entered (behind brace)

-- 10: The head of a class stands ahead, the class begins, and a `:` is behind its head. The names of its bases are looked up
-- in what declares it, and the reader stands there, with them ahead.
pub data NamesBases (state : CxxState) (ahead : Ahead) : BaseList → CxxState → Ahead → Type 0 where
  names_bases : (head : ClassHead) (colon : Ahead) (home : CxxState) (begun : ℕ × CxxState) → Gives head_at state ahead head home colon → class_begins head home ≡ Ok begun → is_punct punct.COLON (kind_ahead colon) ≡ true
      → NamesBases state ahead (bases_in begun.0 head.access begun.1.here.scope) (at_scope home.here.scope begun.1) (behind colon)

-- 7.1.2: whether the word `inline` stands ahead
abbrev pub has_inline : Ahead → Bool
has_inline ahead = is_keyword keyword.INLINE (kind_ahead ahead)

-- 11.4: what stands behind the word `friend`, before which `inline` may stand
abbrev pub behind_friend : Ahead → Ahead
behind_friend ahead = behind (behind_inline ahead)

-- 11.4 p2: the key of a class, a whole name and `;` stand ahead
pub record NamesFriend (ahead : Ahead) : Type 0 where
  pub keyed : begins_keyed ahead ≡ true
  pub whole : is_whole_name (behind ahead) ≡ true
  pub ends : is_punct punct.SEMICOLON (kind_ahead (behind_name (behind ahead))) ≡ true

-- 3.1, 3.2, 3.3.1: The name of a declarator is declared, with a number, before its initializer, which is ahead.
pub data Initializes (said : Said) (declarator : Declarator) (before : CxxState) : ℕ → CxxState → Type 0 where
  by_definition : (answer : ℕ × CxxState) → said.is_extern ≡ false → define_object (name_in declarator) (declared_type declarator.layers said.of) before ≡ Ok answer → Initializes said declarator before answer.0 answer.1
  by_extern : (answer : ℕ × CxxState) (defined : Unit {0} × CxxState) → said.is_extern ≡ true → declare_object (name_in declarator) (declared_type declarator.layers said.of) before ≡ Ok answer
      → define_declared (name_in declarator) answer.0 answer.1 ≡ Ok defined → Initializes said declarator before answer.0 defined.1

-- 3.2, 3.3.2, 8.4: The function of a declarator is declared, with a number, and defined, and its body begins in the scope of
-- its own list of parameters.
pub data BeginsBody (said : Said) (declarator : Declarator) (before : CxxState) : CxxState → Type 0 where
  begins_body : (list : ℕ) (answer : ℕ × CxxState) (defined begun : Unit {0} × CxxState) → own_parameters declarator.layers ≡ Some list
      → function_declared said declarator before ≡ Ok answer → define_declared (name_in declarator) answer.0 answer.1 ≡ Ok defined
      → begin_body list answer.0 (result_of (declared_type declarator.layers said.of)) defined.1 ≡ Ok begun → BeginsBody said declarator before begun.1

-- 6.4, 6.5: a keyword behind which a condition stands in brackets
abbrev pub is_conditional : TokenKind → Bool
is_conditional kind = is_keyword keyword.IF kind || (is_keyword keyword.SWITCH kind || is_keyword keyword.WHILE kind)

-- 6.2, 6.3, 6.4, 6.5, 6.6: what begins a statement that is neither an expression nor a declaration, behind its labels
abbrev pub begins_other : TokenKind → Bool
begins_other kind =
    is_punct punct.LEFT_BRACE kind || (is_punct punct.SEMICOLON kind || (is_keyword keyword.IF kind || (is_keyword keyword.SWITCH kind || (is_keyword keyword.WHILE kind || (is_keyword keyword.DO kind || (is_keyword keyword.FOR kind || (is_keyword keyword.BREAK kind || (is_keyword keyword.CONTINUE kind || is_keyword keyword.RETURN kind))))))))

-- what stands behind the keyword ahead and a `(`
abbrev pub in_bracket : Ahead → Ahead
in_bracket ahead = behind (behind ahead)

abbrev pub IsOpened : Ahead → Type 0
IsOpened ahead = is_punct punct.LEFT_PARENTHESIS (kind_ahead (behind ahead)) ≡ true

-- 3.3.2: a block is entered
abbrev pub Enters : CxxState → Unit {0} × CxxState → Type 0
Enters state entered = enter_block None state ≡ Ok entered

-- 6.4, 6.5: behind the keyword ahead stands a whole condition in brackets, in a scope that is entered for it
pub record HasCondition (room : ℕ) (target : CxxTarget) (state : CxxState) (ahead : Ahead) (condition : CxxTree) (after : CxxState) (rest : Ahead) : Type 0 where
  pub opens : IsOpened ahead
  pub gives : Gives ((within parts_at room).condition target) state (in_bracket ahead) condition after rest

-- 6.5.3: a `for` stands ahead, and a scope is entered for it
pub record BeginsFor (state : CxxState) (ahead : Ahead) (entered : Unit {0} × CxxState) : Type 0 where
  pub word : is_keyword keyword.FOR (kind_ahead ahead) ≡ true
  pub opens : IsOpened ahead
  pub enters : Enters state entered

-- From one part of a declaration, in a state with these tokens ahead, the reading comes to another, in a state with those
-- tokens ahead.
pub data Leads : Part → CxxState → Ahead → Part → CxxState → Ahead → Type 0 where
  -- 7.3: a namespace, another name of one, or a directive
  to_namespace : {room : ℕ} {state : CxxState} {ahead : Ahead} → is_keyword keyword.NAMESPACE (kind_ahead ahead) ≡ true → Leads (a_declaration room) state ahead (a_namespace room) state ahead
  to_using : {room : ℕ} {state : CxxState} {ahead : Ahead} → IsUsing ahead → Leads (a_declaration room) state ahead a_using state ahead
  in_space : {room : ℕ} {state after : CxxState} {ahead rest : Ahead} → OpensSpace state ahead after rest → Leads (a_namespace (suc room)) state ahead (some_declarations room []) after rest
  in_alias : {room : ℕ} {state : CxxState} {ahead : Ahead} → IsAlias ahead → Leads (a_namespace room) state ahead (an_alias ahead (alias_name ahead)) state (behind (behind ahead))
  -- 7.5: specifications of linkage are passed, if there are any
  to_unlinked : {room : ℕ} {state after : CxxState} {ahead rest : Ahead} → IsNoSpace ahead → Gives linkages_passed state ahead false after rest
      → Leads (a_declaration room) state ahead (a_simple_declaration room false) after rest
  to_linked : {room : ℕ} {state after : CxxState} {ahead rest : Ahead} → IsLinked state ahead after rest → IsNoSpace rest
      → Leads (a_declaration room) state ahead (a_simple_declaration room true) after rest
  to_linked_namespace : {room : ℕ} {state after : CxxState} {ahead rest : Ahead} → IsLinked state ahead after rest → is_keyword keyword.NAMESPACE (kind_ahead rest) ≡ true
      → Leads (a_declaration room) state ahead (a_namespace room) after rest
  to_linked_using : {room : ℕ} {state after : CxxState} {ahead rest : Ahead} → IsLinked state ahead after rest → IsUsing rest → Leads (a_declaration room) state ahead a_using after rest
  to_braces : {room : ℕ} {state after : CxxState} {ahead rest : Ahead} → IsNoSpace ahead → Gives linkages_passed state ahead true after rest → is_punct punct.LEFT_BRACE (kind_ahead rest) ≡ true
      → Leads (a_declaration (suc room)) state ahead (some_declarations room []) after (behind rest)
  next_declaration : {room : ℕ} {so_far more : List CxxTree} {state after : CxxState} {ahead rest : Ahead} → Gives (inside_step (declaration_at room) so_far) state ahead (More more) after rest
      → Leads (some_declarations room so_far) state ahead (some_declarations room more) after rest
  in_declaration : {room : ℕ} {so_far : List CxxTree} {state : CxxState} {ahead : Ahead} → Leads (some_declarations room so_far) state ahead (a_declaration room) state ahead
  -- clause 7: specifiers, then declarators
  in_specifiers : {room : ℕ} {as_extern : Bool} {state : CxxState} {ahead : Ahead} → Leads (a_simple_declaration room as_extern) state ahead (some_specifiers room where_.Declaration) state ahead
  to_declarators : {room : ℕ} {as_extern : Bool} {specifiers : Specifiers} {state after : CxxState} {ahead rest : Ahead} → Gives (declaration_specifiers room) state ahead specifiers after rest
      → Leads (a_simple_declaration room as_extern) state ahead (some_declarators room (said_by as_extern specifiers) no_declarators) after rest
  next_declarator : {room : ℕ} {said : Said} {so_far more : Listed} {state after : CxxState} {ahead rest : Ahead} → Gives (declarator_step room said so_far) state ahead (More more) after rest
      → Leads (some_declarators room said so_far) state ahead (some_declarators room said more) after rest
  in_declarator : {room : ℕ} {said : Said} {so_far : Listed} {state : CxxState} {ahead : Ahead} → Leads (some_declarators room said so_far) state ahead (a_declarator room naming.Qualified) state ahead
  -- clause 9: a class that is defined where specifiers without a type end, and further specifiers behind it
  to_class : {room : ℕ} {as_extern : Bool} {specifiers : Specifiers} {state after : CxxState} {ahead rest : Ahead} → Gives (specifiers_of room where_.Declaration) state ahead specifiers after rest → has_type specifiers ≡ false
      → Leads (a_simple_declaration room as_extern) state ahead (a_class room specifiers) after rest
  behind_class : {room : ℕ} {as_extern : Bool} {specifiers more : Specifiers} {state between after : CxxState} {ahead middle rest : Ahead} → Gives (specifiers_of room where_.Declaration) state ahead specifiers between middle → has_type specifiers ≡ false
      → Gives (class_whole room specifiers) between middle more after rest → Leads (a_simple_declaration room as_extern) state ahead (some_further_specifiers room where_.Declaration more) after rest
  -- 8.3.6, 9.2: behind it the default arguments of the functions in it are read, from where it began, one after another
  to_defaults : {room : ℕ} {as_extern : Bool} {specifiers one : Specifiers} {state between after : CxxState} {ahead middle rest : Ahead} → Gives (specifiers_of room where_.Declaration) state ahead specifiers between middle → has_type specifiers ≡ false
      → Gives (class_at room specifiers) between middle one after rest → Leads (a_simple_declaration room as_extern) state ahead (some_defaults (defaults_in (in_turn one.parts))) after middle
  next_default : {one : LaterDefault} {others : List LaterDefault} {state after : CxxState} {ahead rest : Ahead} → Gives (later_read one) state ahead tt after rest → Leads (some_defaults (one ∷ others)) state ahead (some_defaults others) after rest
  -- where it stands, in the scope of the list of its function
  to_later_default : {one : LaterDefault} {others : List LaterDefault} {state between : CxxState} {entered begun : Unit {0} × CxxState} {ahead rest : Ahead} → Gives (forward_to one.first) state ahead tt between rest → stand_in one.list between ≡ Ok entered → begin_later entered.1 ≡ Ok begun
      → Leads (some_defaults (one ∷ others)) state ahead (a_default one.room) begun.1 rest
  -- 9.2: behind them the bodies of the functions in it are read, from where it began, one after another
  to_bodies : {room : ℕ} {as_extern : Bool} {specifiers one : Specifiers} {state between whole after : CxxState} {ahead middle end rest : Ahead} → Gives (specifiers_of room where_.Declaration) state ahead specifiers between middle → has_type specifiers ≡ false
      → Gives (class_at room specifiers) between middle one whole end → Gives (defaults_read (defaults_in (in_turn one.parts))) whole middle tt after rest → Leads (a_simple_declaration room as_extern) state ahead (some_bodies (waiting_in room (in_turn one.parts)) []) after middle
  next_body : {one : Waiting} {others : List Waiting} {so_far : List CxxTree} {tree : CxxTree} {state after : CxxState} {ahead rest : Ahead} → Gives (waiting_read one) state ahead tree after rest
      → Leads (some_bodies (one ∷ others) so_far) state ahead (some_bodies others (so_far ++ tree ∷ [])) after rest
  to_later_body : {room : ℕ} {one : Waiting} {others : List Waiting} {so_far : List CxxTree} {state between : CxxState} {defined begun : Unit {0} × CxxState} {ahead rest : Ahead} → one.room ≡ suc room → Gives (forward_to one.first) state ahead tt between rest
      → define_declared (name_declared one.declarator) one.number between ≡ Ok defined → begin_body one.list one.number (result_of one.of) defined.1 ≡ Ok begun → Leads (some_bodies (one ∷ others) so_far) state ahead (a_body room) begun.1 (behind rest)
  -- 9, 3.4.3: its name, or none
  in_class_name : {room : ℕ} {so_far : Specifiers} {state : CxxState} {ahead : Ahead} → Leads (a_class room so_far) state ahead a_class_name state (behind ahead)
  -- 10: its bases
  in_bases : {room : ℕ} {so_far : Specifiers} {of : BaseList} {state after : CxxState} {ahead rest : Ahead} → NamesBases state ahead of after rest → Leads (a_class room so_far) state ahead (some_bases of) after rest
  -- 9.2: its members, one declaration after another, each of specifiers and declarators
  in_class : {room : ℕ} {so_far : Specifiers} {head : ClassHead} {bases : List CxxTree} {state after : CxxState} {ahead rest : Ahead} → BeginsClass state ahead head bases after rest
      → Leads (a_class (suc room) so_far) state ahead (some_members room head.name (behind_bases bases head.access)) after rest
  next_member : {room : ℕ} {name : Option Lexeme} {so_far more : Members} {state after : CxxState} {ahead rest : Ahead} → Gives (list_step room name so_far) state ahead (More more) after rest → Leads (some_members room name so_far) state ahead (some_members room name more) after rest
  -- 7.3.3: a using-declaration
  in_member_using : {room : ℕ} {name : Option Lexeme} {so_far : Members} {state : CxxState} {ahead : Ahead} → is_keyword keyword.USING (kind_ahead ahead) ≡ true → Leads (some_members room name so_far) state ahead (a_member_using so_far.access) state ahead
  -- 11.4: friends: a class, or functions, each of which is a declarator behind specifiers
  in_friends : {room : ℕ} {name : Option Lexeme} {so_far : Members} {state : CxxState} {ahead : Ahead} → begins_friend ahead ≡ true → Leads (some_members room name so_far) state ahead (some_friends room (has_inline ahead) ahead) state (behind_friend ahead)
  in_friend_class : {room : ℕ} {from : Ahead} {state : CxxState} {ahead : Ahead} → NamesFriend ahead → Leads (some_friends room false from) state ahead (a_friend_class (is_keyword keyword.UNION (kind_ahead ahead))) state (behind ahead)
  in_friend_specifiers : {room : ℕ} {is_inline : Bool} {from : Ahead} {state : CxxState} {ahead : Ahead} → Leads (some_friends room is_inline from) state ahead (some_further_specifiers room where_.Declaration (friend_specifiers is_inline)) state ahead
  to_friend_declarators : {room : ℕ} {is_inline : Bool} {from : Ahead} {specifiers : Specifiers} {state after : CxxState} {ahead rest : Ahead} → Gives (specifiers_of_friend room is_inline) state ahead specifiers after rest
      → Leads (some_friends room is_inline from) state ahead (some_friend_declarators room (said_by false specifiers) no_declarators) after rest
  next_friend_declarator : {room : ℕ} {said : Said} {so_far more : Listed} {state after : CxxState} {ahead rest : Ahead} → Gives (friends_step room said so_far) state ahead (More more) after rest
      → Leads (some_friend_declarators room said so_far) state ahead (some_friend_declarators room said more) after rest
  in_friend_declarator : {room : ℕ} {said : Said} {so_far : Listed} {state : CxxState} {ahead : Ahead} → Leads (some_friend_declarators room said so_far) state ahead (a_declarator room naming.Qualified) state ahead
  in_member : {room : ℕ} {name : Option Lexeme} {so_far : Members} {state : CxxState} {ahead : Ahead} → Leads (some_members room name so_far) state ahead (a_member_declaration room so_far.access) state ahead
  in_member_specifiers : {room : ℕ} {access : Access} {state : CxxState} {ahead : Ahead} → Leads (a_member_declaration room access) state ahead (some_specifiers room where_.Member) state (behind_virtual ahead)
  -- clause 9: a class that is defined there, and further specifiers behind it
  to_member_class : {room : ℕ} {access : Access} {specifiers : Specifiers} {state after : CxxState} {ahead rest : Ahead} → Gives (specifiers_of room where_.Member) state (behind_virtual ahead) specifiers after rest → has_type specifiers ≡ false
      → Leads (a_member_declaration room access) state ahead (a_class room specifiers) after rest
  behind_member_class : {room : ℕ} {access : Access} {specifiers more : Specifiers} {state between after : CxxState} {ahead middle rest : Ahead} → Gives (specifiers_of room where_.Member) state (behind_virtual ahead) specifiers between middle → has_type specifiers ≡ false
      → Gives (class_at room specifiers) between middle more after rest → Leads (a_member_declaration room access) state ahead (some_further_specifiers room where_.Member more) after rest
  to_member_declarators : {room : ℕ} {access : Access} {specifiers : Specifiers} {state after : CxxState} {ahead rest : Ahead} → Gives (member_specifiers room) state (behind_virtual ahead) specifiers after rest
      → Leads (a_member_declaration room access) state ahead (some_member_declarators room (labelled access (begins_virtual ahead)) (said_by false specifiers) no_declarators) after rest
  next_member_declarator : {room : ℕ} {label : Labelled} {said : Said} {so_far more : Listed} {state after : CxxState} {ahead rest : Ahead} → Gives (member_step room label said so_far) state ahead (More more) after rest
      → Leads (some_member_declarators room label said so_far) state ahead (some_member_declarators room label said more) after rest
  in_member_declarator : {room : ℕ} {label : Labelled} {said : Said} {so_far : Listed} {state : CxxState} {ahead : Ahead} → Leads (some_member_declarators room label said so_far) state ahead (a_declarator room naming.Required) state ahead
  -- 9.4.2: the member of a whole declarator is declared, and its value is ahead
  to_member_value : {room : ℕ} {label : Labelled} {said : Said} {so_far : Listed} {declarator : Declarator} {defaults : List CxxTree} {state between after : CxxState} {answer : ℕ × CxxState} {ahead rest : Ahead} → Gives (declarator_of room naming.Required) state ahead declarator between rest
      → said.is_typedef ≡ false → declare_member (words_of_member label said (type_of_member said declarator) false) (own_parameters declarator.layers) (name_in declarator) (type_of_member said declarator) between ≡ Ok answer
      → Gives (defaults_kept (own_parameters declarator.layers) (Some answer.0)) answer.1 rest defaults after rest → has_value said.is_static (type_of_member said declarator) (kind_ahead rest) ≡ true
      → Leads (some_member_declarators room label said so_far) state ahead (a_member_value room (name_in declarator) (type_of_member said declarator) answer.0) after rest
  -- 8.5: the object of a whole declarator is declared, and its initializer is ahead
  to_initializer : {room number : ℕ} {said : Said} {so_far : Listed} {declarator : Declarator} {state between after : CxxState} {ahead rest : Ahead} → Gives (declarator_of room naming.Qualified) state ahead declarator between rest
      → said.is_typedef ≡ false → is_function_type (declared_type declarator.layers said.of) ≡ false → Initializes said declarator between number after → begins_initializer rest ≡ true
      → Leads (some_declarators room said so_far) state ahead (an_initializer room (name_in declarator) (declared_type declarator.layers said.of) number) after rest
  -- 8.4: the body of the function of a whole first declarator begins, and its statements are ahead
  to_body : {room : ℕ} {said : Said} {so_far : Listed} {declarator : Declarator} {state between after : CxxState} {ahead rest : Ahead} → so_far.is_first ≡ true → Gives (declarator_of (suc room) naming.Qualified) state ahead declarator between rest
      → said.is_typedef ≡ false → is_function_type (declared_type declarator.layers said.of) ≡ true → BeginsBody said declarator between after → is_punct punct.LEFT_BRACE (kind_ahead rest) ≡ true
      → Leads (some_declarators (suc room) said so_far) state ahead (a_body room) after (behind rest)
  -- 6.3: statements, one after another
  in_body : {room : ℕ} {state : CxxState} {ahead : Ahead} → Leads (a_body room) state ahead (some_statements room ([], nothing_around)) state ahead
  next_statement : {room : ℕ} {so_far more : List CxxTree × Around} {state after : CxxState} {ahead rest : Ahead} → Gives (statement_step_of room so_far) state ahead (More more) after rest
      → Leads (some_statements room so_far) state ahead (some_statements room more) after rest
  in_statement : {room : ℕ} {so_far : List CxxTree × Around} {state : CxxState} {ahead : Ahead} → Leads (some_statements room so_far) state ahead (a_statement room so_far.1) state ahead
  -- 6.1: labels, then what they label
  in_labels : {room : ℕ} {around : Around} {state : CxxState} {ahead : Ahead} → Leads (a_statement room around) state ahead (some_labels room ([], around)) state ahead
  behind_labels : {room : ℕ} {around : Around} {labels : List CxxTree × Around} {state after : CxxState} {ahead rest : Ahead} → Gives (labels_in (parts_at room) around) state ahead labels after rest
      → Leads (a_statement room around) state ahead (an_unlabelled_statement room labels.1) after rest
  next_label : {room : ℕ} {so_far more : List CxxTree × Around} {state after : CxxState} {ahead rest : Ahead} → Gives (label_step (parts_at room) so_far) state ahead (More more) after rest
      → Leads (some_labels room so_far) state ahead (some_labels room more) after rest
  in_label : {room : ℕ} {so_far : List CxxTree × Around} {state : CxxState} {ahead : Ahead} → is_keyword keyword.CASE (kind_ahead ahead) ≡ true → Leads (some_labels room so_far) state ahead (an_expression room purpose.Constant) state (behind ahead)
  -- 6.3, 6.4, 6.5: a block, and a statement that is none in a scope of its own
  to_block : {room : ℕ} {around : Around} {state : CxxState} {entered : Unit {0} × CxxState} {ahead : Ahead} → is_punct punct.LEFT_BRACE (kind_ahead ahead) ≡ true → Enters state entered
      → Leads (an_unlabelled_statement (suc room) around) state ahead (some_statements room ([], around)) entered.1 (behind ahead)
  to_inner_block : {room : ℕ} {around : Around} {state : CxxState} {entered : Unit {0} × CxxState} {ahead : Ahead} → is_punct punct.LEFT_BRACE (kind_ahead ahead) ≡ true → Enters state entered
      → Leads (an_inner_statement (suc room) around) state ahead (some_statements room ([], around)) entered.1 (behind ahead)
  to_statement : {room : ℕ} {around : Around} {begins : Unit {0}} {state after : CxxState} {entered : Unit {0} × CxxState} {ahead rest : Ahead} → is_punct punct.LEFT_BRACE (kind_ahead ahead) ≡ false → Gives (begun (parts_at (suc room))) state ahead begins after rest → Enters after entered
      → Leads (an_inner_statement (suc room) around) state ahead (a_statement room around) entered.1 rest
  -- 6.4, 6.5.1: a condition, and the statements behind it
  to_condition : {room : ℕ} {around : Around} {state : CxxState} {entered : Unit {0} × CxxState} {ahead : Ahead} → is_conditional (kind_ahead ahead) ≡ true → IsOpened ahead → Enters state entered
      → Leads (an_unlabelled_statement (suc room) around) state ahead (an_expression room purpose.Condition) entered.1 (in_bracket ahead)
  behind_if : {room : ℕ} {around : Around} {condition : CxxTree} {state after : CxxState} {ahead rest : Ahead} → is_keyword keyword.IF (kind_ahead ahead) ≡ true → HasCondition room to_bool state ahead condition after rest
      → Leads (an_unlabelled_statement room around) state ahead (an_inner_statement room around) after rest
  behind_else : {room : ℕ} {around : Around} {condition : CxxTree} {one : CxxTree × Around} {state between after : CxxState} {ahead middle rest : Ahead} → is_keyword keyword.IF (kind_ahead ahead) ≡ true → HasCondition room to_bool state ahead condition between middle
      → Gives (inner_statement_of room around) between middle one after rest → is_keyword keyword.ELSE (kind_ahead rest) ≡ true → Leads (an_unlabelled_statement room around) state ahead (an_inner_statement room one.1) after (behind rest)
  behind_switch : {room : ℕ} {around : Around} {condition : CxxTree} {state after : CxxState} {ahead rest : Ahead} → is_keyword keyword.SWITCH (kind_ahead ahead) ≡ true → HasCondition room to_promoted state ahead condition after rest
      → Leads (an_unlabelled_statement room around) state ahead (an_inner_statement room (in_a_switch (operand_of condition).of around)) after rest
  behind_while : {room : ℕ} {around : Around} {condition : CxxTree} {state after : CxxState} {ahead rest : Ahead} → is_keyword keyword.WHILE (kind_ahead ahead) ≡ true → HasCondition room to_bool state ahead condition after rest
      → Leads (an_unlabelled_statement room around) state ahead (an_inner_statement room (in_a_loop around)) after rest
  -- 6.5.2
  behind_do : {room : ℕ} {around : Around} {state : CxxState} {ahead : Ahead} → is_keyword keyword.DO (kind_ahead ahead) ≡ true → Leads (an_unlabelled_statement room around) state ahead (an_inner_statement room (in_a_loop around)) state (behind ahead)
  to_last_condition : {room : ℕ} {around : Around} {body : CxxTree × Around} {state after : CxxState} {ahead rest : Ahead} → is_keyword keyword.DO (kind_ahead ahead) ≡ true → Gives (inner_statement_of (suc room) (in_a_loop around)) state (behind ahead) body after rest → is_keyword keyword.WHILE (kind_ahead rest) ≡ true → IsOpened rest
      → Leads (an_unlabelled_statement (suc room) around) state ahead (an_expression room purpose.Whole) after (in_bracket rest)
  -- 6.5.3
  to_first_part : {room : ℕ} {around : Around} {state : CxxState} {entered : Unit {0} × CxxState} {ahead : Ahead} → BeginsFor state ahead entered → is_punct punct.SEMICOLON (kind_ahead (in_bracket ahead)) ≡ false → (begins_statement (kind_ahead (in_bracket ahead)) || begins_no_object (kind_ahead (in_bracket ahead))) ≡ false
      → Leads (an_unlabelled_statement (suc room) around) state ahead (a_plain_statement room) entered.1 (in_bracket ahead)
  to_second_part : {room : ℕ} {around : Around} {first : CxxTree} {state after : CxxState} {entered : Unit {0} × CxxState} {ahead rest : Ahead} → BeginsFor state ahead entered → Gives (first_part (parts_at room)) entered.1 (in_bracket ahead) first after rest → is_punct punct.SEMICOLON (kind_ahead rest) ≡ false
      → Leads (an_unlabelled_statement (suc room) around) state ahead (an_expression room purpose.Condition) after rest
  to_third_part : {room : ℕ} {around : Around} {first second : CxxTree} {state between after : CxxState} {entered : Unit {0} × CxxState} {ahead middle rest : Ahead} → BeginsFor state ahead entered → Gives (first_part (parts_at room)) entered.1 (in_bracket ahead) first between middle → Gives (second_part (parts_at room)) between middle second after rest → is_punct punct.RIGHT_PARENTHESIS (kind_ahead rest) ≡ false
      → Leads (an_unlabelled_statement (suc room) around) state ahead (an_expression room purpose.Step) after rest
  behind_for : {room : ℕ} {around : Around} {all : List CxxTree} {state after : CxxState} {ahead rest : Ahead} → is_keyword keyword.FOR (kind_ahead ahead) ≡ true → IsOpened ahead → Gives (within parts_at room).loop_parts state (in_bracket ahead) all after rest
      → Leads (an_unlabelled_statement room around) state ahead (an_inner_statement room (in_a_loop around)) after rest
  -- 6.6.3
  to_answer : {room : ℕ} {around : Around} {state : CxxState} {ahead : Ahead} → is_keyword keyword.RETURN (kind_ahead ahead) ≡ true → is_punct punct.SEMICOLON (kind_ahead (behind ahead)) ≡ false → Leads (an_unlabelled_statement room around) state ahead (an_expression room purpose.Whole) state (behind ahead)
  -- 6.2, 6.7
  to_plain_statement : {room : ℕ} {around : Around} {state : CxxState} {ahead : Ahead} → begins_other (kind_ahead ahead) ≡ false → Leads (an_unlabelled_statement room around) state ahead (a_plain_statement room) state ahead
  to_expression : {room : ℕ} {state after : CxxState} {ahead rest : Ahead} → Gives (beginning_of room) state ahead head.Expression after rest → Leads (a_plain_statement room) state ahead (an_expression room purpose.Whole) after rest
  to_local_declaration : {room : ℕ} {state after : CxxState} {ahead rest : Ahead} → Gives (beginning_of room) state ahead head.Declaration after rest → Leads (a_plain_statement room) state ahead (a_local_declaration room) after rest
  -- 7.3.2, 7.3.4: another name of a namespace, or a directive
  in_local_alias : {room : ℕ} {state : CxxState} {ahead : Ahead} → is_keyword keyword.NAMESPACE (kind_ahead ahead) ≡ true → IsAlias ahead → Leads (a_local_declaration room) state ahead (an_alias ahead (alias_name ahead)) state (behind (behind ahead))
  to_local_using : {room : ℕ} {state : CxxState} {ahead : Ahead} → IsUsing ahead → Leads (a_local_declaration room) state ahead a_using state ahead
  -- 6.7: specifiers, then declarators
  in_local_specifiers : {room : ℕ} {state : CxxState} {ahead : Ahead} → IsNoSpace ahead → Leads (a_local_declaration room) state ahead (some_specifiers room where_.Block) state ahead
  to_local_declarators : {room : ℕ} {specifiers : Specifiers} {state after : CxxState} {ahead rest : Ahead} → IsNoSpace ahead → Gives (specifiers_of room where_.Block) state ahead specifiers after rest
      → Leads (a_local_declaration room) state ahead (some_local_declarators room (said_by false specifiers) no_declarators) after rest
  next_local_declarator : {room : ℕ} {said : Said} {so_far more : Listed} {state after : CxxState} {ahead rest : Ahead} → Gives (local_step room said so_far) state ahead (More more) after rest
      → Leads (some_local_declarators room said so_far) state ahead (some_local_declarators room said more) after rest
  in_local_declarator : {room : ℕ} {said : Said} {so_far : Listed} {state : CxxState} {ahead : Ahead} → Leads (some_local_declarators room said so_far) state ahead (a_declarator room naming.Required) state ahead
  to_local_initializer : {room : ℕ} {said : Said} {so_far : Listed} {declarator : Declarator} {state between : CxxState} {answer : ℕ × CxxState} {ahead rest : Ahead} → Gives (declarator_of room naming.Required) state ahead declarator between rest → said.is_typedef ≡ false
      → is_function_type (declared_type declarator.layers said.of) ≡ false → said.is_extern ≡ false → define_object (name_in declarator) (declared_type declarator.layers said.of) between ≡ Ok answer → begins_initializer rest ≡ true
      → Leads (some_local_declarators room said so_far) state ahead (an_initializer room (name_in declarator) (declared_type declarator.layers said.of) answer.0) answer.1 rest
  -- 6.4: a condition is an expression, or declares an object
  in_condition : {room : ℕ} {state after : CxxState} {ahead rest : Ahead} → Gives (is_declaration_of room) state ahead false after rest → Leads (an_expression room purpose.Condition) state ahead (an_expression room purpose.Whole) after rest
  to_declared_condition : {room : ℕ} {state after : CxxState} {ahead rest : Ahead} → Gives (is_declaration_of room) state ahead true after rest → Leads (an_expression room purpose.Condition) state ahead (a_declared_condition room) after rest
  in_condition_specifiers : {room : ℕ} {state : CxxState} {ahead : Ahead} → Leads (a_declared_condition room) state ahead (some_specifiers room where_.TypeId) state ahead
  to_condition_declarator : {room : ℕ} {specifiers : Specifiers} {state after : CxxState} {ahead rest : Ahead} → Gives (specifiers_of room where_.TypeId) state ahead specifiers after rest → Leads (a_declared_condition room) state ahead (a_declarator room naming.Required) after rest
  to_condition_initializer : {room : ℕ} {specifiers : Specifiers} {declarator : Declarator} {state between after : CxxState} {answer : ℕ × CxxState} {ahead middle rest : Ahead} → Gives (specifiers_of room where_.TypeId) state ahead specifiers between middle → Gives (declarator_of room naming.Required) between middle declarator after rest
      → is_function_type (declared_type declarator.layers (said_by false specifiers).of) ≡ false → define_object (name_in declarator) (declared_type declarator.layers (said_by false specifiers).of) after ≡ Ok answer
      → Leads (a_declared_condition room) state ahead (a_condition_initializer room (name_in declarator) (declared_type declarator.layers (said_by false specifiers).of) answer.0) answer.1 rest

-- The reading of a part, from a state with these tokens ahead, stops with a fault, and so does that of each part to which it
-- comes there, to the last one, in a state with those tokens ahead.
pub data StopsWithin (fault : Fault) : Part → CxxState → Ahead → Part → CxxState → Ahead → Type 0 where
  it_stops : {part : Part} {state : CxxState} {ahead : Ahead} → IsStopped part state ahead fault → StopsWithin fault part state ahead part state ahead
  it_leads : {part next last : Part} {state between at : CxxState} {ahead middle rest : Ahead} → IsStopped part state ahead fault → Leads part state ahead next between middle → StopsWithin fault next between middle last at rest
      → StopsWithin fault part state ahead last at rest
