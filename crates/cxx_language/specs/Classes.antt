-- How a class is defined among the specifiers of a declaration (clause 9): its head, and its members up to its end.
use Rattle.std.specs.Prelude.{ℕ, zero, suc, Bool, true, false, nat_eq, not, ◌&&◌, ◌||◌, if◌then◌else◌, List, [], ◌∷◌, ◌++◌, length, codes, Option, Some, None}
use Rattle.std.specs.Str.{bytes_eq}
use Rattle.cxx_model.specs.declared.facts.Access.{Access}
use Rattle.cxx_model.specs.declared.facts.Access.TheVariants as access
use Rattle.cxx_model.specs.declared.fault.FaultText.TheVariants as says
use Rattle.cxx_model.specs.declared.fault.LeftOut.TheVariants as form
use Rattle.cxx_model.specs.declared.keyword.TheConstants as keyword
use Rattle.cxx_model.specs.declared.place.Place.{Place}
use Rattle.cxx_model.specs.declared.punct.TheConstants as punct
use Rattle.cxx_model.specs.declared.stop.LimitKind.TheVariants.{Nesting}
use Rattle.cxx_model.specs.declared.token.TokenKind.{TokenKind}
use Rattle.cxx_model.specs.declared.types.Cv.{Cv}
use Rattle.cxx_model.specs.Text.Lexemes.{Lexeme}
use Rattle.cxx_model.specs.Types.Trees.{CxxType, class_type}
use Rattle.cxx_reading.specs.declared.specifier.Naming.TheVariants as naming
use Rattle.cxx_reading.specs.declared.specifier.SpecifierPlace.TheVariants as where_
use Rattle.cxx_reading.specs.declared.specifier.StorageWord.TheVariants as storage
use Rattle.cxx_reading.specs.Declarators.{Specifiers, Declarator, declared_type, has_type, is_function_type, is_reference, member_type, no_cv, no_specifiers, own_parameters}
use Rattle.cxx_reading.specs.Declaring.{enumeration_count}
use Rattle.cxx_reading.specs.Labels.{label_from}
use Rattle.cxx_reading.specs.Productions as production
use Rattle.cxx_reading.specs.Reads.{Reads, Ahead, Asks, Turn, More, Done, ◌>>=◌, got, give, ask, fault_at, limited, looked, taken, tokens, kind_ahead, place_ahead, word_ahead, count_ahead, behind, repeat}
use Rattle.cxx_reading.specs.Specifiers.{class_key, path_of_option, place_or, specifiers_at, specifiers_from}
use Rattle.cxx_reading.specs.State.{CxxState}
use Rattle.cxx_reading.specs.Syntax.{declarator_at, token_of}
use Rattle.cxx_declare.specs.Outside.{stand_in}
use Rattle.cxx_declare.specs.OutsideClasses.{enter_class}
use Rattle.cxx_reading.specs.Tokens.{begins_name, is_plain_name, is_punct, is_keyword, is_name, is_number, not_built, path_taken, punct_taken, refused, token_in}
use Rattle.cxx_reading.specs.Trees.{CxxPath, CxxTree, in_turn, last_part, tree_of}
use Rattle.cxx_reading.specs.Units.{Said, Listed, declarator_tree, declared_fits, give_trees, is_const_type, is_incomplete, is_unbounded, name_in, no_declarators, nothing_declared, said_by, simple_tree, specifiers_tree}
use Rattle.cxx_later.specs.Defaults.{defaults_in, defaults_kept}
use Rattle.cxx_later.specs.Waiting.{waiting_in}
use Rattle.cxx_declare.specs.declared.class_definitions.MemberWords.{MemberWords}
use Rattle.cxx_declare.specs.Bases.{BaseOf, declare_base}
use Rattle.cxx_declare.specs.ClassDefinitions.{begin_class, begin_unnamed, declare_member, end_class}
use Rattle.cxx_declare.specs.Friends.{befriend_again, befriend_class, befriend_function}
use Rattle.cxx_language.specs.Asked.{asked, inner_at}
use Rattle.cxx_language.specs.Bodies.{standing}
use Rattle.cxx_language.specs.Later.{Declares, all_read, ended_by, member_body}
use Rattle.cxx_language.specs.Spaces.{member_using_at}
use Rattle.cxx_language.specs.Synonyms.{bare_synonym}
use Rattle.cxx_language.specs.Values.{member_value}

-- ---- the head

pub record Head : Type 0 where
  pub is_union : Bool
  -- 11: the access of members that no label stands before
  pub access : Access
  pub name : Option Lexeme
  -- that of its name, or of its key where it has none
  pub place : Place

abbrev pub key_access : TokenKind → Access
key_access kind = if is_keyword keyword.CLASS kind then access.Private else access.Public

-- the name that is ahead, if there is one, and what is ahead behind it
abbrev pub name_ahead : Ahead → Option Lexeme
name_ahead ahead = if is_name (kind_ahead ahead) then Some (token_in ahead.tokens) else None

abbrev pub behind_name : Ahead → Ahead
behind_name ahead = if is_name (kind_ahead ahead) then behind ahead else ahead

abbrev pub name_or_none : Reads CxxState (Option Lexeme)
name_or_none state ahead = got (name_ahead ahead) state (behind_name ahead)

-- 9, 3.4.3: before the last part of a name with qualifiers the reader stands in what declares the class
abbrev pub name_of_path : CxxPath → Reads CxxState (Option Lexeme)
name_of_path path = ask (enter_class path) >>= λ entered. give (Some (token_of (last_part path.parts)))

unfoldable pub class_name : Reads CxxState (Option Lexeme)
class_name state ahead =
    if begins_name ahead && not (is_plain_name ahead) then (path_taken >>= name_of_path) state ahead else name_or_none state ahead

-- a key and a name, or a key alone, with the `:` of bases or the `{` ahead then
unfoldable pub head_at : Reads CxxState Head
head_at = do
  from ← looked
  key ← taken
  name ← class_name
  give (record { is_union = is_keyword keyword.UNION (kind_ahead from); access = key_access (kind_ahead from); name = name; place = place_or (place_ahead from) name })

abbrev pub begins_by : Bool → Place → Option Lexeme → Asks CxxState ℕ
begins_by is_union place (Some name) = begin_class is_union name
begins_by is_union place None = begin_unnamed is_union place

abbrev pub is_none : Option Lexeme → Bool
is_none None = true
is_none (Some name) = false

-- the definition of a class with a head begins
abbrev pub class_begins : Head → Asks CxxState ℕ
class_begins head = begins_by head.is_union head.place head.name

-- ---- one member (9.2)

-- 9.6: bit-fields are left out
unfoldable pub no_bit_field : Lexeme → Reads CxxState (Unit {0})
no_bit_field name state ahead = if is_punct punct.COLON (kind_ahead ahead) then fault_at name.place (says.LeftOut form.BitField) state ahead else got tt state ahead

-- 9.2, 9.4.2: a member that is not static is of a complete type; that of its own class is none yet
unfoldable pub whole_member : Bool → Lexeme → CxxType → Reads CxxState (Unit {0})
whole_member is_static name of state ahead =
    if not is_static && (is_unbounded of || is_incomplete state.graph of) then fault_at name.place says.IncompleteClass state ahead else got tt state ahead

-- what stands before a member: the label, and whether the word `virtual` does
pub record Labelled : Type 0 where
  -- 11.1
  pub access : Access
  -- 10.3
  pub is_virtual : Bool

-- 9.3.1: a static function has no words behind its parameters
abbrev pub words_of : Said → Declarator → Cv
words_of said declarator = if said.is_static then no_cv else declarator.cv

-- the type of a member that a declarator declares
abbrev pub type_of_member : Said → Declarator → CxxType
type_of_member said declarator = member_type (words_of said declarator) declarator.layers said.of

-- 7.1.1 p8: a constant and a reference are not mutable
abbrev pub is_mutable_member : Said → CxxType → Bool
is_mutable_member said of = said.is_mutable && not (is_reference of || is_const_type of)

-- 10.3: a function that belongs to an object is virtual where the word stands before it
abbrev pub is_virtual_member : Bool → Said → CxxType → Bool
is_virtual_member is_virtual said of = is_virtual && (not said.is_static && is_function_type of)

-- 2.13.1: the literal that is spelled `0`
abbrev pub is_zero : Ahead → Bool
is_zero ahead = is_number (kind_ahead ahead) && bytes_eq (word_ahead ahead) (codes "0")

-- 10.4 p2: whether `= 0` stands behind a virtual function
abbrev pub begins_pure : Bool → Ahead → Bool
begins_pure is_virtual ahead = is_virtual && (is_punct punct.EQUALS (kind_ahead ahead) && is_zero (behind ahead))

-- nothing is taken yet
abbrev pub pure_ahead : Bool → Reads CxxState Bool
pure_ahead is_virtual state ahead = got (begins_pure is_virtual ahead) state ahead

-- what is said of a member with a type
abbrev pub words_of_member : Labelled → Said → CxxType → Bool → MemberWords
words_of_member label said of is_pure = record { access = label.access; is_static = said.is_static; is_mutable = is_mutable_member said of; is_virtual = is_virtual_member label.is_virtual said of; is_pure = is_pure }

-- `= 0`, taken
unfoldable pub pure_taken : Reads CxxState (List CxxTree)
pure_taken = do
  equals ← taken
  nothing ← taken
  give []

-- 9.4.2, 10.4: behind the declarator of a member
abbrev pub value_or_pure : Bool → ℕ → Bool → Lexeme → CxxType → ℕ → Reads CxxState (List CxxTree)
value_or_pure true room is_static name of number = pure_taken
value_or_pure false room is_static name of number = member_value room is_static name of number

-- 10.4 p2: one that is pure has no body there
abbrev pub body_unless_pure : Bool → Bool → CxxType → CxxTree → Option ℕ → Reads CxxState (List CxxTree)
body_unless_pure true is_first of declarator list = give []
body_unless_pure false is_first of declarator list = member_body is_first of declarator list

-- what a declarator of a member leads to, given its tree
abbrev pub with_tree : CxxTree → List CxxTree → List CxxTree → Declares
with_tree tree defaults body = record { tree = tree; defaults = defaults; body = body }

unfoldable pub declared_behind : Bool → Bool → CxxType → Option ℕ → List CxxTree → CxxTree → Reads CxxState Declares
declared_behind is_pure is_first of list defaults tree = body_unless_pure is_pure is_first of tree list >>= λ body. give (with_tree tree defaults body)

-- a data member or a function, given its declarator
unfoldable pub data_member : ℕ → Labelled → Said → Bool → Declarator → Ahead → Reads CxxState Declares
data_member room label said is_first declarator from = do
  narrow ← no_bit_field (name_in declarator)
  fits ← declared_fits said declarator
  is_pure ← pure_ahead (is_virtual_member label.is_virtual said (type_of_member said declarator))
  number ← ask (declare_member (words_of_member label said (type_of_member said declarator) is_pure) (own_parameters declarator.layers) (name_in declarator) (type_of_member said declarator))
  defaults ← defaults_kept (own_parameters declarator.layers) (Some number)
  whole ← whole_member said.is_static (name_in declarator) (type_of_member said declarator)
  value ← value_or_pure is_pure room said.is_static (name_in declarator) (type_of_member said declarator) number
  to ← looked
  declared_behind is_pure is_first (type_of_member said declarator) (own_parameters declarator.layers) defaults (declarator_tree false (name_in declarator) (type_of_member said declarator) number (declarator.parts ++ value) from to)

-- 7.1.3: a name of a type, given its declarator
unfoldable pub synonym_member : Said → Declarator → Ahead → Reads CxxState Declares
synonym_member said declarator from = do
  fits ← declared_fits said declarator
  tree ← bare_synonym said declarator from
  defaults ← defaults_kept None None
  give (with_tree tree defaults [])

unfoldable pub declared_member : ℕ → Labelled → Said → Bool → Declarator → Ahead → Reads CxxState Declares
declared_member room label said is_first declarator from state ahead =
    if said.is_typedef then synonym_member said declarator from state ahead else data_member room label said is_first declarator from state ahead

unfoldable pub named_member_at : ℕ → Labelled → Said → Bool → Reads CxxState Declares
named_member_at room label said is_first = do
  from ← looked
  declarator ← declarator_at (asked room).kinds (inner_at room).types naming.Required
  declared_member room label said is_first declarator from

-- 9.6: a bit-field may have no name
unfoldable pub member_at : ℕ → Labelled → Said → Bool → Reads CxxState Declares
member_at room label said is_first state ahead =
    if is_punct punct.COLON (kind_ahead ahead) then fault_at (place_ahead ahead) (says.LeftOut form.BitField) state ahead else named_member_at room label said is_first state ahead

unfoldable pub member_step : ℕ → Labelled → Said → Listed → Reads CxxState (Turn Listed (List CxxTree))
member_step room label said so_far = member_at room label said so_far.is_first >>= ended_by so_far

unfoldable pub members_by : ℕ → Labelled → Specifiers → Reads CxxState (List CxxTree)
members_by room label specifiers state ahead =
    if is_punct punct.SEMICOLON (kind_ahead ahead) then nothing_declared specifiers state ahead else
    repeat (member_step room label (said_by false specifiers)) give_trees (count_ahead ahead) no_declarators state ahead

-- Classes nest: what is defined in a list takes the reader of a class, from its key on, behind specifiers, with less room.

-- 7.1.5, clause 9: behind specifiers that were read: with a class, where one is defined there
unfoldable pub nested_or_not : (Specifiers → Reads CxxState Specifiers) → ℕ → Specifiers → Reads CxxState Specifiers
nested_or_not nested room so_far state ahead =
    if has_type so_far then got so_far state ahead else
    (nested so_far >>= specifiers_from (asked room).kinds (inner_at room).types where_.Member) state ahead

-- 7.1.5, 9.2: the specifiers of a member
unfoldable pub member_specifiers_by : (Specifiers → Reads CxxState Specifiers) → ℕ → Reads CxxState Specifiers
member_specifiers_by nested room = specifiers_at (asked room).kinds (inner_at room).types where_.Member >>= nested_or_not nested room

-- 7.1.2: the word `virtual`, taken where it stands ahead
abbrev pub begins_virtual : Ahead → Bool
begins_virtual ahead = is_keyword keyword.VIRTUAL (kind_ahead ahead)

abbrev pub behind_virtual : Ahead → Ahead
behind_virtual ahead = if begins_virtual ahead then behind ahead else ahead

abbrev pub virtual_or_not : Reads CxxState Bool
virtual_or_not state ahead = got (begins_virtual ahead) state (behind_virtual ahead)

abbrev pub labelled : Access → Bool → Labelled
labelled label is_virtual = record { access = label; is_virtual = is_virtual }

unfoldable pub member_declaration_by : (Specifiers → Reads CxxState Specifiers) → ℕ → Access → Reads CxxState CxxTree
member_declaration_by nested room label = do
  from ← looked
  is_virtual ← virtual_or_not
  specifiers ← member_specifiers_by nested room
  between ← looked
  declarators ← members_by room (labelled label is_virtual) specifiers
  to ← looked
  give (simple_tree (specifiers_tree specifiers from between) declarators from to)

-- ---- the list of members

-- what was read of a list, and the access of what follows (11.1)
pub record Members : Type 0 where
  pub trees : List CxxTree
  pub access : Access

abbrev pub access_word : TokenKind → Bool
access_word kind = is_keyword keyword.PUBLIC kind || (is_keyword keyword.PROTECTED kind || is_keyword keyword.PRIVATE kind)

abbrev pub access_by : TokenKind → Access
access_by kind = if is_keyword keyword.PUBLIC kind then access.Public else (if is_keyword keyword.PROTECTED kind then access.Protected else access.Private)

-- 11.1: a label
unfoldable pub access_step : Members → Reads CxxState (Turn Members (List CxxTree))
access_step so_far = do
  from ← looked
  word ← taken
  colon ← tokens (punct_taken punct.COLON)
  give (More (record so_far { access = access_by (kind_ahead from) }))

-- 12.4, clause 14: with which tokens other members begin
abbrev pub begins_other : TokenKind → Bool
begins_other kind = is_keyword keyword.TEMPLATE kind || is_punct punct.TILDE kind

-- 12.1: the name of the class and a bracket
abbrev pub begins_constructor : Option Lexeme → Ahead → Bool
begins_constructor None ahead = false
begins_constructor (Some name) ahead = is_name (kind_ahead ahead) && (bytes_eq (word_ahead ahead) name.spelling && is_punct punct.LEFT_PARENTHESIS (kind_ahead (behind ahead)))

-- constructors, destructors and templates of a class are not read yet
abbrev pub comes_later : Option Lexeme → Ahead → Bool
comes_later name ahead = begins_other (kind_ahead ahead) || begins_constructor name ahead

-- 7.1.2: behind `inline`, where that stands first
abbrev pub behind_inline : Ahead → Ahead
behind_inline ahead = if is_keyword keyword.INLINE (kind_ahead ahead) then behind ahead else ahead

-- the same behind `virtual`
abbrev pub behind_words : Ahead → Ahead
behind_words ahead = behind_inline (behind_virtual ahead)

abbrev pub with_member : CxxTree → Members → Members
with_member tree so_far = record so_far { trees = so_far.trees ++ tree ∷ [] }

unfoldable pub declared_step : (Specifiers → Reads CxxState Specifiers) → ℕ → Option Lexeme → Members → Reads CxxState (Turn Members (List CxxTree))
declared_step nested room name so_far state ahead =
    if comes_later name (behind_words ahead) then not_built state (behind_words ahead) else
    (member_declaration_by nested room so_far.access >>= λ tree. give (More (with_member tree so_far))) state ahead

-- 7.3.3: a using-declaration
unfoldable pub using_step : Members → Reads CxxState (Turn Members (List CxxTree))
using_step so_far = do
  brought ← member_using_at so_far.access
  give (More so_far)

-- ---- friends (11.4)

-- No storage word stands behind `friend` (7.1.1 p1).
abbrev pub friend_specifiers : Bool → Specifiers
friend_specifiers is_inline = record no_specifiers { storage = Some storage.Auto; is_inline = is_inline }

-- behind the key of a class: neither a class nor an enumeration is defined there
unfoldable pub behind_key : Reads CxxState Specifiers
behind_key state ahead = if begins_name ahead then (path_taken >>= λ path. refused) state ahead else refused state ahead

-- no type is defined among them (8.3.5 p6), of so many enumerations before
unfoldable pub friend_typed : ℕ → Specifiers → Reads CxxState Specifiers
friend_typed enumerations specifiers state ahead =
    if not (has_type specifiers) then behind_key state (behind ahead) else (
    if nat_eq enumerations (enumeration_count state.graph.facts) then got specifiers state ahead else
    refused state ahead)

-- 7.1.5: the specifiers of functions that are friends
unfoldable pub specifiers_of_friend : ℕ → Bool → Reads CxxState Specifiers
specifiers_of_friend room is_inline state ahead = (specifiers_from (asked room).kinds (inner_at room).types where_.Declaration (friend_specifiers is_inline) >>= friend_typed (enumeration_count state.graph.facts)) state ahead

abbrev pub type_of_friend : Said → Declarator → CxxType
type_of_friend said declarator = declared_type declarator.layers said.of

-- 11.4 p1: no object is a friend
unfoldable pub friend_fits : CxxType → Reads CxxState (Unit {0})
friend_fits of state ahead = if is_function_type of then got tt state ahead else refused state ahead

-- a name with qualifiers is one of a function that was declared
abbrev pub friend_by : Bool → ℕ → Option ℕ → Lexeme → Cv → CxxType → Asks CxxState ℕ
friend_by is_qualified scope list name cv of = if is_qualified then befriend_again scope name cv of else befriend_function scope list name of

-- a function, given its declarator, in the scope of the class; its body may stand there where its name has no qualifiers (p5)
unfoldable pub friend_function : ℕ → Said → Bool → Declarator → Ahead → Reads CxxState Declares
friend_function scope said is_first declarator from = do
  fits ← declared_fits said declarator
  function ← friend_fits (type_of_friend said declarator)
  number ← ask (friend_by declarator.is_qualified scope (own_parameters declarator.layers) (name_in declarator) declarator.cv (type_of_friend said declarator))
  defaults ← defaults_kept (own_parameters declarator.layers) (Some number)
  to ← looked
  declared_behind declarator.is_qualified is_first (type_of_friend said declarator) (own_parameters declarator.layers) defaults (declarator_tree false (name_in declarator) (type_of_friend said declarator) number declarator.parts from to)

unfoldable pub friend_at : ℕ → Said → Bool → Reads CxxState Declares
friend_at room said is_first = do
  scope ← standing
  from ← looked
  declarator ← declarator_at (asked room).kinds (inner_at room).types naming.Qualified
  friend_function scope said is_first declarator from

unfoldable pub friends_step : ℕ → Said → Listed → Reads CxxState (Turn Listed (List CxxTree))
friends_step room said so_far = friend_at room said so_far.is_first >>= ended_by so_far

unfoldable pub friends_at : ℕ → Said → Reads CxxState (List CxxTree)
friends_at room said state ahead = repeat (friends_step room said) give_trees (count_ahead ahead) no_declarators state ahead

-- functions, from their specifiers on
unfoldable pub friend_functions : ℕ → Bool → Ahead → Reads CxxState (List CxxTree)
friend_functions room is_inline from = do
  specifiers ← specifiers_of_friend room is_inline
  between ← looked
  declarators ← friends_at room (said_by false specifiers)
  to ← looked
  give (simple_tree (specifiers_tree specifiers from between) declarators from to ∷ [])

abbrev pub is_class_key : TokenKind → Bool
is_class_key kind = is_keyword keyword.CLASS kind || (is_keyword keyword.STRUCT kind || is_keyword keyword.UNION kind)

-- a class; nothing is printed of it
unfoldable pub friend_class : Bool → CxxPath → Reads CxxState (List CxxTree)
friend_class is_union path = do
  noted ← ask (befriend_class is_union path)
  semicolon ← taken
  give []

-- a key and a name are all of the declaration of a class (p2), or begin the specifiers of functions
unfoldable pub class_or_functions : ℕ → Ahead → Ahead → CxxPath → Reads CxxState (List CxxTree)
class_or_functions room from start path state ahead =
    if is_punct punct.SEMICOLON (kind_ahead ahead) then friend_class (is_keyword keyword.UNION (kind_ahead start)) path state ahead else
    friend_functions room false from state start

unfoldable pub keyed_friend : ℕ → Ahead → Reads CxxState (List CxxTree)
keyed_friend room from = do
  start ← looked
  key ← taken
  path ← path_taken
  class_or_functions room from start path

abbrev pub begins_keyed : Ahead → Bool
begins_keyed ahead = is_class_key (kind_ahead ahead) && begins_name (behind ahead)

unfoldable pub friends_behind : ℕ → Bool → Ahead → Reads CxxState (List CxxTree)
friends_behind room is_inline from state ahead =
    if not is_inline && begins_keyed ahead then keyed_friend room from state ahead else friend_functions room is_inline from state ahead

abbrev pub with_members : List CxxTree → Members → Members
with_members trees so_far = record so_far { trees = so_far.trees ++ trees }

-- 7.1.2: the word `inline`, taken where it stands ahead
abbrev pub inline_or_not : Reads CxxState Bool
inline_or_not state ahead = got (is_keyword keyword.INLINE (kind_ahead ahead)) state (behind_inline ahead)

-- from `friend` on, or from the `inline` before it
unfoldable pub friend_step : ℕ → Members → Reads CxxState (Turn Members (List CxxTree))
friend_step room so_far = do
  from ← looked
  is_inline ← inline_or_not
  word ← taken
  trees ← friends_behind room is_inline from
  give (More (with_members trees so_far))

abbrev pub begins_friend : Ahead → Bool
begins_friend ahead = is_keyword keyword.FRIEND (kind_ahead (behind_inline ahead))

-- a member, a label, a using-declaration, friends, `;` alone, or the end of the list
unfoldable pub list_step_by : (Specifiers → Reads CxxState Specifiers) → ℕ → Option Lexeme → Members → Reads CxxState (Turn Members (List CxxTree))
list_step_by nested room name so_far state ahead =
    if is_punct punct.RIGHT_BRACE (kind_ahead ahead) then got (Done so_far.trees) state (behind ahead) else (
    if is_punct punct.SEMICOLON (kind_ahead ahead) then got (More so_far) state (behind ahead) else (
    if access_word (kind_ahead ahead) then access_step so_far state ahead else (
    if is_keyword keyword.USING (kind_ahead ahead) then using_step so_far state ahead else (
    if begins_friend ahead then friend_step room so_far state ahead else
    declared_step nested room name so_far state ahead))))

abbrev pub give_members : Members → Reads CxxState (List CxxTree)
give_members so_far = give so_far.trees

-- the bases stand before the members
abbrev pub behind_bases : List CxxTree → Access → Members
behind_bases bases label = record { trees = bases; access = label }

-- ---- its bases (clause 10)

-- where the bases of a class are declared, and the access of those that no word stands before (11.2)
pub record BaseList : Type 0 where
  pub scope : ℕ
  pub class : ℕ
  pub access : Access

abbrev pub base_specifier : ℕ
base_specifier = 55

-- 10.1: a virtual base is left out
unfoldable pub no_virtual : Access → Reads CxxState Access
no_virtual label state ahead = if is_keyword keyword.VIRTUAL (kind_ahead ahead) then fault_at (place_ahead ahead) (says.LeftOut form.VirtualBase) state ahead else got label state ahead

abbrev pub access_at : Access → Reads CxxState Access
access_at label state ahead = if access_word (kind_ahead ahead) then got (access_by (kind_ahead ahead)) state (behind ahead) else got label state ahead

-- 11.2: the access before the name of a base
unfoldable pub base_access : Access → Reads CxxState Access
base_access otherwise = no_virtual otherwise >>= access_at >>= no_virtual

abbrev pub base_tree : CxxPath → Ahead → Ahead → CxxTree
base_tree path from to = tree_of (record (label_from base_specifier [] from to) { place = (last_part path.parts).place; path = Some path }) []

abbrev pub one_of : BaseList → List CxxTree → Access → BaseOf
one_of of so_far label = record { scope = of.scope; class = of.class; position = suc (length so_far); access = label }

-- the name of a base
unfoldable pub base_taken : BaseOf → Ahead → Reads CxxState CxxTree
base_taken one from = do
  path ← path_taken
  declared ← ask (declare_base one path)
  to ← looked
  give (base_tree path from to)

abbrev pub base_name_at : BaseOf → Ahead → Reads CxxState CxxTree
base_name_at one from state ahead = if begins_name ahead then base_taken one from state ahead else refused state ahead

unfoldable pub base_at : BaseList → List CxxTree → Reads CxxState CxxTree
base_at of so_far = do
  from ← looked
  label ← base_access of.access
  base_name_at (one_of of so_far label) from

-- another base, or the members
unfoldable pub base_ended : List CxxTree → CxxTree → Reads CxxState (Turn (List CxxTree) (List CxxTree))
base_ended so_far tree state ahead =
    if is_punct punct.COMMA (kind_ahead ahead) then got (More (so_far ++ tree ∷ [])) state (behind ahead) else (
    if is_punct punct.LEFT_BRACE (kind_ahead ahead) then got (Done (so_far ++ tree ∷ [])) state ahead else
    refused state ahead)

unfoldable pub base_step : BaseList → List CxxTree → Reads CxxState (Turn (List CxxTree) (List CxxTree))
base_step of so_far = base_at of so_far >>= base_ended so_far

-- behind the `:`, up to the `{`
unfoldable pub base_list : BaseList → Reads CxxState (List CxxTree)
base_list of state ahead = repeat (base_step of) give (count_ahead ahead) [] state ahead

abbrev pub bases_in : ℕ → Access → ℕ → BaseList
bases_in class label scope = record { scope = scope; class = class; access = label }

-- from the `:` on: their names are looked up where the class is declared, which is not in its own scope
unfoldable pub bases_at : ℕ → ℕ → Access → Reads CxxState (List CxxTree)
bases_at outside class label = do
  inside ← standing
  left ← ask (stand_in outside)
  colon ← taken
  bases ← base_list (bases_in class label inside)
  entered ← ask (stand_in inside)
  give bases

abbrev pub bases_or_none : ℕ → ℕ → Access → Reads CxxState (List CxxTree)
bases_or_none outside class label state ahead = if is_punct punct.COLON (kind_ahead ahead) then bases_at outside class label state ahead else got [] state ahead

-- ---- the whole

abbrev pub class_tree : Head → ℕ → List CxxTree → Ahead → Ahead → CxxTree
class_tree head n members from to = tree_of (record (label_from production.class_definition (class_key head.is_union) from to) { place = head.place; path = path_of_option head.name; of = Some (class_type n) }) members

abbrev pub with_class : Specifiers → ℕ → CxxTree → Specifiers
with_class so_far n tree = record so_far { named = Some (class_type n); stands_alone = true; parts = so_far.parts ++ tree ∷ [] }

-- 9.5: A union without a name that declares no object is anonymous. That is told behind its `}`, at its key.
unfoldable pub no_anonymous_union : Head → Reads CxxState (Unit {0})
no_anonymous_union head state ahead =
    if head.is_union && (is_none head.name && is_punct punct.SEMICOLON (kind_ahead ahead)) then fault_at head.place (says.LeftOut form.AnonymousUnion) state ahead else got tt state ahead

-- From its key on, given how the list of its members is read. What was passed over in it and belongs to no declarator of a
-- member (8.3.6 p3), as in the value of an enumerator, stands behind them.
unfoldable pub class_by : (Head → List CxxTree → Reads CxxState (List CxxTree)) → Specifiers → Reads CxxState Specifiers
class_by list so_far = do
  outside ← standing
  from ← looked
  head ← head_at
  home ← standing
  number ← ask (class_begins head)
  bases ← bases_or_none home number head.access
  opened ← taken
  members ← list head bases
  ended ← ask (end_class number head.place)
  outer ← ask (stand_in outside)
  whole ← no_anonymous_union head
  left ← defaults_kept None None
  to ← looked
  give (with_class so_far number (class_tree head number (members ++ left) from to))

-- behind the `{` of a class, with its end: its bases and members
unfoldable pub list_at : ℕ → Head → List CxxTree → Reads CxxState (List CxxTree)
list_at zero head bases = limited Nesting
list_at (suc room) head bases = λ state ahead. repeat (list_step_by (class_by (list_at room)) room head.name) give_members (count_ahead ahead) (behind_bases bases head.access) state ahead

-- from its key on
unfoldable pub class_at : ℕ → Specifiers → Reads CxxState Specifiers
class_at room = class_by (list_at room)

-- ---- the same with room for so many more braces

abbrev pub list_step : ℕ → Option Lexeme → Members → Reads CxxState (Turn Members (List CxxTree))
list_step room = list_step_by (class_at room) room

abbrev pub member_declaration_at : ℕ → Access → Reads CxxState CxxTree
member_declaration_at room = member_declaration_by (class_at room) room

abbrev pub member_specifiers : ℕ → Reads CxxState Specifiers
member_specifiers room = member_specifiers_by (class_at room) room

abbrev pub with_parts : Specifiers → List CxxTree → Specifiers
with_parts so_far parts = record so_far { parts = so_far.parts ++ parts }

-- 9.2 p2: a class that stands in no other one, with the default arguments and the bodies of the functions in it
unfoldable pub class_whole : ℕ → Specifiers → Reads CxxState Specifiers
class_whole room so_far = do
  from ← looked
  one ← class_at room so_far
  to ← looked
  bodies ← all_read from to (defaults_in (in_turn one.parts)) (waiting_in room (in_turn one.parts))
  give (with_parts one bodies)

-- behind those that were read: with a class, where one is defined there
unfoldable pub class_or_not : ℕ → Specifiers → Reads CxxState Specifiers
class_or_not room so_far state ahead =
    if has_type so_far then got so_far state ahead else
    (class_whole room so_far >>= specifiers_from (asked room).kinds (inner_at room).types where_.Declaration) state ahead

-- 7.1.5: the specifiers of a declaration of a namespace
unfoldable pub declaration_specifiers : ℕ → Reads CxxState Specifiers
declaration_specifiers room = specifiers_at (asked room).kinds (inner_at room).types where_.Declaration >>= class_or_not room
