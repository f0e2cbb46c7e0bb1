-- The plain form of a reading with expressions.
use Rattle.std.specs.Prelude.{ℕ, zero, ℤ, pos, Bool, true, false, nat_eq, if◌then◌else◌, List, [], ◌∷◌, ◌++◌, flat_map, map, codes, Option, Some, None}
use Rattle.std.specs.List.{slice_get}
use Rattle.cxx_model.specs.declared.facts.MemberKind.{MemberKind}
use Rattle.cxx_model.specs.declared.facts.MemberKind.TheVariants as member
use Rattle.cxx_model.specs.declared.types.FactId.{FactId}
use Rattle.cxx_model.specs.Facts.Declarations as facts
use Rattle.cxx_model.specs.Facts.Declarations.{CxxFact, CxxGraph, Declares}
use Rattle.cxx_model.specs.Types.Trees.{CxxType, class_type, enumeration, unqualified}
use Rattle.cxx_reading.specs.Declarators.{no_cv}
use Rattle.cxx_reading.specs.Plain.{NamesOfText, NamedFunction, named_function, type_or_void, is_empty, enumeration_words, function_words}
use Rattle.cxx_reading.specs.Productions as production
use Rattle.cxx_reading.specs.Specifiers.{class_key}
use Rattle.cxx_reading.specs.State.{CxxState}
use Rattle.cxx_reading.specs.Trees.{CxxTree, CxxTrees}
use Rattle.cxx_reading.specs.Units.{CxxReading}
use Rattle.cxx_reading.specs.Words.{Word, keyword_word, name_word, type_name_word, semicolon_word, separated, declared, line_text, value_words}
use Rattle.cxx_expr.specs.Names.{static_class}
use Rattle.cxx_phrase_text.specs.Calls.{CallOfText, calls_of}
use Rattle.cxx_phrase_text.specs.Phrases as phrases
use Rattle.cxx_statement_text.specs.Statements.{Lines, close_brace, line, open_brace}
use Rattle.cxx_form.specs.Definitions.{class_declaring, definition_calls, definition_words, object_type}
use Rattle.cxx_form.specs.Order.{Line, class_line, enumeration_line, class_definition, function_line, object_line, definition_lines, bases_at, is_first, lines, names_of_text, parts_in, parts_of_production}

-- the initializers among the parts of a declarator
abbrev pub initializers_in : CxxTrees → List CxxTree
initializers_in trees = parts_of_production production.initializer trees

abbrev pub initializer_words : NamesOfText → List CxxTree → List Word
initializer_words names [] = []
initializer_words names (tree ∷ others) = phrases.initializer_words names.tags names.name_of tree

-- 8.5; the word `extern` stays, and a static member stands behind its class (9.4.2)
abbrev pub object_words : NamesOfText → CxxGraph → CxxTree → ℕ → List Word
object_words names graph tree number =
    (if is_empty tree.label.spelling then [] else keyword_word (codes "extern") ∷ []) ++
    (declared names.tags no_cv (type_or_void tree.label.of) (phrases.named_words names.tags names.name_of (static_class graph number) number) ++ (initializer_words names (initializers_in tree.children) ++ semicolon_word ∷ []))

abbrev pub class_key_of : Option CxxFact → List ℕ
class_key_of None = class_key false
class_key_of (Some fact) = by fact.what
  where
    by : Declares → List ℕ
    by (facts.class class is_union) = class_key is_union
    by _ = class_key false

-- 9.1
abbrev pub class_words : NamesOfText → List CxxFact → ℕ → List Word
class_words names all number = keyword_word (class_key_of (slice_get all number)) ∷ name_word (names.name_of number) ∷ semicolon_word ∷ []

-- ---- definitions of classes (9.2)

-- a base, by the number of its class
abbrev pub base_words : NamesOfText → ℕ → List Word
base_words names n = type_name_word (names.tags.class_name n) ∷ []

-- 10: the bases behind the name of a class, where it has any; neither their access nor `virtual` is written
abbrev pub bases_words : List (List Word) → List Word
bases_words [] = []
bases_words (one ∷ others) = keyword_word (codes ":") ∷ separated (one ∷ others)

abbrev pub class_front : NamesOfText → List CxxFact → ℕ → List Word
class_front names all number = keyword_word (class_key_of (slice_get all number)) ∷ name_word (names.name_of number) ∷ (bases_words (map (base_words names) (bases_at all number)) ++ open_brace ∷ [])

abbrev pub class_end : List Word
class_end = close_brace ∷ semicolon_word ∷ []

abbrev pub is_mutable_by : Declares → Bool
is_mutable_by (facts.object of kind is_mutable value first) = is_mutable
is_mutable_by _ = false

abbrev pub is_mutable_of : Option CxxFact → Bool
is_mutable_of None = false
is_mutable_of (Some fact) = is_mutable_by fact.what

-- 7.1.1
abbrev pub mutable_words : Bool → List Word
mutable_words true = keyword_word (codes "mutable") ∷ []
mutable_words false = []

abbrev pub is_static_kind : MemberKind → Bool
is_static_kind member.Static = true
is_static_kind _ = false

abbrev pub is_static_by : Declares → Bool
is_static_by (facts.object of kind is_mutable value first) = is_static_kind kind
is_static_by (facts.function of kind flags defaults first) = is_static_kind kind
is_static_by _ = false

abbrev pub is_static_of : Option CxxFact → Bool
is_static_of None = false
is_static_of (Some fact) = is_static_by fact.what

-- 9.4
abbrev pub static_words : Bool → List Word
static_words true = keyword_word (codes "static") ∷ []
static_words false = []

abbrev pub is_virtual_by : Declares → Bool
is_virtual_by (facts.function of kind flags defaults first) = flags.is_virtual
is_virtual_by _ = false

abbrev pub is_virtual_of : Option CxxFact → Bool
is_virtual_of None = false
is_virtual_of (Some fact) = is_virtual_by fact.what

-- 10.3
abbrev pub virtual_words : Bool → List Word
virtual_words true = keyword_word (codes "virtual") ∷ []
virtual_words false = []

abbrev pub is_pure_by : Declares → Bool
is_pure_by (facts.function of kind flags defaults first) = flags.is_pure
is_pure_by _ = false

abbrev pub is_pure_of : Option CxxFact → Bool
is_pure_of None = false
is_pure_of (Some fact) = is_pure_by fact.what

-- 7.2: a type, where it is an enumeration
abbrev pub as_enumeration : CxxType → Option CxxType
as_enumeration (enumeration n) = Some (enumeration n)
as_enumeration _ = None

abbrev pub constant_as : NamesOfText → Option CxxType → ℤ → List Word
constant_as names None value = value_words value
constant_as names (Some of) value = phrases.cast_words names.tags (codes "static_cast") of (value_words value)

-- a constant of a type: its value, which is cast to an enumeration
abbrev pub constant_words : NamesOfText → CxxType → ℤ → List Word
constant_words names of value = constant_as names (as_enumeration (unqualified of)) value

-- 9.4.2, 10.4: the value of a static constant, where its class gives it, and the 0 of a pure function
abbrev pub value_behind : NamesOfText → CxxType → Option ℤ → List Word
value_behind names of None = []
value_behind names of (Some value) = keyword_word (codes "=") ∷ constant_words names of value

-- a declaration of a name with a type
abbrev pub typed_words : NamesOfText → List CxxFact → ℕ → Option ℤ → List Word
typed_words names all number value =
    declared names.tags no_cv (object_type (slice_get all number)) (name_word (names.name_of number) ∷ []) ++ (value_behind names (object_type (slice_get all number)) value ++ semicolon_word ∷ [])

-- what stands behind `virtual`
abbrev pub plain_words : NamesOfText → List CxxFact → ℕ → Option ℤ → List Word
plain_words names all number value = mutable_words (is_mutable_of (slice_get all number)) ++ typed_words names all number value

-- what stands behind `static`
abbrev pub nonstatic_words : NamesOfText → List CxxFact → ℕ → Option ℤ → List Word
nonstatic_words names all number value = virtual_words (is_virtual_of (slice_get all number)) ++ plain_words names all number value

abbrev pub member_words : NamesOfText → List CxxFact → ℕ → Option ℤ → List Word
member_words names all number value = static_words (is_static_of (slice_get all number)) ++ nonstatic_words names all number value

-- a data member or a function, on a line
abbrev pub member_lines : NamesOfText → List CxxFact → ℕ → Option ℤ → Lines
member_lines names all number value = line 1 (member_words names all number value)

-- the value of a further declaration of the object with a declaration
abbrev pub value_if : ℕ → Option FactId → Option ℤ → Option ℤ
value_if number None value = None
value_if number (Some first) value = if nat_eq first.0 number then value else None

abbrev pub value_of_again_by : ℕ → Declares → Option ℤ
value_of_again_by number (facts.object of kind is_mutable value first) = value_if number first value
value_of_again_by number _ = None

abbrev pub value_of_again : ℕ → Option CxxFact → Option ℤ
value_of_again number None = None
value_of_again number (Some fact) = value_of_again_by number fact.what

-- The value of a static constant: that of the declaration next to it, if that is a further one of it.
abbrev pub value_after : List CxxFact → ℕ → List ℕ → Option ℤ
value_after all number [] = None
value_after all number (next ∷ others) = value_of_again number (slice_get all next)

-- 10.4: a pure function is written with 0
abbrev pub zero_if : Bool → Option ℤ → Option ℤ
zero_if true value = Some (pos zero)
zero_if false value = value

-- the value that a class gives to a member, by the declarations behind it
abbrev pub value_in_class : List CxxFact → ℕ → List ℕ → Option ℤ
value_in_class all number others = zero_if (is_pure_of (slice_get all number)) (value_after all number others)

abbrev pub member_if_first : NamesOfText → List CxxFact → ℕ → Option ℤ → Lines
member_if_first names all number value = if is_first (slice_get all number) then member_lines names all number value else []

-- the members among declarations, by their first ones
abbrev pub members_lines : NamesOfText → List CxxFact → List ℕ → Lines
members_lines names all [] = []
members_lines names all (number ∷ others) = member_if_first names all number (value_in_class all number others) ++ members_lines names all others

abbrev pub class_definition_words : NamesOfText → List CxxFact → ℕ → ℕ → Lines
class_definition_words names all number scope = class_front names all number ∷ (members_lines names all (parts_in scope zero all) ++ class_end ∷ [])

-- ---- lines

-- the words of each line
abbrev pub words_on : NamesOfText → CxxGraph → Line → List (List Word)
words_on names graph (class_line number) = class_words names graph.facts number ∷ []
words_on names graph (enumeration_line n number) = enumeration_words names graph.facts n number ∷ []
words_on names graph (class_definition number scope) = class_definition_words names graph.facts number scope
words_on names graph (function_line number) = function_words names graph.facts number ∷ []
words_on names graph (object_line tree number) = object_words names graph tree number ∷ []
words_on names graph (definition_lines tree) = definition_words names graph tree

abbrev pub text_on : NamesOfText → CxxGraph → Line → List ℕ
text_on names graph line = flat_map line_text (words_on names graph line)

abbrev pub text_by : NamesOfText → CxxState → List ℕ
text_by names state = flat_map (text_on names state.graph) (lines state)

-- the plain form
unfoldable pub plain_text : CxxReading → List ℕ
plain_text reading = text_by (names_of_text reading.state) reading.state

-- ---- the calls that it writes

abbrev pub calls_of_trees : List CxxTree → List CallOfText
calls_of_trees [] = []
calls_of_trees (tree ∷ others) = calls_of tree

abbrev pub calls_on : List CxxFact → Line → List CallOfText
calls_on all (object_line tree number) = calls_of_trees (initializers_in tree.children)
calls_on all (definition_lines tree) = definition_calls all tree
calls_on all _ = []

-- in the order of the text
unfoldable pub printed_calls : CxxState → List CallOfText
printed_calls state = flat_map (calls_on state.graph.facts) (lines state)

-- the printed name of a class, with `::` behind it
abbrev pub class_text : NamesOfText → Option CxxType → List ℕ
class_text names (Some (class_type n)) = names.tags.class_name n ++ codes "::"
class_text names _ = []

-- A function by its printed name, which stands behind that of its class (9.3), and the words of its parameters. Functions of
-- several classes have one number, so the name without the class would not tell which of them it is.
abbrev pub function_named : NamesOfText → CxxGraph → ℕ → NamedFunction
function_named names graph number = record (named_function names graph.facts number) { name = class_text names (class_declaring graph number) ++ names.name_of number }

-- the functions that they name
unfoldable pub functions_of_text : CxxReading → List NamedFunction
functions_of_text reading = map (λ call. function_named (names_of_text reading.state) reading.state.graph call.target) (printed_calls reading.state)
