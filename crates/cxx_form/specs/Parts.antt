-- The lines of a plain form, part by part, as they are written.
use Rattle.std.specs.Prelude.{ℕ, zero, ℤ, pos, Bool, true, false, if◌then◌else◌, ◌<◌, List, [], ◌∷◌, ◌++◌, length, map, codes, Option, Some, None}
use Rattle.std.specs.List.{slice_get}
use Rattle.cxx_model.specs.declared.facts.Entity.{Entity}
use Rattle.cxx_model.specs.declared.facts.Entity.TheVariants as entity
use Rattle.cxx_model.specs.declared.facts.Fact.{Fact}
use Rattle.cxx_model.specs.declared.tree.Node.{Node}
use Rattle.cxx_model.specs.declared.types.FactId.{FactId}
use Rattle.cxx_model.specs.declared.types.TreeId.{TreeId}
use Rattle.cxx_model.specs.Facts.Declarations as facts
use Rattle.cxx_model.specs.Facts.Declarations.{CxxFact, Declares}
use Rattle.cxx_model.specs.Facts.Graph.{Graph}
use Rattle.cxx_graph.specs.Numbered.{is_ancestor_of, numbers_of}
use Rattle.cxx_reading.specs.Declarators.{no_cv}
use Rattle.cxx_reading.specs.Plain.{enumerator_words, is_empty, NamesOfText}
use Rattle.cxx_reading.specs.Trees.{in_turn, CxxTree}
use Rattle.cxx_reading.specs.Words.{close_word, declared, keyword_word, name_word, open_word, semicolon_word, Word}
use Rattle.cxx_model.specs.Types.Trees.{CxxType}
use Rattle.cxx_expr.specs.Names.{static_class}
use Rattle.cxx_phrase_text.specs.Listed.{listed_words}
use Rattle.cxx_phrase_text.specs.Phrases.{named_words}
use Rattle.cxx_statement_text.specs.Statements.{close_brace, open_brace, Lines}
use Rattle.cxx_tree.specs.Arena.{trees_in}
use Rattle.cxx_form.specs.declared.book.Book.{Book}
use Rattle.cxx_form.specs.Books.{facts_of, graph_of, names_of, trees_of, type_for}
use Rattle.cxx_form.specs.declared.lines.Line.{Line}
use Rattle.cxx_form.specs.Lines.{line_at}
use Rattle.cxx_form.specs.Definitions.{ellipsis_words, first_of_declarator, function_name_words, has_ellipsis, inner_lines, parameter_words, result_of, type_of_declarator, words_behind}
use Rattle.cxx_form.specs.Text.{base_words, class_end, class_front, class_key_of, initializer_words, initializers_in, is_pure_of, member_if_first, member_lines, value_of_again, words_on, zero_if}

abbrev pub is_none : {A : Type 0} → List A → Bool
is_none [] = true
is_none (x ∷ xs) = false

-- ---- enumerations (7.2)

abbrev pub value_by : Declares → ℤ
value_by (facts.enumerator n value) = value
value_by _ = pos zero

-- the value of an enumerator
abbrev pub value_found : Option CxxFact → ℤ
value_found None = pos zero
value_found (Some fact) = value_by fact.what

-- an enumerator by its declaration
unfoldable pub enumerator_at : Book → FactId → List Word
enumerator_at book number = enumerator_words (names_of book) (number.0, value_found (slice_get (facts_of book) number.0))

unfoldable pub enumeration_front : NamesOfText → ℕ → List Word
enumeration_front names number = keyword_word (codes "enum") ∷ name_word (names.name_of number) ∷ keyword_word (codes "{") ∷ []

unfoldable pub enumeration_end : List Word
enumeration_end = keyword_word (codes "}") ∷ semicolon_word ∷ []

unfoldable pub enumeration_parts : Book → List FactId → ℕ → List Word
enumeration_parts book row number = enumeration_front (names_of book) number ++ (listed_words true (map (enumerator_at book) row) ++ enumeration_end)

-- ---- objects (8.5)

abbrev pub extern_words : List ℕ → List Word
extern_words spelling = if is_empty spelling then [] else keyword_word (codes "extern") ∷ []

-- the words of the initializer among some trees
unfoldable pub initializer_among : Book → List TreeId → List Word
initializer_among book children = initializer_words (names_of book) (initializers_in (in_turn (trees_in (trees_of book) children)))

unfoldable pub object_parts : Book → Node → ℕ → List Word
object_parts book node number =
    extern_words node.spelling ++ (declared (names_of book).tags no_cv (type_for book node.of) (named_words (names_of book).tags (names_of book).name_of (static_class (graph_of book) number) number) ++ (initializer_among book node.children ++ semicolon_word ∷ []))

-- ---- definitions of classes (9.2)

-- 10: the class that a declaration names as a base
abbrev pub parent_by : Declares → Option ℕ
parent_by (facts.ancestor class parent index access) = Some parent.0
parent_by _ = None

abbrev pub parent_found : Option CxxFact → Option ℕ
parent_found None = None
parent_found (Some fact) = parent_by fact.what

-- such a class is there
abbrev pub IsParentThere : Graph → Entity → Type 0
IsParentThere graph (entity.Ancestor class parent index access) = parent.0 < length graph.classes
IsParentThere graph _ = Unit {0}

abbrev pub parent_words : NamesOfText → Option ℕ → List Word
parent_words names None = []
parent_words names (Some n) = base_words names n

-- a base by its declaration
unfoldable pub base_at : Book → FactId → List Word
base_at book number = parent_words (names_of book) (parent_found (slice_get (facts_of book) number.0))

-- bases with the colon before them, unless there are none
abbrev pub bases_unless : Book → List FactId → Bool → List Word
bases_unless book row true = []
bases_unless book row false = keyword_word (codes ":") ∷ listed_words true (map (base_at book) row)

-- the numbers of the declarations of bases of a class
abbrev pub base_row : List Fact → Option ℕ → List FactId
base_row all None = []
base_row all (Some n) = numbers_of (is_ancestor_of n) all

-- the first line, given the declarations of the bases
unfoldable pub front_parts : Book → List FactId → ℕ → List Word
front_parts book row number = keyword_word (class_key_of (slice_get (facts_of book) number)) ∷ name_word ((names_of book).name_of number) ∷ (bases_unless book row (is_none row) ++ open_brace ∷ [])

-- a declaration in the scope of a class, where it is the first one of a member, which has a value in the class or none
unfoldable pub member_at : Book → FactId → Option ℤ → Lines
member_at book number value = member_if_first (names_of book) (facts_of book) number.0 value

abbrev pub member_if : Book → FactId → Option ℤ → Bool → Lines
member_if book number value true = member_lines (names_of book) (facts_of book) number.0 value
member_if book number value false = []

-- the value of a static constant, given the declarations behind it
abbrev pub value_again : Book → FactId → List FactId → Option ℤ
value_again book number [] = None
value_again book number (next ∷ others) = value_of_again number.0 (slice_get (facts_of book) next.0)

-- the value of a member, given those
abbrev pub value_next : Book → FactId → List FactId → Option ℤ
value_next book number others = zero_if (is_pure_of (slice_get (facts_of book) number.0)) (value_again book number others)

abbrev pub members_at : Book → List FactId → Lines
members_at book [] = []
members_at book (number ∷ others) = member_at book number (value_next book number others) ++ members_at book others

unfoldable pub class_parts : Book → List FactId → ℕ → Lines
class_parts book row number = class_front (names_of book) (facts_of book) number ∷ (members_at book row ++ class_end ∷ [])

-- ---- definitions of functions (8.4)

-- a parameter, by its declaration
unfoldable pub parameter_at : Book → FactId → List Word
parameter_at book number = parameter_words (names_of book) (facts_of book) number.0

abbrev pub name_if : Book → FactId → Bool → List Word
name_if book number true = name_word ((names_of book).name_of number.0) ∷ []
name_if book number false = []

-- an ellipsis behind parameters
unfoldable pub dots_behind : Bool → Bool → List Word
dots_behind is_first ellipsis = listed_words is_first (ellipsis_words ellipsis)

-- the parameters, with the brackets round them
unfoldable pub list_at : Book → List FactId → Bool → List Word
list_at book row ellipsis = open_word ∷ (listed_words true (map (parameter_at book) row) ++ (dots_behind (is_none row) ellipsis ++ close_word ∷ []))

-- the parameters of a function, with the words behind them
unfoldable pub worded_list : Book → FactId → List FactId → Bool → List Word
worded_list book number row ellipsis = list_at book row ellipsis ++ words_behind (facts_of book) number.0

-- the name of a function, with its class (9.3), and with its parameters
unfoldable pub named_list : Book → FactId → List FactId → Bool → List Word
named_list book number row ellipsis = function_name_words (names_of book) (graph_of book) number.0 ++ worded_list book number row ellipsis

unfoldable pub head_at : Book → CxxType → FactId → List FactId → Bool → List Word
head_at book result number row ellipsis = declared (names_of book).tags no_cv result (named_list book number row ellipsis) ++ open_brace ∷ []

abbrev pub head_by : Book → CxxType → ℕ → List FactId → List Word
head_by book of number row = head_at book (result_of of) (record { 0 = number }) row (has_ellipsis of)

-- the head of a definition, by its declarator and its parameters
abbrev pub head_of : Book → Option CxxTree → List FactId → List Word
head_of book declarator row = head_by book (type_of_declarator declarator) (first_of_declarator (facts_of book) declarator) row

-- what stands in the braces of a body, where there is one
abbrev pub inner_at : Book → Option CxxTree → Lines
inner_at book body = inner_lines (names_of book) (graph_of book) body

unfoldable pub definition_parts : Book → List Word → Option CxxTree → Lines
definition_parts book head body = head ∷ (inner_at book body ++ (close_brace ∷ []) ∷ [])

-- ---- lines

-- the lines of a line
unfoldable pub lines_written : Book → Line → Lines
lines_written book one = words_on (names_of book) (graph_of book) (line_at (trees_of book) one)
