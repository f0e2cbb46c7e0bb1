-- The lines of the definition of a function (8.4).
use Rattle.std.specs.Prelude.{ℕ, zero, ℤ, pos, Bool, true, false, if◌then◌else◌, List, [], ◌∷◌, ◌++◌, map, Option, Some, None, Ok, Err, codes}
use Rattle.std.specs.List.{slice_get}
use Rattle.cxx_model.specs.declared.base.Base.TheVariants.{Void}
use Rattle.cxx_model.specs.Facts.Declarations as facts
use Rattle.cxx_model.specs.Facts.Declarations.{CxxFact, CxxGraph, Declares}
use Rattle.cxx_model.specs.Facts.Entities.{first_or}
use Rattle.cxx_model.specs.Types.Trees.{CxxType, fundamental, function_of}
use Rattle.cxx_constant.specs.Constants.{CxxValue, constant}
use Rattle.cxx_reading.specs.Declarators.{no_cv}
use Rattle.cxx_reading.specs.Plain.{NamesOfText, type_or_void}
use Rattle.cxx_reading.specs.Trees.{CxxTree}
use Rattle.cxx_reading.specs.Words.{Word, name_word, open_word, close_word, cv_words, one_word, separated, declared}
use Rattle.cxx_expr.specs.Names.{class_if, declares_function}
use Rattle.cxx_phrase_text.specs.Calls.{CallOfText}
use Rattle.cxx_phrase_text.specs.Phrases.{named_words}
use Rattle.cxx_statement_text.specs.Calls.{statement_calls}
use Rattle.cxx_statement_text.specs.Objects.{Scene}
use Rattle.cxx_statement_text.specs.Statements.{Lines, body_lines, close_brace, open_brace}
use Rattle.cxx_form.specs.Order.{body_of, declarator_of, is_named, parameters_of}

-- ---- the head

-- the type of a parameter or a member
abbrev pub object_type_by : Declares → CxxType
object_type_by (facts.object of member is_mutable value first) = of
object_type_by (facts.function of member flags defaults first) = of
object_type_by _ = fundamental Void

abbrev pub object_type : Option CxxFact → CxxType
object_type None = fundamental Void
object_type (Some fact) = object_type_by fact.what

-- a parameter, by its declaration
abbrev pub parameter_words : NamesOfText → List CxxFact → ℕ → List Word
parameter_words names all number =
    declared names.tags no_cv (object_type (slice_get all number)) (if is_named (slice_get all number) then name_word (names.name_of number) ∷ [] else [])

abbrev pub result_of : CxxType → CxxType
result_of (function_of result parameters ellipsis cv) = result
result_of of = fundamental Void

abbrev pub has_ellipsis : CxxType → Bool
has_ellipsis (function_of result parameters ellipsis cv) = ellipsis
has_ellipsis of = false

abbrev pub ellipsis_words : Bool → List (List Word)
ellipsis_words true = one_word (codes "...") ∷ []
ellipsis_words false = []

abbrev pub type_of_declarator : Option CxxTree → CxxType
type_of_declarator None = fundamental Void
type_of_declarator (Some tree) = type_or_void tree.label.of

-- the first declaration of a function that is declared
abbrev pub function_first_by : ℕ → Declares → ℕ
function_first_by number (facts.function of member flags defaults first) = first_or number first
function_first_by number _ = number

abbrev pub function_first : ℕ → Option CxxFact → ℕ
function_first number None = number
function_first number (Some fact) = function_first_by number fact.what

abbrev pub first_by : List CxxFact → Option ℕ → ℕ
first_by all None = zero
first_by all (Some number) = function_first number (slice_get all number)

abbrev pub first_of_declarator : List CxxFact → Option CxxTree → ℕ
first_of_declarator all None = zero
first_of_declarator all (Some tree) = first_by all tree.label.target

-- the list of parameters, with its brackets
abbrev pub list_words : NamesOfText → List CxxFact → CxxTree → List Word
list_words names all tree =
    open_word ∷ (separated (map (parameter_words names all) (parameters_of all tree) ++ ellipsis_words (has_ellipsis (type_of_declarator (declarator_of tree)))) ++ close_word ∷ [])

-- 9.3: the class that declares a function, where one does
abbrev pub class_of_function : CxxGraph → Option CxxFact → Option CxxType
class_of_function graph None = None
class_of_function graph (Some fact) = class_if graph fact.scope (declares_function fact.what)

unfoldable pub class_declaring : CxxGraph → ℕ → Option CxxType
class_declaring graph number = class_of_function graph (slice_get graph.facts number)

-- 9.3.1: the words behind the parameters of a function
abbrev pub words_of_type : CxxType → List Word
words_of_type (function_of result parameters ellipsis cv) = cv_words cv
words_of_type of = []

-- by its first declaration
abbrev pub words_behind : List CxxFact → ℕ → List Word
words_behind all number = words_of_type (object_type (slice_get all number))

-- a function of a class stands behind its class (9.3)
abbrev pub function_name_words : NamesOfText → CxxGraph → ℕ → List Word
function_name_words names graph number = named_words names.tags names.name_of (class_declaring graph number) number

abbrev pub head_words : NamesOfText → CxxGraph → CxxTree → List Word
head_words names graph tree =
    declared names.tags no_cv (result_of (type_of_declarator (declarator_of tree))) (function_name_words names graph (first_of_declarator graph.facts (declarator_of tree)) ++ (list_words names graph.facts tree ++ words_behind graph.facts (first_of_declarator graph.facts (declarator_of tree)))) ++ open_brace ∷ []

-- ---- the body

-- 5.19: the value of a constant; without one, 0
abbrev pub value_or_zero : CxxValue → ℤ
value_or_zero (Ok value) = value
value_or_zero (Err why) = pos zero

abbrev pub scene_with : NamesOfText → CxxGraph → Scene
scene_with names graph = record { tags = names.tags; name = names.name_of; facts = graph.facts; value = λ tree. value_or_zero (constant graph tree) }

abbrev pub inner_lines : NamesOfText → CxxGraph → Option CxxTree → Lines
inner_lines names graph None = []
inner_lines names graph (Some body) = body_lines (scene_with names graph) 1 body

-- the definition of a function, line by line
unfoldable pub definition_words : NamesOfText → CxxGraph → CxxTree → Lines
definition_words names graph tree = head_words names graph tree ∷ (inner_lines names graph (body_of tree) ++ (close_brace ∷ []) ∷ [])

-- ---- its calls

abbrev pub body_calls : List CxxFact → Option CxxTree → List CallOfText
body_calls all None = []
body_calls all (Some body) = statement_calls all body

abbrev pub definition_calls : List CxxFact → CxxTree → List CallOfText
definition_calls all tree = body_calls all (body_of tree)
