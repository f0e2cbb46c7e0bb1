-- The plain form of a reading: a line for each enumeration, each function and each declaration of an object.
use Rattle.std.specs.Prelude.{ℕ, zero, suc, ℤ, Bool, true, false, if◌then◌else◌, nat_eq, List, [], ◌∷◌, ◌++◌, map, flat_map, Option, Some, None, codes}
use Rattle.std.specs.List.{slice_get}
use Rattle.cxx_model.specs.declared.base.Base.TheVariants.{Void}
use Rattle.cxx_model.specs.Facts.Declarations as facts
use Rattle.cxx_model.specs.Facts.Declarations.{CxxFact, Declares}
use Rattle.cxx_model.specs.Types.Trees.{CxxType, CxxTypes, no_types, fundamental, function_of}
use Rattle.cxx_reading.specs.Declarators.{no_cv}
use Rattle.cxx_reading.specs.Productions as production
use Rattle.cxx_reading.specs.State.{CxxState}
use Rattle.cxx_reading.specs.TextOrder.{Line, enumeration_line, function_line, object_line, lines, text_order, text_name}
use Rattle.cxx_reading.specs.Trees.{CxxTree, CxxTrees, no_trees, tree_then, Label}
use Rattle.cxx_reading.specs.Units.{CxxReading}
use Rattle.cxx_reading.specs.Words.{Word, Tags, line_text, keyword_word, name_word, open_word, close_word, less_word, greater_word, semicolon_word, separated, value_words, declared, declared_each}

-- the names of the plain form: of each declaration, by its first one, and of each enumeration
pub record NamesOfText : Type 0 where
  pub name_of : ℕ → List ℕ
  pub tags : Tags

abbrev pub number_of_enumeration : ℕ → ℕ → List CxxFact → ℕ
number_of_enumeration n number [] = number
number_of_enumeration n number (fact ∷ others) = by fact.what (number_of_enumeration n (suc number) others)
  where
    by : Declares → ℕ → ℕ
    by (facts.enumeration m) later = if nat_eq m n then number else later
    by _ later = later

abbrev pub name_by : List CxxFact → List ℕ → ℕ → List ℕ
name_by all order number = text_name all order number

unfoldable pub names_of_text : CxxState → NamesOfText
names_of_text state = record {
  name_of = name_by state.graph.facts (text_order state);
  tags = record { class_name = λ n. []; enumeration_name = λ n. name_by state.graph.facts (text_order state) (number_of_enumeration n zero state.graph.facts) };
}

-- ---- expressions

abbrev pub type_or_void : Option CxxType → CxxType
type_or_void None = fundamental Void
type_or_void (Some of) = of

abbrev pub target_or : Option ℕ → ℕ
target_or None = zero
target_or (Some number) = number

abbrev pub first_words : List (List Word) → List Word
first_words [] = []
first_words (one ∷ others) = one

abbrev pub cast_words : NamesOfText → CxxType → List Word → List Word
cast_words names of inner = keyword_word (codes "static_cast") ∷ less_word ∷ (declared names.tags no_cv of [] ++ (greater_word ∷ open_word ∷ inner ++ close_word ∷ []))

abbrev pub call_words : NamesOfText → ℕ → List (List Word) → List Word
call_words names number arguments = name_word (names.name_of number) ∷ open_word ∷ separated arguments ++ close_word ∷ []

-- the words of an expression, given those of its parts
abbrev pub expression_by : NamesOfText → Label → List (List Word) → List Word
expression_by names label parts =
    if nat_eq label.production production.call then call_words names (target_or label.target) parts else (
    if nat_eq label.production production.cast then cast_words names (type_or_void label.of) (first_words parts) else
    keyword_word label.spelling ∷ [])

abbrev pub expressions : NamesOfText → CxxTrees → List (List Word)
expressions names no_trees = []
expressions names (tree_then label children next) = expression_by names label (expressions names children) ∷ expressions names next

-- ---- lines

abbrev pub value_in : ℕ → ℕ → CxxFact → List (ℕ × ℤ)
value_in n number fact = by fact.what
  where
    by : Declares → List (ℕ × ℤ)
    by (facts.enumerator m value) = if nat_eq m n then (number, value) ∷ [] else []
    by _ = []

abbrev pub values_from : ℕ → ℕ → List CxxFact → List (ℕ × ℤ)
values_from n number [] = []
values_from n number (fact ∷ others) = value_in n number fact ++ values_from n (suc number) others

abbrev pub enumerator_words : NamesOfText → ℕ × ℤ → List Word
enumerator_words names one = name_word (names.name_of one.0) ∷ keyword_word (codes "=") ∷ value_words one.1

-- 7.2
abbrev pub enumeration_words : NamesOfText → List CxxFact → ℕ → ℕ → List Word
enumeration_words names all n number =
    keyword_word (codes "enum") ∷ name_word (names.name_of number) ∷ keyword_word (codes "{") ∷ separated (map (enumerator_words names) (values_from n zero all)) ++ keyword_word (codes "}") ∷ semicolon_word ∷ []

abbrev pub type_of_function : Option CxxFact → CxxType
type_of_function None = fundamental Void
type_of_function (Some fact) = by fact.what
  where
    by : Declares → CxxType
    by (facts.function of member flags defaults first) = of
    by _ = fundamental Void

-- 8.3.5
abbrev pub function_words : NamesOfText → List CxxFact → ℕ → List Word
function_words names all number = declared names.tags no_cv (type_of_function (slice_get all number)) (name_word (names.name_of number) ∷ []) ++ semicolon_word ∷ []

-- the initializer among the parts of a declarator
abbrev pub initializers_in : CxxTrees → List CxxTrees
initializers_in no_trees = []
initializers_in (tree_then label children next) = if nat_eq label.production production.initializer then children ∷ initializers_in next else initializers_in next

abbrev pub initializer_words : NamesOfText → List CxxTrees → List Word
initializer_words names [] = []
initializer_words names (parts ∷ others) = keyword_word (codes "=") ∷ first_words (expressions names parts)

abbrev pub is_empty : List ℕ → Bool
is_empty [] = true
is_empty (b ∷ text) = false

-- 8.5; the word `extern` stays
abbrev pub object_words : NamesOfText → CxxTree → ℕ → List Word
object_words names tree number =
    (if is_empty tree.label.spelling then [] else keyword_word (codes "extern") ∷ []) ++
    (declared names.tags no_cv (type_or_void tree.label.of) (name_word (names.name_of number) ∷ []) ++ (initializer_words names (initializers_in tree.children) ++ semicolon_word ∷ []))

abbrev pub line_words : NamesOfText → List CxxFact → Line → List Word
line_words names all (enumeration_line n number) = enumeration_words names all n number
line_words names all (function_line number) = function_words names all number
line_words names all (object_line tree number) = object_words names tree number

abbrev pub text_by : NamesOfText → CxxState → List ℕ
text_by names state = flat_map (λ line. line_text (line_words names state.graph.facts line)) (lines state)

-- the plain form
unfoldable pub plain_text : CxxReading → List ℕ
plain_text reading = text_by (names_of_text reading.state) reading.state

-- ---- the functions that printed calls name

abbrev pub parameters_of : Option CxxFact → CxxTypes
parameters_of fact = by (type_of_function fact)
  where
    by : CxxType → CxxTypes
    by (function_of result parameters ellipsis cv) = parameters
    by _ = no_types

-- a function by its printed name and the words of its parameters
pub record NamedFunction : Type 0 where
  pub name : List ℕ
  pub parameters : List (List Word)

abbrev pub named_function : NamesOfText → List CxxFact → ℕ → NamedFunction
named_function names all number = record { name = names.name_of number; parameters = declared_each names.tags (parameters_of (slice_get all number)) }
