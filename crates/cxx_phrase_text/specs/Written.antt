-- Expressions by their numbers, part by part as they are written.
use Rattle.std.specs.Prelude.{ℕ, Bool, true, List, [], ◌∷◌, ◌++◌, map, codes, Option}
use Rattle.std.specs.Option.{option_map}
use Rattle.cxx_model.specs.declared.tree.Node.{Node}
use Rattle.cxx_model.specs.declared.types.TreeId.{TreeId}
use Rattle.cxx_model.specs.Types.Trees.{CxxType}
use Rattle.cxx_reading.specs.Declarators.{no_cv}
use Rattle.cxx_reading.specs.Trees.{in_turn}
use Rattle.cxx_reading.specs.Words.{Word, Tags, close_word, declared, greater_word, keyword_word, less_word, open_word}
use Rattle.cxx_tree.specs.Arena.{label_at, tree_in, trees_in}
use Rattle.cxx_phrase_text.specs.declared.form.Form.{Form}
use Rattle.cxx_phrase_text.specs.Listed.{listed_words}
use Rattle.cxx_phrase_text.specs.Named.{NamedState, trees_of}
use Rattle.cxx_phrase_text.specs.Phrases.{Phrase, arguments, callee_words, element, initializer_words, is_one_string, operand, phrase_as, phrase_of, phrase_or_nothing}

-- the expression with a number
unfoldable pub phrase_at : NamedState → TreeId → Phrase
phrase_at named number = phrase_of named.tags named.name (tree_in (trees_of named) number.0)

abbrev pub phrases_at : NamedState → List TreeId → List Phrase
phrases_at named numbers = map (phrase_at named) numbers

-- an expression that may be missing
abbrev pub phrase_found : NamedState → Option TreeId → Phrase
phrase_found named number = phrase_or_nothing (option_map (phrase_at named) number)

-- the expression of a node, whose form is given
abbrev pub phrase_in : NamedState → Form → Node → Phrase
phrase_in named form node = phrase_as form named.tags named.name (label_at named.held.types node) (is_one_string (in_turn (trees_in (trees_of named) node.children))) (phrases_at named node.children)

-- the initializer with a number
unfoldable pub initializer_at : NamedState → TreeId → List Word
initializer_at named number = initializer_words named.tags named.name (tree_in (trees_of named) number.0)

abbrev pub operand_at : NamedState → TreeId → List Word
operand_at named number = operand (phrase_at named number)

abbrev pub element_at : NamedState → TreeId → List Word
element_at named number = element (phrase_at named number)

-- elements with commas between them
abbrev pub elements_at : NamedState → List TreeId → List Word
elements_at named numbers = listed_words true (map (element_at named) numbers)

-- what stands before the operand of a cast
unfoldable pub cast_opened : List ℕ → List Word
cast_opened keyword = keyword_word keyword ∷ less_word ∷ []

unfoldable pub cast_between : List Word
cast_between = greater_word ∷ open_word ∷ []

unfoldable pub cast_front : Tags → List ℕ → CxxType → List Word
cast_front tags keyword of = cast_opened keyword ++ (declared tags no_cv of [] ++ cast_between)

-- a zero, a cast, a call and a list in braces, part by part
unfoldable pub zero_parts : Tags → CxxType → List Word
zero_parts tags of = cast_front tags (codes "static_cast") of ++ (keyword_word (codes "0") ∷ close_word ∷ [])

unfoldable pub cast_parts : Tags → List ℕ → CxxType → List Word → List Word
cast_parts tags keyword of inner = cast_front tags keyword of ++ (inner ++ close_word ∷ [])

unfoldable pub call_parts : NamedState → Option CxxType → ℕ → Bool → List TreeId → List Word
call_parts named of number is_by_name parts = callee_words named.tags named.name of number is_by_name (phrases_at named parts) ++ (open_word ∷ (elements_at named (arguments is_by_name parts) ++ close_word ∷ []))

unfoldable pub brace_parts : NamedState → List TreeId → List Word
brace_parts named parts = keyword_word (codes "{") ∷ (elements_at named parts ++ keyword_word (codes "}") ∷ [])
