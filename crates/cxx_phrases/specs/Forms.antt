-- The trees of expressions as they are read, before it is asked what they mean.
use Rattle.std.specs.Prelude.{ℕ, Bool, true, false, ◌&&◌, if◌then◌else◌, List, [], ◌∷◌, ◌++◌, Option, Some, codes}
use Rattle.cxx_model.specs.declared.place.Place.{Place}
use Rattle.cxx_model.specs.declared.punct.TheConstants as punct
use Rattle.cxx_model.specs.declared.token.TokenKind.{TokenKind}
use Rattle.cxx_model.specs.declared.token.TokenKind.TheVariants.{Text}
use Rattle.cxx_model.specs.Text.Lexemes.{Lexeme}
use Rattle.cxx_model.specs.Types.Trees.{CxxType}
use Rattle.cxx_phrases.specs.Productions as phrase
use Rattle.cxx_reading.specs.Labels.{label_from}
use Rattle.cxx_reading.specs.Productions as production
use Rattle.cxx_reading.specs.Reads.{Ahead, kind_ahead, word_ahead}
use Rattle.cxx_reading.specs.Tokens.{is_punct}
use Rattle.cxx_reading.specs.Trees.{CxxPath, CxxTree, last_part, tree_of}
use Rattle.cxx_strings.specs.SideBySide.{side_by_side}

-- 2.13.4: strings side by side are one
abbrev pub literal_text : TokenKind → List ℕ → List ℕ
literal_text Text word = side_by_side word
literal_text _ word = word

-- 2.13
abbrev pub literal_tree : Ahead → Ahead → CxxTree
literal_tree from to = tree_of (label_from production.literal (literal_text (kind_ahead from) (word_ahead from)) from to) []

-- 5.1, 9.3.2: `this`
abbrev pub this_tree : Ahead → Ahead → CxxTree
this_tree from to = tree_of (label_from phrase.this (word_ahead from) from to) []

-- 5.1: its place is that of its last part
abbrev pub name_tree : CxxPath → Ahead → Ahead → CxxTree
name_tree path from to = tree_of (record (label_from phrase.name [] from to) { place = (last_part path.parts).place; path = Some path }) []

-- 5.1
abbrev pub parenthesis_tree : CxxTree → Ahead → Ahead → CxxTree
parenthesis_tree inside from to = tree_of (label_from phrase.parenthesis [] from to) (inside ∷ [])

-- 5.2.2: a call by a name; the spelling tells whether the name stands in brackets
abbrev pub call_tree : List ℕ → CxxPath → List CxxTree → Ahead → Ahead → CxxTree
call_tree spelling path arguments from to = tree_of (record (label_from production.call spelling from to) { place = (last_part path.parts).place; path = Some path }) arguments

-- 5.2.2: a call of what is no name
abbrev pub called_tree : CxxTree → List CxxTree → Ahead → Ahead → CxxTree
called_tree function arguments from to = tree_of (label_from production.call [] from to) (function ∷ arguments)

-- 5.2.3
abbrev pub functional_tree : CxxType → List CxxTree → Ahead → Ahead → CxxTree
functional_tree of arguments from to = tree_of (record (label_from phrase.functional_cast [] from to) { of = Some of }) arguments

-- 5.2.1
abbrev pub subscript_tree : Place → CxxTree → CxxTree → Ahead → Ahead → CxxTree
subscript_tree place object index from to = tree_of (record (label_from phrase.subscript [] from to) { place = place }) (object ∷ index ∷ [])

-- 5.1: the spelling of a name that may be called behind brackets which close, or may not
abbrev pub closed_word : Bool → List ℕ
closed_word true = codes ")"
closed_word false = []

-- 5.2.2: the spelling of a name by the brackets that stand behind it, that of arguments, or one that closes before others
abbrev pub bracket_word : Bool → Bool → List ℕ
bracket_word true closes = codes "("
bracket_word false closes = closed_word closes

-- 13.3.1.1.1: whether the first of some tokens that closes no bracket opens one
abbrev pub opens_behind : List Lexeme → Bool
opens_behind [] = false
opens_behind (token ∷ tokens) = if is_punct punct.RIGHT_PARENTHESIS token.kind then opens_behind tokens else is_punct punct.LEFT_PARENTHESIS token.kind

-- whether a bracket closes and one opens behind all that close: then what stands before them may be called
abbrev pub may_be_called : Ahead → Bool
may_be_called to = is_punct punct.RIGHT_PARENTHESIS (kind_ahead to) && opens_behind to.tokens

abbrev pub called_word : Ahead → List ℕ
called_word to = bracket_word (is_punct punct.LEFT_PARENTHESIS (kind_ahead to)) (may_be_called to)

-- 5.2.5: a member of an object, or of what is pointed to; its place is that of the operator, and the spelling tells whether it
-- is called
abbrev pub member_tree : ℕ → Place → CxxPath → CxxTree → Ahead → Ahead → CxxTree
member_tree number place path object from to = tree_of (record (label_from number (called_word to) from to) { place = place; path = Some path }) (object ∷ [])

-- 5.2.6
abbrev pub step_tree : List ℕ → Place → CxxTree → Ahead → Ahead → CxxTree
step_tree spelling place operand from to = tree_of (record (label_from phrase.postfix_step spelling from to) { place = place }) (operand ∷ [])

-- 5.3.1, 5.3.2
abbrev pub prefix_tree : List ℕ → CxxTree → Ahead → Ahead → CxxTree
prefix_tree spelling operand from to = tree_of (label_from phrase.prefix spelling from to) (operand ∷ [])

-- 5.3.3
abbrev pub size_tree : Option CxxType × List CxxTree → Ahead → Ahead → CxxTree
size_tree sized from to = tree_of (record (label_from phrase.size [] from to) { of = sized.0 }) sized.1

-- 5.2.9 to 5.2.11, 5.4: the operand stands behind the trees of the type
abbrev pub cast_tree : List ℕ → CxxType × List CxxTree → CxxTree → Ahead → Ahead → CxxTree
cast_tree spelling of operand from to = tree_of (record (label_from production.cast spelling from to) { of = Some of.0 }) (of.1 ++ operand ∷ [])

-- 5.6 to 5.18: an operator between two operands
abbrev pub operator_tree : ℕ → List ℕ → Place → CxxTree → CxxTree → Ahead → Ahead → CxxTree
operator_tree number spelling place left right from to = tree_of (record (label_from number spelling from to) { place = place }) (left ∷ right ∷ [])

-- 5.16
abbrev pub conditional_tree : Place → CxxTree → CxxTree → CxxTree → Ahead → Ahead → CxxTree
conditional_tree place condition one other from to = tree_of (record (label_from phrase.conditional (codes "?") from to) { place = place }) (condition ∷ one ∷ other ∷ [])

-- 8.5.1
abbrev pub braces_tree : List CxxTree → Ahead → Ahead → CxxTree
braces_tree parts from to = tree_of (label_from production.initializer (codes "{") from to) parts
