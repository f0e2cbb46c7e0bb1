-- The words of an expression in the plain form: each conversion is a cast, and parentheses stand where they are wanted.
use Rattle.std.specs.Prelude.{ℕ, ◌-◌, Bool, true, false, not, ◌&&◌, ◌==◌, if◌then◌else◌, List, [], ◌∷◌, ◌++◌, drop, length, map, Option, Some, None, codes}
use Rattle.std.specs.List.{slice_get}
use Rattle.cxx_model.specs.declared.base.Base.{Base}
use Rattle.cxx_model.specs.declared.base.Base.TheVariants as base
use Rattle.cxx_model.specs.declared.sequence.ConstantKind.{ConstantKind}
use Rattle.cxx_model.specs.declared.sequence.ConstantKind.TheVariants as constant
use Rattle.cxx_model.specs.Types.Trees.{CxxType, fundamental, class_type, array_of, qualified}
use Rattle.cxx_meaning.specs.Conversions.Kinds.{is_array}
use Rattle.cxx_meaning.specs.Conversions.Standard.{CxxOperand}
use Rattle.cxx_reading.specs.declared.role.Role.TheVariants as role
use Rattle.cxx_reading.specs.Declarators.{no_cv}
use Rattle.cxx_reading.specs.Plain.{is_empty, target_or, type_or_void}
use Rattle.cxx_reading.specs.Trees.{CxxPath, CxxTree, CxxTrees, no_trees, tree_then, Label}
use Rattle.cxx_reading.specs.Words.{Word, Tags, keyword_word, name_word, open_word, close_word, open_bracket_word, close_bracket_word, comma_word, less_word, greater_word, separated, within, declared}
use Rattle.cxx_phrase_text.specs.declared.form.Form.{Form}
use Rattle.cxx_phrase_text.specs.declared.form.Form.TheVariants as form
use Rattle.cxx_phrase_text.specs.declared.form.Standing.{Standing}
use Rattle.cxx_phrase_text.specs.declared.form.Standing.TheVariants as standing
use Rattle.cxx_phrase_text.specs.Forms.{form_of}

-- An expression as it is written, and how it stands as a part of another.
pub record Phrase : Type 0 where
  pub standing : Standing
  pub words : List Word

abbrev pub primary : List Word → Phrase
primary words = record { standing = standing.Primary; words = words }

abbrev pub operation : List Word → Phrase
operation words = record { standing = standing.Operation; words = words }

-- a part that there is not
abbrev pub nothing : Phrase
nothing = primary []

abbrev pub phrase_or_nothing : Option Phrase → Phrase
phrase_or_nothing None = nothing
phrase_or_nothing (Some phrase) = phrase

abbrev pub part : List Phrase → ℕ → Phrase
part parts n = phrase_or_nothing (slice_get parts n)

abbrev pub last_part : List Phrase → Phrase
last_part parts = part parts (length parts - 1)

-- ---- parentheses (5.1)

abbrev pub is_primary : Standing → Bool
is_primary standing.Primary = true
is_primary _ = false

abbrev pub is_comma : Standing → Bool
is_comma standing.Comma = true
is_comma _ = false

-- an operand of an operator, and what stands before `[` and before the `(` of a call
abbrev pub operand : Phrase → List Word
operand phrase = within (not (is_primary phrase.standing)) phrase.words

-- 5.2.2, 8.5, 8.5.1: an element of a list, and what stands behind the `=` of an object; a comma would end it
abbrev pub element : Phrase → List Word
element phrase = within (is_comma phrase.standing) phrase.words

abbrev pub elements : List Phrase → List Word
elements parts = separated (map element parts)

-- ---- names (5.1)

-- 3.4.3.1
abbrev pub scope_word : Word
scope_word = record { role = role.Joins; spelling = codes "::" }

-- 9
abbrev pub is_class : CxxType → Bool
is_class (class_type n) = true
is_class _ = false

abbrev pub has_class : Option CxxType → Bool
has_class None = false
has_class (Some of) = is_class of

abbrev pub scope_words : Tags → CxxType → Bool → List Word
scope_words tags of true = declared tags no_cv of [] ++ scope_word ∷ []
scope_words tags of false = []

-- 3.4.3.1, 9.4: a static member stands behind its class, and so does what is named behind a class
abbrev pub named_words : Tags → (ℕ → List ℕ) → Option CxxType → ℕ → List Word
named_words tags name of number = scope_words tags (type_or_void of) (has_class of) ++ name_word (name number) ∷ []

-- ---- calls (5.2.2)

-- Whether a function is called by its name alone (13.3.1.1.1), and not as a member of an object or through a pointer.
abbrev pub is_by_name : Option CxxPath → Bool
is_by_name None = false
is_by_name (Some path) = true

-- The function that is named, and else the expression that gives it.
abbrev pub callee_words : Tags → (ℕ → List ℕ) → Option CxxType → ℕ → Bool → List Phrase → List Word
callee_words tags name of number true parts = named_words tags name of number
callee_words tags name of number false parts = operand (part parts 0)

abbrev pub arguments : {A : Type 0} → Bool → List A → List A
arguments true parts = parts
arguments false parts = drop 1 parts

abbrev pub call_words : Tags → (ℕ → List ℕ) → Option CxxType → ℕ → Bool → List Phrase → List Word
call_words tags name of number is_by_name parts = callee_words tags name of number is_by_name parts ++ (open_word ∷ (elements (arguments is_by_name parts) ++ close_word ∷ []))

-- ---- casts (5.2.3, 5.2.9 to 5.2.11)

-- a conversion that nothing spells is written as a static cast
abbrev pub cast_keyword : List ℕ → List ℕ
cast_keyword [] = codes "static_cast"
cast_keyword (b ∷ spelling) = b ∷ spelling

abbrev pub cast_words : Tags → List ℕ → CxxType → List Word → List Word
cast_words tags keyword of inner = keyword_word keyword ∷ (less_word ∷ (declared tags no_cv of [] ++ (greater_word ∷ (open_word ∷ (inner ++ close_word ∷ [])))))

-- a value of a type that is no class, of which nothing is written
abbrev pub zero_words : Tags → CxxType → List Word
zero_words tags of = cast_words tags (codes "static_cast") of (keyword_word (codes "0") ∷ [])

-- ---- operators

-- 5.3
abbrev pub prefix_word : List ℕ → Word
prefix_word spelling = record { role = role.Leads; spelling = spelling }

-- 5.2.6
abbrev pub postfix_word : List ℕ → Word
postfix_word spelling = record { role = role.Follows; spelling = spelling }

abbrev pub spells_comma : List ℕ → Bool
spells_comma (b ∷ []) = b == 44
spells_comma _ = false

-- 5.6 to 5.15, 5.17, 5.18
abbrev pub infix_word : List ℕ → Word
infix_word spelling = if spells_comma spelling then comma_word else keyword_word spelling

abbrev pub infix_standing : List ℕ → Standing
infix_standing spelling = if spells_comma spelling then standing.Comma else standing.Operation

-- 5.2.1
abbrev pub subscript_words : List Phrase → List Word
subscript_words parts = operand (part parts 0) ++ (open_bracket_word ∷ ((part parts 1).words ++ close_bracket_word ∷ []))

-- 5.2.5
abbrev pub dot_word : Word
dot_word = record { role = role.Joins; spelling = codes "." }

-- with the class that qualifies the member, where there is one (3.4.5)
abbrev pub member_words : Tags → (ℕ → List ℕ) → Option CxxType → Option ℕ → List Word → List Word
member_words tags name of target object = object ++ (dot_word ∷ named_words tags name of (target_or target))

-- what a pointer points to, as an object
unfoldable pub pointed_words : List Phrase → List Word
pointed_words parts = within true (prefix_word (codes "*") ∷ operand (part parts 0))

-- 5.16
abbrev pub conditional_words : List Phrase → List Word
conditional_words parts = operand (part parts 0) ++ (keyword_word (codes "?") ∷ (operand (part parts 1) ++ (keyword_word (codes ":") ∷ operand (part parts 2))))

-- ---- initializers (8.5)

abbrev pub spells_brace : List ℕ → Bool
spells_brace (b ∷ []) = b == 123
spells_brace _ = false

abbrev pub is_character_base : Base → Bool
is_character_base base.Char = true
is_character_base base.SignedChar = true
is_character_base base.UnsignedChar = true
is_character_base base.WideChar = true
is_character_base _ = false

abbrev pub is_plain_character : CxxType → Bool
is_plain_character (fundamental of) = is_character_base of
is_plain_character _ = false

-- 3.9.3: cv words aside
abbrev pub is_character : CxxType → Bool
is_character (qualified cv of) = is_plain_character of
is_character of = is_plain_character of

-- 8.5.2: an array that a string initializes
abbrev pub holds_string : CxxType → Bool
holds_string (array_of of bound) = is_character of
holds_string _ = false

abbrev pub is_string_kind : ConstantKind → Bool
is_string_kind constant.NarrowText = true
is_string_kind constant.WideText = true
is_string_kind _ = false

abbrev pub is_string : Option CxxOperand → Bool
is_string None = false
is_string (Some operand) = is_string_kind operand.constant

-- 2.13.4: whether trees are one string
abbrev pub is_one_string : CxxTrees → Bool
is_one_string (tree_then label children no_trees) = is_string label.operand
is_one_string _ = false

-- 8.5: The braces of an array are written, but those round its string and round a value are not.
abbrev pub has_braces : CxxType → Bool → Bool
has_braces of is_one_string = is_array of && not (is_one_string && holds_string of)

-- whether a list in braces is written as one
abbrev pub is_braced : Label → Bool → Bool
is_braced label is_one_string = spells_brace label.spelling && has_braces (type_or_void label.of) is_one_string

abbrev pub braced : Bool → List Phrase → Phrase
braced true parts = primary (keyword_word (codes "{") ∷ (elements parts ++ keyword_word (codes "}") ∷ []))
braced false parts = part parts 0

-- ---- an expression

-- An expression of a form, given its parts. A parenthesis that was read writes nothing.
abbrev pub phrase_as : Form → Tags → (ℕ → List ℕ) → Label → Bool → List Phrase → Phrase
phrase_as form.Spelled tags name label is_one_string parts = primary (keyword_word label.spelling ∷ [])
phrase_as form.Name tags name label is_one_string parts = primary (named_words tags name label.of (target_or label.target))
phrase_as form.Parenthesis tags name label is_one_string parts = part parts 0
phrase_as form.Call tags name label is_one_string parts = primary (call_words tags name label.of (target_or label.target) (is_by_name label.path) parts)
phrase_as form.Zero tags name label is_one_string parts = primary (zero_words tags (type_or_void label.of))
phrase_as form.Member tags name label is_one_string parts = primary (member_words tags name label.of label.target (operand (part parts 0)))
phrase_as form.Arrow tags name label is_one_string parts = primary (member_words tags name label.of label.target (pointed_words parts))
phrase_as form.Subscript tags name label is_one_string parts = primary (subscript_words parts)
phrase_as form.Postfix tags name label is_one_string parts = operation (operand (part parts 0) ++ postfix_word label.spelling ∷ [])
phrase_as form.Prefix tags name label is_one_string parts = operation (prefix_word label.spelling ∷ operand (part parts 0))
phrase_as form.Cast tags name label is_one_string parts = primary (cast_words tags (cast_keyword label.spelling) (type_or_void label.of) (last_part parts).words)
phrase_as form.Infix tags name label is_one_string parts = record { standing = infix_standing label.spelling; words = operand (part parts 0) ++ (infix_word label.spelling ∷ operand (part parts 1)) }
phrase_as form.Conditional tags name label is_one_string parts = operation (conditional_words parts)
phrase_as form.Initial tags name label is_one_string parts = braced (is_braced label is_one_string) parts

-- The words of a tree depend on the labels in it, on the names of classes and enumerations, and on the name that each
-- declaration has in the text.
abbrev pub phrases : Tags → (ℕ → List ℕ) → CxxTrees → List Phrase
phrases tags name no_trees = []
phrases tags name (tree_then label children next) = phrase_as (form_of label.production) tags name label (is_one_string children) (phrases tags name children) ∷ phrases tags name next

abbrev pub phrase_of : Tags → (ℕ → List ℕ) → CxxTree → Phrase
phrase_of tags name tree = phrase_as (form_of tree.label.production) tags name tree.label (is_one_string tree.children) (phrases tags name tree.children)

-- an expression
abbrev pub phrase_words : Tags → (ℕ → List ℕ) → CxxTree → List Word
phrase_words tags name tree = (phrase_of tags name tree).words

-- 8.5: what initializes an object, behind its declarator; the direct form is written as the other one
abbrev pub initializer_words : Tags → (ℕ → List ℕ) → CxxTree → List Word
initializer_words tags name tree = if is_empty tree.label.spelling then [] else keyword_word (codes "=") ∷ element (phrase_of tags name tree)
