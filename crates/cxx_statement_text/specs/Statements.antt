-- The lines of a statement in the plain form.
use Rattle.std.specs.Prelude.{ℕ, zero, suc, Bool, true, false, if◌then◌else◌, nat_eq, List, [], ◌∷◌, ◌++◌, flat_map, Option, Some, None, codes}
use Rattle.std.specs.List.{slice_get}
use Rattle.cxx_model.specs.Facts.Declarations.{CxxFact}
use Rattle.cxx_reading.specs.declared.role.Role.TheVariants as role
use Rattle.cxx_reading.specs.Plain.{type_or_void}
use Rattle.cxx_reading.specs.Productions as read
use Rattle.cxx_reading.specs.Trees.{CxxTree, CxxTrees, no_trees, tree_then, Label}
use Rattle.cxx_reading.specs.Words.{Word, keyword_word, open_word, close_word, semicolon_word, value_words}
use Rattle.cxx_phrase_text.specs.Phrases.{cast_keyword, cast_words, phrase_words, prefix_word}
use Rattle.cxx_statement_text.specs.declared.form.Form.{Form}
use Rattle.cxx_statement_text.specs.declared.form.Form.TheVariants as form
use Rattle.cxx_statement_text.specs.Forms.{form_of}
use Rattle.cxx_statement_text.specs.Objects.{Scene, first_name, is_found, is_static, object_words, printed_in}
use Rattle.cxx_statement_text.specs.Productions as production

-- ---- lines

abbrev pub Lines : Type 0
Lines = List (List Word)

-- two spaces for each brace that is open
abbrev pub indent : ℕ → List Word
indent zero = []
indent (suc depth) = record { role = role.Leads; spelling = codes "  " } ∷ indent depth

abbrev pub line : ℕ → List Word → Lines
line depth words = (indent depth ++ words) ∷ []

abbrev pub open_brace : Word
open_brace = keyword_word (codes "{")

abbrev pub close_brace : Word
close_brace = keyword_word (codes "}")

abbrev pub opened : ℕ → Lines
opened depth = line depth (open_brace ∷ [])

abbrev pub closed : ℕ → Lines
closed depth = line depth (close_brace ∷ [])

abbrev pub empty : ℕ → Lines
empty depth = line depth (semicolon_word ∷ [])

-- ---- a statement as a part of another

pub record Statement : Type 0 where
  -- whether it is one block
  pub is_block : Bool
  -- whether nothing of it is written
  pub is_nothing : Bool
  -- its lines at a depth; of a block those in its braces
  pub inner : ℕ → Lines

abbrev pub no_lines : ℕ → Lines
no_lines depth = []

abbrev pub nothing : Statement
nothing = record { is_block = false; is_nothing = true; inner = no_lines }

abbrev pub statement_or_nothing : Option Statement → Statement
statement_or_nothing None = nothing
statement_or_nothing (Some statement) = statement

abbrev pub part : List Statement → ℕ → Statement
part parts n = statement_or_nothing (slice_get parts n)

-- a statement in braces
abbrev pub braced : Statement → ℕ → Lines
braced statement depth = opened depth ++ (statement.inner (suc depth) ++ closed depth)

abbrev pub lines_of : Statement → ℕ → Lines
lines_of statement depth = if statement.is_block then braced statement depth else statement.inner depth

abbrev pub all_lines : List Statement → ℕ → Lines
all_lines parts depth = flat_map (λ statement. lines_of statement depth) parts

-- 6.1: what stands behind a label is a statement
abbrev pub lines_or_empty : Statement → ℕ → Lines
lines_or_empty statement depth = if statement.is_nothing then empty depth else lines_of statement depth

abbrev pub labelled_lines : List Statement → ℕ → Lines
labelled_lines parts depth = flat_map (λ statement. lines_or_empty statement depth) parts

-- ---- expressions and constants among the parts

abbrev pub after : CxxTrees → CxxTrees
after no_trees = no_trees
after (tree_then label children next) = next

-- the expression that stands first
abbrev pub expression_words : Scene → CxxTrees → List Word
expression_words scene no_trees = []
expression_words scene (tree_then label children next) = phrase_words scene.tags scene.name (record { label = label; children = children })

-- the one that stands first, where it is no expression statement, of which nothing or its expression is written
abbrev pub clause_words : Scene → CxxTrees → List Word
clause_words scene no_trees = []
clause_words scene (tree_then label children next) =
    if nat_eq label.production production.expression_statement then expression_words scene children else phrase_words scene.tags scene.name (record { label = label; children = children })

-- the value of the constant that stands first
abbrev pub constant_words : Scene → CxxTrees → List Word
constant_words scene no_trees = []
constant_words scene (tree_then label children next) = value_words (scene.value (record { label = label; children = children }))

-- ---- declarations

abbrev pub object_line : Scene → Bool → ℕ → CxxTree → Lines
object_line scene static depth tree = line depth (object_words scene static tree ++ semicolon_word ∷ [])

abbrev pub object_lines : Scene → Bool → ℕ → List CxxTree → Lines
object_lines scene static depth trees = flat_map (object_line scene static depth) trees

-- those of the parts of a declaration statement: a line for each object
abbrev pub declaration_lines : Scene → ℕ → CxxTrees → Lines
declaration_lines scene depth children = object_lines scene (is_static children) depth (printed_in scene.facts children)

abbrev pub has_none : {A : Type 0} → List A → Bool
has_none [] = true
has_none (x ∷ xs) = false

abbrev pub has_several : {A : Type 0} → List A → Bool
has_several (x ∷ y ∷ xs) = true
has_several _ = false

-- ---- conditions (6.4)

-- The parts of the declaration statement that stands first as a condition, alone or below conversions of its object.
abbrev pub declared_in : CxxTrees → Option CxxTrees
declared_in no_trees = None
declared_in (tree_then label children next) =
    if nat_eq label.production production.declaration_statement then Some children else (
    if nat_eq label.production read.cast then declared_in children else None)

-- that object, converted
abbrev pub converted_words : Scene → CxxTrees → List Word
converted_words scene no_trees = []
converted_words scene (tree_then label children next) =
    if nat_eq label.production production.declaration_statement then first_name scene (printed_in scene.facts children) else
    cast_words scene.tags (cast_keyword label.spelling) (type_or_void label.of) (converted_words scene children)

abbrev pub condition_by : Scene → CxxTrees → Option CxxTrees → List Word
condition_by scene condition None = expression_words scene condition
condition_by scene condition (Some declaration) = converted_words scene condition

abbrev pub condition_words : Scene → CxxTrees → List Word
condition_words scene condition = condition_by scene condition (declared_in condition)

abbrev pub declared_lines : Scene → ℕ → Option CxxTrees → Lines
declared_lines scene depth None = []
declared_lines scene depth (Some declaration) = declaration_lines scene depth declaration

-- a keyword with a condition before a brace
abbrev pub head_words : List ℕ → List Word → List Word
head_words keyword condition = keyword_word keyword ∷ (open_word ∷ (condition ++ close_word ∷ (open_brace ∷ [])))

-- ---- selection (6.4)

abbrev pub otherwise_words : List Word
otherwise_words = close_brace ∷ (keyword_word (codes "else") ∷ (open_brace ∷ []))

abbrev pub else_lines : ℕ → Option Statement → Lines
else_lines depth None = closed depth
else_lines depth (Some other) = line depth otherwise_words ++ (other.inner (suc depth) ++ closed depth)

abbrev pub if_lines : Scene → CxxTrees → List Statement → ℕ → Lines
if_lines scene children parts depth =
    declared_lines scene depth (declared_in children) ++
    (line depth (head_words (codes "if") (condition_words scene children)) ++
    ((part parts 1).inner (suc depth) ++ else_lines depth (slice_get parts 2)))

abbrev pub switch_lines : Scene → CxxTrees → List Statement → ℕ → Lines
switch_lines scene children parts depth =
    declared_lines scene depth (declared_in children) ++
    (line depth (head_words (codes "switch") (condition_words scene children)) ++
    ((part parts 1).inner (suc depth) ++ closed depth))

-- ---- iteration (6.5)

abbrev pub true_words : List Word
true_words = keyword_word (codes "true") ∷ []

abbrev pub break_words : List Word
break_words = keyword_word (codes "break") ∷ semicolon_word ∷ []

-- What a loop does in each round. A condition that declares an object is true, and stands there.
abbrev pub round_lines : Scene → CxxTrees → Option CxxTrees → Statement → ℕ → Lines
round_lines scene condition None statement depth = statement.inner depth
round_lines scene condition (Some declaration) statement depth =
    declaration_lines scene depth declaration ++
    (line depth (head_words (codes "if") (prefix_word (codes "!") ∷ converted_words scene condition)) ++
    (line (suc depth) break_words ++
    (closed depth ++ braced statement depth)))

abbrev pub unless_declared : List Word → Option CxxTrees → List Word
unless_declared words None = words
unless_declared words (Some declaration) = true_words

abbrev pub while_lines : Scene → CxxTrees → List Statement → ℕ → Lines
while_lines scene children parts depth =
    line depth (head_words (codes "while") (unless_declared (expression_words scene children) (declared_in children))) ++
    (round_lines scene children (declared_in children) (part parts 1) (suc depth) ++ closed depth)

abbrev pub do_end : List Word → List Word
do_end condition = close_brace ∷ (keyword_word (codes "while") ∷ (open_word ∷ (condition ++ close_word ∷ (semicolon_word ∷ []))))

abbrev pub do_lines : Scene → CxxTrees → List Statement → ℕ → Lines
do_lines scene children parts depth =
    line depth (keyword_word (codes "do") ∷ (open_brace ∷ [])) ++
    ((part parts 0).inner (suc depth) ++ line depth (do_end (expression_words scene (after children))))

-- the objects that the first part of a `for` declares
abbrev pub first_objects : List CxxFact → CxxTrees → List CxxTree
first_objects all no_trees = []
first_objects all (tree_then label children next) =
    if nat_eq label.production production.declaration_statement then printed_in all children else []

abbrev pub is_first_static : CxxTrees → Bool
is_first_static no_trees = false
is_first_static (tree_then label children next) = is_static children

-- one object stands in the first part, and several stand before the statement
abbrev pub one_object : Scene → Bool → List CxxTree → List Word
one_object scene static (tree ∷ []) = object_words scene static tree
one_object scene static _ = []

abbrev pub first_words : Scene → CxxTrees → List Word
first_words scene no_trees = []
first_words scene (tree_then label children next) =
    if nat_eq label.production production.declaration_statement then one_object scene (is_static children) (printed_in scene.facts children) else clause_words scene (tree_then label children no_trees)

abbrev pub several_lines : Scene → Bool → ℕ → List CxxTree → Lines
several_lines scene static depth trees = if has_several trees then object_lines scene static depth trees else []

abbrev pub for_words : List Word → List Word → List Word → List Word
for_words first condition step =
    keyword_word (codes "for") ∷ (open_word ∷ (first ++ semicolon_word ∷ (condition ++ semicolon_word ∷ (step ++ close_word ∷ (open_brace ∷ [])))))

abbrev pub for_lines : Scene → CxxTrees → List Statement → ℕ → Lines
for_lines scene children parts depth =
    several_lines scene (is_first_static children) depth (first_objects scene.facts children) ++
    (line depth (for_words (first_words scene children) (unless_declared (clause_words scene (after children)) (declared_in (after children))) (clause_words scene (after (after children)))) ++
    (round_lines scene (after children) (declared_in (after children)) (part parts 3) (suc depth) ++ closed depth))

-- ---- labels (6.1)

abbrev pub colon_word : Word
colon_word = record { role = role.Follows; spelling = codes ":" }

abbrev pub label_words : Scene → List ℕ → CxxTrees → List Word
label_words scene keyword children = keyword_word keyword ∷ (constant_words scene children ++ colon_word ∷ [])

-- labels stand at the depth of the statements
abbrev pub label_lines : Scene → List ℕ → CxxTrees → List Statement → ℕ → Lines
label_lines scene [] children parts depth = labelled_lines parts depth
label_lines scene (b ∷ spelling) children parts depth = line depth (label_words scene (b ∷ spelling) children)

-- ---- a statement

abbrev pub inner_as : Form → Scene → Label → CxxTrees → List Statement → ℕ → Lines
inner_as form.Block scene label children parts depth = all_lines parts depth
inner_as form.Declaration scene label children parts depth = declaration_lines scene depth children
inner_as form.Expression scene label children parts depth = line depth (expression_words scene children ++ semicolon_word ∷ [])
inner_as form.If scene label children parts depth = if_lines scene children parts depth
inner_as form.Switch scene label children parts depth = switch_lines scene children parts depth
inner_as form.Label scene label children parts depth = label_lines scene label.spelling children parts depth
inner_as form.While scene label children parts depth = while_lines scene children parts depth
inner_as form.Do scene label children parts depth = do_lines scene children parts depth
inner_as form.For scene label children parts depth = for_lines scene children parts depth
inner_as form.Jump scene label children parts depth = line depth (keyword_word label.spelling ∷ semicolon_word ∷ [])
inner_as form.Return scene label children parts depth = line depth (keyword_word (codes "return") ∷ (expression_words scene children ++ semicolon_word ∷ []))

-- A statement that declares an object in its condition, and a `for` that declares several, are blocks.
abbrev pub is_block_as : Form → List CxxFact → CxxTrees → Bool
is_block_as form.Block all children = true
is_block_as form.If all children = is_found (declared_in children)
is_block_as form.Switch all children = is_found (declared_in children)
is_block_as form.For all children = has_several (first_objects all children)
is_block_as _ all children = false

abbrev pub is_nothing_as : Form → List CxxFact → CxxTrees → Bool
is_nothing_as form.Declaration all children = has_none (printed_in all children)
is_nothing_as _ all children = false

-- a statement of a form, given its parts
abbrev pub statement_as : Form → Scene → Label → CxxTrees → List Statement → Statement
statement_as form scene label children parts = record {
  is_block = is_block_as form scene.facts children;
  is_nothing = is_nothing_as form scene.facts children;
  inner = inner_as form scene label children parts;
}

abbrev pub statements : Scene → CxxTrees → List Statement
statements scene no_trees = []
statements scene (tree_then label children next) = statement_as (form_of label.production) scene label children (statements scene children) ∷ statements scene next

abbrev pub statement : Scene → CxxTree → Statement
statement scene tree = statement_as (form_of tree.label.production) scene tree.label tree.children (statements scene tree.children)

-- the lines of a statement at a depth
unfoldable pub statement_lines : Scene → ℕ → CxxTree → Lines
statement_lines scene depth tree = lines_of (statement scene tree) depth

-- 6, 8.4: those in the braces of a block, as the body of a function has them
unfoldable pub body_lines : Scene → ℕ → CxxTree → Lines
body_lines scene depth tree = (statement scene tree).inner depth
