-- The calls of statements that are listed, in the order of the text.
use Rattle.std.specs.Prelude.{ℕ, if◌then◌else◌, nat_eq, List, [], ◌∷◌, ◌++◌, flat_map, Option, Some, None}
use Rattle.std.specs.List.{slice_get}
use Rattle.cxx_model.specs.Facts.Declarations.{CxxFact}
use Rattle.cxx_reading.specs.Trees.{CxxTree, CxxTrees, no_trees, tree_then, Label}
use Rattle.cxx_phrase_text.specs.Calls.{CallOfText, all_of, calls_of}
use Rattle.cxx_statement_text.specs.declared.form.Form.{Form}
use Rattle.cxx_statement_text.specs.declared.form.Form.TheVariants as form
use Rattle.cxx_statement_text.specs.Forms.{form_of}
use Rattle.cxx_statement_text.specs.Objects.{initializers_in, printed_in}
use Rattle.cxx_statement_text.specs.Productions as production
use Rattle.cxx_statement_text.specs.Statements.{after, declared_in}

-- ---- expressions

-- those of the expression that stands first
abbrev pub calls_first : CxxTrees → List CallOfText
calls_first no_trees = []
calls_first (tree_then label children next) = calls_of (record { label = label; children = children })

-- the same, where it may be an expression statement, of which nothing or its expression is written
abbrev pub clause_calls : CxxTrees → List CallOfText
clause_calls no_trees = []
clause_calls (tree_then label children next) =
    if nat_eq label.production production.expression_statement then calls_first children else calls_of (record { label = label; children = children })

-- ---- declarations

abbrev pub first_calls : List CxxTree → List CallOfText
first_calls [] = []
first_calls (tree ∷ others) = calls_of tree

-- those of the initializer of an object
abbrev pub object_calls : CxxTree → List CallOfText
object_calls tree = first_calls (initializers_in tree.children)

-- those of the objects that are written, among the parts of a declaration statement
abbrev pub declaration_calls : List CxxFact → CxxTrees → List CallOfText
declaration_calls all children = flat_map object_calls (printed_in all children)

-- ---- conditions (6.4)

abbrev pub condition_by : List CxxFact → CxxTrees → Option CxxTrees → List CallOfText
condition_by all condition None = calls_first condition
condition_by all condition (Some declaration) = declaration_calls all declaration

abbrev pub condition_calls : List CxxFact → CxxTrees → List CallOfText
condition_calls all condition = condition_by all condition (declared_in condition)

-- In the head of a `for` stands no condition that declares an object, and in its body stands such a one alone (6.5.3).
abbrev pub head_calls : CxxTrees → Option CxxTrees → List CallOfText
head_calls condition None = clause_calls condition
head_calls condition (Some declaration) = []

abbrev pub round_calls : List CxxFact → Option CxxTrees → List CallOfText
round_calls all None = []
round_calls all (Some declaration) = declaration_calls all declaration

-- the first part of a `for`, an expression or a declaration
abbrev pub beginning_calls : List CxxFact → CxxTrees → List CallOfText
beginning_calls all no_trees = []
beginning_calls all (tree_then label children next) =
    if nat_eq label.production production.declaration_statement then declaration_calls all children else clause_calls (tree_then label children no_trees)

-- ---- statements

abbrev pub part_or_none : Option (List CallOfText) → List CallOfText
part_or_none None = []
part_or_none (Some calls) = calls

-- those of a part, given those of all
abbrev pub part : List (List CallOfText) → ℕ → List CallOfText
part parts n = part_or_none (slice_get parts n)

abbrev pub for_calls : List CxxFact → CxxTrees → List (List CallOfText) → List CallOfText
for_calls all children parts =
    beginning_calls all children ++ (head_calls (after children) (declared_in (after children)) ++ (clause_calls (after (after children)) ++ (round_calls all (declared_in (after children)) ++ part parts 3)))

-- labels have values alone; what stands behind them is a part as they are
abbrev pub label_calls : List ℕ → List (List CallOfText) → List CallOfText
label_calls [] parts = all_of parts
label_calls (b ∷ spelling) parts = []

-- the calls of a statement of a form, given those of its parts
abbrev pub calls_as : Form → List CxxFact → Label → CxxTrees → List (List CallOfText) → List CallOfText
calls_as form.Block all label children parts = all_of parts
calls_as form.Declaration all label children parts = declaration_calls all children
calls_as form.Expression all label children parts = calls_first children
calls_as form.If all label children parts = condition_calls all children ++ (part parts 1 ++ part parts 2)
calls_as form.Switch all label children parts = condition_calls all children ++ part parts 1
calls_as form.Label all label children parts = label_calls label.spelling parts
calls_as form.While all label children parts = condition_calls all children ++ part parts 1
calls_as form.Do all label children parts = part parts 0 ++ calls_first (after children)
calls_as form.For all label children parts = for_calls all children parts
calls_as form.Jump all label children parts = []
calls_as form.Return all label children parts = calls_first children

abbrev pub calls_each : List CxxFact → CxxTrees → List (List CallOfText)
calls_each all no_trees = []
calls_each all (tree_then label children next) = calls_as (form_of label.production) all label children (calls_each all children) ∷ calls_each all next

-- the calls of a statement, in the order of its lines
unfoldable pub statement_calls : List CxxFact → CxxTree → List CallOfText
statement_calls all tree = calls_as (form_of tree.label.production) all tree.label tree.children (calls_each all tree.children)
