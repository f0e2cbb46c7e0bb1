-- Statements by their numbers, part by part as they are written.
use Rattle.std.specs.Prelude.{ℕ, ℤ, ◌≡◌, ◌<◌, ◌+◌, ◌*◌, Bool, List, ◌++◌, length, map, Option}
use Rattle.std.specs.Option.{option_map}
use Rattle.cxx_model.specs.declared.tree.Node.{Node}
use Rattle.cxx_model.specs.declared.types.FactId.{FactId}
use Rattle.cxx_model.specs.declared.types.TreeId.{TreeId}
use Rattle.cxx_model.specs.Facts.Declarations.{CxxFact, facts_at}
use Rattle.cxx_reading.specs.Trees.{CxxTree, CxxTrees, in_turn}
use Rattle.cxx_tree.specs.Arena.{AreTreesBelow, label_at, tree_in, trees_in}
use Rattle.cxx_tree.specs.Held.{Held, trees}
use Rattle.cxx_phrase_text.specs.Named.{NamedState, trees_of}
use Rattle.cxx_statement_text.specs.declared.form.Form.{Form}
use Rattle.cxx_statement_text.specs.Objects.{Scene}
use Rattle.cxx_statement_text.specs.Statements.{Lines, Statement, inner_as, lines_of, lines_or_empty, object_line, statement, statement_or_nothing}

-- by what the statements of a state are written
abbrev pub scene_of : NamedState → (CxxTree → ℤ) → Scene
scene_of named value = record { tags = named.tags; name = named.name; facts = facts_at named.held.types named.held.graph.facts; value = value }

-- what is declared
abbrev pub facts_in : Held → List CxxFact
facts_in held = facts_at held.types held.graph.facts

-- trees by their numbers, in turn
abbrev pub parts_in : Held → List TreeId → CxxTrees
parts_in held numbers = in_turn (trees_in (trees held) numbers)

abbrev pub number_in : FactId → ℕ
number_in number = number.0

-- the parts of the tree with a number
abbrev pub children_at : Held → TreeId → CxxTrees
children_at held number = (tree_in (trees held) number.0).children

-- Trees that stand for those of a list, and are there.
pub record AreTrees (held : Held) (numbers : List TreeId) (wanted : List CxxTree) : Type 0 where
  pub is : trees_in (trees held) numbers ≡ wanted
  pub below : AreTreesBelow (length (trees held)) numbers

-- Trees were added to a list of them.
pub record AddsTrees (held : Held) (old new : List TreeId) (added : List CxxTree) : Type 0 where
  pub is : trees_in (trees held) new ≡ trees_in (trees held) old ++ added
  pub below : AreTreesBelow (length (trees held)) old → AreTreesBelow (length (trees held)) new

-- the line of the object with a number
unfoldable pub object_line_at : NamedState → (CxxTree → ℤ) → Bool → ℕ → TreeId → Lines
object_line_at named value static depth number = object_line (scene_of named value) static depth (tree_in (trees_of named) number.0)

-- ---- statements

-- the statement with a number
unfoldable pub statement_at : NamedState → (CxxTree → ℤ) → TreeId → Statement
statement_at named value number = statement (scene_of named value) (tree_in (trees_of named) number.0)

abbrev pub statements_at : NamedState → (CxxTree → ℤ) → List TreeId → List Statement
statements_at named value numbers = map (statement_at named value) numbers

-- a statement that may be missing
abbrev pub statement_found : NamedState → (CxxTree → ℤ) → Option TreeId → Statement
statement_found named value number = statement_or_nothing (option_map (statement_at named value) number)

-- the statement of a node, whose form is given
abbrev pub inner_in : NamedState → (CxxTree → ℤ) → Form → Node → ℕ → Lines
inner_in named value form node depth = inner_as form (scene_of named value) (label_at named.held.types node) (parts_in named.held node.children) (statements_at named value node.children) depth

-- the lines of the statement with a number, and those that it has behind a label
unfoldable pub lines_at : NamedState → (CxxTree → ℤ) → ℕ → TreeId → Lines
lines_at named value depth number = lines_of (statement_at named value number) depth

unfoldable pub lines_or_empty_at : NamedState → (CxxTree → ℤ) → ℕ → TreeId → Lines
lines_or_empty_at named value depth number = lines_or_empty (statement_at named value number) depth

-- ---- depths

-- The depths of what stands in a statement are numbers of 64 bits.
abbrev pub HasRoom : ℕ → TreeId → Type 0
HasRoom depth number = depth + 8 * number.0 < 9223372036854775808

-- the same of a statement at a depth that is greater by some
abbrev pub HasRoomWithin : ℕ → ℕ → TreeId → Type 0
HasRoomWithin more depth number = depth + 8 * number.0 < 9223372036854775808 + more
