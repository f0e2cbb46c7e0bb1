-- The lines of a plain form, as the code names them.
use Rattle.std.specs.Prelude.{ℕ, ◌≡◌, ◌<◌, List, [], ◌∷◌, ◌++◌, length, map, Option, Some, None}
use Rattle.cxx_model.specs.declared.types.EnumId.{EnumId}
use Rattle.cxx_model.specs.declared.types.FactId.{FactId}
use Rattle.cxx_form.specs.Order as text
use Rattle.cxx_reading.specs.Trees.{CxxTree}
use Rattle.cxx_tree.specs.Arena.{tree_in}
use Rattle.cxx_form.specs.declared.lines.Line.{Line}
use Rattle.cxx_form.specs.declared.lines.Line.TheVariants as line

abbrev pub line_at : List CxxTree → Line → text.Line
line_at trees (line.Class number) = text.class_line number.0
line_at trees (line.Enumeration n number) = text.enumeration_line n.0 number.0
line_at trees (line.ClassDefinition number scope) = text.class_definition number.0 scope.0
line_at trees (line.Function number) = text.function_line number.0
line_at trees (line.Object tree number) = text.object_line (tree_in trees tree.0) number.0
line_at trees (line.Definition tree) = text.definition_lines (tree_in trees tree.0)

abbrev pub lines_at : List CxxTree → List Line → List text.Line
lines_at trees lines = map (line_at trees) lines

abbrev pub number_in : FactId → ℕ
number_in number = number.0

abbrev pub numbers_in : List FactId → List ℕ
numbers_in numbers = map number_in numbers

abbrev pub enumeration_in : EnumId → ℕ
enumeration_in n = n.0

-- ---- trees of lines that are there

abbrev pub IsLineBelow : ℕ → Line → Type 0
IsLineBelow count (line.Object tree number) = tree.0 < count
IsLineBelow count (line.Definition tree) = tree.0 < count
IsLineBelow count _ = Unit {0}

abbrev pub IsGivenBelow : ℕ → Option Line → Type 0
IsGivenBelow count None = Unit {0}
IsGivenBelow count (Some one) = IsLineBelow count one

abbrev pub AreLinesBelow : ℕ → List Line → Type 0
AreLinesBelow count [] = Unit {0}
AreLinesBelow count (one ∷ others) = IsLineBelow count one × AreLinesBelow count others

-- Lines were added to a list of them.
pub record AddsLines (trees : List CxxTree) (old new : List Line) (added : List text.Line) : Type 0 where
  pub is : lines_at trees new ≡ lines_at trees old ++ added
  pub below : AreLinesBelow (length trees) old → AreLinesBelow (length trees) new

-- ---- the lines of objects

abbrev pub object_line_by : CxxTree → Option ℕ → List text.Line
object_line_by tree None = []
object_line_by tree (Some first) = text.object_line tree first ∷ []
