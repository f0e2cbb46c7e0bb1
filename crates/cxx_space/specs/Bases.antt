-- The bases of a class, in the code.
use Rattle.std.specs.Prelude.{List}
use Rattle.cxx_model.specs.declared.types.TreeId.{TreeId}
use Rattle.cxx_reading.specs.Reads as reads
use Rattle.cxx_reading.specs.Trees.{CxxTree}
use Rattle.cxx_cursor.specs.declared.turn.Turn.{Turn}
use Rattle.cxx_cursor.specs.Views.{AreTreesHeld, IsTurn, trees_held, turn_at}
use Rattle.cxx_language.specs.Classes as definition
use Rattle.cxx_space.specs.declared.bases.BaseList.{BaseList}
use Rattle.cxx_tree.specs.Held.{Held}

abbrev pub list_of : BaseList → definition.BaseList
list_of of = record { scope = of.scope.0; class = of.class.0; access = of.access }

abbrev pub bases_turn : Held → Turn (List TreeId) (List TreeId) → reads.Turn (List CxxTree) (List CxxTree)
bases_turn held = turn_at (trees_held held) (trees_held held)

abbrev pub AreBasesTurn : Held → Turn (List TreeId) (List TreeId) → Type 0
AreBasesTurn held = IsTurn (AreTreesHeld held) (AreTreesHeld held)
