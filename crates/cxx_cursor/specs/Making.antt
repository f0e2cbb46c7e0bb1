-- Trees that a reader makes.
use Rattle.std.specs.Prelude.{◌≡◌, ◌<◌, length, Result, Ok, Err}
use Rattle.cxx_model.specs.declared.stop.Stop.{Stop}
use Rattle.cxx_model.specs.declared.stop.Stop.TheVariants as stop
use Rattle.cxx_model.specs.declared.types.TreeId.{TreeId}
use Rattle.cxx_reading.specs.Trees.{CxxTree}
use Rattle.cxx_tree.specs.Arena.{tree_in}
use Rattle.cxx_tree.specs.Held.{Held, meaning, trees}
use Rattle.cxx_tree.specs.Later.{Later}

abbrev pub IsNewTree : Held → Result TreeId Stop → CxxTree → Type 0
IsNewTree new (Ok number) wanted = (number.0 < length (trees new)) × (tree_in (trees new) number.0 ≡ wanted)
IsNewTree new (Err why) wanted = why ≡ stop.OutOfMemory

-- A tree is made, and nothing else happens; it fails for want of memory alone.
pub record GrowsTree (old new : Held) (result : Result TreeId Stop) (wanted : CxxTree) : Type 0 where
  pub later : Later old new
  pub same : meaning new ≡ meaning old
  pub made : IsNewTree new result wanted
