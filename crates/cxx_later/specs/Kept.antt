-- Trees of default arguments that are kept, one after another.
use Rattle.std.specs.Prelude.{◌≡◌, List, ◌++◌, Result, Ok, Err}
use Rattle.cxx_cursor.specs.Views.{AreTreesHeld, trees_held}
use Rattle.cxx_model.specs.declared.stop.Stop.{Stop}
use Rattle.cxx_model.specs.declared.stop.Stop.TheVariants as stop
use Rattle.cxx_model.specs.declared.types.TreeId.{TreeId}
use Rattle.cxx_reading.specs.Trees.{CxxTree}
use Rattle.cxx_tree.specs.Held.{Held, meaning}
use Rattle.cxx_tree.specs.Later.{Later}

-- trees were added to a list of them
pub record AreAdded (old new : Held) (before after : List TreeId) (added : List CxxTree) : Type 0 where
  pub held : AreTreesHeld new after
  pub is : trees_held new after ≡ trees_held old before ++ added

abbrev pub AreMade : Held → Held → List TreeId → List TreeId → Result (Unit {0}) Stop → List CxxTree → Type 0
AreMade old new before after (Ok done) added = AreAdded old new before after added
AreMade old new before after (Err why) added = why ≡ stop.OutOfMemory

-- Trees were made and added, and nothing else happened; it fails for want of memory alone.
pub record GathersLater (old new : Held) (before after : List TreeId) (result : Result (Unit {0}) Stop) (added : List CxxTree) : Type 0 where
  pub later : Later old new
  pub same : meaning new ≡ meaning old
  pub made : AreTreesHeld old before → AreMade old new before after result added
