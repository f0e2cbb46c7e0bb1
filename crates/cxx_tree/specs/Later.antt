-- What a step does to the state of a reading: whatever was given a number keeps it.
use Rattle.std.specs.Prelude.{◌≡◌, ◌<◌, length, Result, Ok, Err}
use Rattle.cxx_model.specs.declared.memory.OutOfMemory.{OutOfMemory}
use Rattle.cxx_model.specs.declared.types.TreeId.{TreeId}
use Rattle.cxx_model.specs.declared.types.TypeId.{TypeId}
use Rattle.cxx_model.specs.Types.Trees.{CxxType}
use Rattle.cxx_model.specs.Types.Numbers.{type_at, Keeps}
use Rattle.cxx_reading.specs.Trees.{CxxTree}
use Rattle.cxx_tree.specs.Arena.{KeepsTrees, tree_in}
use Rattle.cxx_tree.specs.Held.{Held, meaning, trees}

-- Each number that was given before names the same type, or the same tree. And where it is told at which places somebody
-- was asked, it is still told.
pub record Later (old new : Held) : Type 0 where
  pub types : Keeps old.types new.types
  pub trees : KeepsTrees (trees old) (trees new)
  pub tells : new.tells ≡ old.tells

-- a number that is answered is one of the table, and its type is the wanted one
abbrev pub IsType : Held → Result TypeId OutOfMemory → CxxType → Type 0
IsType new (Ok number) of = (number.0 < length new.types) × (type_at new.types number.0 ≡ of)
IsType new (Err memory) of = Unit {0}

-- A type is made, and nothing else happens.
pub record MakesType (old new : Held) (result : Result TypeId OutOfMemory) (of : CxxType) : Type 0 where
  pub later : Later old new
  pub same : meaning new ≡ meaning old
  pub made : IsType new result of

abbrev pub IsTree : Held → Result TreeId OutOfMemory → CxxTree → Type 0
IsTree new (Ok number) wanted = (number.0 < length (trees new)) × (tree_in (trees new) number.0 ≡ wanted)
IsTree new (Err memory) wanted = Unit {0}

-- A tree is made, and nothing else happens.
pub record MakesTree (old new : Held) (result : Result TreeId OutOfMemory) (wanted : CxxTree) : Type 0 where
  pub later : Later old new
  pub same : meaning new ≡ meaning old
  pub made : IsTree new result wanted
