-- What the code makes, while the meaning of the state stays the same; it fails for want of memory alone.
use Rattle.std.specs.Prelude.{◌≡◌, ◌<◌, Option, Result, Ok, Err, length}
use Rattle.cxx_model.specs.declared.stop.Stop.{Stop}
use Rattle.cxx_model.specs.declared.stop.Stop.TheVariants as stop
use Rattle.cxx_model.specs.declared.types.TypeId.{TypeId}
use Rattle.cxx_model.specs.Facts.Declarations.{type_of_option}
use Rattle.cxx_model.specs.Facts.Fitted.{IsTypeNumberBelow}
use Rattle.cxx_model.specs.Types.Numbers.{type_at}
use Rattle.cxx_model.specs.Types.Trees.{CxxType}
use Rattle.cxx_tree.specs.Held.{Held, meaning}
use Rattle.cxx_tree.specs.Later.{Later}

abbrev pub IsNewType : Held → Result (Option TypeId) Stop → Option CxxType → Type 0
IsNewType new (Ok of) wanted = IsTypeNumberBelow (length new.types) of × (type_of_option new.types of ≡ wanted)
IsNewType new (Err why) wanted = why ≡ stop.OutOfMemory

abbrev pub IsMade : Held → Result TypeId Stop → CxxType → Type 0
IsMade new (Ok number) wanted = (number.0 < length new.types) × (type_at new.types number.0 ≡ wanted)
IsMade new (Err why) wanted = why ≡ stop.OutOfMemory

pub record Makes (old new : Held) (result : Result TypeId Stop) (wanted : CxxType) : Type 0 where
  pub later : Later old new
  pub same : meaning new ≡ meaning old
  pub made : IsMade new result wanted

-- a type, or none
pub record MayMake (old new : Held) (result : Result (Option TypeId) Stop) (wanted : Option CxxType) : Type 0 where
  pub later : Later old new
  pub same : meaning new ≡ meaning old
  pub made : IsNewType new result wanted
