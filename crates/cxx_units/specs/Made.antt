-- Types that a reader makes.
use Rattle.std.specs.Prelude.{◌≡◌, ◌<◌, length, Option, Result, Ok, Err}
use Rattle.cxx_model.specs.declared.stop.Stop.{Stop}
use Rattle.cxx_model.specs.declared.stop.Stop.TheVariants as stop
use Rattle.cxx_model.specs.declared.types.TypeId.{TypeId}
use Rattle.cxx_model.specs.Facts.Declarations.{type_of_option}
use Rattle.cxx_model.specs.Facts.Fitted.{IsTypeNumberBelow}
use Rattle.cxx_model.specs.Types.Trees.{CxxType}
use Rattle.cxx_model.specs.Types.Numbers.{type_at}
use Rattle.cxx_tree.specs.Held.{Held, meaning}
use Rattle.cxx_tree.specs.Later.{Later}

abbrev pub IsNewType : Held → Result TypeId Stop → CxxType → Type 0
IsNewType new (Ok number) wanted = (number.0 < length new.types) × (type_at new.types number.0 ≡ wanted)
IsNewType new (Err why) wanted = why ≡ stop.OutOfMemory

-- A type is made, and nothing else happens; it fails for want of memory alone.
pub record GrowsType (old new : Held) (result : Result TypeId Stop) (wanted : CxxType) : Type 0 where
  pub later : Later old new
  pub same : meaning new ≡ meaning old
  pub made : IsNewType new result wanted

abbrev pub IsNewTypeOption : Held → Result (Option TypeId) Stop → Option CxxType → Type 0
IsNewTypeOption new (Ok number) wanted = IsTypeNumberBelow (length new.types) number × (type_of_option new.types number ≡ wanted)
IsNewTypeOption new (Err why) wanted = why ≡ stop.OutOfMemory

-- the same of a type that may be none
pub record GrowsTypeOption (old new : Held) (result : Result (Option TypeId) Stop) (wanted : Option CxxType) : Type 0 where
  pub later : Later old new
  pub same : meaning new ≡ meaning old
  pub made : IsNewTypeOption new result wanted
