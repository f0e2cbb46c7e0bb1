-- The object of a call of a member, as the state makes it (13.3.1).
use Rattle.std.specs.Prelude.{◌≡◌, Result, Ok, Err}
use Rattle.cxx_model.specs.declared.sequence.Operand.{Operand}
use Rattle.cxx_model.specs.declared.stop.Stop.{Stop}
use Rattle.cxx_model.specs.declared.stop.Stop.TheVariants as stop
use Rattle.cxx_overload.specs.declared.object.Object.{Object}
use Rattle.cxx_overload.specs.Views.{IsObject}
use Rattle.cxx_tree.specs.Held.{Held, meaning}
use Rattle.cxx_tree.specs.Later.{Later}

-- what is answered holds an operand, and the types to which that may be converted are there
abbrev pub IsNewObject : Held → Operand → Result Object Stop → Type 0
IsNewObject new operand (Ok object) = (object.operand ≡ operand) × IsObject new.types object
IsNewObject new operand (Err why) = why ≡ stop.OutOfMemory

-- An object is made, and the meaning of the state stays the same; it fails for want of memory alone.
pub record GrowsObject (old new : Held) (operand : Operand) (result : Result Object Stop) : Type 0 where
  pub later : Later old new
  pub same : meaning new ≡ meaning old
  pub made : IsNewObject new operand result
