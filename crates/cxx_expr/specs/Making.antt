-- What the code makes, while the meaning of the state stays the same; it fails for want of memory alone.
use Rattle.std.specs.Prelude.{◌≡◌, ◌<◌, length, List, [], ◌∷◌, ◌++◌, Option, Some, None, Result, Ok, Err}
use Rattle.cxx_model.specs.declared.sequence.Operand.{Operand}
use Rattle.cxx_model.specs.declared.stop.Stop.{Stop}
use Rattle.cxx_model.specs.declared.stop.Stop.TheVariants as stop
use Rattle.cxx_model.specs.Stops.{Answer, Stops}
use Rattle.cxx_model.specs.declared.types.TreeId.{TreeId}
use Rattle.cxx_model.specs.declared.types.TypeId.{TypeId}
use Rattle.cxx_model.specs.Types.Numbers.{type_at}
use Rattle.cxx_model.specs.Types.Trees.{CxxType}
use Rattle.cxx_meaning.specs.Conversions.Standard.{CxxOperand}
use Rattle.cxx_reading.specs.State.{CxxState}
use Rattle.cxx_reading.specs.Trees.{CxxTree}
use Rattle.cxx_standard.specs.Views.{operand_at}
use Rattle.cxx_tree.specs.Arena.{AreTreesBelow, tree_in, trees_in}
use Rattle.cxx_tree.specs.Held.{Held, meaning, trees}
use Rattle.cxx_tree.specs.Later.{Later}
use Rattle.cxx_expr.specs.Views.{AreOperandsBelow, operands_in}

abbrev pub IsTreeKnown : Held → TreeId → Type 0
IsTreeKnown held number = number.0 < length (trees held)

abbrev pub trees_held : Held → List TreeId → List CxxTree
trees_held held numbers = trees_in (trees held) numbers

abbrev pub AreTreesHeld : Held → List TreeId → Type 0
AreTreesHeld held numbers = AreTreesBelow (length (trees held)) numbers

abbrev pub IsNewType : Held → Result TypeId Stop → CxxType → Type 0
IsNewType new (Ok number) wanted = (number.0 < length new.types) × (type_at new.types number.0 ≡ wanted)
IsNewType new (Err why) wanted = why ≡ stop.OutOfMemory

pub record GrowsType (old new : Held) (result : Result TypeId Stop) (wanted : CxxType) : Type 0 where
  pub later : Later old new
  pub same : meaning new ≡ meaning old
  pub made : IsNewType new result wanted

abbrev pub IsNewOperand : Held → Result Operand Stop → CxxOperand → Type 0
IsNewOperand new (Ok operand) wanted = (operand.of.0 < length new.types) × (operand_at new.types operand ≡ wanted)
IsNewOperand new (Err why) wanted = why ≡ stop.OutOfMemory

pub record GrowsOperand (old new : Held) (result : Result Operand Stop) (wanted : CxxOperand) : Type 0 where
  pub later : Later old new
  pub same : meaning new ≡ meaning old
  pub made : IsNewOperand new result wanted

abbrev pub IsNewTree : Held → Result TreeId Stop → CxxTree → Type 0
IsNewTree new (Ok number) wanted = (number.0 < length (trees new)) × (tree_in (trees new) number.0 ≡ wanted)
IsNewTree new (Err why) wanted = why ≡ stop.OutOfMemory

pub record GrowsTree (old new : Held) (result : Result TreeId Stop) (wanted : CxxTree) : Type 0 where
  pub later : Later old new
  pub same : meaning new ≡ meaning old
  pub made : IsNewTree new result wanted

-- A list was asked for, and stands there now.
abbrev pub Gathered : List TreeId → Held → Result (Unit {0}) Stop → Answer (List CxxTree × CxxState) → Type 0
Gathered after new (Ok done) reply = (reply ≡ Ok (trees_held new after, meaning new)) × AreTreesHeld new after
Gathered after new (Err why) reply = Stops why reply

pub record Gathers (after : List TreeId) (old new : Held) (result : Result (Unit {0}) Stop) (reply : Answer (List CxxTree × CxxState)) : Type 0 where
  pub is : Gathered after new result reply
  pub later : Later old new

-- what a literal gives, where it is one
abbrev pub IsNewOption : Held → Result (Option Operand) Stop → Option CxxOperand → Type 0
IsNewOption new (Ok None) wanted = wanted ≡ None
IsNewOption new (Ok (Some operand)) wanted = (operand.of.0 < length new.types) × (wanted ≡ Some (operand_at new.types operand))
IsNewOption new (Err why) wanted = why ≡ stop.OutOfMemory

pub record MayGrow (old new : Held) (result : Result (Option Operand) Stop) (wanted : Option CxxOperand) : Type 0 where
  pub later : Later old new
  pub same : meaning new ≡ meaning old
  pub made : IsNewOption new result wanted

abbrev pub AreNewOperands : Held → Result (List Operand) Stop → List CxxOperand → Type 0
AreNewOperands new (Ok operands) wanted = AreOperandsBelow (length new.types) operands × (operands_in new.types operands ≡ wanted)
AreNewOperands new (Err why) wanted = why ≡ stop.OutOfMemory

pub record GrowsOperands (old new : Held) (result : Result (List Operand) Stop) (wanted : List CxxOperand) : Type 0 where
  pub later : Later old new
  pub same : meaning new ≡ meaning old
  pub made : AreNewOperands new result wanted

abbrev pub AddedOperand : List Operand → List Operand → Held → Held → Result (Unit {0}) Stop → CxxOperand → Type 0
AddedOperand before after old new (Ok done) wanted = AreOperandsBelow (length new.types) after × (operands_in new.types after ≡ operands_in old.types before ++ wanted ∷ [])
AddedOperand before after old new (Err why) wanted = why ≡ stop.OutOfMemory

pub record AddsOperand (before after : List Operand) (old new : Held) (result : Result (Unit {0}) Stop) (wanted : CxxOperand) : Type 0 where
  pub later : Later old new
  pub same : meaning new ≡ meaning old
  pub made : AddedOperand before after old new result wanted
