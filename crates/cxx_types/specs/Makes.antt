-- What a call that makes a type does to a table of types.
use Rattle.std.specs.Prelude.{ℕ, ◌≡◌, ◌<◌, List, length, Result, Ok, Err}
use Rattle.cxx_model.specs.declared.memory.OutOfMemory.{OutOfMemory}
use Rattle.cxx_model.specs.declared.types.TypeId.{TypeId}
use Rattle.cxx_model.specs.Facts.Graph.{Graph, IsTypeInRange, AreTypesInRange}
use Rattle.cxx_model.specs.Types.Trees.{CxxType, CxxTypes}
use Rattle.cxx_model.specs.Types.Numbers.{type_at, types_at, AreTypesBelow, Keeps}

-- what the types of a list name is in a graph
abbrev pub AreInRange : Graph → List CxxType → Type 0
AreInRange graph types = (i : ℕ) → i < length types → IsTypeInRange graph (type_at types i)

-- The list grew by nothing that names more than the old types and the made one do: whatever graph these are in range of,
-- the whole list is.
abbrev pub Fits : List CxxType → List CxxType → CxxType → Type 0
Fits old new t = (graph : Graph) → AreInRange graph old → IsTypeInRange graph t → AreInRange graph new

-- a number that is answered is one of the list, and its type is the wanted one
abbrev pub IsMade : List CxxType → Result TypeId OutOfMemory → CxxType → Type 0
IsMade new (Ok number) t = (number.0 < length new) × (type_at new number.0 ≡ t)
IsMade new (Err fault) t = Unit {0}

-- A call makes a type: each earlier number keeps its type, also where there is no memory, the answer is the number of the
-- type, and nothing that names more comes into the table.
pub record Makes (old new : List CxxType) (result : Result TypeId OutOfMemory) (t : CxxType) : Type 0 where
  pub keeps : Keeps old new
  pub made : IsMade new result t
  pub fits : Fits old new t

-- the same of several types
abbrev pub FitsEach : List CxxType → List CxxType → CxxTypes → Type 0
FitsEach old new ts = (graph : Graph) → AreInRange graph old → AreTypesInRange graph ts → AreInRange graph new

abbrev pub AreMade : List CxxType → Result (List TypeId) OutOfMemory → CxxTypes → Type 0
AreMade new (Ok numbers) ts = AreTypesBelow (length new) numbers × (types_at new numbers ≡ ts)
AreMade new (Err fault) ts = Unit {0}

pub record MakesEach (old new : List CxxType) (result : Result (List TypeId) OutOfMemory) (ts : CxxTypes) : Type 0 where
  pub keeps : Keeps old new
  pub made : AreMade new result ts
  pub fits : FitsEach old new ts
