-- What is made of a decided meaning of an operator.
use Rattle.std.specs.Prelude.{ℕ, ◌≡◌, ◌<◌, List, length, map, Option, Some, None, Result, Ok, Err}
use Rattle.cxx_model.specs.declared.memory.OutOfMemory.{OutOfMemory}
use Rattle.cxx_model.specs.declared.overload.BuiltIn.{BuiltIn}
use Rattle.cxx_model.specs.declared.types.TypeId.{TypeId}
use Rattle.cxx_model.specs.Facts.Fitted.{Fitted}
use Rattle.cxx_model.specs.Facts.Graph.{Graph}
use Rattle.cxx_model.specs.Types.Numbers.{type_at, AreTypesBelow, Keeps}
use Rattle.cxx_model.specs.Types.Trees.{CxxType}
use Rattle.cxx_builtin.specs.declared.answer.ResultFault.{ResultFault}
use Rattle.cxx_builtin.specs.declared.answer.ResultFault.TheVariants as fault
use Rattle.cxx_meaning.specs.Conversions.Asking.{Asked}
use Rattle.cxx_meaning.specs.Conversions.BuiltIn.{CxxBuiltIn}

abbrev pub list_at : List CxxType → List TypeId → List CxxType
list_at types numbers = map (λ number. type_at types number.0) numbers

abbrev pub built_at : List CxxType → BuiltIn → CxxBuiltIn
built_at types built = record { operands = list_at types built.operands; result = type_at types built.result.0; lvalue = built.lvalue }

-- the numbers of its types are below a count
pub record IsBuiltBelow (count : ℕ) (built : BuiltIn) : Type 0 where
  pub operands : AreTypesBelow count built.operands
  pub result : built.result.0 < count

abbrev pub IsBuilt : List CxxType → Result BuiltIn OutOfMemory → CxxBuiltIn → Type 0
IsBuilt new (Ok built) meaning = IsBuiltBelow (length new) built × (built_at new built ≡ meaning)
IsBuilt new (Err fault) meaning = Unit {0}

-- The types of a meaning are made: each earlier number keeps its type, and the graph and the table stay fitted.
pub record Builds (graph : Graph) (old new : List CxxType) (result : Result BuiltIn OutOfMemory) (meaning : CxxBuiltIn) : Type 0 where
  pub keeps : Keeps old new
  pub built : IsBuilt new result meaning
  pub fitted : Fitted graph new

abbrev pub IsListMade : List CxxType → Result (List TypeId) OutOfMemory → List CxxType → Type 0
IsListMade new (Ok numbers) ts = AreTypesBelow (length new) numbers × (list_at new numbers ≡ ts)
IsListMade new (Err fault) ts = Unit {0}

-- the same of a list of types
pub record MakesList (graph : Graph) (old new : List CxxType) (result : Result (List TypeId) OutOfMemory) (ts : List CxxType) : Type 0 where
  pub keeps : Keeps old new
  pub made : IsListMade new result ts
  pub fitted : Fitted graph new

-- What an operator gives: the types of its meaning, made; no meaning; or the class that must be complete first.
abbrev pub Means : List CxxType → Result BuiltIn ResultFault → Asked (Option CxxBuiltIn) → Type 0
Means new (Ok built) asked = IsBuiltBelow (length new) built × (asked ≡ Ok (Some (built_at new built)))
Means new (Err fault.NoFit) asked = asked ≡ Ok None
Means new (Err (fault.Needs class)) asked = asked ≡ Err class
Means new (Err fault.OutOfMemory) asked = Unit {0}

-- Each earlier number keeps its type, and the graph and the table stay fitted.
pub record Answers (graph : Graph) (old new : List CxxType) (result : Result BuiltIn ResultFault) (asked : Asked (Option CxxBuiltIn)) : Type 0 where
  pub keeps : Keeps old new
  pub means : Means new result asked
  pub fitted : Fitted graph new
