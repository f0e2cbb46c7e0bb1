-- What is done to a table of types where a declaration is made of some of them.
use Rattle.std.specs.Prelude.{ℕ, ◌≡◌, ◌<◌, List, length, Option, Some, None, Result, Ok, Err, option_map}
use Rattle.cxx_model.specs.declared.facts.Entity.{Entity}
use Rattle.cxx_model.specs.declared.facts.Entity.TheVariants as entity
use Rattle.cxx_model.specs.declared.facts.Fact.{Fact}
use Rattle.cxx_model.specs.declared.memory.OutOfMemory.{OutOfMemory}
use Rattle.cxx_model.specs.declared.types.ScopeId.{ScopeId}
use Rattle.cxx_model.specs.Facts.Declarations.{CxxFact, fact_at}
use Rattle.cxx_model.specs.Facts.Fitted.{IsFactBelow}
use Rattle.cxx_model.specs.Facts.Graph.{Graph}
use Rattle.cxx_model.specs.Types.Trees.{CxxType}
use Rattle.cxx_model.specs.Types.Numbers.{Keeps}
use Rattle.cxx_types.specs.Makes.{AreInRange}

-- the first declaration of a function
abbrev pub IsFirstFunction : Entity → Type 0
IsFirstFunction (entity.Function _ _ _ _ None) = Unit {0}
IsFirstFunction _ = ⊥

-- a declaration that may follow in a graph with the scope, and that names types of a table
pub record IsReady (count : ℕ) (scope : ScopeId) (fact : Fact) : Type 0 where
  pub below : IsFactBelow count fact
  pub stands : fact.scope ≡ scope
  pub first : IsFirstFunction fact.what

abbrev pub IsOneReady : ℕ → ScopeId → Option Fact → Type 0
IsOneReady count scope None = Unit {0}
IsOneReady count scope (Some fact) = IsReady count scope fact

abbrev pub IsMadeFact : List CxxType → ScopeId → Result (Option Fact) OutOfMemory → Option CxxFact → Type 0
IsMadeFact new scope (Ok made) fact = (option_map (fact_at new) made ≡ fact) × IsOneReady (length new) scope made
IsMadeFact new scope (Err fault) fact = Unit {0}

-- what came into the table names no more than a class
abbrev pub FitsClass : ℕ → List CxxType → List CxxType → Type 0
FitsClass class old new = (graph : Graph) → class < length graph.classes → AreInRange graph old → AreInRange graph new

-- A declaration is made where it is wanted: each earlier number of a type keeps its type, also where there is no memory.
pub record MakesFact (class : ℕ) (scope : ScopeId) (old new : List CxxType) (result : Result (Option Fact) OutOfMemory) (fact : Option CxxFact) : Type 0 where
  pub keeps : Keeps old new
  pub fits : FitsClass class old new
  pub made : IsMadeFact new scope result fact
