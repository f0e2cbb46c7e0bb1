-- What the values of the code stand for.
use Rattle.std.specs.Prelude.{ℕ, ◌≡◌, ◌<◌, List, [], ◌∷◌, length, map, Option, Some, None}
use Rattle.cxx_model.specs.declared.facts.Entity.{Entity}
use Rattle.cxx_model.specs.declared.facts.Entity.TheVariants as entity
use Rattle.cxx_model.specs.declared.facts.Fact.{Fact}
use Rattle.cxx_model.specs.declared.facts.Specialisation.{Specialisation}
use Rattle.cxx_model.specs.declared.types.ScopeId.{ScopeId}
use Rattle.cxx_model.specs.declared.types.ClassId.{ClassId}
use Rattle.cxx_model.specs.declared.types.TypeId.{TypeId}
use Rattle.cxx_model.specs.Types.Trees.{CxxType}
use Rattle.cxx_model.specs.Types.Numbers.{type_at}
use Rattle.cxx_model.specs.Facts.Declarations.{CxxFact, CxxGraph, graph_at, facts_at}
use Rattle.cxx_meaning.specs.Lookups.Gathered.{before}
use Rattle.cxx_meaning.specs.Lookups.Associated.{Part as PartMeant, base_before, of_type, of_base}
use Rattle.cxx_adl.specs.declared.parts.Part.{Part}
use Rattle.cxx_adl.specs.declared.parts.Part.TheVariants as part
use Rattle.cxx_adl.specs.declared.asking.Asking.{Asking}
use Rattle.cxx_adl.specs.declared.scopes.Holder.{Holder}

abbrev pub graph_of : Asking → CxxGraph
graph_of asking = graph_at asking.types.now asking.graph.now

abbrev pub facts_of : Asking → List CxxFact
facts_of asking = facts_at asking.types.now asking.graph.now.facts

abbrev pub specialisation_in : Option (Option Specialisation) → Option Specialisation
specialisation_in (Some (Some of)) = Some of
specialisation_in _ = None

-- ---- parts

abbrev pub part_at : List CxxType → Part → PartMeant
part_at types (part.Type of) = of_type (type_at types of.0)
part_at types (part.Base class) = of_base class.0

abbrev pub IsPartBelow : ℕ → Part → Type 0
IsPartBelow count (part.Type of) = of.0 < count
IsPartBelow count (part.Base class) = Unit {0}

abbrev pub ArePartsBelow : ℕ → List Part → Type 0
ArePartsBelow count [] = Unit {0}
ArePartsBelow count (one ∷ others) = IsPartBelow count one × ArePartsBelow count others

-- A list of parts became what these are.
pub record Becomes (types : List CxxType) (old new : List Part) (meant : List PartMeant) : Type 0 where
  pub is : map (part_at types) new ≡ meant
  pub below : ArePartsBelow (length types) old → ArePartsBelow (length types) new

-- the base that a fact names, where it is there and of a direct base of a class
abbrev pub base_by : ℕ → Option CxxFact → List PartMeant
base_by class None = []
base_by class (Some fact) = base_before class fact.what []

abbrev pub base_list : Option ClassId → List PartMeant
base_list None = []
base_list (Some class) = of_base class.0 ∷ []

-- the types with some numbers
abbrev pub given : List CxxType → List TypeId → List CxxType
given types numbers = map (λ n. type_at types n.0) numbers

-- ---- scopes

-- what a fact makes, where it makes a scope
abbrev pub holder_by : ScopeId → Entity → Option Holder
holder_by parent (entity.Scope within kind) = Some (record { kind = kind; parent = parent })
holder_by parent _ = None

-- the scopes among some facts, in order
abbrev pub holders_of : List Fact → List Holder
holders_of [] = []
holders_of (fact ∷ others) = before (holder_by fact.scope fact.what) (holders_of others)
