-- The first definitions of objects, functions, templates and classes (3.2).
use Rattle.std.specs.Prelude.{ℕ, ◌≡◌, Bool, nat_eq, if◌then◌else◌, List, [], ◌∷◌, Option, Some, None, option_map}
use Rattle.std.specs.List.{slice_get}
use Rattle.indexmap.specs.IndexMap.{get}
use Rattle.cxx_model.specs.declared.facts.Entity.{Entity}
use Rattle.cxx_model.specs.declared.facts.Entity.TheVariants as entity
use Rattle.cxx_model.specs.declared.facts.Fact.{Fact}
use Rattle.cxx_model.specs.declared.types.ClassId.{ClassId}
use Rattle.cxx_model.specs.declared.types.FactId.{FactId}
use Rattle.cxx_model.specs.Facts.Conflicts.{defined_before}
use Rattle.cxx_model.specs.Facts.Declarations.{facts_at}
use Rattle.cxx_model.specs.Facts.Entities.{CxxEntity, of_fact, of_type}
use Rattle.cxx_model.specs.Types.Trees.{CxxType, class_type}
use Rattle.cxx_defined.specs.declared.defined.Definitions.{Definitions}

abbrev pub number_in : FactId → ℕ
number_in fact = fact.0

abbrev pub same_fact : FactId → FactId → Bool
same_fact one two = nat_eq one.0 two.0

abbrev pub same_class : ClassId → ClassId → Bool
same_class one two = nat_eq one.0 two.0

-- an object, a function or a template, whose entity is its first declaration, or a class
abbrev pub IsOwnEntity : Entity → Type 0
IsOwnEntity (entity.Object of member is_mutable value first) = Unit {0}
IsOwnEntity (entity.Function of member flags defaults first) = Unit {0}
IsOwnEntity (entity.Template template member defaults is_explicit first) = Unit {0}
IsOwnEntity (entity.Class class is_union) = Unit {0}
IsOwnEntity _ = ⊥

abbrev pub IsOwn : Option Fact → Type 0
IsOwn None = ⊥
IsOwn (Some fact) = IsOwnEntity fact.what

abbrev pub AreOwn : List Fact → List ℕ → Type 0
AreOwn facts [] = Unit {0}
AreOwn facts (number ∷ numbers) = IsOwn (slice_get facts number) × AreOwn facts numbers

abbrev pub first_or : FactId → Option FactId → FactId
first_or number None = number
first_or number (Some first) = first

-- the first declaration of what a fact with a number declares
abbrev pub first_declared : FactId → Entity → FactId
first_declared number (entity.Object of member is_mutable value first) = first_or number first
first_declared number (entity.Function of member flags defaults first) = first_or number first
first_declared number (entity.Template template member defaults is_explicit first) = first_or number first
first_declared number _ = number

-- the class that a fact declares
abbrev pub class_declared : Entity → Option ClassId
class_declared (entity.Class class is_union) = Some class
class_declared _ = None

abbrev pub class_there : Option Fact → Option ClassId
class_there None = None
class_there (Some fact) = class_declared fact.what

-- the entity of what a fact with a number declares
abbrev pub entity_declared : FactId → Entity → CxxEntity
entity_declared number (entity.Class class is_union) = of_type (class_type class.0)
entity_declared number what = of_fact (first_declared number what).0

-- what is defined first
abbrev pub defined_by : Definitions → FactId → Option FactId
defined_by definitions first = get same_fact definitions.rows first

abbrev pub class_defined_by : Definitions → ClassId → Option FactId
class_defined_by definitions class = get same_class definitions.classes class

-- These facts are the definitions so far.
pub record Defines (definitions : Definitions) (facts : List Fact) (defined : List ℕ) : Type 0 where
  pub own : AreOwn facts defined
  pub first : (number : FactId) (types : List CxxType) → option_map number_in (defined_by definitions number) ≡ defined_before (facts_at types facts) defined (of_fact number.0)
  pub classes : (class : ClassId) (types : List CxxType) → option_map number_in (class_defined_by definitions class) ≡ defined_before (facts_at types facts) defined (of_type (class_type class.0))

-- ---- what one more definition changes

abbrev pub or_later : {X : Type 0} → Option X → Option X → Option X
or_later None later = later
or_later (Some one) later = Some one

pub record HasDefinition (old new : Definitions) (first number : FactId) : Type 0 where
  pub rows : (other : FactId) → defined_by new other ≡ or_later (defined_by old other) (if same_fact first other then Some number else None)
  pub classes : (class : ClassId) → class_defined_by new class ≡ class_defined_by old class

pub record HasClass (old new : Definitions) (class : ClassId) (number : FactId) : Type 0 where
  pub rows : (other : FactId) → defined_by new other ≡ defined_by old other
  pub classes : (other : ClassId) → class_defined_by new other ≡ or_later (class_defined_by old other) (if same_class class other then Some number else None)

pub record AreSameDefinitions (old new : Definitions) : Type 0 where
  pub rows : (other : FactId) → defined_by new other ≡ defined_by old other
  pub classes : (class : ClassId) → class_defined_by new class ≡ class_defined_by old class
