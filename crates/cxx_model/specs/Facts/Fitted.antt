-- A graph and a table of types that fit together.
use Rattle.std.specs.Prelude.{ℕ, ◌<◌, List, [], ◌∷◌, length, Option, Some, None}
use Rattle.cxx_model.specs.declared.facts.Entity.{Entity}
use Rattle.cxx_model.specs.declared.facts.Entity.TheVariants as entity
use Rattle.cxx_model.specs.declared.facts.Fact.{Fact}
use Rattle.cxx_model.specs.declared.facts.Name.{Name}
use Rattle.cxx_model.specs.declared.facts.Name.TheVariants as name
use Rattle.cxx_model.specs.declared.facts.ParameterKind.{ParameterKind}
use Rattle.cxx_model.specs.declared.facts.ParameterKind.TheVariants.{OfType, OfValue}
use Rattle.cxx_model.specs.declared.facts.Pattern.{Pattern}
use Rattle.cxx_model.specs.declared.facts.Specialisation.{Specialisation}
use Rattle.cxx_model.specs.declared.facts.Parameter.{Parameter}
use Rattle.cxx_model.specs.declared.types.Argument.{Argument}
use Rattle.cxx_model.specs.declared.types.TypeId.{TypeId}
use Rattle.cxx_model.specs.Facts.Graph.{Graph, IsTypeInRange}
use Rattle.cxx_model.specs.Types.Trees.{CxxType}
use Rattle.cxx_model.specs.Types.Numbers.{type_at, IsArgumentBelow, AreArgumentsBelow, IsTreeBelow}

-- ---- the numbers of types in a graph are below a count

abbrev pub IsEntityBelow : ℕ → Entity → Type 0
IsEntityBelow count (entity.Object of _ _ _ _) = of.0 < count
IsEntityBelow count (entity.Function of _ _ _ _) = of.0 < count
IsEntityBelow count (entity.Parameter _ _ of) = of.0 < count
IsEntityBelow count (entity.Synonym of) = of.0 < count
IsEntityBelow count _ = Unit {0}

-- 12.3.2: the name of a conversion function names a type
abbrev pub IsNameBelow : ℕ → Name → Type 0
IsNameBelow count (name.Conversion of) = of.0 < count
IsNameBelow count _ = Unit {0}

pub record IsFactBelow (count : ℕ) (fact : Fact) : Type 0 where
  pub name : IsNameBelow count fact.name
  pub what : IsEntityBelow count fact.what

abbrev pub AreFactsBelow : ℕ → List Fact → Type 0
AreFactsBelow count [] = Unit {0}
AreFactsBelow count (fact ∷ facts) = IsFactBelow count fact × AreFactsBelow count facts

abbrev pub IsClassBelow : ℕ → Option Specialisation → Type 0
IsClassBelow count None = Unit {0}
IsClassBelow count (Some of) = AreArgumentsBelow count of.arguments

abbrev pub AreClassesBelow : ℕ → List (Option Specialisation) → Type 0
AreClassesBelow count [] = Unit {0}
AreClassesBelow count (class ∷ classes) = IsClassBelow count class × AreClassesBelow count classes

abbrev pub IsKindBelow : ℕ → ParameterKind → Type 0
IsKindBelow count OfType = Unit {0}
IsKindBelow count (OfValue of) = IsTreeBelow count of

abbrev pub IsFallbackBelow : ℕ → Option Argument → Type 0
IsFallbackBelow count None = Unit {0}
IsFallbackBelow count (Some argument) = IsArgumentBelow count argument

abbrev pub AreParametersBelow : ℕ → List Parameter → Type 0
AreParametersBelow count [] = Unit {0}
AreParametersBelow count (parameter ∷ others) = IsKindBelow count parameter.kind × IsFallbackBelow count parameter.fallback × AreParametersBelow count others

abbrev pub IsTypeNumberBelow : ℕ → Option TypeId → Type 0
IsTypeNumberBelow count None = Unit {0}
IsTypeNumberBelow count (Some of) = of.0 < count

pub record IsPatternBelow (count : ℕ) (pattern : Pattern) : Type 0 where
  pub parameters : AreParametersBelow count pattern.parameters
  pub arguments : AreArgumentsBelow count pattern.arguments
  pub of : IsTypeNumberBelow count pattern.of

abbrev pub ArePatternsBelow : ℕ → List Pattern → Type 0
ArePatternsBelow count [] = Unit {0}
ArePatternsBelow count (pattern ∷ patterns) = IsPatternBelow count pattern × ArePatternsBelow count patterns

pub record IsGraphBelow (count : ℕ) (graph : Graph) : Type 0 where
  pub facts : AreFactsBelow count graph.facts
  pub classes : AreClassesBelow count graph.classes
  pub patterns : ArePatternsBelow count graph.patterns

-- Each number of a type in the graph is of the table, and what the types of the table name is in the graph.
pub record Fitted (graph : Graph) (types : List CxxType) : Type 0 where
  pub numbers : IsGraphBelow (length types) graph
  pub names : (i : ℕ) → i < length types → IsTypeInRange graph (type_at types i)
