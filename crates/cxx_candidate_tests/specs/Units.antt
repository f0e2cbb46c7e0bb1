-- A graph that is built fact by fact.
use Rattle.std.specs.Prelude.{ℕ, ◌<◌, ◌≤◌, List, [], length, None, Some, false}
use Rattle.cxx_model.specs.declared.facts.Access.TheVariants.{Public}
use Rattle.cxx_model.specs.declared.facts.Entity.TheVariants as entity
use Rattle.cxx_model.specs.declared.facts.Fact.{Fact}
use Rattle.cxx_model.specs.declared.facts.Name.TheVariants as name
use Rattle.cxx_model.specs.declared.facts.Pattern.{Pattern}
use Rattle.cxx_model.specs.declared.facts.ScopeKind.TheVariants as kind
use Rattle.cxx_model.specs.declared.types.ClassId.{ClassId}
use Rattle.cxx_model.specs.Facts.Fitted.{Fitted}
use Rattle.cxx_model.specs.Facts.Graph.{Graph, enumerations, scopes}
use Rattle.cxx_model.specs.Types.Numbers.{type_at}
use Rattle.cxx_model.specs.Types.Trees.{CxxType, array_of, class_type, enumeration, function_of, fundamental, no_types, number_bound, pointer_to, reference_to, with_cv}
use Rattle.cxx_candidate_tests.specs.declared.parts.Part.{Part}
use Rattle.cxx_candidate_tests.specs.declared.parts.Part.TheVariants as part

-- The types fit the graph, and there are at least so many scopes and types.
pub record IsUnit (graph : Graph) (types : List CxxType) (scope_count type_count : ℕ) : Type 0 where
  pub fitted : Fitted graph types
  pub scopes : scope_count ≤ scopes graph.facts
  pub known : type_count ≤ length types

-- 3.3.5: the scope of the unit, which is the first fact
abbrev pub unit_fact : Fact
unit_fact = record { place = record { line = 1; column = 1 }; scope = record { 0 = 0 }; name = name.Unnamed; access = Public; what = entity.Scope None kind.Space }

-- 14: a template without parameters, which a class defines
abbrev pub pattern_by : ClassId → Pattern
pattern_by class = record { parameters = []; primary = None; arguments = []; of = None; class = Some class; tree = record { 0 = 0 } }

-- the type whose outermost part is written
abbrev pub type_by : List CxxType → Part → CxxType
type_by types (part.Plain of) = fundamental of
type_by types (part.Class number) = class_type number.0
type_by types (part.Enumeration number) = enumeration number.0
type_by types (part.PointerTo of) = pointer_to (type_at types of.0)
type_by types (part.ReferenceTo of) = reference_to (type_at types of.0)
type_by types (part.ArrayOf of) = array_of (type_at types of.0) (number_bound 3)
type_by types (part.FunctionTo of) = function_of (type_at types of.0) no_types false (record { is_const = false; is_volatile = false })
type_by types (part.Words cv of) = with_cv cv (type_at types of.0)

-- what it names is there
abbrev pub IsPartKnown : Graph → ℕ → Part → Type 0
IsPartKnown graph count (part.Plain of) = Unit {0}
IsPartKnown graph count (part.Class number) = number.0 < length graph.classes
IsPartKnown graph count (part.Enumeration number) = number.0 < enumerations graph.facts
IsPartKnown graph count (part.PointerTo of) = of.0 < count
IsPartKnown graph count (part.ReferenceTo of) = of.0 < count
IsPartKnown graph count (part.ArrayOf of) = of.0 < count
IsPartKnown graph count (part.FunctionTo of) = of.0 < count
IsPartKnown graph count (part.Words cv of) = of.0 < count
