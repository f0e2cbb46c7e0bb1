-- A graph that is built fact by fact.
use Rattle.std.specs.Prelude.{◌≤◌, length, None}
use Rattle.cxx_model.specs.declared.facts.Access.TheVariants.{Public}
use Rattle.cxx_model.specs.declared.facts.Entity.TheVariants as entity
use Rattle.cxx_model.specs.declared.facts.Fact.{Fact}
use Rattle.cxx_model.specs.declared.facts.Name.TheVariants as name
use Rattle.cxx_model.specs.declared.facts.ScopeKind.TheVariants as kind
use Rattle.cxx_model.specs.Facts.Fitted.{Fitted}
use Rattle.cxx_model.specs.Facts.Graph.{scopes}
use Rattle.cxx_scopes.specs.Views.{Notes}
use Rattle.cxx_lookup_tests.specs.declared.unit.Unit.{Unit}

-- The types fit the graph, the index has noted its facts, and there are at least so many scopes and types.
pub record IsUnit (unit : Unit) : Type 0 where
  pub fitted : Fitted unit.graph unit.types
  pub noted : Notes unit.index unit.graph.facts
  pub scopes : unit.scopes ≤ scopes unit.graph.facts
  pub known : unit.known ≤ length unit.types

-- 3.3.5: the scope of the unit, which is the first fact
abbrev pub unit_fact : Fact
unit_fact = record { place = record { line = 1; column = 1 }; scope = record { 0 = 0 }; name = name.Unnamed; access = Public; what = entity.Scope None kind.Space }
