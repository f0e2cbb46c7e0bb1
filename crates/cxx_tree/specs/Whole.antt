-- What is kept beside the state of a reading, and how it follows from that.
use Rattle.std.specs.Prelude.{ℕ, ◌≡◌, ◌<◌, List, [], ◌∷◌, ◌++◌, Option, Some, None, Result, Ok, Err}
use Rattle.cxx_graph.specs.declared.graph.AddFault.{AddFault}
use Rattle.cxx_graph.specs.declared.graph.AddFault.TheVariants as fault
use Rattle.cxx_model.specs.declared.facts.Access.TheVariants.{Public}
use Rattle.cxx_model.specs.declared.facts.Entity.{Entity}
use Rattle.cxx_model.specs.declared.facts.Entity.TheVariants as entity
use Rattle.cxx_model.specs.declared.facts.Fact.{Fact}
use Rattle.cxx_model.specs.declared.facts.Name.TheVariants.{Unnamed}
use Rattle.cxx_model.specs.declared.facts.ScopeKind.{ScopeKind}
use Rattle.cxx_model.specs.declared.facts.ScopeKind.TheVariants as kind
use Rattle.cxx_model.specs.declared.facts.ScopeKind.TheVariants.{Space}
use Rattle.cxx_model.specs.declared.place.Place.{Place}
use Rattle.cxx_model.specs.declared.stop.LimitKind.TheVariants.{Facts}
use Rattle.cxx_model.specs.declared.stop.Stop.{Stop}
use Rattle.cxx_model.specs.declared.stop.Stop.TheVariants as stop
use Rattle.cxx_model.specs.declared.types.FactId.{FactId}
use Rattle.cxx_model.specs.declared.types.ScopeId.{ScopeId}
use Rattle.cxx_model.specs.Facts.Declarations as facts
use Rattle.cxx_model.specs.Facts.Declarations.{CxxFact, graph_at, unnamed}
use Rattle.cxx_model.specs.Facts.Graph.{Graph}
use Rattle.cxx_model.specs.Stops.{◌>>=◌}
use Rattle.cxx_model.specs.Text.Lexemes.{first_place}
use Rattle.cxx_defined.specs.Defined.{Defines}
use Rattle.cxx_defined.specs.declared.defined.Definitions.{Definitions}
use Rattle.cxx_linked.specs.declared.linkages.Linkages.{Linkages}
use Rattle.cxx_linked.specs.Links.{Links}
use Rattle.cxx_names.specs.declared.names.Names.{Names}
use Rattle.cxx_names.specs.Index.{Notes}
use Rattle.cxx_names.specs.Plain.{ArePlain}
use Rattle.cxx_reading.specs.Declaring.{added, at_scope, entered_as, place_of_scope, scope_count}
use Rattle.cxx_reading.specs.Reads.{Asks}
use Rattle.cxx_reading.specs.Seen.{parent_of}
use Rattle.cxx_reading.specs.Spaces.{new_space}
use Rattle.cxx_reading.specs.State.{CxxState}
use Rattle.cxx_tree.specs.declared.noting.Noting.{Noting}
use Rattle.cxx_tree.specs.Held.{Held, IsSound, numbers_at}
use Rattle.cxx_tree.specs.Noting.{AreNoted}

abbrev pub place_by : Place → Entity → List Place
place_by place (entity.Scope parent kind) = place ∷ []
place_by place _ = []

-- 3.3: where the scopes stand, in order
abbrev pub scope_places : List Fact → List Place
scope_places [] = []
scope_places (fact ∷ facts) = place_by fact.place fact.what ++ scope_places facts

-- 3.3.5: the scope of the unit
abbrev pub unit_fact : Fact
unit_fact = record { place = first_place; scope = record { 0 = 0 }; name = Unnamed; access = Public; what = entity.Scope None Space }

abbrev pub unit_graph : Graph
unit_graph = record { facts = unit_fact ∷ []; classes = []; patterns = [] }

-- 3.3: a scope of a kind in another
abbrev pub scope_fact : ScopeKind → Place → ScopeId → Fact
scope_fact kind place scope = record { place = place; scope = scope; name = Unnamed; access = Public; what = entity.Scope (Some scope) kind }

-- the same in the scope where the reader stands
abbrev pub scope_at : ScopeKind → Place → CxxState → CxxFact
scope_at kind place state = record {
  place = place;
  scope = state.here.scope;
  name = unnamed;
  access = Public;
  what = facts.scope (Some (record { 0 = state.here.scope })) kind;
}

-- at the place of that
abbrev pub scope_within : ScopeKind → CxxState → CxxFact
scope_within kind state = scope_at kind (place_of_scope state.graph state.here.scope) state

-- it begins, and the reader stands in it then
abbrev pub entered_scope : ScopeKind → Asks CxxState ℕ
entered_scope kind state = do
  answer ← added (scope_within kind state) state
  Ok (entered_as (scope_count state.graph) answer)

-- 7.3.1: the scope of a namespace is added, and the reader stays where it is: the number of the scope
abbrev pub added_space : Place → Asks CxxState ℕ
added_space place state = do
  answer ← added (new_space state place) state
  Ok (scope_count state.graph, answer.1)

-- 9.2: the scope of a class is added, and the reader stays where it is: the number of the scope
abbrev pub added_class_scope : Place → ℕ → Asks CxxState ℕ
added_class_scope place n state = do
  answer ← added (scope_at (kind.Class (record { 0 = n })) place state) state
  Ok (scope_count state.graph, answer.1)

-- the scope where the reader stands ends
abbrev pub left_scope : CxxState → CxxState
left_scope state = at_scope (parent_of state.graph state.here.scope) state

-- 3.3.2: the function that a block names, where it names one, is declared
abbrev pub IsFunctionBelow : ℕ → Option FactId → Type 0
IsFunctionBelow count None = Unit {0}
IsFunctionBelow count (Some function) = function.0 < count

-- The names, the definitions, what is linked, the places of scopes, what sizes need, and what the members need that classes
-- declare by themselves are kept of the state. No declaration is a template.
pub record IsWhole (names : Names) (definitions : Definitions) (linkages : Linkages) (openings : List Place) (noting : Noting) (held : Held) : Type 0 where
  pub sound : IsSound held
  pub noted : Notes names held.graph.facts
  pub plain : ArePlain held.graph.facts
  pub defines : Defines definitions held.graph.facts (numbers_at held.defined)
  pub links : Links linkages held.graph.facts held.linked
  pub opened : openings ≡ scope_places held.graph.facts
  pub remembered : AreNoted noting (graph_at held.types held.graph).facts

abbrev pub stop_by : AddFault → Stop
stop_by fault.Limit = stop.Limit Facts
stop_by fault.OutOfMemory = stop.OutOfMemory

abbrev pub stopped_as : {X : Type 0} → Result X AddFault → Result X Stop
stopped_as (Ok x) = Ok x
stopped_as (Err fault) = Err (stop_by fault)
