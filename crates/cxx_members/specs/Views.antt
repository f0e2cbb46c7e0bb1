-- What the values of the code stand for.
use Rattle.std.specs.Prelude.{◌≡◌, List, [], ◌∷◌, length, Option, Some, None}
use Rattle.cxx_model.specs.declared.facts.Entity.{Entity}
use Rattle.cxx_model.specs.declared.facts.Entity.TheVariants as entity
use Rattle.cxx_model.specs.declared.facts.Fact.{Fact}
use Rattle.cxx_model.specs.declared.types.ScopeId.{ScopeId}
use Rattle.cxx_model.specs.Facts.Declarations.{CxxFact, CxxGraph, graph_at, facts_at}
use Rattle.cxx_model.specs.Facts.Fitted.{IsGraphBelow}
use Rattle.cxx_meaning.specs.Lookups.Gathered.{before}
use Rattle.cxx_meaning.specs.Lookups.Wanted.{Wanted as WantedMeant, any_name, types_only, namespaces_only, before_colons}
use Rattle.cxx_members.specs.declared.wanted.Wanted.{Wanted}
use Rattle.cxx_members.specs.declared.wanted.Wanted.TheVariants as wanted
use Rattle.cxx_members.specs.declared.looking.Looking.{Looking}
use Rattle.cxx_members.specs.declared.index.Noted.{Noted}
use Rattle.cxx_members.specs.declared.index.MemberIndex.{MemberIndex}

-- what is kept of a declaration in a scope
abbrev pub noted_by : ScopeId → Entity → Option Noted
noted_by holder (entity.Scope parent kind) = Some (record { kind = kind; parent = holder })
noted_by holder _ = None

abbrev pub noted_of : Fact → Option Noted
noted_of fact = noted_by fact.scope fact.what

-- the scopes among some facts, in order
abbrev pub scopes_of : List Fact → List Noted
scopes_of [] = []
scopes_of (fact ∷ others) = before (noted_of fact) (scopes_of others)

-- An index has noted exactly these facts.
pub record Notes (index : MemberIndex) (facts : List Fact) : Type 0 where
  pub scopes : index.scopes.items ≡ scopes_of facts

-- ---- what a lookup reads

abbrev pub graph_of : Looking → CxxGraph
graph_of looking = graph_at looking.types.now looking.graph.now

abbrev pub facts_of : Looking → List CxxFact
facts_of looking = facts_at looking.types.now looking.graph.now.facts

-- The scopes are those of the graph, and each type that it names stands in the table.
pub record IsLooking (looking : Looking) : Type 0 where
  pub scopes : looking.scopes.now ≡ scopes_of looking.graph.now.facts
  pub below : IsGraphBelow (length looking.types.now) looking.graph.now

abbrev pub wanted_at : Wanted → WantedMeant
wanted_at wanted.Any = any_name
wanted_at wanted.Types = types_only
wanted_at wanted.Spaces = namespaces_only
wanted_at wanted.Holders = before_colons
