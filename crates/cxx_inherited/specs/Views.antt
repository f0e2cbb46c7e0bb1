-- What a lookup reads.
use Rattle.std.specs.Prelude.{ℕ, ◌≡◌, List, length}
use Rattle.cxx_model.specs.declared.types.ClassId.{ClassId}
use Rattle.cxx_model.specs.declared.types.ScopeId.{ScopeId}
use Rattle.cxx_model.specs.Facts.Declarations.{CxxFact, CxxGraph, CxxName, facts_at, graph_at, spelled}
use Rattle.cxx_model.specs.Facts.Fitted.{IsGraphBelow}
use Rattle.cxx_model.specs.Types.Trees.{CxxType}
use Rattle.cxx_meaning.specs.Lookups.Wanted.{Wanted}
use Rattle.cxx_members.specs.Views.{wanted_at}
use Rattle.cxx_names.specs.Holders.{held_from}
use Rattle.cxx_names.specs.Index.{Notes, of_class}
use Rattle.cxx_names.specs.Words.{IsMetAs}
use Rattle.cxx_inherited.specs.declared.seeking.Seeking.{Seeking}

-- The index is that of the graph, each type that the graph names stands in the table, and what is known of the word is so.
pub record IsSeeking (seeking : Seeking) : Type 0 where
  pub noted : Notes seeking.names.now seeking.looking.graph.now.facts
  pub below : IsGraphBelow (length seeking.looking.types.now) seeking.looking.graph.now
  pub met : IsMetAs seeking.names.now.words seeking.word.now seeking.met

abbrev pub types_of : Seeking → List CxxType
types_of seeking = seeking.looking.types.now

abbrev pub graph_of : Seeking → CxxGraph
graph_of seeking = graph_at seeking.looking.types.now seeking.looking.graph.now

abbrev pub facts_of : Seeking → List CxxFact
facts_of seeking = facts_at seeking.looking.types.now seeking.looking.graph.now.facts

abbrev pub wanted_of : Seeking → Wanted
wanted_of seeking = wanted_at seeking.wanted

abbrev pub name_of : Seeking → CxxName
name_of seeking = spelled seeking.word.now

-- the scopes of a class, in order
abbrev pub scopes_of_class : Seeking → ClassId → List ScopeId
scopes_of_class seeking class = of_class class (held_from 0 seeking.looking.graph.now.facts)
