use Rattle.std.proofs.Common.{◌≡◌, drop}
use Rattle.cxx_model.specs.Facts.Declarations.{facts_at, name_at}
use Rattle.cxx_meaning.specs.Lookups.Associated.{befriended}
use Rattle.cxx_meaning.specs.Lookups.Gathered.{gathered, with_facts}
use Rattle.cxx_adl.specs.Functions.{firsts}
use Rattle.cxx_adl.specs.Views.{facts_of, graph_of}
use Rattle.cxx_adl.proofs.asking.Asking.add_friends.Given as goal

abbrev pub invariant-loop-number : goal.invariant-loop-number
invariant-loop-number g l = with_facts l.found.items (firsts (graph_of l.self) (gathered (befriended (graph_of l.self) (name_at l.self.types.now l.name) l.classes) l.number (facts_at l.self.types.now (drop l.number l.self.graph.now.facts)))) ≡ with_facts l.fn.found.items (firsts (graph_of l.self) (gathered (befriended (graph_of l.self) (name_at l.self.types.now l.name) l.classes) 0 (facts_of l.self)))
