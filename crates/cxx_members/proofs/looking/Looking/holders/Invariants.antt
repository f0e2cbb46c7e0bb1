use Rattle.std.proofs.Common.{◌≡◌, ◌++◌, drop}
use Rattle.cxx_model.specs.Facts.Declarations.{facts_at, name_at}
use Rattle.cxx_meaning.specs.Lookups.Gathered.{gathered}
use Rattle.cxx_members.specs.Tables.{holder_in}
use Rattle.cxx_members.specs.Views.{graph_of, facts_of, wanted_at}
use Rattle.cxx_members.proofs.looking.Looking.holders.Given as goal

abbrev pub invariant-loop-number : goal.invariant-loop-number
invariant-loop-number g l = l.holders.items ++ gathered (holder_in (graph_of l.self) (wanted_at l.sought.wanted) (name_at l.self.types.now l.sought.name.now)) l.number (facts_at l.self.types.now (drop l.number l.self.graph.now.facts)) ≡ gathered (holder_in (graph_of l.self) (wanted_at l.sought.wanted) (name_at l.self.types.now l.sought.name.now)) 0 (facts_of l.self)
