use Rattle.std.proofs.Common.{◌≡◌, take}
use Rattle.cxx_model.specs.Facts.Declarations.{facts_at, name_at}
use Rattle.cxx_meaning.specs.Lookups.Gathered.{gathered}
use Rattle.cxx_meaning.specs.Lookups.Member.{ways_after}
use Rattle.cxx_members.specs.Tables.{IsSound, IsTable, holder_in, holds, own_by}
use Rattle.cxx_members.specs.Views.{graph_of, facts_of, wanted_at}
use Rattle.cxx_members.proofs.looking.Looking.table.Given as goal

abbrev pub invariant-loop-number : goal.invariant-loop-number
invariant-loop-number g l = record {
  sound : IsSound l.table.paths.items l.table.records.items;
  holders : l.table.holders.items ≡ gathered (holder_in (graph_of l.self) (wanted_at l.sought.wanted) (name_at l.self.types.now l.sought.name.now)) 0 (facts_of l.self);
  is : IsTable l.table.paths.items l.table.holders.items l.table.records.items (ways_after (holds l.table.holders.items) (own_by l.table.holders.items) (facts_at l.self.types.now (take l.number l.self.graph.now.facts)));
}
