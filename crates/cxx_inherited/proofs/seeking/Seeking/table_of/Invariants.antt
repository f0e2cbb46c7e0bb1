use Rattle.std.proofs.Common.{take}
use Rattle.cxx_meaning.specs.Lookups.Member.{declares_member}
use Rattle.cxx_inherited.specs.Tables.{IsSound, IsTable, own_by, ways_by}
use Rattle.cxx_inherited.specs.Views.{facts_of, graph_of, name_of, wanted_of}
use Rattle.cxx_inherited.proofs.seeking.Seeking.table_of.Given as goal

abbrev pub invariant-loop-number : goal.invariant-loop-number
invariant-loop-number l = record {
  sound : IsSound l.table.paths l.table.records;
  is : IsTable l.table.paths (declares_member (graph_of l.self) (wanted_of l.self) (name_of l.self)) l.table.records (ways_by (declares_member (graph_of l.self) (wanted_of l.self) (name_of l.self)) (facts_of l.self) (own_by (declares_member (graph_of l.self) (wanted_of l.self) (name_of l.self))) (take l.number-index l.numbers));
}
