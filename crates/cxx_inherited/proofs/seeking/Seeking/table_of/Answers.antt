use Rattle.std.proofs.Common.{subst, sym}
use Rattle.cxx_meaning.specs.Lookups.Member.{declares_member}
use Rattle.cxx_inherited.specs.Tables.{IsTable, own_by, ways_by}
use Rattle.cxx_inherited.specs.Views.{facts_of, graph_of, name_of, wanted_of}
use Rattle.std.proofs.Common.{take}
use Rattle.cxx_inherited.proofs.Keeping.{by_more}
use Rattle.cxx_inherited.proofs.seeking.Seeking.table_of.Goals as goal

pub loop-number-preserved : goal.loop-number-preserved
loop-number-preserved c =
    let seeking = c.args.self.now in
    let declares = declares_member (graph_of seeking) (wanted_of seeking) (name_of seeking) in
    let all = facts_of seeking in
    let own = own_by declares in
    let numbers = c.args.numbers.now in
    let i = c.loop-number.number-index in
    record {
      sound = c.in_ok-add_numbered.ensures.sound;
      is = subst (IsTable c.add_numbered.new.table.paths declares c.add_numbered.new.table.records) (sym (by_more declares all own numbers i 0 c.loop-number-test.true)) (c.in_ok-add_numbered.ensures.table (ways_by declares all own (take i numbers)) c.loop-number.invariant.is);
    }
