use Rattle.std.proofs.Common.{length}
use Rattle.cxx_meaning.specs.Lookups.Member.{declares_member}
use Rattle.cxx_inherited.specs.Views.{graph_of, name_of, wanted_of}
use Rattle.cxx_inherited.proofs.Joining.{three_known}
use Rattle.cxx_inherited.proofs.Keeping.{sound_more, table_more}
use Rattle.cxx_inherited.proofs.seeking.Seeking.add_through.Goals as goal

pub returns-clause-sound : goal.returns-clause-sound
returns-clause-sound c =
    let old = c.args.table.now.paths in
    let new = c.through_three.new.paths in
    let grows = c.in_ok-more.ensures.grows in
    let own = three_known (length old) (length new) c.entry-own.result grows.more c.entry-own.ensures.known in
    let ways = c.join.ensures.known (length new) own c.in_ok-more.ensures.known in
    sound_more old new c.args.table.now.records c.insert.new.self c.args.derived.0 c.join.result c.requires.sound grows ways (λ q. c.in_ok-insert.ensures.updates.0 q)

pub returns-clause-table : goal.returns-clause-table
returns-clause-table c = λ now table.
    let seeking = c.args.self.now in
    let old = c.args.table.now.paths in
    let new = c.through_three.new.paths in
    table_more old new (declares_member (graph_of seeking) (wanted_of seeking) (name_of seeking)) c.args.table.now.records c.insert.new.self c.args.derived c.args.parent c.args.index c.entry-own.result c.entry-base.result c.in_ok-more.more c.join.result now c.requires.sound table c.requires.free c.in_ok-more.ensures.grows c.entry-own.ensures.is c.entry-own.ensures.known c.entry-base.ensures.is c.in_ok-more.ensures.is (c.join.ensures.is new) (λ q. c.in_ok-insert.ensures.updates.0 q)
