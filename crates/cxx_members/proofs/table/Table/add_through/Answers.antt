use Rattle.std.proofs.Common.{length}
use Rattle.cxx_members.proofs.Joining.{three_known}
use Rattle.cxx_members.proofs.Tables.{sound_more, table_more}
use Rattle.cxx_members.proofs.table.Table.add_through.Goals as goal

pub returns-clause-sound : goal.returns-clause-sound
returns-clause-sound c =
    let old = c.args.self.now.paths.items in
    let new = c.through_three.new.paths.items in
    let grows = c.in_ok-more.ensures.grows in
    let own = three_known (length old) (length new) c.entry-own.result grows.more c.entry-own.ensures.known in
    let ways = c.join.ensures.known (length new) own c.in_ok-more.ensures.known in
    sound_more old new c.args.self.now.records.items c.push.new.self.items (record { class = c.args.derived; ways = c.join.result }) c.requires grows ways c.in_ok-push.ensures.items

pub returns-clause-table : goal.returns-clause-table
returns-clause-table c = λ now table free.
    let old = c.args.self.now.paths.items in
    let new = c.through_three.new.paths.items in
    table_more old new c.args.self.now.holders.items c.args.self.now.records.items c.push.new.self.items c.args.derived c.args.parent c.args.index c.entry-own.result c.entry-base.result c.in_ok-more.more c.join.result now c.requires table free c.in_ok-more.ensures.grows c.entry-own.ensures.is c.entry-own.ensures.known c.entry-base.ensures.is c.in_ok-more.ensures.is (c.join.ensures.is new) c.in_ok-push.ensures.items
