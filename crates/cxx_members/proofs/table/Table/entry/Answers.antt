use Rattle.std.proofs.Common.{◌∙◌, None, length, ap, sym}
use Rattle.cxx_members.specs.Ways.{latest}
use Rattle.cxx_members.proofs.Tables.{latest_known}
use Rattle.cxx_members.proofs.table.Table.entry.Goals as goal

pub returns-in-Some-clause-known : goal.returns-in-Some-clause-known
returns-in-Some-clause-known c =
    let table = c.args.self.now in
    latest_known (length table.paths.items) c.args.class table.records.items c.in-Some.three c.requires.known (ap (latest c.args.class None) (sym c.deref.ensures.value) ∙ sym c.in-Some.ensures)
