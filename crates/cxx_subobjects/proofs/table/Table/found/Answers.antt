use Rattle.std.specs.BTreeMap.{get}
use Rattle.std.specs.Ordering.{nat_cmp}
use Rattle.cxx_subobjects.proofs.Joining.{one_known, several_known}
use Rattle.cxx_subobjects.proofs.table.Table.found.Goals as goal

pub path-requires-clause-known : goal.path-requires-clause-known
path-requires-clause-known c =
    let table = c.args.self.now in
    one_known table.steps.items c.deref.result.now (get nat_cmp table.known) table.base.0 c.args.class.0 c.in-One.only c.requires c.deref.ensures.value c.in-One.ensures

pub path-requires-in-Several-clause-known : goal.path-requires-in-Several-clause-known
path-requires-in-Several-clause-known c =
    let table = c.args.self.now in
    (several_known table.steps.items c.deref-in-Several.result.now (get nat_cmp table.known) table.base.0 c.args.class.0 c.in-Several.one c.in-Several.two c.requires c.deref-in-Several.ensures.value c.in-Several.ensures).0

pub path-requires-in-Several-2-clause-known : goal.path-requires-in-Several-2-clause-known
path-requires-in-Several-2-clause-known c =
    let table = c.args.self.now in
    (several_known table.steps.items c.deref-in-Several-2.result.now (get nat_cmp table.known) table.base.0 c.args.class.0 c.in-Several.one c.in-Several.two c.requires c.deref-in-Several-2.ensures.value c.in-Several.ensures).1
