use Rattle.cxx_model.specs.Types.Trees.{unqualified}
use Rattle.cxx_model.specs.Types.Numbers.{type_at}
use Rattle.cxx_types.proofs.Told.{told}
use Rattle.cxx_types.proofs.table.TypeTable.same_unqualified.Goals as goal

pub returns : goal.returns
returns c = told c.is_same_unqualified.result (unqualified (type_at c.args.self.now c.args.one.0)) (unqualified (type_at c.args.self.now c.args.two.0)) c.is_same_unqualified.ensures
