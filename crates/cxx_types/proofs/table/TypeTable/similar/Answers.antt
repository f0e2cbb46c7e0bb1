use Rattle.cxx_model.specs.Types.Trees.{without_levels}
use Rattle.cxx_model.specs.Types.Numbers.{type_at}
use Rattle.cxx_types.proofs.Told.{told}
use Rattle.cxx_types.proofs.table.TypeTable.similar.Goals as goal

pub returns-clause-is : goal.returns-clause-is
returns-clause-is c = told c.is_similar.result (without_levels (type_at c.args.self.now c.args.one.0)) (without_levels (type_at c.args.self.now c.args.two.0)) c.is_similar.ensures
