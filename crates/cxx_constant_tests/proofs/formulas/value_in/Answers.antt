use Rattle.cxx_constant_tests.proofs.Growing.{noted_there}
use Rattle.cxx_constant_tests.proofs.formulas.value_in.Goals as goal

pub computed-requires-clause-noted : goal.computed-requires-clause-noted
computed-requires-clause-noted c = noted_there c.args.unit.now c.requires
