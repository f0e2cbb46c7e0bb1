use Rattle.cxx_computed.proofs.Wide.{computed_held}
use Rattle.cxx_constant.proofs.operators.shifted.Goals as goal

pub binary_value-requires-clause-one_held : goal.binary_value-requires-clause-one_held
binary_value-requires-clause-one_held c = computed_held c.args.of _ c.converted_value.result c.converted_value.ensures c.requires.wide
