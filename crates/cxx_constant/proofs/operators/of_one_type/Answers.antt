use Rattle.cxx_computed.proofs.Wide.{computed_held}
use Rattle.cxx_constant.proofs.operators.of_one_type.Goals as goal

pub binary_value-requires-clause-one_held : goal.binary_value-requires-clause-one_held
binary_value-requires-clause-one_held c = computed_held c.args.of _ c.converted_value-one.result c.converted_value-one.ensures c.requires

pub binary_value-requires-clause-two_held : goal.binary_value-requires-clause-two_held
binary_value-requires-clause-two_held c = λ other. computed_held c.args.of _ c.converted_value-two.result c.converted_value-two.ensures c.requires
