use Rattle.cxx_computed.proofs.Wide.{computed_held}
use Rattle.cxx_constant.proofs.operators.unary_of_value.Goals as goal

pub unary_value-requires : goal.unary_value-requires
unary_value-requires c = computed_held c.args.of _ c.converted_value.result c.converted_value.ensures c.requires
