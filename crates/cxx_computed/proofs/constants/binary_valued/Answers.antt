use Rattle.cxx_computed.proofs.Wide.{right_held}
use Rattle.cxx_computed.proofs.constants.binary_valued.Goals as goal

pub value_of_two-requires-clause-held : goal.value_of_two-requires-clause-held
value_of_two-requires-clause-held c = λ e. right_held c.args.left c.args.right _ c.converted_value.result c.converted_value.ensures c.requires.wide (c.requires.same e)
