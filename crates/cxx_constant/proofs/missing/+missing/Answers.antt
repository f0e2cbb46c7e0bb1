use Rattle.cxx_constant.proofs.Wholes.{missing_is, there_too}
use Rattle.cxx_constant.proofs.missing.+missing.Goals as goal

pub missing-form_of-form-requires-clause-there : goal.missing-form_of-form-requires-clause-there
missing-form_of-form-requires-clause-there t c = there_too _ c.args.number.0 c.operands_of-operands.result.now c.requires.there c.operands_of-operands.ensures.below

pub missing-returns-clause-is : goal.missing-returns-clause-is
missing-returns-clause-is t c = missing_is c.args.known.now c.node-node.result.now c.args.number c.operands_of-operands.result.now c.form_of-form.result _ c.node-node.ensures.tree c.operands_of-operands.ensures.is c.form_of-form.ensures c.missing_by.ensures.is
