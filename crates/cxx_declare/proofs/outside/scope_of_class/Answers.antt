use Rattle.std.proofs.Common.{arith}
use Rattle.cxx_declare.proofs.Entering.{class_scope_is, class_scope_there}
use Rattle.cxx_declare.proofs.outside.scope_of_class.Goals as goal

pub returns-clause-is : goal.returns-clause-is
returns-clause-is c = class_scope_is c.args.state.now c.graph.result.now c.args.class c.scopes_of_class.result.now c.first_or_unit.result c.graph.ensures.is c.scopes_of_class.ensures c.first_or_unit.ensures

pub returns-clause-there : goal.returns-clause-there
returns-clause-there c = class_scope_there c.args.state.now c.graph.result.now c.args.class c.scopes_of_class.result.now c.first_or_unit.result c.graph.ensures.is c.scopes_of_class.ensures c.first_or_unit.ensures (omega (arith, c.scope-here.ensures.there))
