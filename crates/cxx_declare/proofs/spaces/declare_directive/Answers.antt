use Rattle.cxx_declare.proofs.Spacing.{directive_declared, directive_not_declared}
use Rattle.cxx_declare.proofs.spaces.declare_directive.Goals as goal

pub returns-in-Ok : goal.returns-in-Ok
returns-in-Ok c = directive_declared c.args.state.now c.add.new.self c.args.place c.args.inner c.scope.result c.fact_in-fact.result c.in-Ok.field-0 c.scope.ensures.is c.fact_in-fact.ensures c.in-Ok.ensures.answered

pub returns-in-Err : goal.returns-in-Err
returns-in-Err c = directive_not_declared c.args.state.now c.add.new.self c.args.place c.args.inner c.scope.result c.fact_in-fact.result c.in-Err.stop c.scope.ensures.is c.fact_in-fact.ensures c.in-Err.ensures.answered
