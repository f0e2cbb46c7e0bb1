use Rattle.cxx_declare.proofs.Spacing.{directive_ready, scope_still, unnamed_declared, unnamed_not_declared}
use Rattle.cxx_declare.proofs.spaces.declare_unnamed.Goals as goal

pub add_within-requires-clause-ready : goal.add_within-requires-clause-ready
add_within-requires-clause-ready c =
    directive_ready c.add.new.self c.args.place c.args.inner c.scope-scope.result c.fact_in-nominated.result
    (scope_still c.args.state.now c.add.new.self c.fact_in-named.result c.scope-scope.result.0 c.in-Ok.ensures.held c.scope-scope.ensures.there)
    (scope_still c.args.state.now c.add.new.self c.fact_in-named.result c.args.inner.0 c.in-Ok.ensures.held c.requires)
    c.fact_in-nominated.ensures

pub add_within-requires-clause-there : goal.add_within-requires-clause-there
add_within-requires-clause-there c = scope_still c.args.state.now c.add.new.self c.fact_in-named.result c.args.inner.0 c.in-Ok.ensures.held c.requires

pub returns-in-Ok : goal.returns-in-Ok
returns-in-Ok c = unnamed_declared c.args.state.now c.add.new.self c.add_within.new.state c.args.place c.args.inner c.scope-scope.result c.in-Ok.field-0 c.fact_in-named.result c.fact_in-nominated.result c.add_within.result c.scope-scope.ensures.is c.fact_in-named.ensures c.fact_in-nominated.ensures c.in-Ok.ensures.held c.in-Ok.ensures.answered c.add_within.ensures

pub returns-in-Err : goal.returns-in-Err
returns-in-Err c = unnamed_not_declared c.args.state.now c.add.new.self c.args.place c.args.inner c.scope-scope.result c.fact_in-named.result c.in-Err.stop c.scope-scope.ensures.is c.fact_in-named.ensures c.in-Err.ensures.answered
