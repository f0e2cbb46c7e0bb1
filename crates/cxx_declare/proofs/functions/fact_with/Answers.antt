use Rattle.cxx_declare.proofs.Making.{function_is, function_ready}
use Rattle.cxx_declare.proofs.functions.fact_with.Goals as goal

pub returns-clause-is : goal.returns-clause-is
returns-clause-is c = function_is c.args.state.now c.args.place c.args.word.now c.args.of c.args.defaults c.scope.result c.args.first c.in_ok-name.name c.fact_in.result c.scope.ensures.is c.in_ok-name.ensures c.fact_in.ensures

pub returns-clause-ready : goal.returns-clause-ready
returns-clause-ready c = function_ready c.args.state.now c.args.place c.args.word.now c.args.of c.args.defaults c.scope.result c.args.first c.in_ok-name.name c.fact_in.result c.scope.ensures.there c.requires.earlier c.requires.known c.in_ok-name.ensures c.fact_in.ensures
