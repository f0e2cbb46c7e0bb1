use Rattle.cxx_declare.proofs.Making.{object_is, object_ready}
use Rattle.cxx_declare.proofs.facts.object_with.Goals as goal

pub returns-clause-is : goal.returns-clause-is
returns-clause-is c = object_is c.args.state.now c.args.place c.args.word.now c.args.of c.args.kind c.scope.result c.args.first c.in_ok-name.name c.fact_in.result c.scope.ensures.is c.in_ok-name.ensures c.fact_in.ensures

pub returns-clause-ready : goal.returns-clause-ready
returns-clause-ready c = object_ready c.args.state.now c.args.place c.args.word.now c.args.of c.args.kind c.scope.result c.args.first c.in_ok-name.name c.fact_in.result c.scope.ensures.there c.requires.earlier c.requires.known c.requires.kind c.in_ok-name.ensures c.fact_in.ensures
