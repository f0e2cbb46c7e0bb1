use Rattle.cxx_tree.specs.Held.{meaning, type_of}
use Rattle.cxx_declare.proofs.Redeclared.{again_found, again_ready}
use Rattle.cxx_declare.proofs.again.again_here.Goals as goal

pub returns-clause-is : goal.returns-clause-is
returns-clause-is c = λ kind place. again_found c.args.state.now c.graph.result.now c.scope.result c.args.word.now c.args.cv (type_of c.args.state.now c.args.of) c.declared_in-numbers.result.now _ c.graph.ensures.is c.scope.ensures.is (c.declared_in-numbers.ensures.numbered c.args.state.now.types) c.again_among.ensures.is

pub returns-clause-again : goal.returns-clause-again
returns-clause-again c =
    again_ready c.args.state.now (meaning c.args.state.now).here.scope c.args.word.now c.args.cv (type_of c.args.state.now c.args.of) c.again_among.result
    (again_found c.args.state.now c.graph.result.now c.scope.result c.args.word.now c.args.cv (type_of c.args.state.now c.args.of) c.declared_in-numbers.result.now _ c.graph.ensures.is c.scope.ensures.is (c.declared_in-numbers.ensures.numbered c.args.state.now.types) c.again_among.ensures.is)
    c.again_among.ensures.below
