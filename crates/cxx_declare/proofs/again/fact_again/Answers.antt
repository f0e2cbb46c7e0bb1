use Rattle.cxx_declare.proofs.Redeclared.{again_made, again_ready_as}
use Rattle.cxx_declare.proofs.again.fact_again.Goals as goal

pub returns-clause-is : goal.returns-clause-is
returns-clause-is c = λ kind. again_made c.args.state.now kind c.args.place c.args.word.now c.args.what c.scope.result c.in_ok-name.name c.fact_in.result c.scope.ensures.is c.in_ok-name.ensures c.fact_in.ensures

pub returns-clause-addable : goal.returns-clause-addable
returns-clause-addable c = again_ready_as c.args.state.now c.args.place c.args.word.now c.args.what c.scope.result c.in_ok-name.name c.fact_in.result c.scope.ensures.is c.scope.ensures.there c.requires c.in_ok-name.ensures c.fact_in.ensures
