use Rattle.cxx_declare.proofs.Making.{synonym_declared, synonym_ready}
use Rattle.cxx_declare.proofs.objects.declare_synonym.Goals as goal

pub declare-requires : goal.declare-requires
declare-requires c = synonym_ready c.args.state.now c.args.place c.args.word.now c.args.of c.in-Ok.fact c.in-Ok.ensures.there c.requires c.in-Ok.ensures.is

pub returns-in-Ok : goal.returns-in-Ok
returns-in-Ok c = λ kind. synonym_declared c.args.state.now c.declare.new.state kind c.args.place c.args.word.now c.args.of c.in-Ok.fact c.declare.result c.in-Ok.ensures.is c.declare.ensures.answered
