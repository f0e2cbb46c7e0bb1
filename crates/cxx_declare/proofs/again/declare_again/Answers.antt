use Rattle.cxx_tree.specs.Held.{type_of}
use Rattle.cxx_declare.proofs.Redeclared.{again_answered, again_refused}
use Rattle.cxx_declare.proofs.again.declare_again.Goals as goal

pub returns-in-Some : goal.returns-in-Some
returns-in-Some c = λ kind. again_answered c.args.state.now c.add_again.new.state kind c.args.place c.args.word.now c.args.cv (type_of c.args.state.now c.args.of) c.in-Some.what c.add_again.result (c.in-Some.ensures.is kind c.args.place) (c.add_again.ensures kind)

pub returns-in-None : goal.returns-in-None
returns-in-None c = λ kind. again_refused c.args.state.now kind c.args.place c.args.word.now c.args.cv (type_of c.args.state.now c.args.of) c.refused_again.result (c.in-None.ensures.is kind c.args.place) (c.refused_again.ensures kind)
