use Rattle.cxx_model.specs.declared.token.TokenKind.TheVariants.{Name}
use Rattle.cxx_tree.specs.Held.{type_of}
use Rattle.cxx_declare.proofs.Befriending.{again_failed, again_then}
use Rattle.cxx_declare.proofs.friends.befriend_again.Goals as goal

pub befriend_in-requires : goal.befriend_in-requires
befriend_in-requires c = (c.in-Ok.ensures Name).is.1

pub returns-in-Ok : goal.returns-in-Ok
returns-in-Ok c = λ kind. again_then c.args.state.now c.declare_again.new.state c.befriend_in.new.state c.args.scope kind c.args.place c.args.word.now c.args.cv (type_of c.args.state.now c.args.of) c.in-Ok.number c.befriend_in.result (c.in-Ok.ensures kind) c.befriend_in.ensures

pub returns-in-Err : goal.returns-in-Err
returns-in-Err c = λ kind. again_failed c.args.state.now c.declare_again.new.state c.args.scope kind c.args.place c.args.word.now c.args.cv (type_of c.args.state.now c.args.of) c.in-Err.stop (c.in-Err.ensures kind)
