use Rattle.cxx_model.specs.declared.token.TokenKind.TheVariants.{Name}
use Rattle.cxx_declare.proofs.Befriending.{function_failed, function_then}
use Rattle.cxx_declare.proofs.friends.befriend_function.Goals as goal

pub befriend_in-requires : goal.befriend_in-requires
befriend_in-requires c = (c.in-Ok.ensures Name).is.1

pub returns-in-Ok : goal.returns-in-Ok
returns-in-Ok c = λ kind. function_then c.args.state.now c.set_scope.new.self c.declare_unread.new.state c.befriend_in.new.state c.args.scope c.home_here-home.result c.args.list kind c.args.place c.args.word.now c.args.of c.in-Ok.number c.befriend_in.result c.home_here-home.ensures.is c.set_scope.ensures.later c.set_scope.ensures.is c.set_scope.ensures.held (c.in-Ok.ensures kind) c.befriend_in.ensures

pub returns-in-Err : goal.returns-in-Err
returns-in-Err c = λ kind. function_failed c.args.state.now c.set_scope.new.self c.declare_unread.new.state c.args.scope c.home_here-home.result c.args.list kind c.args.place c.args.word.now c.args.of c.in-Err.stop c.home_here-home.ensures.is c.set_scope.ensures.later c.set_scope.ensures.is c.set_scope.ensures.held (c.in-Err.ensures kind)
