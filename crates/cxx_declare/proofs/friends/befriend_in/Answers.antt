use Rattle.cxx_declare.proofs.Befriending.{befriended_failed, befriended_noted}
use Rattle.cxx_declare.proofs.friends.befriend_in.Goals as goal

pub returns-in-Ok : goal.returns-in-Ok
returns-in-Ok c = befriended_noted c.args.state.now c.set_scope.new.self c.befriend.new.state c.args.scope c.args.place c.args.number _ c.set_scope.ensures.later c.set_scope.ensures.is c.in-Ok.ensures

pub returns-in-Err : goal.returns-in-Err
returns-in-Err c = befriended_failed c.args.state.now c.set_scope.new.self c.befriend.new.state c.args.scope c.args.place c.args.number c.in-Err.stop c.set_scope.ensures.later c.set_scope.ensures.is c.in-Err.ensures
