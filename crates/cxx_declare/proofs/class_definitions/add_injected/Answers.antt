use Rattle.cxx_declare.proofs.Begun.{injected}
use Rattle.cxx_declare.proofs.Spacing.{scope_still}
use Rattle.cxx_declare.proofs.class_definitions.add_injected.Goals as goal

pub set_scope-requires : goal.set_scope-requires
set_scope-requires c = scope_still c.args.state.now c.add.new.self c.args.fact c.args.inner.0 c.in-Ok.ensures.held c.requires.there

pub returns-in-Ok : goal.returns-in-Ok
returns-in-Ok c = injected c.args.state.now c.add.new.self c.set_scope.new.self c.args.fact c.args.class c.args.inner c.in-Ok.field-0 c.requires.class c.in-Ok.ensures.held c.in-Ok.ensures.answered c.set_scope.ensures.later c.set_scope.ensures.is c.set_scope.ensures.held
