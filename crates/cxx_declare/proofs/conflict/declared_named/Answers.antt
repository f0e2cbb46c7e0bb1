use Rattle.std.proofs.Common.{refl}
use Rattle.cxx_declare.proofs.Clashing.{declared_nothing}
use Rattle.cxx_declare.proofs.conflict.declared_named.Goals as goal

pub returns-in_default : goal.returns-in_default
returns-in_default c = declared_nothing c.args.state.now c.args.scope.0 c.args.name.now _ c.requires c.in_default.not-Spelled refl
