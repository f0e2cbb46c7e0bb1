use Rattle.std.proofs.Common.{◌<◌, length, arith}
use Rattle.cxx_model.specs.Types.Numbers.{type_at}
use Rattle.cxx_model.specs.Types.Trees.{pointer_to}
use Rattle.cxx_constant_tests.proofs.Growing.{typed}
use Rattle.cxx_constant_tests.proofs.unit.with_pointer.Goals as goal

pub returns : goal.returns
returns c =
    let known : c.args.to.0 < length c.args.unit.types = omega (arith, c.requires.known) in
    typed c.args.unit c.pointer_to.new.self c.in_ok-number.number (pointer_to (type_at c.args.unit.types c.args.to.0)) c.raised.result c.requires c.in_ok-number.ensures (c.requires.fitted.names c.args.to.0 known) c.raised.ensures
