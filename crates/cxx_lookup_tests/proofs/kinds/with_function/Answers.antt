use Rattle.std.proofs.Common.{◌<◌, length, rules}
use Rattle.cxx_model.specs.Types.Numbers.{type_at}
use Rattle.cxx_lookup_tests.proofs.Growing.{adjusted_range, typed}
use Rattle.cxx_lookup_tests.proofs.kinds.with_function.Goals as goal

pub returns : goal.returns
returns c =
    let unit = c.args.unit in
    let names = c.requires.fitted.names in
    let one : c.args.returned.0 < length unit.types = search rules in
    let two : c.args.parameter.0 < length unit.types = search rules in
    let r = type_at unit.types c.args.returned.0 in
    let t = type_at unit.types c.args.parameter.0 in
    typed unit c.function_to.new.self c.in_ok-number.number _ c.raised.result c.requires c.in_ok-number.ensures (names c.args.returned.0 one, (adjusted_range unit.graph t (names c.args.parameter.0 two), tt)) c.raised.ensures
