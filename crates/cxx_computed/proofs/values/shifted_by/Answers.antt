use Rattle.std.proofs.Common.{◌-◌, ap, ◌∙◌}
use Rattle.cxx_computed.specs.Values as definition
use Rattle.cxx_computed.proofs.Held.{shift_computed, shift_computed_fits}
use Rattle.cxx_computed.proofs.values.shifted_by.Goals as goal

pub overflow_mul-one : goal.overflow_mul-one
overflow_mul-one c = shift_computed_fits c.args.of c.args.one c.power_of_two.result c.args.count c.requires.held c.requires.small c.ranges.one c.power_of_two.ensures

pub returns : goal.returns
returns c = c.value_in.ensures ∙ ap (definition.value_in c.args.of) (shift_computed c.args.of c.args.one c.power_of_two.result c.args.count c.requires.held c.requires.small c.ranges.one c.power_of_two.ensures)
