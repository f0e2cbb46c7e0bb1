use Rattle.std.proofs.Common.{true, ◌-◌, ap, sym, ◌∙◌}
use Rattle.cxx_computed.specs.Values as definition
use Rattle.cxx_computed.proofs.Held.{product_there, product_fits}
use Rattle.cxx_computed.proofs.values.product.Goals as goal

pub returns-then-is_signed : goal.returns-then-is_signed
returns-then-is_signed c = c.value_in.ensures ∙ ap (definition.value_in c.args.of) (product_there c.args.one c.args.two c.ranges.one c.ranges.two (product_fits c.args.of c.args.one c.args.two c.requires.one_held c.requires.two_held (sym c.is_signed.ensures ∙ c.if-is_signed.true)))
