use Rattle.std.proofs.Common.{◌∙◌}
use Rattle.std.specs.Int.{w128}
use Rattle.std.proofs.Math.Facts.{to_z-of_z}
use Rattle.cxx_form.proofs.Valued.{no_value, value_is}
use Rattle.cxx_form.proofs.enumerators.value_at.Goals as goal

pub returns : goal.returns
returns c = to_z-of_z {w = w128} (record { sfits = c.value_in.type_inv }) ∙ (c.value_in.ensures c.args.state.now.types ∙ value_is c.args.state.now c.args.number.0 c.in-Some.fact.now c.in-Some.ensures.is)

pub returns-in_default : goal.returns-in_default
returns-in_default c = no_value c.args.state.now c.args.number.0 c.in_default.ensures.is
