use Rattle.std.proofs.Common.{◌∙◌, ap, sym}
use Rattle.cxx_language.specs.Later.{defaults_read}
use Rattle.cxx_later.specs.FoundDefaults.{defaults_held}
use Rattle.cxx_reading.specs.Reads.{Ahead}
use Rattle.cxx_space.proofs.Behind.{all_behind}
use Rattle.cxx_tree.specs.Held.{meaning}
use Rattle.cxx_space.proofs.space.Space.all_read.Goals as goal

pub returns : goal.returns
returns g c =
    all_behind c.args.state.now c.defaults_read.new.state c.bodies_from.new.state c.args.from.now c.args.to.now c.defaults_read.new.cursor (defaults_held c.args.state.now c.args.defaults.now) c.args.bodies.now c.in_ok-defaults_read.field-0 c.bodies_from.result
    (ap (λ (at : Ahead). defaults_read (defaults_held c.args.state.now c.args.defaults.now) (meaning c.args.state.now) at) (sym c.mark-inside.ensures) ∙ c.in_ok-defaults_read.ensures.is.0)
    c.defaults_read.ensures.later c.requires.bodies (c.bodies_from.ensures c.defaults_read.new.cursor)
