use Rattle.cxx_space.proofs.Behind.{stood}
use Rattle.cxx_space.proofs.space.Space.stood_again.Goals as goal

pub returns : goal.returns
returns g c = stood c.args.state.now c.stand_in.new.state c.args.outside.0 c.args.one c.args.cursor.now c.in_ok-stand_in.field-0 c.in_ok-stand_in.ensures.is.0 c.stand_in.ensures.later c.requires
