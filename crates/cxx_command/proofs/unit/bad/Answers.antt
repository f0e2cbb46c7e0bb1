use Rattle.cxx_model.specs.declared.fault.FaultText.TheVariants as says
use Rattle.cxx_model.specs.Stops.{fault}
use Rattle.cxx_command.proofs.unit.bad.Goals as goal

pub returns : goal.returns
returns c options = c.broken.ensures options (fault c.args.place (says.BadToken c.args.reason)) c.bad_token.ensures
