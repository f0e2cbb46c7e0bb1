use Rattle.cxx_declare.proofs.Listing.{ended}
use Rattle.cxx_declare.proofs.enumerations.end_enumeration.Goals as goal

pub returns : goal.returns
returns c = ended c.args.state.now c.set_enumeration.new.self c.args.number.0 c.set_enumeration.ensures.later c.set_enumeration.ensures.is
