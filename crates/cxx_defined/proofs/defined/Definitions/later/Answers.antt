use Rattle.cxx_defined.proofs.Owning.{defines_later}
use Rattle.cxx_defined.proofs.defined.Definitions.later.Goals as goal

pub returns : goal.returns
returns c = λ facts others defined kept. defines_later c.args.self.now facts others defined kept
