use Rattle.cxx_phrase_text.proofs.StandsApart.{apart}
use Rattle.cxx_phrase_text.proofs.laws.operands_stand_apart.Goals as goal

pub returns : goal.returns
returns c = apart
