use Rattle.cxx_language.proofs.Further.{known_is}
use Rattle.cxx_language.proofs.known.known_fact.Goals as goal

pub returns-clause-is : goal.returns-clause-is
returns-clause-is c = known_is c.args.state.now c.args.place c.args.word.now c.args.of c.args.value c.args.entity c.in_ok-fact.fact c.in_ok-fact.ensures.is
