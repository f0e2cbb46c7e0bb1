use Rattle.cxx_defined.proofs.Owning.{defines_more}
use Rattle.cxx_defined.proofs.defined.Definitions.add_own.Goals as goal

pub returns-clause-more : goal.returns-clause-more
returns-clause-more c = λ defined kept. defines_more c.args.self.now c.note.new.self c.args.graph.now.facts defined c.first_of-first.result c.args.number c.requires.own c.first_of-first.ensures c.in_ok-note.ensures.more kept
