use Rattle.cxx_defined.proofs.Owning.{defines_class}
use Rattle.cxx_defined.proofs.defined.Definitions.add_class.Goals as goal

pub returns-clause-more : goal.returns-clause-more
returns-clause-more c = λ defined kept. defines_class c.args.self.now c.note_class.new.self c.args.graph.now.facts defined c.args.class c.args.number c.requires c.in_ok-note_class.ensures.more kept
