use Rattle.cxx_names.proofs.Noting.{notes_met}
use Rattle.cxx_names.proofs.names.Names.meet.Goals as goal

pub returns-clause-noted : goal.returns-clause-noted
returns-clause-noted c = notes_met c.args.self.now c.meet.new.self c.args.graph.now.facts c.requires c.meet.ensures.met
