use Rattle.cxx_members.proofs.looking.Looking.is_pending.Goals as goal

pub returns : goal.returns
returns c = c.pending.ensures c.args.self.now.types.now
