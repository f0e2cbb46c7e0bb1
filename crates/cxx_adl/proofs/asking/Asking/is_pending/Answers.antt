use Rattle.cxx_adl.proofs.asking.Asking.is_pending.Goals as goal

pub returns : goal.returns
returns c = c.pending.ensures c.args.self.now.types.now
