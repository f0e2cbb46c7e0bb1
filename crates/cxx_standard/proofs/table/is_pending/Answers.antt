use Rattle.cxx_standard.proofs.table.is_pending.Goals as goal

pub returns : goal.returns
returns c = c.pending.ensures c.args.types.now
