use Rattle.cxx_names.proofs.Known.{files_none, if_err, on_err, row_met}
use Rattle.cxx_names.proofs.words.Words.file.Goals as goal

pub returns-in_err-spelling-clause-same : goal.returns-in_err-spelling-clause-same
returns-in_err-spelling-clause-same c = on_err c.from_residual.result _ (λ scope word. row_met c.args.self.now c.met.new.self c.requires c.met.ensures.met scope word)

pub returns-clause-same : goal.returns-clause-same
returns-clause-same c = if_err c.add.result _ _ (files_none c.args.self.now c.met.new.self c.add.new.self c.requires c.met.ensures.met) c.add.ensures.same
