use Rattle.std.proofs.Common.{◌∙◌}
use Rattle.cxx_standard.proofs.Reaching.{promoted_kept}
use Rattle.cxx_standard.proofs.table.promoted.Goals as goal

pub returns : goal.returns
returns c = c.promoted.ensures ∙ promoted_kept c.args.types.now c.args.graph.now c.args.number.0
