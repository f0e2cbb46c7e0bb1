use Rattle.std.proofs.Common.{◌∙◌}
use Rattle.cxx_standard.proofs.Reaching.{complete_kept}
use Rattle.cxx_standard.proofs.table.is_complete.Goals as goal

pub returns : goal.returns
returns c = c.complete.ensures ∙ complete_kept c.args.types.now c.args.graph.now c.args.class.0
