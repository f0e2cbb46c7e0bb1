use Rattle.std.proofs.Common.{sym, ◌∙◌}
use Rattle.cxx_model.specs.Facts.Declarations.{graph_at}
use Rattle.cxx_candidates.specs.Shapes.{conversion_at}
use Rattle.cxx_candidates.specs.Sources.{is_hidden_by}
use Rattle.cxx_candidates.proofs.Gathered.{passes}
use Rattle.cxx_candidates.proofs.conversions.is_hidden.Goals as goal

pub returns-then-branch : goal.returns-then-branch
returns-then-branch c =
    let types = c.args.types.now in
    sym (passes types (is_hidden_by (graph_at types c.args.graph.now) (conversion_at types c.args.one)) c.args.all.now c.loop-other.other-index _ c.loop-other-test.true (sym c.in_ok-is_hidden_by.ensures ∙ c.if-branch.true))
