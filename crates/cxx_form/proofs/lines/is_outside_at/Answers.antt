use Rattle.std.proofs.Common.{sym, ◌∙◌}
use Rattle.cxx_form.proofs.Lined.{outside_there, outside_nowhere}
use Rattle.cxx_form.proofs.lines.is_outside_at.Goals as goal

pub returns-in-Some : goal.returns-in-Some
returns-in-Some c = c.is_outside_by.ensures c.args.state.now.types ∙ outside_there c.args.state.now.types c.args.state.now.graph.facts c.args.number.0 c.in-Some.fact.now (sym c.in-Some.ensures.is)

pub returns-in-None : goal.returns-in-None
returns-in-None c = outside_nowhere c.args.state.now.types c.args.state.now.graph.facts c.args.number.0 (sym c.in-None.ensures.is)
