use Rattle.std.proofs.Common.{ap, ◌∙◌}
use Rattle.cxx_tree.specs.Arena.{trees_in}
use Rattle.cxx_tree.specs.Held.{trees}
use Rattle.cxx_statement_text.specs.Statements.{has_none}
use Rattle.cxx_statement_text.proofs.standing.prints_nothing.Goals as goal

pub returns : goal.returns
returns c = c.is_empty.ensures (trees c.args.state.now) ∙ ap has_none (ap (trees_in (trees c.args.state.now)) c.as_slice-numbers.ensures.value ∙ c.in_ok-found.ensures.is)
