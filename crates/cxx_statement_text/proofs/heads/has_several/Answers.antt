use Rattle.std.proofs.Common.{ap, ◌∙◌}
use Rattle.cxx_tree.specs.Arena.{trees_in}
use Rattle.cxx_tree.specs.Held.{trees}
use Rattle.cxx_statement_text.specs.Statements.{has_several}
use Rattle.cxx_statement_text.proofs.heads.has_several.Goals as goal

pub returns : goal.returns
returns c = c.are_several.ensures (trees c.args.state.now) ∙ ap has_several (ap (trees_in (trees c.args.state.now)) c.as_slice-numbers.ensures.value ∙ c.in_ok-found.ensures.is)
