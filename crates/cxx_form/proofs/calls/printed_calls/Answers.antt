use Rattle.std.proofs.Common.{ap, ◌∙◌}
use Rattle.cxx_tree.specs.Held.{trees}
use Rattle.cxx_form.specs.Lines.{lines_at}
use Rattle.cxx_form.proofs.Calling.{all_calls}
use Rattle.cxx_form.proofs.calls.printed_calls.Goals as goal

pub returns : goal.returns
returns c = all_calls c.args.state.now c.as_slice.result.now c.in_ok-found.found.items (ap (lines_at (trees c.args.state.now)) c.as_slice.ensures.value ∙ c.in_ok-lines.ensures.is) c.in_ok-found.ensures
