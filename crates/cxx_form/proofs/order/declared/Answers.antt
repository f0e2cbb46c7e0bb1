use Rattle.std.proofs.Common.{length}
use Rattle.cxx_tree.specs.Held.{trees}
use Rattle.cxx_form.specs.declared.lines.Line.TheVariants as line
use Rattle.cxx_form.proofs.Lining.{line_below}
use Rattle.cxx_form.proofs.order.declared.Goals as goal

pub add_declared-requires-clause-below : goal.add_declared-requires-clause-below
add_declared-requires-clause-below c = line_below (length (trees c.args.state.now)) c.args.lines.now c.loop-line.line-index (line.Class (record { 0 = 0 })) c.requires.below c.loop-line-test.true
