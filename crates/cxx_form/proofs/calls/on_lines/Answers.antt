use Rattle.std.proofs.Common.{length}
use Rattle.cxx_tree.specs.Held.{trees}
use Rattle.cxx_form.specs.declared.lines.Line.TheVariants as line
use Rattle.cxx_form.proofs.Lining.{line_below}
use Rattle.cxx_form.proofs.calls.on_lines.Goals as goal

pub add_calls_on-requires : goal.add_calls_on-requires
add_calls_on-requires c = line_below (length (trees c.args.state.now)) c.args.lines.now c.loop-line.line-index (line.Class (record { 0 = 0 })) c.requires c.loop-line-test.true
