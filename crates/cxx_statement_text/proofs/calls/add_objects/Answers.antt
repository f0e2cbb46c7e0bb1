use Rattle.std.proofs.Common.{length}
use Rattle.cxx_tree.specs.Held.{trees}
use Rattle.cxx_phrase_text.proofs.Parts.{child_below}
use Rattle.cxx_statement_text.proofs.calls.add_objects.Goals as goal

pub add_object-requires : goal.add_object-requires
add_object-requires c = child_below (length (trees c.args.state.now)) c.args.numbers.now c.loop-number.number-index (record { 0 = 0 }) c.requires c.loop-number-test.true
