use Rattle.std.proofs.Common.{◌<◌, ◌≡◌, ◌+◌, ◌*◌, arith, length, slice_index_or, sym}
use Rattle.cxx_model.specs.declared.types.TreeId.{TreeId}
use Rattle.cxx_tree.specs.Held.{trees}
use Rattle.cxx_phrase_text.proofs.Parts.{child_below}
use Rattle.cxx_statement_text.proofs.Printing.{part_more}
use Rattle.cxx_statement_text.proofs.objects.+printed.Goals as goal

pub add_each-add_in-requires : goal.add_each-add_in-requires
add_each-add_in-requires t c =
    let none : TreeId = record { 0 = 0 } in
    let within : (slice_index_or c.args.parts.now c.loop-part.part-index none).0 < c.args.end.0 = child_below c.args.end.0 c.args.parts.now c.loop-part.part-index none c.requires.earlier c.loop-part-test.true in
    let known : c.args.end.0 < length (trees c.args.state.now) = c.requires.known in
    let whole : t ≡ 2 * c.args.end.0 = sym c.decreases in
    let small : 2 * (slice_index_or c.args.parts.now c.loop-part.part-index none).0 + 1 < t = omega arith in
    (small, omega arith)

pub add_each-loop-part-preserved : goal.add_each-loop-part-preserved
add_each-loop-part-preserved t c =
    part_more c.args.state.now c.args.found.now.items c.loop-part.found.items c.add_in.new.found.items c.args.parts.now c.loop-part.part-index (record { 0 = 0 }) c.loop-part-test.true c.loop-part.invariant c.in_ok-add_in.ensures
