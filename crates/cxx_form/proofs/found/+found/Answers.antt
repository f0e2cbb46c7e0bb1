use Rattle.std.proofs.Common.{◌<◌, ◌≡◌, ◌∙◌, ◌+◌, ◌*◌, ap, arith, length, slice_index_or, subst, sym, List}
use Rattle.std.specs.Prelude.{OnOk}
use Rattle.cxx_model.specs.declared.types.TreeId.{TreeId}
use Rattle.cxx_tree.specs.Arena.{trees_in}
use Rattle.cxx_tree.specs.Held.{tree, trees}
use Rattle.cxx_reading.specs.Trees.{CxxTree}
use Rattle.cxx_form.specs.Found.{each_found, found_inside, if_wanted, AddsTrees}
use Rattle.cxx_form.proofs.InTrees.{both_added, child_below, in_turn_found, none_added, part_more, parts_found, parts_passed}
use Rattle.cxx_form.proofs.found.+found.Goals as goal

pub add_each-add_in-requires : goal.add_each-add_in-requires
add_each-add_in-requires t c =
    let none : TreeId = record { 0 = 0 } in
    let within : (slice_index_or c.args.parts.now c.loop-part.part-index none).0 < c.args.end.0 = child_below c.args.end.0 c.args.parts.now c.loop-part.part-index none c.requires.earlier c.loop-part-test.true in
    let known : c.args.end.0 < length (trees c.args.state.now) = c.requires.known in
    let whole : t ≡ 3 * c.args.end.0 = sym c.decreases in
    let small : 3 * (slice_index_or c.args.parts.now c.loop-part.part-index none).0 + 2 < t = omega arith in
    (small, omega arith)

pub add_each-loop-part-preserved : goal.add_each-loop-part-preserved
add_each-loop-part-preserved t c =
    let all = trees c.args.state.now in
    part_more c.args.wanted c.args.passed all c.args.found.now.items c.loop-part.found.items c.add_in.new.found.items c.args.parts.now c.loop-part.part-index (record { 0 = 0 }) (each_found c.args.wanted c.args.passed (trees_in all c.args.parts.now)) c.loop-part-test.true c.loop-part.invariant c.in_ok-add_in.ensures

pub add_inside-returns-then-node-passed : goal.add_inside-returns-then-node-passed
add_inside-returns-then-node-passed t c =
    let held = c.args.state.now in
    subst (λ (ts : List CxxTree). AddsTrees (trees held) c.args.found.now.items c.args.found.now.items ts)
    (sym (parts_passed held.types (trees held) c.node-node.result.now (tree held c.args.number) c.node-node.ensures.tree c.args.wanted c.args.passed c.if-node-passed.true)) (none_added (trees held) c.args.found.now.items)

pub add_inside-returns : goal.add_inside-returns
add_inside-returns t c =
    let held = c.args.state.now in
    subst (λ (ts : List CxxTree). OnOk c.add_each.result (AddsTrees (trees held) c.args.found.now.items c.add_each.new.found.items ts))
    (ap (λ (ns : List TreeId). each_found c.args.wanted c.args.passed (trees_in (trees held) ns)) c.as_slice.ensures ∙ sym (parts_found held.types (trees held) c.node-node.result.now (tree held c.args.number) c.node-node.ensures.tree c.args.wanted c.args.passed c.if-node-passed.false)) c.add_each.ensures

pub add_in-returns : goal.add_in-returns
add_in-returns t c =
    let held = c.args.state.now in
    let one = tree held c.args.number in
    subst (λ (ts : List CxxTree). AddsTrees (trees held) c.args.found.now.items c.add_if.new.found.items ts) (in_turn_found c.args.wanted c.args.passed one)
    (both_added (trees held) c.args.found.now.items c.add_inside.new.found.items c.add_if.new.found.items (found_inside c.args.wanted c.args.passed one) (if_wanted c.args.wanted one) c.in_ok-add_inside.ensures c.in_ok-add_if.ensures)
