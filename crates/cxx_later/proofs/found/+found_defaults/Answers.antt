use Rattle.std.proofs.Common.{◌<◌, ◌≡◌, ◌∙◌, ◌+◌, ◌*◌, ap, arith, length, slice_index_or, subst, sym, List}
use Rattle.std.specs.Prelude.{OnOk}
use Rattle.cxx_cursor.specs.Views.{trees_held}
use Rattle.cxx_later.specs.Defaults.{LaterDefault}
use Rattle.cxx_later.specs.FoundDefaults.{AddsDefaults, each_default}
use Rattle.cxx_later.proofs.Adding.{child_below}
use Rattle.cxx_later.proofs.AddingDefaults.{part_more, parts_are}
use Rattle.cxx_model.specs.declared.types.TreeId.{TreeId}
use Rattle.cxx_tree.specs.Held.{tree, trees}
use Rattle.cxx_later.proofs.found.+found_defaults.Goals as goal

pub add_each-add_in-requires : goal.add_each-add_in-requires
add_each-add_in-requires t c =
    let none : TreeId = record { 0 = 0 } in
    let within : (slice_index_or c.args.parts.now c.loop-part.part-index none).0 < c.args.end.0 = child_below c.args.end.0 c.args.parts.now c.loop-part.part-index none c.requires.earlier c.loop-part-test.true in
    let known : c.args.end.0 < length (trees c.args.state.now) = c.requires.known in
    let whole : t ≡ 2 * c.args.end.0 = sym c.decreases in
    let small : 2 * (slice_index_or c.args.parts.now c.loop-part.part-index none).0 + 1 < t = omega arith in
    (small, omega arith)

pub add_each-loop-part-preserved : goal.add_each-loop-part-preserved
add_each-loop-part-preserved t c =
    let held = c.args.state.now in
    part_more held c.args.found.now.items c.loop-part.found.items c.add_in.new.found.items c.args.parts.now c.loop-part.part-index (record { 0 = 0 }) (each_default (trees_held held c.args.parts.now)) c.loop-part-test.true c.loop-part.invariant c.in_ok-add_in.ensures

pub add_in-returns : goal.add_in-returns
add_in-returns t c =
    let held = c.args.state.now in
    let node = c.node-node.result.now in
    subst (λ (ws : List LaterDefault). OnOk c.add_each.result (AddsDefaults held c.args.found.now.items c.add_each.new.found.items ws))
    (ap (λ (ns : List TreeId). each_default (trees_held held ns)) c.as_slice.ensures
    ∙ sym (parts_are held node (tree held c.args.number) c.node-node.ensures.tree c.if-node-eq-LATER_DEFAULT.false c.if-node-eq-DECLARATOR.false)) c.add_each.ensures
