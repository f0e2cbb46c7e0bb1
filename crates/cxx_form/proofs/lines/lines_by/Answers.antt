use Rattle.std.proofs.Common.{ap, length, map, ◌∙◌}
use Rattle.std.specs.Prelude.{flat_map}
use Rattle.cxx_reading.specs.TextOrder.{part_tree}
use Rattle.cxx_tree.specs.Arena.{trees_in}
use Rattle.cxx_tree.specs.Held.{pieces_at, trees}
use Rattle.cxx_form.specs.Order.{declarators_of, definitions_of}
use Rattle.cxx_form.specs.Views.{facts_in}
use Rattle.cxx_form.proofs.Lined.{all_lines, lines_are}
use Rattle.cxx_form.proofs.lines.lines_by.Goals as goal

pub returns-clause-is : goal.returns-clause-is
returns-clause-is c =
    let held = c.args.state.now in
    let all = trees held in
    let pieces = map part_tree (pieces_at all held.pieces) in
    lines_are held c.add_definitions.new.lines.items
    (all_lines all (facts_in held) (length held.graph.classes) c.as_slice.result.now c.as_slice-2.result.now (flat_map declarators_of pieces) (flat_map definitions_of pieces) c.new-found.result.items c.add_classes.new.lines.items c.add_enumerations.new.lines.items c.add_class_definitions.new.lines.items c.add_functions.new.lines.items c.add_objects.new.lines.items c.add_definitions.new.lines.items
    c.new-found.ensures.items (ap (trees_in all) c.as_slice.ensures.value ∙ c.in_ok-declarators.ensures.is) (ap (trees_in all) c.as_slice-2.ensures.value ∙ c.in_ok-definitions.ensures.is)
    c.in_ok-add_classes.ensures c.in_ok-add_enumerations.ensures c.in_ok-add_class_definitions.ensures c.in_ok-add_functions.ensures c.in_ok-add_objects.ensures c.in_ok-add_definitions.ensures).0
