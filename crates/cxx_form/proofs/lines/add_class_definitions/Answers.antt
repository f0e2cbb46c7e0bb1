use Rattle.std.proofs.Common.{◌≡◌, ◌≤◌, ◌∙◌, ap, arith, length}
use Rattle.cxx_model.specs.Facts.Graph.{Graph}
use Rattle.cxx_meaning.specs.Lookups.Gathered.{gathered}
use Rattle.cxx_form.specs.Order.{class_definitions}
use Rattle.cxx_tree.specs.Held.{trees}
use Rattle.cxx_form.specs.Giving.{class_definition_given}
use Rattle.cxx_form.specs.Views.{facts_in}
use Rattle.cxx_form.proofs.Lined.{definitions_gathered, given_all, given_on}
use Rattle.cxx_form.proofs.lines.add_class_definitions.Goals as goal

pub loop-number-preserved : goal.loop-number-preserved
loop-number-preserved c =
    let held = c.args.state.now in
    let give = class_definition_given (facts_in held) in
    given_on give held.types (trees held) held.graph.facts c.loop-number.number c.args.lines.now.items c.loop-number.lines.items c.add_class_definition.new.lines.items (gathered give 0 (facts_in held)) c.loop-number.invariant c.in_ok-add_class_definition.ensures

pub returns : goal.returns
returns c =
    let held = c.args.state.now in
    let give = class_definition_given (facts_in held) in
    let count : c.length-number-end.result ≡ length held.graph.facts = c.length-number-end.ensures.count ∙ ap (λ (graph : Graph). length graph.facts) c.graph.ensures.is in
    let past : length held.graph.facts ≤ c.loop-number.number = omega (arith, c.loop-number-test.false) in
    given_all give held.types (trees held) held.graph.facts c.loop-number.number c.args.lines.now.items c.loop-number.lines.items (gathered give 0 (facts_in held)) (class_definitions (facts_in held) (facts_in held)) past (definitions_gathered (facts_in held) 0 (facts_in held)) c.loop-number.invariant
