use Rattle.std.proofs.Common.{◌≡◌, ◌≤◌, ◌<◌, ◌∙◌, ap, arith, length}
use Rattle.cxx_model.specs.Facts.Graph.{Graph}
use Rattle.cxx_form.specs.Order.{class_lines}
use Rattle.cxx_tree.specs.Held.{trees}
use Rattle.cxx_form.specs.Views.{facts_in}
use Rattle.cxx_form.proofs.Lined.{class_first, class_on, classes_all}
use Rattle.cxx_form.proofs.lines.add_classes.Goals as goal

pub loop-class-preserved : goal.loop-class-preserved
loop-class-preserved c =
    let held = c.args.state.now in
    let count : c.class_count-class-end.result ≡ length held.graph.classes = c.class_count-class-end.ensures ∙ ap (λ (graph : Graph). length graph.classes) c.graph-2.ensures.is in
    let within : c.loop-class.class < length held.graph.classes = omega (arith, c.loop-class-test.true, count) in
    class_on (trees held) (facts_in held) (length held.graph.classes) c.loop-class.class c.args.lines.now.items c.loop-class.lines.items c.push.new.self.items c.declaration-number.result (class_lines (facts_in held) 0 (length held.graph.classes)) within
    (class_first held c.args.places.now c.loop-class.class c.length-count.result c.declaration-number.result.0 c.requires (c.length-count.ensures.count ∙ ap (λ (graph : Graph). length graph.facts) c.graph.ensures.is) c.declaration-number.ensures)
    c.loop-class.invariant c.in_ok-push.ensures.items

pub returns : goal.returns
returns c =
    let held = c.args.state.now in
    let count : c.class_count-class-end.result ≡ length held.graph.classes = c.class_count-class-end.ensures ∙ ap (λ (graph : Graph). length graph.classes) c.graph-2.ensures.is in
    let past : length held.graph.classes ≤ c.loop-class.class = omega (arith, c.loop-class-test.false, count) in
    classes_all (trees held) (facts_in held) (length held.graph.classes) c.loop-class.class c.args.lines.now.items c.loop-class.lines.items (class_lines (facts_in held) 0 (length held.graph.classes)) past c.loop-class.invariant
