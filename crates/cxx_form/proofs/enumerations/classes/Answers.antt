use Rattle.std.proofs.Common.{◌≡◌, ◌∙◌, ap, arith, length}
use Rattle.cxx_model.specs.Facts.Graph.{Graph}
use Rattle.cxx_form.proofs.Enumerated.{all_first}
use Rattle.cxx_form.proofs.enumerations.classes.Goals as goal

pub returns : goal.returns
returns c =
    let held = c.args.state.now in
    let count : c.length-number-end.result ≡ length held.graph.facts = c.length-number-end.ensures.count ∙ ap (λ (graph : Graph). length graph.facts) c.graph.ensures.is in
    let all : length held.graph.facts ≡ c.loop-number.number = omega (arith, c.loop-number-test.false, c.loop-number.auto.number-end) in
    all_first held.types held.graph.facts c.loop-number.number c.loop-number.slots all c.loop-number.invariant
