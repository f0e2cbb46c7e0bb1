use Rattle.std.proofs.Common.{◌≡◌, ◌∙◌, ap, arith, length}
use Rattle.cxx_model.specs.Facts.Graph.{Graph}
use Rattle.cxx_form.specs.Views.{facts_in}
use Rattle.cxx_form.proofs.Enumerated.{length_facts}
use Rattle.cxx_form.proofs.Sharings.{all_shared}
use Rattle.cxx_form.proofs.shared.shared.Goals as goal

pub returns : goal.returns
returns c =
    let held = c.args.state.now in
    let count : c.length-number-end.result ≡ length held.graph.facts = c.length-number-end.ensures.count ∙ ap (λ (graph : Graph). length graph.facts) c.graph.ensures.is in
    let all : length held.graph.facts ≡ c.loop-number.number = omega (arith, c.loop-number-test.false, c.loop-number.auto.number-end) in
    all_shared (facts_in held) c.loop-number.number c.loop-number.firsts.items (length_facts held.types held.graph.facts ∙ all) c.loop-number.invariant.0
