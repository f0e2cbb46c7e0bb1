use Rattle.std.proofs.Common.{◌≡◌, ◌∙◌, ap}
use Rattle.cxx_model.specs.Facts.Graph.{Graph}
use Rattle.cxx_form.proofs.Gathering.{fact_fits, fact_held, fact_there}
use Rattle.cxx_form.proofs.facts.fact.Goals as goal

pub returns-clause-held : goal.returns-clause-held
returns-clause-held c =
    let held = c.args.state.now in
    let same : c.facts.result.now ≡ held.graph.facts = c.facts.ensures ∙ ap (λ (graph : Graph). graph.facts) c.graph.ensures.is in
    fact_held c.facts.result.now held.graph.facts c.args.number.0 c.index-facts-number.result same c.requires c.index-facts-number.is

pub returns-clause-is : goal.returns-clause-is
returns-clause-is c =
    let held = c.args.state.now in
    let same : c.facts.result.now ≡ held.graph.facts = c.facts.ensures ∙ ap (λ (graph : Graph). graph.facts) c.graph.ensures.is in
    fact_there held.types c.facts.result.now held.graph.facts c.args.number.0 c.index-facts-number.result same c.requires c.index-facts-number.is

pub returns-clause-below : goal.returns-clause-below
returns-clause-below c =
    let held = c.args.state.now in
    let same : c.facts.result.now ≡ held.graph.facts = c.facts.ensures ∙ ap (λ (graph : Graph). graph.facts) c.graph.ensures.is in
    fact_fits _ c.facts.result.now held.graph.facts c.args.number.0 c.index-facts-number.result c.graph.ensures.fitted.numbers.facts same c.requires c.index-facts-number.is
