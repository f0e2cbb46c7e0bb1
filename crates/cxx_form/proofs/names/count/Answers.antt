use Rattle.std.proofs.Common.{◌≡◌, ◌≤◌, ◌+◌, ◌∙◌, ap, arith, drop, length, sym, true, false, List}
use Rattle.std.proofs.lemmas.List.{at_drop_all}
use Rattle.cxx_model.specs.declared.facts.Fact.{Fact}
use Rattle.cxx_model.specs.Facts.Graph.{enumerations, Graph}
use Rattle.cxx_form.proofs.Tagged.{count_at}
use Rattle.cxx_form.proofs.names.count.Goals as goal

pub loop-number-preserved-then-not-is_enumeration : goal.loop-number-preserved-then-not-is_enumeration
loop-number-preserved-then-not-is_enumeration c =
    let facts : List Fact = c.args.state.now.graph.facts in
    let number = c.loop-number.number in
    let cut : enumerations (drop number facts) ≡ enumerations (drop (number + 1) facts) = count_at facts number c.fact-fact.result.now false c.fact-fact.ensures.held (sym c.if-not-is_enumeration.true ∙ c.is_enumeration.ensures) in
    record { few = omega (arith, c.loop-number.invariant.few); counted = omega (arith, cut, c.loop-number.invariant.counted) }

pub loop-number-preserved : goal.loop-number-preserved
loop-number-preserved c =
    let facts : List Fact = c.args.state.now.graph.facts in
    let number = c.loop-number.number in
    let cut : enumerations (drop number facts) ≡ enumerations (drop (number + 1) facts) + 1 = count_at facts number c.fact-fact.result.now true c.fact-fact.ensures.held (sym c.if-not-is_enumeration.false ∙ c.is_enumeration.ensures) in
    record { few = omega (arith, c.loop-number.invariant.few); counted = omega (arith, cut, c.loop-number.invariant.counted) }

pub returns : goal.returns
returns c =
    let facts : List Fact = c.args.state.now.graph.facts in
    let count : c.length-number-end.result ≡ length facts = c.length-number-end.ensures.count ∙ ap (λ (graph : Graph). length graph.facts) c.graph.ensures.is in
    let past : length facts ≤ c.loop-number.number = omega (arith, c.loop-number-test.false) in
    let none : enumerations (drop c.loop-number.number facts) ≡ 0 = at_drop_all (λ (fs : List Fact). enumerations fs) facts c.loop-number.number past in
    omega (arith, none, c.loop-number.invariant.counted)
