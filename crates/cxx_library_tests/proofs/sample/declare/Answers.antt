use Rattle.std.proofs.Common.{sym, subst}
use Rattle.cxx_model.specs.declared.facts.Fact.{Fact}
use Rattle.cxx_model.specs.Facts.Graph.{InRange, appended}
use Rattle.cxx_library_tests.proofs.Sampled.{declared-in-range, some-facts}
use Rattle.cxx_library_tests.proofs.sample.declare.Goals as goal

pub add-requires : goal.add-requires
add-requires c =
    subst (λ (fact : Fact). InRange (appended c.args.graph.now fact)) (sym c.fact.ensures)
    (declared-in-range c.args.graph.now c.args.what c.length.ensures.range (some-facts c.args.graph.now.facts c.length.result c.length.ensures.count c.if-length-eq0.false) c.requires)
