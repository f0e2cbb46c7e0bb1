use Rattle.std.specs.Prelude.{length}
use Rattle.cxx_candidates.specs.Sources.{conversion_in}
use Rattle.cxx_candidates.proofs.Gathered.{fact_below, found_more, known_more}
use Rattle.cxx_candidates.proofs.conversions.conversions_among.Goals as goal

pub conversion_in-found-requires : goal.conversion_in-found-requires
conversion_in-found-requires c = fact_below (length c.args.types.now) c.args.graph.now.facts c.facts-fact-items.result.now c.loop-fact.fact-index c.fact-item.result c.facts-fact-items.ensures c.loop-fact-test.true c.fact-item.is c.requires.numbers.facts

pub loop-fact-preserved : goal.loop-fact-preserved
loop-fact-preserved c = record {
  is = found_more c.args.types.now c.args.graph.now.facts c.facts-fact-items.result.now c.loop-fact.fact-index c.fact-item.result c.loop-fact.list.items c.push_some.new.list.items c.conversion_in-found.result (conversion_in (length c.args.graph.now.classes) c.args.scopes.now) c.facts-fact-items.ensures c.loop-fact-test.true c.fact-item.is c.loop-fact.invariant.is c.conversion_in-found.ensures.is c.in_ok-push_some.ensures;
  known = known_more c.args.graph.now (length c.args.types.now) c.loop-fact.list.items c.push_some.new.list.items c.conversion_in-found.result c.loop-fact.invariant.known c.conversion_in-found.ensures.known c.in_ok-push_some.ensures;
}
