use Rattle.cxx_candidates.proofs.Gathered.{kinds_more}
use Rattle.cxx_candidates.proofs.conversions.scopes_of.Goals as goal

pub loop-fact-preserved : goal.loop-fact-preserved
loop-fact-preserved c = kinds_more c.args.types.now c.args.graph.now.facts c.facts-fact-items.result.now c.loop-fact.fact-index c.fact-item.result c.loop-fact.kinds.items c.push_kind.new.kinds.items c.facts-fact-items.ensures c.loop-fact-test.true c.fact-item.is c.loop-fact.invariant c.in_ok-push_kind.ensures
