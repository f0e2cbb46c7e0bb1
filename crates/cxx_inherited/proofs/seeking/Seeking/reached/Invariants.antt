use Rattle.std.proofs.Common.{length}
use Rattle.cxx_meaning.specs.Lookups.Member.{declares_member}
use Rattle.cxx_inherited.specs.Reached.{IsGathering}
use Rattle.cxx_inherited.specs.Views.{facts_of, graph_of, name_of, wanted_of}
use Rattle.cxx_inherited.proofs.seeking.Seeking.reached.Given as goal

abbrev pub invariant-loop-number : goal.invariant-loop-number
invariant-loop-number l = IsGathering (declares_member (graph_of l.self) (wanted_of l.self) (name_of l.self)) (facts_of l.self) (length l.self.looking.graph.now.facts) l.bound l.fn.class l.reached.items l.waiting.keys

abbrev pub decreases-loop-number : goal.decreases-loop-number
decreases-loop-number l = l.bound
