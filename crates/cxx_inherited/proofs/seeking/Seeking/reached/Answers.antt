use Rattle.std.proofs.Common.{length}
use Rattle.cxx_meaning.specs.Lookups.Member.{declares_member}
use Rattle.cxx_inherited.specs.Views.{facts_of, graph_of, name_of, wanted_of}
use Rattle.cxx_inherited.proofs.Reaching.{gathering_all, gathering_more}
use Rattle.cxx_inherited.proofs.seeking.Seeking.reached.Goals as goal

pub loop-number-preserved : goal.loop-number-preserved
loop-number-preserved c =
    let seeking = c.args.self.now in
    gathering_more (declares_member (graph_of seeking) (wanted_of seeking) (name_of seeking)) (facts_of seeking) (length seeking.looking.graph.now.facts) c.loop-number.bound c.args.class c.loop-number.reached.items c.push.new.self.items c.loop-number.waiting.keys c.take_last.new.waiting.keys c.note_parent.new.waiting.keys c.in-Some.number c.loop-number.invariant c.in-Some.ensures.last c.in_ok-push.ensures.items c.note_parent.ensures.below (λ n. c.in_ok-note_parent.ensures.kept n) c.in_ok-note_parent.ensures.covers

pub returns : goal.returns
returns c =
    let seeking = c.args.self.now in
    gathering_all (declares_member (graph_of seeking) (wanted_of seeking) (name_of seeking)) (facts_of seeking) (length seeking.looking.graph.now.facts) c.loop-number.bound c.args.class c.loop-number.reached.items c.loop-number.waiting.keys c.loop-number.invariant c.in_default.ensures.none
