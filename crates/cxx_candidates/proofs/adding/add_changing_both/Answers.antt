use Rattle.cxx_candidates.proofs.Viewed.{adds_changing_both}
use Rattle.cxx_candidates.proofs.adding.add_changing_both.Goals as goal

pub returns : goal.returns
returns c = adds_changing_both c.args.graph.now c.args.types.now c.args.list.now.items c.push_changing_both.new.list.items c.args.firsts.now c.args.others.now c.in_ok-push_changing_both.ensures c.requires.firsts c.requires.others
