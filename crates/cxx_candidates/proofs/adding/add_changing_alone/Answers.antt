use Rattle.cxx_candidates.proofs.Viewed.{adds_changing_alone}
use Rattle.cxx_candidates.proofs.adding.add_changing_alone.Goals as goal

pub returns : goal.returns
returns c = adds_changing_alone c.args.graph.now c.args.types.now c.args.list.now.items c.push_changing_alone.new.list.items c.args.second c.args.firsts.now c.in_ok-push_changing_alone.ensures c.requires.second c.requires.firsts
