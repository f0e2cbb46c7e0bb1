use Rattle.cxx_candidates.proofs.Viewed.{adds_alone}
use Rattle.cxx_candidates.proofs.adding.add_alone.Goals as goal

pub returns : goal.returns
returns c = adds_alone c.args.graph.now c.args.types.now c.args.list.now.items c.push_alone.new.list.items c.args.slots.now c.in_ok-push_alone.ensures c.requires
