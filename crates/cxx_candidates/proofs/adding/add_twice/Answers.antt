use Rattle.cxx_candidates.proofs.Viewed.{adds_twice}
use Rattle.cxx_candidates.proofs.adding.add_twice.Goals as goal

pub returns : goal.returns
returns c = adds_twice c.args.graph.now c.args.types.now c.args.list.now.items c.push_twice.new.list.items c.args.slots.now c.in_ok-push_twice.ensures c.requires
