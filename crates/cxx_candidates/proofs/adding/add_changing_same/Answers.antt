use Rattle.cxx_candidates.proofs.Viewed.{adds_changing_same}
use Rattle.cxx_candidates.proofs.adding.add_changing_same.Goals as goal

pub returns : goal.returns
returns c = adds_changing_same c.args.graph.now c.args.types.now c.args.list.now.items c.push_changing_same.new.list.items c.args.slots.now c.in_ok-push_changing_same.ensures c.requires
