use Rattle.cxx_found.specs.Here.{found_here, or_nowhere}
use Rattle.cxx_found.specs.Views.{graph_of, name_of, types_of, wanted_of}
use Rattle.cxx_found.proofs.Chained.{sought_is}
use Rattle.cxx_found.proofs.seeking.Seeking.sought.Goals as goal

pub returns : goal.returns
returns c =
    let self = c.args.self.now in
    sought_is (graph_of self) (wanted_of self) c.args.scope (name_of self) c.in_ok-found.found (or_nowhere (found_here (types_of self) (graph_of self) c.in_ok-here.here)) c.in_ok-found.ensures c.in_ok-here.ensures.is
