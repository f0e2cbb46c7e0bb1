use Rattle.std.proofs.Common.{◌∙◌, ap, refl}
use Rattle.cxx_reading.specs.Seen.{found_or_none, kind_of_found, set_in}
use Rattle.cxx_found.specs.Here.{found_here, or_nowhere}
use Rattle.cxx_found.specs.Views.{graph_of, name_of, types_of, wanted_of}
use Rattle.cxx_found.proofs.Chained.{sought_is}
use Rattle.cxx_found.proofs.seeking.Seeking.kind.Goals as goal

pub returns : goal.returns
returns c =
    let self = c.args.self.now in
    let of = or_nowhere (found_here (types_of self) (graph_of self) c.in_ok-here.here) in
    c.in_ok-kind.ensures ∙ ap (λ found. kind_of_found (graph_of self) (set_in (graph_of self) found)) (sought_is (graph_of self) (wanted_of self) c.args.scope (name_of self) (found_or_none of) of refl c.in_ok-here.ensures.is)
