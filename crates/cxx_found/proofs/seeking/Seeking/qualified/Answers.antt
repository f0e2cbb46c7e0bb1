use Rattle.std.proofs.Common.{◌∙◌, ap, sym}
use Rattle.cxx_meaning.specs.Lookups.Qualified.{sightings_of}
use Rattle.cxx_found.specs.Views.{cut_of, graph_of, name_of, or_nothing, wanted_of}
use Rattle.cxx_found.proofs.Alone.{all_found}
use Rattle.cxx_found.proofs.seeking.Seeking.qualified.Goals as goal

pub returns : goal.returns
returns c =
    let self = c.args.self.now in
    c.in_ok-found.ensures ∙ (ap or_nothing c.in_ok-near.ensures.is ∙ sym (all_found (graph_of self) (sightings_of (graph_of self) (cut_of self) (wanted_of self) (name_of self) c.args.space)))
