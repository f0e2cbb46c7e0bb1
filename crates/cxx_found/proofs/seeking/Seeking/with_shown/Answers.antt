use Rattle.std.proofs.Common.{◌∙◌, ap, map, subst}
use Rattle.cxx_meaning.specs.Lookups.Ordinary.{found_in_sightings, sightings_at}
use Rattle.cxx_members.specs.Sighted.{Adds}
use Rattle.cxx_found.specs.Views.{cut_of, found_near, graph_of, name_of, shown_of, types_of, wanted_of}
use Rattle.cxx_found.proofs.Inside.{found_shown}
use Rattle.cxx_found.proofs.seeking.Seeking.with_shown.Goals as goal

pub returns-clause-is : goal.returns-clause-is
returns-clause-is c =
    let self = c.args.self.now in
    let more = sightings_at (graph_of self) (cut_of self) (wanted_of self) (name_of self) (map shown_of c.args.shown.now) c.args.scope in
    let adds = subst (λ xs. Adds (types_of self) xs c.add_sightings_at.new.found.items more) c.new-found.ensures.items c.in_ok-add_sightings_at.ensures in
    found_shown (graph_of self) (wanted_of self) (name_of self) (cut_of self) (map shown_of c.args.shown.now) c.args.scope (found_near (types_of self) (graph_of self) c.nearest_of.result) c.requires.none (c.nearest_of.ensures.is ∙ ap (found_in_sightings (graph_of self)) adds.seen)

pub nearest_of-requires : goal.nearest_of-requires
nearest_of-requires c =
    let self = c.args.self.now in
    let more = sightings_at (graph_of self) (cut_of self) (wanted_of self) (name_of self) (map shown_of c.args.shown.now) c.args.scope in
    let adds = subst (λ xs. Adds (types_of self) xs c.add_sightings_at.new.found.items more) c.new-found.ensures.items c.in_ok-add_sightings_at.ensures in
    adds.below tt
