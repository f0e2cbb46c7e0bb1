use Rattle.std.proofs.Common.{◌≡◌, [], Ok}
use Rattle.std.proofs.lemmas.Result.{IfOk-weaker}
use Rattle.cxx_meaning.specs.Lookups.Ordinary.{found_in_scope, found_in_sightings}
use Rattle.cxx_found.specs.Rows.{sighted_in}
use Rattle.cxx_found.specs.Views.{cut_of, found_near, graph_of, name_of, types_of, wanted_of}
use Rattle.cxx_found.proofs.Inside.{found_own}
use Rattle.cxx_found.proofs.seeking.Seeking.own.Goals as goal

pub returns-clause-is : goal.returns-clause-is
returns-clause-is c =
    let self = c.args.self.now in
    let sightings = sighted_in (graph_of self) (wanted_of self) c.row.result.now in
    IfOk-weaker c.among.result (λ near. found_near (types_of self) (graph_of self) near ≡ found_in_sightings (graph_of self) sightings) (λ near. found_in_scope (graph_of self) (wanted_of self) (name_of self) (cut_of self) [] c.args.scope ≡ Ok (found_near (types_of self) (graph_of self) near))
    (λ near e. found_own (graph_of self) (wanted_of self) (name_of self) (cut_of self) c.args.scope sightings (found_near (types_of self) (graph_of self) near) c.requires.none c.row.ensures e)
    c.among.ensures.is
