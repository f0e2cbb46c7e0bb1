use Rattle.std.proofs.Common.{◌∙◌, ap}
use Rattle.std.specs.List.{list_any}
use Rattle.cxx_inherited.specs.Rows.{is_sighted, row_of}
use Rattle.cxx_inherited.specs.Views.{graph_of, name_of, types_of, wanted_of}
use Rattle.cxx_inherited.proofs.Declaring.{declares_is}
use Rattle.cxx_inherited.proofs.seeking.Seeking.declares.Goals as goal

pub returns : goal.returns
returns c =
    let seeking = c.args.self.now in
    c.any_row_seen.ensures ∙ (ap (list_any (λ scope. list_any (is_sighted (graph_of seeking) (wanted_of seeking)) (row_of (graph_of seeking) (name_of seeking) scope))) c.scopes.ensures ∙ declares_is (types_of seeking) seeking.looking.graph.now (wanted_of seeking) (name_of seeking) c.args.class)
