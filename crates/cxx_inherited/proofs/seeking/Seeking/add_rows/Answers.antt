use Rattle.std.proofs.Common.{◌∙◌, subst}
use Rattle.std.specs.Prelude.{OnOk}
use Rattle.cxx_members.specs.Sighted.{Adds}
use Rattle.cxx_inherited.specs.Rows.{sighted_in}
use Rattle.cxx_inherited.specs.Views.{graph_of, name_of, types_of, wanted_of}
use Rattle.cxx_inherited.proofs.Declaring.{alone_is}
use Rattle.cxx_inherited.proofs.seeking.Seeking.add_rows.Goals as goal

pub returns-in-len1 : goal.returns-in-len1
returns-in-len1 c =
    let seeking = c.args.self.now in
    let row = c.row.ensures ∙ alone_is (graph_of seeking) (name_of seeking) c.args.scopes.now _ c.in-len1.len_at_least c.in-len1.len_below in
    subst (λ numbers. OnOk c.add_row.result (Adds (types_of seeking) c.args.found.now.items c.add_row.new.found.items (sighted_in (graph_of seeking) (wanted_of seeking) numbers))) row c.add_row.ensures
