use Rattle.std.proofs.Common.{◌∙◌, ap, length}
use Rattle.cxx_members.specs.Ways.{three_of}
use Rattle.cxx_inherited.specs.Views.{graph_of, name_of, types_of, wanted_of}
use Rattle.cxx_inherited.proofs.Leading.{length_at, reached_is}
use Rattle.cxx_inherited.proofs.seeking.Seeking.table.Goals as goal

pub returns-clause-is : goal.returns-clause-is
returns-clause-is c =
    let seeking = c.args.self.now in
    let facts = seeking.looking.graph.now.facts in
    let is = reached_is (graph_of seeking) (wanted_of seeking) (name_of seeking) c.args.class (length facts) c.in_ok-numbers.numbers.items c.deref.result.now (length_at (types_of seeking) facts) (c.deref.ensures.value ∙ c.reverse.ensures.items) c.in_ok-numbers.ensures in
    c.in_ok-table.ensures.table.is c.args.class ∙ ap three_of is
