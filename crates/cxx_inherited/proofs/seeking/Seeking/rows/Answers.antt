use Rattle.std.proofs.Common.{◌∙◌, sym}
use Rattle.std.proofs.lemmas.List.{at_drop_all}
use Rattle.cxx_inherited.specs.Rows.{rows_after}
use Rattle.cxx_inherited.specs.Views.{graph_of, name_of}
use Rattle.cxx_inherited.proofs.Declaring.{rows_are}
use Rattle.cxx_inherited.proofs.seeking.Seeking.rows.Goals as goal

pub returns : goal.returns
returns c =
    let graph = graph_of c.args.self.now in
    let name = name_of c.args.self.now in
    sym (at_drop_all (rows_after graph name c.loop-scope.numbers.items) c.args.scopes.now c.loop-scope.scope-index c.loop-scope-test.false) ∙ (c.loop-scope.invariant ∙ rows_are graph name c.args.scopes.now)
