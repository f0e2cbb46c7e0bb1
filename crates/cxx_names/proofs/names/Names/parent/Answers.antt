use Rattle.std.proofs.Common.{ap, ◌∙◌}
use Rattle.std.specs.List.{slice_get}
use Rattle.cxx_names.specs.Looked.{holder_in}
use Rattle.cxx_names.proofs.Looking.{parent_is}
use Rattle.cxx_names.proofs.names.Names.parent.Goals as goal

pub returns-in-Some : goal.returns-in-Some
returns-in-Some c = λ types.
    let at = c.in-Some.ensures ∙ ap (λ xs. slice_get xs c.args.scope.0) c.requires.kept.scopes in
    ap (λ o. (holder_in c.args.scope o).0) at ∙ parent_is types c.args.graph.now c.args.scope

pub returns-in-None : goal.returns-in-None
returns-in-None c = λ types.
    let at = c.in-None.ensures ∙ ap (λ xs. slice_get xs c.args.scope.0) c.requires.kept.scopes in
    ap (λ o. (holder_in c.args.scope o).0) at ∙ parent_is types c.args.graph.now c.args.scope
