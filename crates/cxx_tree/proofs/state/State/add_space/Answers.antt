use Rattle.std.proofs.lemmas.Result.{err_from_is_err_and}
use Rattle.cxx_model.specs.declared.facts.ScopeKind.TheVariants.{Space}
use Rattle.cxx_tree.proofs.Wholes.{scope_added, scope_not_added, scope_there, scopes_here, scopes_counted_here}
use Rattle.cxx_tree.proofs.state.State.add_space.Goals as goal

pub returns-in_err-add_scope-clause-answered : goal.returns-in_err-add_scope-clause-answered
returns-in_err-add_scope-clause-answered c =
    let p = err_from_is_err_and c.from_residual.result c.from_residual.ensures.1 in
    rw (p.1, p.2) (scope_not_added _ _ Space c.args.place c.in_err-add_scope.field-0.0 c.in_err-add_scope.ensures.answered)

pub returns-clause-answered : goal.returns-clause-answered
returns-clause-answered c = scope_added _ _ Space c.args.place c.scopes-number.result c.in_ok-add_scope.field-0 c.in_ok-add_scope.ensures.answered (scopes_here _ _ c.scopes-number.result c.self.view_is (c.scopes-number.ensures.is c.self.inside.types)) (scope_there _ _ Space c.args.place c.scopes-number.result c.in_ok-add_scope.ensures.held (scopes_counted_here _ _ c.scopes-number.result c.self.view_is c.scopes-number.ensures.counted))
