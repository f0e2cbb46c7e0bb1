use Rattle.std.proofs.lemmas.Result.{err_from_is_err_and}
use Rattle.cxx_tree.proofs.Wholes.{answered_placed, entered, not_entered, placed_here, scope_there, scopes_here, scopes_counted_here}
use Rattle.cxx_tree.proofs.state.State.enter_scope.Goals as goal

pub returns-in_err-add_scope : goal.returns-in_err-add_scope
returns-in_err-add_scope c =
    let p = err_from_is_err_and c.from_residual.result c.from_residual.ensures.1 in
    rw (p.1, p.2) (not_entered _ _ c.args.kind c.in_err-add_scope.field-0.0 (answered_placed _ _ c.args.kind c.place_of_scope-place.result _ (placed_here _ _ c.place_of_scope-place.result c.self.view_is c.place_of_scope-place.ensures) c.in_err-add_scope.ensures.answered))

pub set_scope-requires : goal.set_scope-requires
set_scope-requires c = scope_there _ _ c.args.kind c.place_of_scope-place.result c.scopes-number.result c.in_ok-add_scope.ensures.held (scopes_counted_here _ _ c.scopes-number.result c.self.view_is c.scopes-number.ensures.counted)

pub returns : goal.returns
returns c = entered _ _ _ c.args.kind c.scopes-number.result c.in_ok-add_scope.field-0 (answered_placed _ _ c.args.kind c.place_of_scope-place.result _ (placed_here _ _ c.place_of_scope-place.result c.self.view_is c.place_of_scope-place.ensures) c.in_ok-add_scope.ensures.answered) (scopes_here _ _ c.scopes-number.result c.self.view_is (c.scopes-number.ensures.is c.self.inside.types)) c.set_scope.ensures.later c.set_scope.ensures.is
