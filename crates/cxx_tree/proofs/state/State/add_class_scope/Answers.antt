use Rattle.cxx_model.specs.declared.facts.ScopeKind.TheVariants.{Class}
use Rattle.cxx_tree.proofs.Wholes.{scope_added, scope_there, scopes_here, scopes_counted_here}
use Rattle.cxx_tree.proofs.state.State.add_class_scope.Goals as goal

pub returns-clause-answered : goal.returns-clause-answered
returns-clause-answered c = scope_added _ _ (Class c.args.class) c.args.place c.scopes-number.result c.in_ok-add_scope.field-0 c.in_ok-add_scope.ensures.answered (scopes_here _ _ c.scopes-number.result c.self.view_is (c.scopes-number.ensures.is c.self.inside.types)) (scope_there _ _ (Class c.args.class) c.args.place c.scopes-number.result c.in_ok-add_scope.ensures.held (scopes_counted_here _ _ c.scopes-number.result c.self.view_is c.scopes-number.ensures.counted))
