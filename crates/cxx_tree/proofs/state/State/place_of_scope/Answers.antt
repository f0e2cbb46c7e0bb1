use Rattle.std.specs.Option.{option_copied}
use Rattle.std.proofs.Common.{ap, sym, ◌∙◌}
use Rattle.std.specs.List.{slice_get}
use Rattle.cxx_tree.proofs.Wholes.{opened_here, opened_nowhere_here}
use Rattle.cxx_tree.proofs.state.State.place_of_scope.Goals as goal

pub returns-in-Some : goal.returns-in-Some
returns-in-Some c = opened_here _ _ c.self.inside.openings.items c.args.scope.0 c.in-Some.place.now c.self.view_is c.self.invariant.opened (ap (λ ps. slice_get ps c.args.scope.0) (sym c.as_slice.ensures.value) ∙ (sym c.place_at.ensures ∙ ap option_copied c.in-Some.is))

pub returns-in-None : goal.returns-in-None
returns-in-None c = opened_nowhere_here _ _ c.self.inside.openings.items c.args.scope.0 c.self.view_is c.self.invariant.opened (ap (λ ps. slice_get ps c.args.scope.0) (sym c.as_slice.ensures.value) ∙ (sym c.place_at.ensures ∙ ap option_copied c.in-None.is))
