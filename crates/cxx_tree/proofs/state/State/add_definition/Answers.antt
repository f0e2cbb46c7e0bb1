use Rattle.std.proofs.Common.{ap, ◌∙◌, ◌++◌, ◌∷◌, []}
use Rattle.cxx_tree.proofs.Wholes.{definition_added, whole_definition}
use Rattle.cxx_tree.proofs.state.State.add_definition.Goals as goal

pub invariant_of-self-2 : goal.invariant_of-self-2
invariant_of-self-2 c = whole_definition _ _ _ _ _ _ _ _ c.args.number c.self.invariant (c.in_ok-push.ensures.items ∙ ap (λ ns. ns ++ c.args.number ∷ []) c.reserve.ensures.items) (c.in_ok-add.ensures.more _ c.self.invariant.defines)

pub returns-clause-is : goal.returns-clause-is
returns-clause-is c = definition_added _ _ _ c.args.number c.self.view_is (c.in_ok-push.ensures.items ∙ ap (λ ns. ns ++ c.args.number ∷ []) c.reserve.ensures.items)
