use Rattle.std.proofs.Common.{ap, ◌∙◌, ◌++◌, ◌∷◌, []}
use Rattle.cxx_tree.proofs.Wholes.{known_here, linked_added, whole_linked}
use Rattle.cxx_tree.proofs.state.State.add_linked.Goals as goal

pub add-requires-clause-there : goal.add-requires-clause-there
add-requires-clause-there c = known_here _ _ c.args.number c.self.view_is c.requires

pub add-requires-clause-sound : goal.add-requires-clause-sound
add-requires-clause-sound c = c.self.invariant.links.sound

pub invariant_of-self-2 : goal.invariant_of-self-2
invariant_of-self-2 c = whole_linked _ _ _ _ _ _ _ _ c.args.number c.self.invariant (c.in_ok-push.ensures.items ∙ ap (λ ns. ns ++ c.args.number ∷ []) c.reserve.ensures.items) (c.in_ok-add.ensures.more _ c.self.invariant.links)

pub returns-clause-is : goal.returns-clause-is
returns-clause-is c = linked_added _ _ _ c.args.number c.self.view_is (c.in_ok-push.ensures.items ∙ ap (λ ns. ns ++ c.args.number ∷ []) c.reserve.ensures.items)
