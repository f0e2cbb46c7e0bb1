use Rattle.std.specs.Prelude.{refl}
use Rattle.cxx_tree.proofs.Wholes.{still}
use Rattle.cxx_tree.proofs.Keeping.{offer_added, sound_offer}
use Rattle.cxx_tree.proofs.state.State.add_offer.Goals as goal

pub invariant_of-self-2 : goal.invariant_of-self-2
invariant_of-self-2 c = still _ _ _ _ _ _ _ c.self.invariant refl refl refl refl (sound_offer _ _ _ _ c.self.view_is c.self.invariant.sound c.requires c.in_ok-push.ensures.ok)

pub returns-clause-added : goal.returns-clause-added
returns-clause-added c = offer_added _ _ _ c.args.index c.args.tree c.self.view_is c.in_ok-push.ensures.ok
