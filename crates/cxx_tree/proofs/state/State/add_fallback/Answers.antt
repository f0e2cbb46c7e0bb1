use Rattle.std.specs.Prelude.{refl}
use Rattle.cxx_tree.proofs.Wholes.{still}
use Rattle.cxx_tree.proofs.Keeping.{fallback_added, sound_fallback}
use Rattle.cxx_tree.proofs.state.State.add_fallback.Goals as goal

pub invariant_of-self-2 : goal.invariant_of-self-2
invariant_of-self-2 c = still _ _ _ _ _ _ _ c.self.invariant refl refl refl refl (sound_fallback _ _ _ _ c.self.view_is c.self.invariant.sound c.requires c.in_ok-push.ensures.ok)

pub returns-clause-added : goal.returns-clause-added
returns-clause-added c = fallback_added _ _ _ c.args.declaration c.args.index c.args.tree c.self.view_is c.in_ok-push.ensures.ok
