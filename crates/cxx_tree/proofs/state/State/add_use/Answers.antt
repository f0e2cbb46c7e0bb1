use Rattle.std.specs.Prelude.{refl}
use Rattle.cxx_tree.proofs.Wholes.{still}
use Rattle.cxx_tree.proofs.Keeping.{sound_use, use_added}
use Rattle.cxx_tree.proofs.state.State.add_use.Goals as goal

pub invariant_of-self-2 : goal.invariant_of-self-2
invariant_of-self-2 c = still _ _ _ _ _ _ _ c.self.invariant refl refl refl refl (sound_use _ _ c.self.invariant.sound)

pub returns-clause-added : goal.returns-clause-added
returns-clause-added c = use_added _ _ _ c.args.place c.args.target c.self.view_is c.in_ok-push.ensures.ok
