use Rattle.cxx_tree.proofs.Wholes.{still}
use Rattle.std.specs.Prelude.{refl}
use Rattle.std.proofs.Common.{◌∙◌}
use Rattle.cxx_tree.proofs.Keeping.{piece_added, sound_piece}
use Rattle.cxx_tree.proofs.state.State.add_piece.Goals as goal

pub invariant_of-self-2 : goal.invariant_of-self-2
invariant_of-self-2 c = still _ _ _ _ _ _ _ c.self.invariant refl refl refl refl (sound_piece _ _ _ _ _ _ c.self.view_is c.self.invariant.sound c.requires c.new-2.ensures c.in_ok-push.ensures.ok)

pub returns-clause-added : goal.returns-clause-added
returns-clause-added c = piece_added _ _ _ _ _ _ c.self.view_is refl c.replace-uses.ensures.value (c.replace-uses.ensures.after ∙ c.new.ensures) c.new-2.ensures c.in_ok-push.ensures.ok
