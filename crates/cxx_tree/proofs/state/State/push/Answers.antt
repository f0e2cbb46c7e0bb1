use Rattle.cxx_tree.proofs.Wholes.{still}
use Rattle.cxx_tree.proofs.Steps.{pushed_sound, tree_pushed}
use Rattle.std.specs.Prelude.{length, refl}
use Rattle.std.proofs.Common.{subst, sym}
use Rattle.cxx_tree.specs.Arena.{AreTreesBelow, IsNodeBelow}
use Rattle.cxx_tree.specs.Held.{Held, trees}
use Rattle.cxx_tree.proofs.state.State.push.Goals as goal

pub invariant_of-self : goal.invariant_of-self
invariant_of-self c = still _ _ _ _ _ _ _ c.self.invariant refl refl refl refl (pushed_sound _ _ c.args.node c.push.result c.self.invariant.sound (subst (λ (h : Held). IsNodeBelow (length h.types) c.args.node) (sym c.self.view_is) c.requires.below) (subst (λ (h : Held). AreTreesBelow (length (trees h)) c.args.node.children) (sym c.self.view_is) c.requires.children) c.push.ensures.added c.push.ensures.unchanged)

pub returns : goal.returns
returns c = tree_pushed _ _ _ c.args.node c.push.result c.self.view_is c.self.invariant.sound c.push.ensures.number c.push.ensures.added c.push.ensures.unchanged
