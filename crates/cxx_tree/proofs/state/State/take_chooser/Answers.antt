use Rattle.std.specs.Prelude.{false, refl}
use Rattle.std.proofs.Common.{ap, ◌∙◌}
use Rattle.cxx_tree.specs.Asked.{Asked}
use Rattle.cxx_tree.specs.Held.{Held}
use Rattle.cxx_tree.proofs.Told.{asked_set, later_asked, same_asked, sound_asked, told_shown}
use Rattle.cxx_tree.proofs.Wholes.{still}
use Rattle.cxx_tree.proofs.state.State.take_chooser.Goals as goal

pub invariant_of-self : goal.invariant_of-self
invariant_of-self c = still _ _ _ _ _ _ _ c.self.invariant refl refl refl refl (sound_asked _ c.take.new.self c.self.invariant.sound (ap (λ (all : Asked). all.calls) c.take.ensures.held))

pub returns-clause-held : goal.returns-clause-held
returns-clause-held c = asked_set _ _ c.take.new.self false c.self.view_is c.take.ensures.held

pub returns-clause-given : goal.returns-clause-given
returns-clause-given c = c.take.ensures.given ∙ ap (λ (held : Held). held.asks) c.self.view_is

pub returns-clause-told : goal.returns-clause-told
returns-clause-told c = told_shown _ _ c.take.result c.self.view_is c.take.ensures.told

pub returns-clause-later : goal.returns-clause-later
returns-clause-later c = later_asked _ _ c.take.new.self c.self.view_is (ap (λ (all : Asked). all.tells) c.take.ensures.held)

pub returns-clause-same : goal.returns-clause-same
returns-clause-same c = same_asked _ _ c.take.new.self c.self.view_is (ap (λ (all : Asked). all.calls) c.take.ensures.held)
