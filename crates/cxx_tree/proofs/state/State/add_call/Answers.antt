use Rattle.std.specs.Prelude.{refl}
use Rattle.std.proofs.Common.{ap}
use Rattle.cxx_overload.specs.Choosers.{told_by}
use Rattle.cxx_tree.specs.Asked.{Asked}
use Rattle.cxx_tree.proofs.Keeping.{call_number}
use Rattle.cxx_tree.proofs.Told.{called_added, later_asked, sound_asked, sound_called, told_more_within}
use Rattle.cxx_tree.proofs.Wholes.{still}
use Rattle.cxx_tree.proofs.state.State.add_call.Goals as goal

pub add-requires : goal.add-requires
add-requires c = told_more_within _ _ c.args.call.place (told_by c.args.chooser) c.self.view_is c.requires.told

pub invariant_of-self : goal.invariant_of-self
invariant_of-self c = still _ _ _ _ _ _ _ c.self.invariant refl refl refl refl (sound_asked _ c.add.new.self c.self.invariant.sound (ap (λ (all : Asked). all.calls) c.in_err-number.ensures.unchanged))

pub invariant_of-self-2 : goal.invariant_of-self-2
invariant_of-self-2 c = still _ _ _ _ _ _ _ c.self.invariant refl refl refl refl (sound_called _ _ c.add.new.self c.args.call c.self.view_is c.self.invariant.sound c.requires.below (ap (λ (all : Asked). all.calls) c.in_ok-number.ensures.added))

pub returns-in_err-number-clause-later : goal.returns-in_err-number-clause-later
returns-in_err-number-clause-later c = later_asked _ _ c.add.new.self c.self.view_is (ap (λ (all : Asked). all.tells) c.in_err-number.ensures.unchanged)

pub returns-clause-later : goal.returns-clause-later
returns-clause-later c = later_asked _ _ c.add.new.self c.self.view_is (ap (λ (all : Asked). all.tells) c.in_ok-number.ensures.added)

pub returns-clause-number : goal.returns-clause-number
returns-clause-number c = call_number _ _ c.in_ok-number.number c.self.view_is c.in_ok-number.ensures.number

pub returns-clause-added : goal.returns-clause-added
returns-clause-added c = called_added _ _ c.add.new.self c.args.call c.self.view_is (ap (λ (all : Asked). all.calls) c.in_ok-number.ensures.added)
