use Rattle.std.specs.Prelude.{true, refl}
use Rattle.std.proofs.Common.{ap}
use Rattle.cxx_overload.specs.Choosers.{told_by}
use Rattle.cxx_tree.specs.Asked.{Asked}
use Rattle.cxx_tree.proofs.Told.{asked_set, later_asked, same_asked, sound_asked, told_within}
use Rattle.cxx_tree.proofs.Wholes.{still}
use Rattle.cxx_tree.proofs.state.State.put_chooser.Goals as goal

pub put-requires : goal.put-requires
put-requires c = told_within _ _ (told_by c.args.chooser) c.self.view_is c.requires

pub invariant_of-self : goal.invariant_of-self
invariant_of-self c = still _ _ _ _ _ _ _ c.self.invariant refl refl refl refl (sound_asked _ c.put.new.self c.self.invariant.sound (ap (λ (all : Asked). all.calls) c.put.ensures))

pub returns-clause-held : goal.returns-clause-held
returns-clause-held c = asked_set _ _ c.put.new.self true c.self.view_is c.put.ensures

pub returns-clause-later : goal.returns-clause-later
returns-clause-later c = later_asked _ _ c.put.new.self c.self.view_is (ap (λ (all : Asked). all.tells) c.put.ensures)

pub returns-clause-same : goal.returns-clause-same
returns-clause-same c = same_asked _ _ c.put.new.self c.self.view_is (ap (λ (all : Asked). all.calls) c.put.ensures)
