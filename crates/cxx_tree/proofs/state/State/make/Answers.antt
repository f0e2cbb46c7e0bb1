use Rattle.cxx_tree.proofs.Steps.{later_made, same_made}
use Rattle.cxx_tree.proofs.Wholes.{whole_types}
use Rattle.cxx_tree.proofs.state.State.make.Goals as goal

pub invariant_of-self : goal.invariant_of-self
invariant_of-self g c = whole_types _ _ _ _ _ _ _ c.self.invariant c.make.ensures.keeps c.make.ensures.fitted

pub returns-clause-later : goal.returns-clause-later
returns-clause-later g c = later_made _ _ _ c.self.view_is c.self.invariant.sound c.make.ensures.keeps

pub returns-clause-same : goal.returns-clause-same
returns-clause-same g c = same_made _ _ _ c.self.view_is c.self.invariant.sound c.make.ensures.keeps
