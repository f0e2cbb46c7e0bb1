use Rattle.cxx_tree.proofs.Implied.{all_implied, all_plain}
use Rattle.cxx_tree.proofs.Steps.{later_made, same_made}
use Rattle.cxx_tree.proofs.Wholes.{whole_types}
use Rattle.cxx_tree.proofs.state.State.implicit_members.Goals as goal

pub invariant_of-self : goal.invariant_of-self
invariant_of-self c = whole_types _ _ _ _ _ _ _ c.self.invariant c.implicit_members.ensures.keeps c.implicit_members.ensures.fitted

pub returns-clause-later : goal.returns-clause-later
returns-clause-later c = later_made _ _ _ c.self.view_is c.self.invariant.sound c.implicit_members.ensures.keeps

pub returns-clause-same : goal.returns-clause-same
returns-clause-same c = same_made _ _ _ c.self.view_is c.self.invariant.sound c.implicit_members.ensures.keeps

pub returns-clause-is : goal.returns-clause-is
returns-clause-is c = all_implied (λ all. all.items) _ _ _ c.args.class.0 c.args.place c.implicit_members.result c.self.view_is c.self.invariant.sound c.implicit_members.ensures.keeps c.implicit_members.ensures.members

pub returns-clause-plain : goal.returns-clause-plain
returns-clause-plain c = all_plain (λ all. all.items) _ _ c.args.class.0 _ c.args.place c.implicit_members.result c.implicit_members.ensures.members
