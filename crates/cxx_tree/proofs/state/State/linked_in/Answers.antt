use Rattle.std.proofs.Common.{◌∙◌}
use Rattle.cxx_tree.proofs.Linking.{linked_looked, linked_numbered}
use Rattle.cxx_tree.proofs.state.State.linked_in.Goals as goal

pub returns-clause-looked : goal.returns-clause-looked
returns-clause-looked c = linked_looked _ _ c.args.space c.args.word.now c.from_vec.result c.self.view_is (c.from_vec.ensures ∙ (c.in_ok-from_slice.ensures.items ∙ c.row-row.ensures.linked _ _ c.self.inside.types c.self.invariant.links))

pub returns-clause-numbered : goal.returns-clause-numbered
returns-clause-numbered c = linked_numbered _ _ c.args.space c.args.word.now c.from_vec.result c.self.view_is (c.from_vec.ensures ∙ (c.in_ok-from_slice.ensures.items ∙ c.row-row.ensures.linked _ _ c.self.inside.types c.self.invariant.links))
