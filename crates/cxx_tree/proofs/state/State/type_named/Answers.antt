use Rattle.cxx_reading.specs.Seen.{fact_numbers}
use Rattle.cxx_tree.proofs.Graphs.{numbered_range}
use Rattle.cxx_tree.proofs.Wholes.{named_made, whole_type}
use Rattle.cxx_tree.proofs.state.State.type_named.Goals as goal

pub invariant_of-self : goal.invariant_of-self
invariant_of-self c = whole_type _ _ _ _ _ _ _ c.type_in.result _ c.self.invariant c.type_in.ensures (numbered_range _ _ (fact_numbers c.args.numbers.now) c.self.invariant.sound.fitted c.in_range.ensures)

pub returns : goal.returns
returns c = named_made _ _ _ c.type_in.result (fact_numbers c.args.numbers.now) c.self.view_is c.self.invariant.sound c.type_in.ensures
