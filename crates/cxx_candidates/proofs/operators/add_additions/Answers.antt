use Rattle.cxx_candidates.specs.Candidates as definition
use Rattle.cxx_candidates.specs.Shapes.{slots_at}
use Rattle.cxx_candidates.proofs.Following.{then_adds}
use Rattle.cxx_candidates.proofs.operators.add_additions.Goals as goal

pub returns : goal.returns
returns c =
    let types = c.args.types.now in
    let letters = c.args.letters in
    then_adds c.args.graph.now types c.args.list.now.items c.add_changing_both.new.list.items c.add_changing_both-2.new.list.items (definition.changing_both definition.arithmetic_types definition.promoted_arithmetic) (definition.changing_both (slots_at types letters.objects.now) definition.distances) c.in_ok-add_changing_both.ensures c.in_ok-add_changing_both-2.ensures
