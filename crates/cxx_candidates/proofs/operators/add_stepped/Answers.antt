use Rattle.cxx_candidates.specs.Candidates as definition
use Rattle.cxx_candidates.specs.Shapes.{second_at, slots_at}
use Rattle.cxx_candidates.proofs.Following.{then_adds}
use Rattle.cxx_candidates.proofs.operators.add_stepped.Goals as goal

pub returns : goal.returns
returns c =
    let types = c.args.types.now in
    let others = second_at types c.args.second in
    then_adds c.args.graph.now types c.args.list.now.items c.add_changing_alone.new.list.items c.add_changing_alone-2.new.list.items (definition.changing_alone others (slots_at types c.args.numbers.now)) (definition.changing_alone others (slots_at types c.args.letters.objects.now)) c.in_ok-add_changing_alone.ensures c.in_ok-add_changing_alone-2.ensures
