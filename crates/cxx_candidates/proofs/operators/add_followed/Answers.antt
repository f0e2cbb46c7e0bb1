use Rattle.cxx_candidates.specs.Candidates as definition
use Rattle.cxx_candidates.specs.Shapes.{slots_at}
use Rattle.cxx_candidates.proofs.Following.{then_adds}
use Rattle.cxx_candidates.proofs.operators.add_followed.Goals as goal

pub returns : goal.returns
returns c =
    let types = c.args.types.now in
    let letters = c.args.letters in
    then_adds c.args.graph.now types c.args.list.now.items c.add_alone.new.list.items c.add_alone-2.new.list.items (definition.alone (slots_at types letters.objects.now)) (definition.alone (slots_at types letters.functions.now)) c.in_ok-add_alone.ensures c.in_ok-add_alone-2.ensures
