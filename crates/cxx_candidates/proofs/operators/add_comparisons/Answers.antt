use Rattle.std.specs.Prelude.{◌++◌}
use Rattle.cxx_candidates.specs.Candidates as definition
use Rattle.cxx_candidates.specs.Shapes.{slots_at}
use Rattle.cxx_candidates.proofs.Following.{then_adds}
use Rattle.cxx_candidates.proofs.operators.add_comparisons.Goals as goal

pub returns : goal.returns
returns c =
    let types = c.args.types.now in
    let letters = c.args.letters in
    then_adds c.args.graph.now types c.args.list.now.items c.add_twice.new.list.items c.add_twice-2.new.list.items (definition.both definition.promoted_arithmetic definition.promoted_arithmetic ++ definition.twice (slots_at types letters.pointers.now)) (definition.twice (slots_at types letters.enumerations.now)) (then_adds c.args.graph.now types c.args.list.now.items c.add_both.new.list.items c.add_twice.new.list.items (definition.both definition.promoted_arithmetic definition.promoted_arithmetic) (definition.twice (slots_at types letters.pointers.now)) c.in_ok-add_both.ensures c.in_ok-add_twice.ensures) c.in_ok-add_twice-2.ensures
