use Rattle.std.proofs.Common.{sym, ◌∙◌, ◌≡◌, Some, true, slice_index_or}
use Rattle.std.specs.List.{slice_get}
use Rattle.cxx_model.proofs.Equal.{same_node}
use Rattle.cxx_types.proofs.Nodes.{at-hand}
use Rattle.cxx_types.proofs.table.TypeTable.recent_number.Goals as goal

pub returns-in-Some : goal.returns-in-Some
returns-in-Some c =
    let there : slice_get c.self.inside.nodes.keys (slice_index_or c.self.inside.recent c.args.place 0) ≡ Some c.in-Some.known.now = sym c.in-Some.ensures.key in
    let same : same_node c.args.node.now c.in-Some.known.now ≡ true = sym c.eq.ensures ∙ c.if-eq.true in
    at-hand c.args.self.now c.self.inside.nodes.keys c.self.inside.level_counts.items c.args.node.now c.in-Some.known.now (slice_index_or c.self.inside.recent c.args.place 0) c.self.view_is c.self.invariant c.requires.below there same
