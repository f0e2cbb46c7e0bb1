use Rattle.std.proofs.Common.{[], length}
use Rattle.cxx_tree.specs.Held.{trees}
use Rattle.cxx_form.proofs.InTrees.{of_pieces, piece_more, piece_within}
use Rattle.cxx_form.proofs.found.in_pieces.Goals as goal

pub add_in-requires : goal.add_in-requires
add_in-requires c = piece_within (length (trees c.args.state.now)) c.pieces-pieces.result.now c.loop-piece.piece-index c.piece-item.result c.piece-item.is c.pieces-pieces.ensures.below c.loop-piece-test.true

pub loop-piece-preserved : goal.loop-piece-preserved
loop-piece-preserved c =
    let all = trees c.args.state.now in
    piece_more c.args.wanted c.args.passed all [] c.loop-piece.found.items c.add_in.new.found.items c.pieces-pieces.result.now c.loop-piece.piece-index c.piece-item.result (of_pieces c.args.wanted c.args.passed all c.pieces-pieces.result.now) c.piece-item.is c.loop-piece-test.true c.loop-piece.invariant c.in_ok-add_in.ensures
