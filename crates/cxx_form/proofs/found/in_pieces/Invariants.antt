use Rattle.std.proofs.Common.{drop, []}
use Rattle.cxx_tree.specs.Held.{trees}
use Rattle.cxx_form.proofs.InTrees.{of_pieces, SoFar}
use Rattle.cxx_form.proofs.found.in_pieces.Given as goal

abbrev pub invariant-loop-piece : goal.invariant-loop-piece
invariant-loop-piece l = SoFar (trees l.state) [] l.found.items (of_pieces l.wanted l.passed (trees l.state) (drop l.piece-index l.pieces)) (of_pieces l.wanted l.passed (trees l.state) l.pieces)
