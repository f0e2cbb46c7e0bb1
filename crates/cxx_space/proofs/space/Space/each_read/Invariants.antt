use Rattle.std.specs.Prelude.{[], drop}
use Rattle.cxx_cursor.specs.Looping.{IsTurning}
use Rattle.cxx_cursor.specs.Views.{AreTreesHeld, trees_held}
use Rattle.cxx_language.specs.Later.{each_read}
use Rattle.cxx_later.specs.Views.{waiting_held}
use Rattle.cxx_tree.specs.Held.{meaning}
use Rattle.cxx_space.proofs.space.Space.each_read.Given as goal

abbrev pub invariant-loop-one : goal.invariant-loop-one
invariant-loop-one g l =
    IsTurning (each_read (waiting_held l.state (drop l.one-index l.all)) (trees_held l.state l.so_far) (meaning l.state) l.cursor) (each_read (waiting_held l.fn.state l.fn.all) [] (meaning l.fn.state) l.fn.cursor) (AreTreesHeld l.state l.so_far) l.fn.state l.state
