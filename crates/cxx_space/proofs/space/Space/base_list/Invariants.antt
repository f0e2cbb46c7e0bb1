use Rattle.std.specs.Prelude.{[], ◌-◌}
use Rattle.cxx_reading.specs.Reads.{count_ahead, give, repeat}
use Rattle.cxx_language.specs.Classes.{base_step}
use Rattle.cxx_cursor.specs.Looping.{IsTurning}
use Rattle.cxx_cursor.specs.Views.{AreTreesHeld, trees_held}
use Rattle.cxx_space.specs.Bases.{list_of}
use Rattle.cxx_tree.specs.Held.{meaning}
use Rattle.cxx_space.proofs.space.Space.base_list.Given as goal

abbrev pub invariant-loop-turn : goal.invariant-loop-turn
invariant-loop-turn g l =
    let step = base_step (list_of l.fn.of) in
    IsTurning (repeat step give (l._turn-end - l._turn) (trees_held l.state l.so_far) (meaning l.state) l.cursor) (repeat step give (count_ahead l.fn.cursor) [] (meaning l.fn.state) l.fn.cursor) (AreTreesHeld l.state l.so_far) l.fn.state l.state
