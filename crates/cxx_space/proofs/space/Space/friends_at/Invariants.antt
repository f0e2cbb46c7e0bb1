use Rattle.std.specs.Prelude.{◌-◌}
use Rattle.cxx_reading.specs.Reads.{repeat}
use Rattle.cxx_reading.specs.Units.{give_trees}
use Rattle.cxx_language.specs.Classes.{friends_at, friends_step}
use Rattle.cxx_cursor.specs.Looping.{IsTurning}
use Rattle.cxx_tree.specs.Held.{meaning}
use Rattle.cxx_units.specs.Said.{IsListed, listed_of, said_of}
use Rattle.cxx_space.proofs.space.Space.friends_at.Given as goal

abbrev pub invariant-loop-turn : goal.invariant-loop-turn
invariant-loop-turn g l =
    let said = said_of l.fn.state l.fn.said in
    IsTurning (repeat (friends_step l.fn.self.room said) give_trees (l._turn-end - l._turn) (listed_of l.state l.so_far) (meaning l.state) l.cursor) (friends_at l.fn.self.room said (meaning l.fn.state) l.fn.cursor) (IsListed l.state l.so_far) l.fn.state l.state
