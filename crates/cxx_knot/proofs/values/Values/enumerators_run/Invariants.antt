use Rattle.std.specs.Prelude.{◌-◌, []}
use Rattle.cxx_knot.specs.Knot.{asking_by}
use Rattle.cxx_knot.specs.Readers.{enumerator_step}
use Rattle.cxx_reading.specs.Reads.{count_ahead, give, repeat}
use Rattle.cxx_cursor.specs.Looping.{IsTurning}
use Rattle.cxx_cursor.specs.Views.{AreTreesHeld, trees_held}
use Rattle.cxx_tree.specs.Held.{meaning}
use Rattle.cxx_knot.proofs.values.Values.enumerators_run.Given as goal

abbrev pub invariant-loop-turn : goal.invariant-loop-turn
invariant-loop-turn g l =
    let asks = asking_by g.K.Kinds.asks g.K.Asking.wholes g.K.Asking.offers l.fn.self.kinds.now l.fn.self.room in
    let at = g.P.Phrases.asks l.fn.self.phrases.now in
    let inner = g.P.Phrases.inner l.fn.self.phrases.now in
    IsTurning (repeat (enumerator_step asks at inner l.fn.number.0) give (l._turn-end - l._turn) (trees_held l.state l.so_far) (meaning l.state) l.cursor) (repeat (enumerator_step asks at inner l.fn.number.0) give (count_ahead l.fn.cursor) [] (meaning l.fn.state) l.fn.cursor) (AreTreesHeld l.state l.so_far) l.fn.state l.state
