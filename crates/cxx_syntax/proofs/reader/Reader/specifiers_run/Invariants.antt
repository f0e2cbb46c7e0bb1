use Rattle.std.specs.Prelude.{◌-◌}
use Rattle.cxx_reading.specs.Reads.{count_ahead, give, repeat}
use Rattle.cxx_reading.specs.Specifiers.{specifier_step}
use Rattle.cxx_cursor.specs.Looping.{IsTurning}
use Rattle.cxx_cursor.specs.Views.{AreSpecifiers, specifiers_of}
use Rattle.cxx_tree.specs.Held.{meaning}
use Rattle.cxx_syntax.proofs.reader.Reader.specifiers_run.Given as goal

abbrev pub invariant-loop-turn : goal.invariant-loop-turn
invariant-loop-turn g l =
    let asks = g.K.Kinds.asks l.fn.self.kinds.now l.fn.self.room in
    let inner = g.N.Nested.inner l.fn.self.nested.now in
    IsTurning (repeat (specifier_step asks inner l.fn.place) give (l._turn-end - l._turn) (specifiers_of l.state l.so_far) (meaning l.state) l.cursor) (repeat (specifier_step asks inner l.fn.place) give (count_ahead l.fn.cursor) (specifiers_of l.fn.state l.fn.so_far) (meaning l.fn.state) l.fn.cursor) (AreSpecifiers l.state l.so_far) l.fn.state l.state
