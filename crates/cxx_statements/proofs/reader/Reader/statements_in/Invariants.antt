use Rattle.std.specs.Prelude.{◌-◌}
use Rattle.cxx_reading.specs.Reads.{repeat}
use Rattle.cxx_statements.specs.Statements.{never_ended, statement_step, statements_in}
use Rattle.cxx_statements.specs.Views.{IsSeveral, around_of, several_of}
use Rattle.cxx_cursor.specs.Looping.{IsTurning}
use Rattle.cxx_tree.specs.Held.{meaning}
use Rattle.cxx_statements.proofs.reader.Reader.statements_in.Given as goal

abbrev pub invariant-loop-turn : goal.invariant-loop-turn
invariant-loop-turn g l =
    let asks = g.P.Parts.asks l.fn.self.parts.now l.fn.self.room in
    let inner = g.N.Within.inner l.fn.self.inner.now in
    IsTurning (repeat (statement_step asks inner) never_ended (l._turn-end - l._turn) (several_of l.state l.so_far) (meaning l.state) l.cursor) (statements_in asks inner (around_of l.fn.state l.fn.around) (meaning l.fn.state) l.fn.cursor) (IsSeveral l.state l.so_far) l.fn.state l.state
