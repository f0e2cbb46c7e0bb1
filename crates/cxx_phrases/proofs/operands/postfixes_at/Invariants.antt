use Rattle.std.specs.Prelude.{◌-◌}
use Rattle.cxx_phrases.specs.Operands.{postfix_step, postfixes_at}
use Rattle.cxx_reading.specs.Reads.{give, repeat}
use Rattle.cxx_cursor.specs.Asking.{IsTreeKnown}
use Rattle.cxx_cursor.specs.Looping.{IsTurning}
use Rattle.cxx_tree.specs.Held.{meaning, tree}
use Rattle.cxx_phrases.proofs.operands.postfixes_at.Given as goal

abbrev pub invariant-loop-turn : goal.invariant-loop-turn
invariant-loop-turn g l =
    let asks = g.P.Phrases.asks l.fn.phrases in
    let inner = g.P.Phrases.inner l.fn.phrases in
    IsTurning (repeat (postfix_step asks inner l.fn.from) give (l._turn-end - l._turn) (tree l.state l.so_far) (meaning l.state) l.cursor) (postfixes_at asks inner l.fn.from (tree l.fn.state l.fn.first) (meaning l.fn.state) l.fn.cursor) (IsTreeKnown l.state l.so_far) l.fn.state l.state
