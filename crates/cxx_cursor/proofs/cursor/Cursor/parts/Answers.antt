use Rattle.cxx_cursor.proofs.Names.{collecting_ends, collecting_more, collecting_over}
use Rattle.cxx_cursor.proofs.cursor.Cursor.parts.Goals as goal

pub returns-then-not-goes_on : goal.returns-then-not-goes_on
returns-then-not-goes_on c = collecting_ends _ _ _ _ _ _ c.loop-turn.invariant cc

pub loop-turn-preserved : goal.loop-turn-preserved
loop-turn-preserved c = rw (c.in_ok-parts.ensures, c.advance.ensures) (collecting_more _ _ _ _ _ _ c.loop-turn.invariant cc)

pub returns : goal.returns
returns c = collecting_ends _ _ _ _ _ _ c.loop-turn.invariant (collecting_over _ _ _ _ _ _ c.loop-turn.invariant c.loop-turn-test.false)
