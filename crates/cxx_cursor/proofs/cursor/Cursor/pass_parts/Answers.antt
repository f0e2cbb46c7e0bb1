use Rattle.cxx_cursor.proofs.Names.{passing_more, passing_over, passing_rest, passing_whole}
use Rattle.cxx_cursor.proofs.cursor.Cursor.pass_parts.Goals as goal

pub returns-then-not-goes_on-clause-taken : goal.returns-then-not-goes_on-clause-taken
returns-then-not-goes_on-clause-taken c = passing_rest _ _ _ _ _ c.loop-turn.invariant cc

pub returns-then-not-goes_on-clause-whole : goal.returns-then-not-goes_on-clause-whole
returns-then-not-goes_on-clause-whole c = passing_whole _ _ _ _ _ c.loop-turn.invariant cc

pub loop-turn-preserved : goal.loop-turn-preserved
loop-turn-preserved c = rw c.advance.ensures (passing_more _ _ _ _ _ c.loop-turn.invariant cc)

pub returns-clause-taken : goal.returns-clause-taken
returns-clause-taken c = passing_rest _ _ _ _ _ c.loop-turn.invariant (passing_over _ _ _ _ _ c.loop-turn.invariant c.loop-turn-test.false)

pub returns-clause-whole : goal.returns-clause-whole
returns-clause-whole c = passing_whole _ _ _ _ _ c.loop-turn.invariant (passing_over _ _ _ _ _ c.loop-turn.invariant c.loop-turn-test.false)
