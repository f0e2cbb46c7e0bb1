use Rattle.std.specs.BTreeSet.{contains}
use Rattle.std.specs.Ordering.{nat_cmp}
use Rattle.cxx_subobjects.proofs.Walking.{last_below, walk_taken}
use Rattle.cxx_subobjects.proofs.reached.reached.Goals as goal

pub follow-requires : goal.follow-requires
follow-requires c =
    let waiting = rw c.in-Some.is at c.in_ok-number.ensures.waiting in
    let order = rw c.in-Some.is at c.in_ok-number.ensures.order in
    let below = rw c.in-Some.is at c.in_ok-number.ensures.below in
    let facts = c.args.graph.now.facts in
    let new = c.take_last.new.self in
    rw c.take_last.ensures.seen (walk_taken facts c.args.class.0 c.loop-walk.walk.order.items c.loop-walk.walk.waiting.keys new.order.items new.waiting.keys (contains nat_cmp c.loop-walk.walk.seen) c.loop-walk.bound c.in-Some.number c.loop-walk.invariant waiting order below)

pub loop-walk-smaller : goal.loop-walk-smaller
loop-walk-smaller c =
    let waiting = rw c.in-Some.is at c.in_ok-number.ensures.waiting in
    last_below c.loop-walk.bound c.loop-walk.walk.waiting.keys c.take_last.new.self.waiting.keys c.in-Some.number c.loop-walk.invariant.below waiting
