use Rattle.std.proofs.Common.{◌+◌, ◌-◌, length}
use Rattle.cxx_implicit.specs.Noted.{AreSameSpecials}
use Rattle.cxx_implicit.proofs.specials.make_place.Given as goal

abbrev pub invariant-loop-class : goal.invariant-loop-class
invariant-loop-class l = AreSameSpecials l.fn.specials.items l.specials.items

abbrev pub decreases-loop-class : goal.decreases-loop-class
decreases-loop-class l = l.class.0 + 1 - length l.specials.items
