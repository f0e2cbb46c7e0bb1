use Rattle.std.proofs.Common.{◌+◌, ◌-◌, length}
use Rattle.cxx_sizes.specs.Noted.{AreSameLayouts}
use Rattle.cxx_sizes.proofs.classes.make_place.Given as goal

abbrev pub invariant-loop-class : goal.invariant-loop-class
invariant-loop-class l = AreSameLayouts l.fn.layouts.items l.layouts.items

abbrev pub decreases-loop-class : goal.decreases-loop-class
decreases-loop-class l = l.class.0 + 1 - length l.layouts.items
