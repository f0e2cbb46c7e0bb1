use Rattle.std.specs.Prelude.{◌≡◌, ◌-◌}
use Rattle.cxx_reading.specs.Reads.{give, repeat}
use Rattle.cxx_reading.specs.Units.{linkage_step, linkages_passed}
use Rattle.cxx_tree.specs.Held.{meaning}
use Rattle.cxx_units.proofs.linkage.linkages_passed.Given as goal

abbrev pub invariant-loop-turn : goal.invariant-loop-turn
invariant-loop-turn l = repeat linkage_step give (l._turn-end - l._turn) l.any (meaning l.state) l.cursor ≡ linkages_passed (meaning l.state) l.fn.cursor
