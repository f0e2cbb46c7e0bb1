use Rattle.std.specs.Prelude.{drop}
use Rattle.cxx_cursor.specs.Looping.{IsTurning}
use Rattle.cxx_language.specs.Later.{defaults_read}
use Rattle.cxx_later.specs.FoundDefaults.{defaults_held}
use Rattle.cxx_tree.specs.Held.{meaning}
use Rattle.cxx_space.proofs.space.Space.defaults_read.Given as goal

abbrev pub invariant-loop-one : goal.invariant-loop-one
invariant-loop-one g l =
    IsTurning (defaults_read (defaults_held l.state (drop l.one-index l.all)) (meaning l.state) l.cursor) (defaults_read (defaults_held l.fn.state l.fn.all) (meaning l.fn.state) l.fn.cursor) (Unit {0}) l.fn.state l.state
