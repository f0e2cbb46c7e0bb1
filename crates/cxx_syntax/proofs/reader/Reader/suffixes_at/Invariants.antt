use Rattle.std.specs.Prelude.{◌-◌}
use Rattle.cxx_reading.specs.Reads.{repeat}
use Rattle.cxx_reading.specs.Syntax.{give_declarator, suffix_at, suffixes_at}
use Rattle.cxx_cursor.specs.Looping.{IsTurning}
use Rattle.cxx_syntax.specs.Suffixes.{IsSuffixed, suffixed_of}
use Rattle.cxx_cursor.specs.Views.{declarator_of}
use Rattle.cxx_tree.specs.Held.{meaning}
use Rattle.cxx_syntax.proofs.reader.Reader.suffixes_at.Given as goal

abbrev pub invariant-loop-turn : goal.invariant-loop-turn
invariant-loop-turn g l =
    let inner = g.N.Nested.inner l.fn.self.nested.now in
    IsTurning (repeat (suffix_at inner) give_declarator (l._turn-end - l._turn) (suffixed_of l.state l.so_far) (meaning l.state) l.cursor) (suffixes_at inner (declarator_of l.fn.state l.fn.declarator) (meaning l.fn.state) l.fn.cursor) (IsSuffixed l.state l.so_far) l.fn.state l.state
