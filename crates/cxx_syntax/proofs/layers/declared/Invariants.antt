use Rattle.std.specs.Prelude.{◌-◌, length}
use Rattle.cxx_syntax.specs.Layering.{IsDeclaredFrom}
use Rattle.cxx_syntax.proofs.layers.declared.Given as goal

abbrev pub invariant-loop-turn : goal.invariant-loop-turn
invariant-loop-turn l = IsDeclaredFrom (length l.layers - l.turn) l.layers l.fn.state l.state l.fn.of l.made
