use Rattle.std.specs.Prelude.{◌-◌, length}
use Rattle.cxx_model.specs.Types.Numbers.{type_at}
use Rattle.cxx_syntax.specs.Layering.{IsFooting}
use Rattle.cxx_syntax.proofs.layers.refused_in_order.Given as goal

abbrev pub invariant-loop-turn : goal.invariant-loop-turn
invariant-loop-turn l = IsFooting (length l.layers - l.turn) l.types l.layers (type_at l.types l.fn.of.0) l.footing
