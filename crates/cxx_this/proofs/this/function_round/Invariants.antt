-- what is left of the way gives the whole answer
use Rattle.std.proofs.Common.{◌≡◌, ◌-◌}
use Rattle.cxx_this.specs.This.{function_from, function_round}
use Rattle.cxx_tree.specs.Held.{meaning}
use Rattle.cxx_this.proofs.this.function_round.Given as goal

abbrev pub invariant-loop-turn : goal.invariant-loop-turn
invariant-loop-turn l = function_from (meaning l.state).graph (l.fn.scope.0 - l.turn) l.now.0 ≡ function_round (meaning l.state).graph l.fn.scope.0
