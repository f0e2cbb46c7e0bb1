use Rattle.std.proofs.Common.{◌≡◌, ◌^◌, min, take}
use Rattle.cxx_model.specs.Text.Spelling.{value_after}
use Rattle.cxx_literals.proofs.values.value_of.Given as goal

abbrev pub invariant-loop-b : goal.invariant-loop-b
invariant-loop-b l = l.value ≡ min (value_after l.base 0 (take l.b-index l.digits)) (2 ^ 64)
