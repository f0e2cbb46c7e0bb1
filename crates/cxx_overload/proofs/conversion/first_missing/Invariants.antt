use Rattle.std.proofs.Common.{◌≡◌, ◌+◌, drop}
use Rattle.cxx_overload.specs.Asking.{first_missing}
use Rattle.cxx_overload.proofs.conversion.first_missing.Given as goal

abbrev pub invariant-loop-i : goal.invariant-loop-i
invariant-loop-i l = first_missing (l.i + 1) (drop l.i l.conversions) ≡ first_missing 1 l.conversions
