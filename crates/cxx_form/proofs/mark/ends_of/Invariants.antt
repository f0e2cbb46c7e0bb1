use Rattle.std.proofs.Common.{◌≡◌, ◌++◌, drop}
use Rattle.cxx_form.proofs.Signed.{ends_at}
use Rattle.cxx_form.proofs.mark.ends_of.Given as goal

abbrev pub invariant-loop-number : goal.invariant-loop-number
invariant-loop-number l = l.ends ++ ends_at l.types (drop l.number-index l.numbers) ≡ ends_at l.types l.numbers
