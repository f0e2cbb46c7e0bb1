use Rattle.std.proofs.Common.{◌≡◌, ◌≤◌, ◌+◌, false, length}
use Rattle.cxx_expr.specs.Literals.{letters_in}
use Rattle.cxx_expr.proofs.literals.text_length.Given as goal

abbrev pub invariant-loop-rest : goal.invariant-loop-rest
invariant-loop-rest l = record {
  is : l.count + letters_in l.is_open 0 l.rest ≡ letters_in false 0 l.text;
  few : l.count + length l.rest ≤ length l.text;
}

abbrev pub decreases-loop-rest : goal.decreases-loop-rest
decreases-loop-rest l = length l.rest
