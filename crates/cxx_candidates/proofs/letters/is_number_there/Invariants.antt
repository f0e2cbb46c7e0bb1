use Rattle.std.proofs.Common.{◌≡◌, take, false, nat_eq}
use Rattle.std.specs.List.{list_any}
use Rattle.cxx_candidates.specs.Shapes.{numbers_at}
use Rattle.cxx_candidates.proofs.letters.is_number_there.Given as goal

abbrev pub invariant-loop-other : goal.invariant-loop-other
invariant-loop-other l = list_any (nat_eq l.number.0) (numbers_at (take l.other-index l.list)) ≡ false
