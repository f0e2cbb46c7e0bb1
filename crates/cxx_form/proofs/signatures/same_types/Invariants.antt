use Rattle.std.proofs.Common.{◌≡◌, length}
use Rattle.cxx_model.specs.Types.Numbers.{types_at, AreTypesBelow}
use Rattle.cxx_model.specs.Types.Same.{same_types}
use Rattle.cxx_form.proofs.signatures.same_types.Given as goal

abbrev pub invariant-loop-ones : goal.invariant-loop-ones
invariant-loop-ones l = record { rest : same_types (types_at l.types l.ones) (types_at l.types l.twos) ≡ same_types (types_at l.types l.fn.ones) (types_at l.types l.fn.twos); ones : AreTypesBelow (length l.types) l.ones; twos : AreTypesBelow (length l.types) l.twos }

abbrev pub decreases-loop-ones : goal.decreases-loop-ones
decreases-loop-ones l = length l.ones
