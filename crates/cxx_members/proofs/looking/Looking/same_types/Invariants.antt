use Rattle.std.proofs.Common.{◌≡◌, length}
use Rattle.cxx_model.specs.Types.Numbers.{types_at, AreTypesBelow}
use Rattle.cxx_model.specs.Types.Same.{same_types}
use Rattle.cxx_members.proofs.looking.Looking.same_types.Given as goal

abbrev pub invariant-loop-ones : goal.invariant-loop-ones
invariant-loop-ones l = record { rest : same_types (types_at l.self.types.now l.ones) (types_at l.self.types.now l.twos) ≡ same_types (types_at l.self.types.now l.fn.ones) (types_at l.self.types.now l.fn.twos); ones : AreTypesBelow (length l.self.types.now) l.ones; twos : AreTypesBelow (length l.self.types.now) l.twos }

abbrev pub decreases-loop-ones : goal.decreases-loop-ones
decreases-loop-ones l = length l.ones
