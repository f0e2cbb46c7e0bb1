use Rattle.std.proofs.Common.{nat_eq, sym}
use Rattle.cxx_model.specs.declared.types.EnumId.{EnumId}
use Rattle.cxx_candidates.proofs.Gathered.{any_mapped, same_number}
use Rattle.cxx_candidates.proofs.letters.is_number_there.Goals as goal

pub returns-then-number-other : goal.returns-then-number-other
returns-then-number-other c = sym (any_mapped (λ (n : EnumId). n.0) (nat_eq c.args.number.0) c.args.list.now c.loop-other.other-index _ c.loop-other-test.true (same_number _ _ c.if-number-other.true))
