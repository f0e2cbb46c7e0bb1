use Rattle.std.proofs.Common.{arith}
use Rattle.std.proofs.lemmas.Grind.{common_steps}
use Rattle.cxx_names.proofs.Looking.{type_more}
use Rattle.cxx_names.proofs.looked.has_type.Goals as goal

pub returns-then-is_type_at : goal.returns-then-is_type_at
returns-then-is_type_at c = λ types. grind (arith, common_steps, type_more, c.loop-number.invariant types, c.is_type_at.ensures types)

pub loop-number-preserved : goal.loop-number-preserved
loop-number-preserved c = λ types. grind (arith, common_steps, type_more, c.loop-number.invariant types, c.is_type_at.ensures types)
