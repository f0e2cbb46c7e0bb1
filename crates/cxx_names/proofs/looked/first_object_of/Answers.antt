use Rattle.std.proofs.Common.{arith}
use Rattle.std.proofs.lemmas.Grind.{common_steps}
use Rattle.cxx_names.proofs.Looking.{object_more}
use Rattle.cxx_names.proofs.looked.first_object_of.Goals as goal

pub returns-then-is_object_at : goal.returns-then-is_object_at
returns-then-is_object_at c = λ types. grind (arith, common_steps, object_more, c.loop-number.invariant types, c.is_object_at.ensures types)

pub loop-number-preserved : goal.loop-number-preserved
loop-number-preserved c = λ types. grind (arith, common_steps, object_more, c.loop-number.invariant types, c.is_object_at.ensures types)
