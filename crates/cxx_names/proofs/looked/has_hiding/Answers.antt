use Rattle.std.proofs.Common.{arith}
use Rattle.std.proofs.lemmas.Grind.{common_steps}
use Rattle.cxx_names.proofs.Looking.{hides_more}
use Rattle.cxx_names.proofs.looked.has_hiding.Goals as goal

pub returns-then-hides_at : goal.returns-then-hides_at
returns-then-hides_at c = λ types. grind (arith, common_steps, hides_more, c.loop-number.invariant types, c.hides_at.ensures types)

pub loop-number-preserved : goal.loop-number-preserved
loop-number-preserved c = λ types. grind (arith, common_steps, hides_more, c.loop-number.invariant types, c.hides_at.ensures types)
