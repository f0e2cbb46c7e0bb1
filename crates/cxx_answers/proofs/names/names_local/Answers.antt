use Rattle.std.proofs.Common.{arith}
use Rattle.std.proofs.lemmas.Grind.{common_steps}
use Rattle.cxx_answers.proofs.Found.{local_more}
use Rattle.cxx_answers.proofs.names.names_local.Goals as goal

pub returns-then-is_local : goal.returns-then-is_local
returns-then-is_local c = λ types. grind (arith, common_steps, local_more, c.loop-number.invariant types, c.is_local.ensures types)

pub loop-number-preserved : goal.loop-number-preserved
loop-number-preserved c = λ types. grind (arith, common_steps, local_more, c.loop-number.invariant types, c.is_local.ensures types)
