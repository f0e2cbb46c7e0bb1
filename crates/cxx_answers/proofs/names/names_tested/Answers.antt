use Rattle.std.proofs.Common.{arith}
use Rattle.std.proofs.lemmas.Grind.{common_steps}
use Rattle.cxx_answers.proofs.Found.{tested_more}
use Rattle.cxx_answers.proofs.names.names_tested.Goals as goal

pub returns-then-is_tested : goal.returns-then-is_tested
returns-then-is_tested c = λ types. grind (arith, common_steps, tested_more, c.loop-number.invariant types, c.is_tested.ensures types)

pub loop-number-preserved : goal.loop-number-preserved
loop-number-preserved c = λ types. grind (arith, common_steps, tested_more, c.loop-number.invariant types, c.is_tested.ensures types)
