use Rattle.std.proofs.Common.{arith}
use Rattle.std.proofs.lemmas.Grind.{common_steps}
use Rattle.cxx_names.proofs.Looking.{class_more}
use Rattle.cxx_names.proofs.looked.first_class_of.Goals as goal

pub returns-in-Some : goal.returns-in-Some
returns-in-Some c = λ types. grind (arith, common_steps, class_more, c.loop-number.invariant types, c.in-Some.ensures types)

pub loop-number-preserved : goal.loop-number-preserved
loop-number-preserved c = λ types. grind (arith, common_steps, class_more, c.loop-number.invariant types, c.in_default.ensures types)
