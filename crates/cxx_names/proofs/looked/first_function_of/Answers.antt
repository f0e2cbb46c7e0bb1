use Rattle.std.proofs.Common.{arith}
use Rattle.std.proofs.lemmas.Grind.{common_steps}
use Rattle.cxx_names.proofs.Looking.{function_more}
use Rattle.cxx_names.proofs.looked.first_function_of.Goals as goal

pub returns-then-is_function_at : goal.returns-then-is_function_at
returns-then-is_function_at c = grind (arith, common_steps, function_more, c.loop-number.invariant, c.is_function_at.ensures)

pub loop-number-preserved : goal.loop-number-preserved
loop-number-preserved c = grind (arith, common_steps, function_more, c.loop-number.invariant, c.is_function_at.ensures)
