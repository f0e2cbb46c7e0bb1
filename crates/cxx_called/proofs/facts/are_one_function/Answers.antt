use Rattle.std.proofs.Common.{arith}
use Rattle.std.proofs.lemmas.Grind.{common_steps}
use Rattle.cxx_called.proofs.Declared.{function_more}
use Rattle.cxx_called.proofs.facts.are_one_function.Goals as goal

pub returns-then-not-is_one_of : goal.returns-then-not-is_one_of
returns-then-not-is_one_of c = grind (arith, common_steps, function_more, c.loop-number.invariant, c.is_one_of.ensures)

pub loop-number-preserved : goal.loop-number-preserved
loop-number-preserved c = grind (arith, common_steps, function_more, c.loop-number.invariant, c.is_one_of.ensures)
