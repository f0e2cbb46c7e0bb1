use Rattle.std.proofs.Common.{arith}
use Rattle.std.proofs.lemmas.Grind.{common_steps}
use Rattle.cxx_declare.proofs.Clashing.{apart_more}
use Rattle.cxx_declare.proofs.conflict.first_apart.Goals as goal

pub returns-then-is_apart : goal.returns-then-is_apart
returns-then-is_apart c = grind (arith, common_steps, apart_more, c.loop-number.invariant, c.is_apart.ensures)

pub loop-number-preserved : goal.loop-number-preserved
loop-number-preserved c = grind (arith, common_steps, apart_more, c.loop-number.invariant, c.is_apart.ensures)
