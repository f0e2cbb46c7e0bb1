use Rattle.std.proofs.Common.{arith}
use Rattle.std.proofs.lemmas.Grind.{common_steps}
use Rattle.cxx_paths.proofs.Places.{class_here, class_more}
use Rattle.cxx_paths.proofs.classes.first_meant.Goals as goal

pub returns-in-Some : goal.returns-in-Some
returns-in-Some c = grind (arith, common_steps, class_here, class_more, c.loop-number.invariant, c.in-Some.ensures, c.class_meant.ensures)

pub loop-number-preserved : goal.loop-number-preserved
loop-number-preserved c = grind (arith, common_steps, class_here, class_more, c.loop-number.invariant, c.in_default.ensures)
