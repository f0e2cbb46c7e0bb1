use Rattle.std.proofs.Common.{arith}
use Rattle.std.proofs.lemmas.Grind.{common_steps}
use Rattle.cxx_paths.proofs.Places.{place_first, place_more}
use Rattle.cxx_paths.proofs.faults.first_place.Goals as goal

pub returns-in-Some : goal.returns-in-Some
returns-in-Some c = λ types. grind (arith, common_steps, place_first, place_more, c.loop-number.invariant types, c.in-Some.ensures)

pub loop-number-preserved : goal.loop-number-preserved
loop-number-preserved c = λ types. grind (arith, common_steps, place_first, place_more, c.loop-number.invariant types, c.in_default.ensures)
