use Rattle.std.proofs.Common.{arith}
use Rattle.std.proofs.lemmas.Grind.{common_steps}
use Rattle.cxx_tree.proofs.Giving.{given_more, below_at, below_step}
use Rattle.cxx_tree.proofs.given.first_given.Goals as goal

pub returns-then-is_given-clause-is : goal.returns-then-is_given-clause-is
returns-then-is_given-clause-is c = λ types trees. grind (arith, common_steps, given_more, c.loop-one.invariant.0 types trees, c.is_given.ensures types trees)

pub returns-then-is_given-clause-below : goal.returns-then-is_given-clause-below
returns-then-is_given-clause-below c = λ count all. below_at count c.loop-one.one-index c.args.all.now _ (omega (arith, c.loop-one-test.true)) (c.loop-one.invariant.1 count all)

pub loop-one-preserved : goal.loop-one-preserved
loop-one-preserved c = (λ types trees. grind (arith, common_steps, given_more, c.loop-one.invariant.0 types trees, c.is_given.ensures types trees), λ count all. below_step count c.loop-one.one-index c.args.all.now (c.loop-one.invariant.1 count all))
