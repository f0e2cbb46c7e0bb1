use Rattle.cxx_tree.specs.Held.{meaning, type_of}
use Rattle.cxx_declare.proofs.Redeclared.{again_goes, again_stops}
use Rattle.cxx_declare.proofs.again.again_among.Goals as goal

pub returns-in-Some-clause-is : goal.returns-in-Some-clause-is
returns-in-Some-clause-is c = again_stops (meaning c.args.state.now).graph c.args.cv (type_of c.args.state.now c.args.of) c.args.numbers.now c.loop-number.number-index _ _ _ c.loop-number-test.true c.in-Some.ensures.is c.loop-number.invariant

pub loop-number-preserved : goal.loop-number-preserved
loop-number-preserved c = again_goes (meaning c.args.state.now).graph c.args.cv (type_of c.args.state.now c.args.of) c.args.numbers.now c.loop-number.number-index _ _ c.loop-number-test.true c.in_default.ensures.is c.loop-number.invariant
