use Rattle.cxx_model.specs.Facts.Declarations.{graph_at}
use Rattle.cxx_declare.proofs.Bringing.{space_goes, space_stops}
use Rattle.cxx_declare.proofs.usings.first_space.Goals as goal

pub returns-in-Some : goal.returns-in-Some
returns-in-Some c = λ types. space_stops (graph_at types c.args.graph.now) c.args.numbers.now c.loop-number.number-index _ c.in-Some.place _ c.loop-number-test.true (c.in-Some.ensures types) (c.loop-number.invariant types)

pub loop-number-preserved : goal.loop-number-preserved
loop-number-preserved c = λ types. space_goes (graph_at types c.args.graph.now) c.args.numbers.now c.loop-number.number-index _ _ c.loop-number-test.true (c.in_default.ensures types) (c.loop-number.invariant types)
