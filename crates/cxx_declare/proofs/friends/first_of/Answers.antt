use Rattle.std.proofs.Common.{sym, ◌∙◌}
use Rattle.cxx_model.specs.Facts.Declarations.{graph_at}
use Rattle.cxx_declare.proofs.Befriending.{first_goes, first_stops}
use Rattle.cxx_declare.proofs.friends.first_of.Goals as goal

pub returns-then-is_there-clause-is : goal.returns-then-is_there-clause-is
returns-then-is_there-clause-is c = λ types. first_stops (graph_at types c.args.graph.now) c.args.numbers.now c.loop-number.number-index _ _ c.loop-number-test.true (sym (c.is_there.ensures.is types) ∙ c.if-is_there.true) (c.loop-number.invariant types)

pub loop-number-preserved : goal.loop-number-preserved
loop-number-preserved c = λ types. first_goes (graph_at types c.args.graph.now) c.args.numbers.now c.loop-number.number-index _ _ c.loop-number-test.true (sym (c.is_there.ensures.is types) ∙ c.if-is_there.false) (c.loop-number.invariant types)
