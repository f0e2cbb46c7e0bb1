use Rattle.std.proofs.Common.{sym, ◌∙◌}
use Rattle.cxx_model.specs.Facts.Declarations.{graph_at}
use Rattle.cxx_declare.proofs.Befriending.{class_goes, class_stops}
use Rattle.cxx_declare.proofs.friends.class_number.Goals as goal

pub returns-then-declares_class-clause-is : goal.returns-then-declares_class-clause-is
returns-then-declares_class-clause-is c = λ types. class_stops (graph_at types c.args.graph.now) c.args.numbers.now c.loop-number.number-index _ _ c.loop-number-test.true (sym (c.declares_class.ensures.is types) ∙ c.if-declares_class.true) (c.loop-number.invariant types)

pub loop-number-preserved : goal.loop-number-preserved
loop-number-preserved c = λ types. class_goes (graph_at types c.args.graph.now) c.args.numbers.now c.loop-number.number-index _ _ c.loop-number-test.true (sym (c.declares_class.ensures.is types) ∙ c.if-declares_class.false) (c.loop-number.invariant types)
