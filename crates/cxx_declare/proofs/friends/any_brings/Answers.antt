use Rattle.std.proofs.Common.{sym, ◌∙◌}
use Rattle.cxx_model.specs.Facts.Declarations.{graph_at}
use Rattle.cxx_declare.proofs.Befriending.{brings_goes, brings_stops}
use Rattle.cxx_declare.proofs.friends.any_brings.Goals as goal

pub returns-then-is_brought : goal.returns-then-is_brought
returns-then-is_brought c = λ types. brings_stops c.args.number.0 (graph_at types c.args.graph.now) c.args.numbers.now c.loop-by.by-index _ _ c.loop-by-test.true (sym (c.is_brought.ensures types) ∙ c.if-is_brought.true) (c.loop-by.invariant types)

pub loop-by-preserved : goal.loop-by-preserved
loop-by-preserved c = λ types. brings_goes c.args.number.0 (graph_at types c.args.graph.now) c.args.numbers.now c.loop-by.by-index _ _ c.loop-by-test.true (sym (c.is_brought.ensures types) ∙ c.if-is_brought.false) (c.loop-by.invariant types)
