use Rattle.std.proofs.Common.{sym, ◌∙◌}
use Rattle.cxx_tree.specs.Held.{meaning, type_of}
use Rattle.cxx_declare.proofs.Agreeing.{agrees_goes, agrees_stops}
use Rattle.cxx_declare.proofs.outside.any_agrees.Goals as goal

pub returns-then-agrees_at : goal.returns-then-agrees_at
returns-then-agrees_at c = agrees_stops (meaning c.args.state.now).graph (meaning c.args.state.now).here.scope c.args.is_typedef (type_of c.args.state.now c.args.of) c.args.numbers.now c.loop-number.number-index _ _ c.loop-number-test.true (sym c.agrees_at.ensures ∙ c.if-agrees_at.true) c.loop-number.invariant

pub loop-number-preserved : goal.loop-number-preserved
loop-number-preserved c = agrees_goes (meaning c.args.state.now).graph (meaning c.args.state.now).here.scope c.args.is_typedef (type_of c.args.state.now c.args.of) c.args.numbers.now c.loop-number.number-index _ _ c.loop-number-test.true (sym c.agrees_at.ensures ∙ c.if-agrees_at.false) c.loop-number.invariant
