use Rattle.std.proofs.Common.{sym, ◌∙◌}
use Rattle.cxx_called.proofs.Declared.{value_added}
use Rattle.cxx_called.proofs.facts.add_value.Goals as goal

pub returns-in_ok-push-clause-is : goal.returns-in_ok-push-clause-is
returns-in_ok-push-clause-is c = value_added c.args.state.now c.args.values.now c.push.new.self c.args.number _ c.fact_at.ensures.is (sym c.is_value.ensures ∙ c.if-is_value.true) c.in_ok-push.ensures.ok
