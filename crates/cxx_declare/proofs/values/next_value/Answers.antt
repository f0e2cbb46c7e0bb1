use Rattle.std.specs.Option.{option_copied}
use Rattle.std.proofs.Common.{ap, sym, ◌∙◌}
use Rattle.cxx_declare.proofs.Holding.{last_next, next_if, none_next}
use Rattle.cxx_declare.proofs.values.next_value.Goals as goal

pub returns-in-None : goal.returns-in-None
returns-in-None c = none_next c.args.values.now c.saturating_sub-last.result c.saturating_sub-last.ensures (sym c.value_at.ensures ∙ ap option_copied c.in-None.is)

pub returns-in-Some : goal.returns-in-Some
returns-in-Some c = next_if c.one_more.result _ _ (last_next c.args.values.now c.saturating_sub-last.result c.in-Some.last.now c.saturating_sub-last.ensures (sym c.value_at.ensures ∙ ap option_copied c.in-Some.is)) c.one_more.ensures
