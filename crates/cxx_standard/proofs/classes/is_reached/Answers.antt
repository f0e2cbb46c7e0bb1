use Rattle.cxx_standard.proofs.Reaching.{step_true, step_none, step_false}
use Rattle.std.proofs.Common.{◌∙◌, sym}
use Rattle.cxx_standard.proofs.classes.is_reached.Goals as goal

pub returns-then-parent-base-clause-is : goal.returns-then-parent-base-clause-is
returns-then-parent-base-clause-is c = step_true c.args.types.now c.args.graph.now.facts c.args.base.0 c.args.number c.in-Some.parent (sym c.parent_of.ensures ∙ c.in-Some.is) c.if-parent-base.true

pub returns-in-None-clause-is : goal.returns-in-None-clause-is
returns-in-None-clause-is c = step_none c.args.types.now c.args.graph.now.facts c.args.base.0 c.args.number c.args.waiting.now.keys (sym c.parent_of.ensures ∙ c.in-None.is)

pub returns-in_ok-note_bases-in-Some-clause-is : goal.returns-in_ok-note_bases-in-Some-clause-is
returns-in_ok-note_bases-in-Some-clause-is c = step_false c.args.types.now c.args.graph.now.facts c.args.base.0 c.args.number c.in-Some.parent c.args.waiting.now.keys c.note_bases.new.waiting.keys (sym c.parent_of.ensures ∙ c.in-Some.is) c.if-parent-base.false c.in_ok-note_bases-in-Some.ensures.noted
