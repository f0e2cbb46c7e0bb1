use Rattle.std.proofs.Common.{sym, ◌∙◌, arith, false}
use Rattle.cxx_model.specs.Text.Spelling.{literal_ending}
use Rattle.cxx_model.proofs.Spellings.{goes_start}
use Rattle.cxx_tokens.specs.Pieces.{spelled}
use Rattle.cxx_tokens.proofs.Scans.{literal_more, literal_ends_at, literal_breaks, literal_runs_out}
use Rattle.cxx_tokens.proofs.quotes.literal.Goals as goal

pub loop-i-init : goal.loop-i-init
loop-i-init c = goes_start (literal_ending c.args.quote false)

pub loop-i-preserved : goal.loop-i-preserved
loop-i-preserved c = literal_more c.args.quote c.args.rest.now c.loop-i.i c.loop-i.escaped c.escapes-escaped.result (omega arith) c.loop-i.invariant (sym c.is_newline.ensures ∙ c.if-is_newline.false) (sym c.ends_literal.ensures ∙ c.if-ends_literal.false) c.escapes-escaped.ensures

pub returns-then-is_newline : goal.returns-then-is_newline
returns-then-is_newline c = literal_breaks c.args.wide c.args.quote c.args.rest.now c.loop-i.i c.loop-i.escaped (omega arith) c.loop-i.invariant (sym c.is_newline.ensures ∙ c.if-is_newline.true)

pub returns-then-ends_literal : goal.returns-then-ends_literal
returns-then-ends_literal c = literal_ends_at c.args.wide c.args.quote c.args.rest.now c.loop-i.i c.loop-i.escaped (spelled c.literal_kind.result) c.requires (omega arith) c.loop-i.invariant (sym c.ends_literal.ensures ∙ c.if-ends_literal.true) c.literal_kind.ensures

pub returns : goal.returns
returns c = literal_runs_out c.args.wide c.args.quote c.args.rest.now c.loop-i.i c.loop-i.escaped (omega arith) c.loop-i.invariant
