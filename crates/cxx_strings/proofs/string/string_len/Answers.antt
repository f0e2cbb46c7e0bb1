use Rattle.std.proofs.Common.{sym, ◌∙◌, arith, false}
use Rattle.cxx_model.specs.Text.Spelling.{literal_ending}
use Rattle.cxx_model.proofs.Spellings.{goes_start}
use Rattle.cxx_tokens.proofs.Scans.{literal_more}
use Rattle.cxx_strings.proofs.Closing.{closes, breaks, runs_out}
use Rattle.cxx_strings.proofs.string.string_len.Goals as goal

pub loop-i-init : goal.loop-i-init
loop-i-init c = goes_start (literal_ending 34 false)

pub loop-i-preserved : goal.loop-i-preserved
loop-i-preserved c = literal_more 34 c.args.rest.now c.loop-i.i c.loop-i.escaped c.escapes-escaped.result (omega arith) c.loop-i.invariant (sym c.is_newline.ensures ∙ c.if-is_newline.false) (sym c.ends_string.ensures ∙ c.if-ends_string.false) c.escapes-escaped.ensures

pub returns-then-is_newline : goal.returns-then-is_newline
returns-then-is_newline c = breaks c.args.wide c.args.rest.now c.loop-i.i c.loop-i.escaped (omega arith) c.loop-i.invariant (sym c.is_newline.ensures ∙ c.if-is_newline.true)

pub returns-then-ends_string : goal.returns-then-ends_string
returns-then-ends_string c = closes c.args.wide c.args.rest.now c.loop-i.i c.loop-i.escaped c.closed_len.result (omega arith) c.loop-i.invariant (sym c.ends_string.ensures ∙ c.if-ends_string.true) c.closed_len.ensures

pub returns : goal.returns
returns c = runs_out c.args.wide c.args.rest.now c.loop-i.i c.loop-i.escaped (omega arith) c.loop-i.invariant
