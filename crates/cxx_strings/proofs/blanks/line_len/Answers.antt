use Rattle.std.proofs.Common.{sym, ◌∙◌, arith}
use Rattle.cxx_tokens.proofs.Scans.{line_more, line_ends, line_runs_out}
use Rattle.cxx_strings.proofs.blanks.line_len.Goals as goal

pub loop-i-preserved : goal.loop-i-preserved
loop-i-preserved c = line_more c.args.rest.now c.loop-i.i (omega arith) c.loop-i.invariant (sym c.is_newline.ensures ∙ c.if-is_newline.false)

pub returns-then-is_newline : goal.returns-then-is_newline
returns-then-is_newline c = line_ends c.args.rest.now c.loop-i.i (omega arith) c.loop-i.invariant (sym c.is_newline.ensures ∙ c.if-is_newline.true)

pub returns : goal.returns
returns c = line_runs_out c.args.rest.now c.loop-i.i (omega arith) c.loop-i.invariant
