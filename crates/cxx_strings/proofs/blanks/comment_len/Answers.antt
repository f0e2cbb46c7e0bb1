use Rattle.std.proofs.Common.{sym, ◌∙◌, refl, arith, false, length}
use Rattle.cxx_model.specs.declared.token.TokenReason.TheVariants as reason
use Rattle.cxx_model.specs.Text.Spelling.{Ill, comment_ending}
use Rattle.cxx_model.proofs.Spellings.{goes_start}
use Rattle.cxx_tokens.proofs.Scans.{comment_more, comment_ends, comment_runs_out}
use Rattle.cxx_strings.proofs.blanks.comment_len.Goals as goal

pub loop-i-init : goal.loop-i-init
loop-i-init c = goes_start (comment_ending false)

pub loop-i-preserved : goal.loop-i-preserved
loop-i-preserved c = comment_more c.args.rest.now c.loop-i.i c.loop-i.star c.is_star-star.result (omega arith) c.loop-i.invariant (sym c.ends_comment.ensures ∙ c.if-ends_comment.false) c.is_star-star.ensures

pub returns-then-ends_comment : goal.returns-then-ends_comment
returns-then-ends_comment c = comment_ends c.args.rest.now c.loop-i.i c.loop-i.star (omega arith) c.loop-i.invariant (sym c.ends_comment.ensures ∙ c.if-ends_comment.true)

pub returns : goal.returns
returns c = record {
  len = length c.args.rest.now;
  spells = Ill reason.UnfinishedComment;
  longest = comment_runs_out c.args.rest.now c.loop-i.i c.loop-i.star (omega arith) c.loop-i.invariant;
  other = refl;
}
