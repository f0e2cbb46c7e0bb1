use Rattle.cxx_tokens.specs.Pieces.{spelled}
use Rattle.std.proofs.Common.{arith}
use Rattle.cxx_tokens.proofs.Pieces.{line_comment_at, comment_at}
use Rattle.cxx_tokens.proofs.front.slash.Goals as goal

pub returns-in-47 : goal.returns-in-47
returns-in-47 c = line_comment_at c.args.fresh c.args.text.now c.line_len.result c.requires.first (omega arith) (omega arith) c.line_len.ensures

pub returns-in-42 : goal.returns-in-42
returns-in-42 c = comment_at c.args.fresh c.args.text.now c.comment-found.result.len (spelled c.comment-found.result.spells) c.requires.first (omega arith) (omega arith) c.comment-found.ensures
