use Rattle.std.proofs.Common.{arith}
use Rattle.std.proofs.lemmas.Bool.Decides.{nat_tests}
use Rattle.cxx_tokens.proofs.Pieces.{line_comment_at}
use Rattle.cxx_strings.proofs.Begins.{plain_slash}
use Rattle.cxx_strings.proofs.piece.slash.Goals as goal

pub returns-in-47 : goal.returns-in-47
returns-in-47 c = line_comment_at c.args.fresh c.args.text.now c.line_len.result c.requires (omega arith) (omega arith) c.line_len.ensures

pub returns-in_default : goal.returns-in_default
returns-in_default c = plain_slash c.args.fresh c.args.text.now c.requires (λ long. absurd (omega arith))

pub returns-in_default-2 : goal.returns-in_default-2
returns-in_default-2 c = plain_slash c.args.fresh c.args.text.now c.requires (λ long. grind (arith, nat_tests))
