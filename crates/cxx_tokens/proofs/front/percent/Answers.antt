use Rattle.std.proofs.Common.{arith}
use Rattle.cxx_tokens.proofs.Pieces.{directive_at}
use Rattle.cxx_tokens.proofs.front.percent.Goals as goal

pub returns-in-58 : goal.returns-in-58
returns-in-58 c = directive_at c.args.fresh c.args.text.now c.requires (omega arith) (omega arith)
