use Rattle.std.proofs.Common.{sym, ◌∙◌, arith}
use Rattle.cxx_tokens.proofs.Shorter.{none_longer}
use Rattle.cxx_tokens.proofs.operators.longer_at.Goals as goal

pub returns-else-comes_second : goal.returns-else-comes_second
returns-else-comes_second c = none_longer c.args.text.now c.args.len c.requires (omega arith) (sym c.comes_second.ensures ∙ c.if-comes_second.false)
