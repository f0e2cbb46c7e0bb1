use Rattle.std.proofs.Common.{sym, ◌∙◌}
use Rattle.cxx_tokens.proofs.Pieces.{blank_at}
use Rattle.cxx_tokens.proofs.front.front.Goals as goal

pub returns-then-is_white : goal.returns-then-is_white
returns-then-is_white c = blank_at c.args.fresh c.args.text.now c.requires (sym c.is_white.ensures ∙ c.if-is_white.true)
