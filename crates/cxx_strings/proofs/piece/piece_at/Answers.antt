use Rattle.std.proofs.Common.{sym, ◌∙◌}
use Rattle.cxx_tokens.proofs.Pieces.{blank_at}
use Rattle.cxx_strings.proofs.Begins.{otherwise}
use Rattle.cxx_strings.proofs.piece.piece_at.Goals as goal

pub returns-then-is_white : goal.returns-then-is_white
returns-then-is_white c = blank_at c.args.fresh c.args.text.now c.requires (sym c.is_white.ensures ∙ c.if-is_white.true)

pub returns-else-first-eq47 : goal.returns-else-first-eq47
returns-else-first-eq47 c = otherwise c.args.fresh c.args.text.now c.requires (sym c.is_white.ensures ∙ c.if-is_white.false) c.if-first-eq34.false (sym c.begins_wide.ensures ∙ c.if-begins_wide.false) c.if-first-eq35.false c.if-first-eq47.false
