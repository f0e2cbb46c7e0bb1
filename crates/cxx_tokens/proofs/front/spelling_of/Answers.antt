use Rattle.std.proofs.Common.{sym, ◌∙◌, eqb-true, false}
use Rattle.cxx_tokens.proofs.Pieces.{nothing_spells}
use Rattle.cxx_tokens.proofs.front.spelling_of.Goals as goal

pub returns-then-is_empty : goal.returns-then-is_empty
returns-then-is_empty c = nothing_spells false c.args.text.now (eqb-true _ 0 (sym c.is_empty.ensures ∙ c.if-is_empty.true))
