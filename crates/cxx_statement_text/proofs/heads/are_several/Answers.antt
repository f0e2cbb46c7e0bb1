use Rattle.cxx_statement_text.proofs.Counts.{not_several, several}
use Rattle.cxx_statement_text.proofs.heads.are_several.Goals as goal

pub returns-in_default : goal.returns-in_default
returns-in_default c all = not_several all c.args.numbers.now c.in_default.len_below

pub returns-in-len2-up : goal.returns-in-len2-up
returns-in-len2-up c all = several all c.args.numbers.now c.in-len2-up.len_at_least
