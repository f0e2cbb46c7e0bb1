use Rattle.std.proofs.Common.{arith}
use Rattle.cxx_statement_text.proofs.Counts.{none, some}
use Rattle.cxx_statement_text.proofs.standing.is_empty.Goals as goal

pub returns-in-empty : goal.returns-in-empty
returns-in-empty c all = none all c.args.numbers.now c.in-empty.len_below

pub returns-in_default : goal.returns-in_default
returns-in_default c all = some all c.args.numbers.now (omega arith)
