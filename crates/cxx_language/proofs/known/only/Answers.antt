use Rattle.std.proofs.Common.{arith}
use Rattle.cxx_expr.proofs.NodeKept.{only_long}
use Rattle.cxx_language.proofs.known.only.Goals as goal

pub returns-in_default-2-clause-is : goal.returns-in_default-2-clause-is
returns-in_default-2-clause-is c = only_long c.args.state.now c.args.numbers.now (omega (arith, c.in_default.len_at_least))
