use Rattle.std.proofs.Common.{arith}
use Rattle.cxx_expr.proofs.NodeKept.{three_long, three_short}
use Rattle.cxx_expr.proofs.nodes.all_three.Goals as goal

pub returns-in_default-clause-is : goal.returns-in_default-clause-is
returns-in_default-clause-is c = three_short c.args.state.now c.args.numbers.now (omega (arith, c.in_default.len_below))

pub returns-in_default-2-clause-is : goal.returns-in_default-2-clause-is
returns-in_default-2-clause-is c = three_long c.args.state.now c.args.numbers.now (omega (arith, c.in_default.len_at_least))
