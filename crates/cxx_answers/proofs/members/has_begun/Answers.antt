use Rattle.std.proofs.Common.{arith}
use Rattle.cxx_answers.proofs.Begun.{begun, not_begun}
use Rattle.cxx_answers.proofs.members.has_begun.Goals as goal

pub returns-in-empty : goal.returns-in-empty
returns-in-empty c = λ types. not_begun types c.args.class c.args.graph.now.facts c.scopes_of_class.result.now c.scopes_of_class.ensures c.in-empty.len_below

pub returns-in_default : goal.returns-in_default
returns-in_default c = λ types. begun types c.args.class c.args.graph.now.facts c.scopes_of_class.result.now c.scopes_of_class.ensures (omega (arith, c.in_default.len_at_least))
