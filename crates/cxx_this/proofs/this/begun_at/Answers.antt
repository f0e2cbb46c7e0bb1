use Rattle.std.proofs.Common.{Some, None, ◌∙◌}
use Rattle.cxx_this.proofs.Begun.{begun_is}
use Rattle.cxx_this.proofs.this.begun_at.Goals as goal

pub returns-in-Some : goal.returns-in-Some
returns-in-Some c = λ types. c.begun_by.ensures types ∙ begun_is types c.args.graph.now.facts c.args.number.0 (Some c.in-Some.fact.now) c.in-Some.ensures

pub returns-in-None : goal.returns-in-None
returns-in-None c = λ types. begun_is types c.args.graph.now.facts c.args.number.0 None c.in-None.ensures
