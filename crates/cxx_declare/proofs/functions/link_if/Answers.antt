use Rattle.std.proofs.Common.{sym, subst}
use Rattle.cxx_declare.specs.Given.{linking_if}
use Rattle.cxx_tree.specs.Answered.{IsAnswered, IsFactKnown, fact_number}
use Rattle.cxx_declare.proofs.functions.link_if.Goals as goal

pub returns-then-linked : goal.returns-then-linked
returns-then-linked c = λ old reply answered. subst (λ b. IsAnswered fact_number IsFactKnown old c.link.new.state c.link.result (linking_if b reply)) (sym c.if-linked.true) (c.link.ensures old reply answered)
