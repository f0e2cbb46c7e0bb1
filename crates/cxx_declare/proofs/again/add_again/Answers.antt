use Rattle.std.proofs.Common.{subst}
use Rattle.cxx_reading.specs.Declaring.{added}
use Rattle.cxx_tree.specs.Answered.{IsAnswered, IsFactKnown, fact_number}
use Rattle.cxx_tree.specs.Held.{meaning}
use Rattle.cxx_declare.proofs.again.add_again.Goals as goal

pub returns-in-Ok : goal.returns-in-Ok
returns-in-Ok c = λ kind. subst (λ f. IsAnswered fact_number IsFactKnown c.args.state.now c.add.new.self c.add.result (added f (meaning c.args.state.now))) (c.in-Ok.ensures.is kind) c.add.ensures.answered
