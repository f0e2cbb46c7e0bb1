use Rattle.std.proofs.Common.{Bool, List, ℕ, subst}
use Rattle.cxx_tree.specs.Answered.{IsAnswered}
use Rattle.cxx_tree.specs.Held.{meaning}
use Rattle.cxx_tree.specs.Arena.{label_at}
use Rattle.cxx_expr.specs.Calls.{is_bare}
use Rattle.cxx_expr.specs.Views.{IsChosen, chosen_of, question_of}
use Rattle.cxx_called.proofs.calls.asked.Goals as goal

pub returns : goal.returns
returns g c =
    subst (λ (word : List ℕ). IsAnswered chosen_of IsChosen c.args.state.now c.call.new.state c.call.result ((g.Q.Questions.asks c.args.questions.now).call (question_of c.args.state.now c.args.node.now.place (is_bare (label_at c.args.state.now.types c.args.node.now)) word c.args.functions.now c.args.operands) (meaning c.args.state.now))) c.word_in.ensures
    (subst (λ (bare : Bool). IsAnswered chosen_of IsChosen c.args.state.now c.call.new.state c.call.result ((g.Q.Questions.asks c.args.questions.now).call (question_of c.args.state.now c.args.node.now.place bare c.word_in.result.now c.args.functions.now c.args.operands) (meaning c.args.state.now))) c.is_bare.ensures c.call.ensures)
