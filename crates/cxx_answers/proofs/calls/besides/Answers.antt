use Rattle.std.proofs.Common.{◌≡◌, Bool, ap, subst, sym, ◌∙◌}
use Rattle.cxx_expr.specs.Calls.{bare_word}
use Rattle.cxx_expr.specs.Views.{numbered, operands_in}
use Rattle.cxx_tree.specs.Held.{meaning}
use Rattle.cxx_answers.specs.Besides.{besides_in}
use Rattle.cxx_answers.proofs.Found.{no_besides}
use Rattle.cxx_answers.proofs.calls.besides.Goals as goal

pub returns-else-is_bare-clause-is : goal.returns-else-is_bare-clause-is
returns-else-is_bare-clause-is c =
    subst (λ (b : Bool). numbered c.args.state.now c.new.result ≡ besides_in (meaning c.args.state.now) (numbered c.args.state.now c.args.functions.now) (bare_word b c.args.word.now) (operands_in c.args.state.now.types c.args.operands.now)) (sym c.if-is_bare.false)
    (ap (numbered c.args.state.now) c.new.ensures ∙ no_besides c.args.state.now (numbered c.args.state.now c.args.functions.now) c.args.word.now (operands_in c.args.state.now.types c.args.operands.now))
