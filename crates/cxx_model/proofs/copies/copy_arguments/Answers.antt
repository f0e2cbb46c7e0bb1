use Rattle.std.proofs.Common.{List, take, ◌+◌, sym, subst}
use Rattle.cxx_model.specs.declared.types.Argument.{Argument}
use Rattle.cxx_model.specs.Types.Copies.{CopiesArguments}
use Rattle.cxx_model.proofs.Copied.{copied-next}
use Rattle.cxx_model.proofs.copies.copy_arguments.Goals as goal

pub loop-argument-preserved : goal.loop-argument-preserved
loop-argument-preserved c =
    subst (λ (ys : List Argument). CopiesArguments (take (c.loop-argument.argument-index + 1) c.args.arguments.now) ys) (sym c.in_ok-push.ensures.ok)
    (copied-next c.args.arguments.now c.loop-argument.argument-index c.argument-item.result c.in_ok-copy_argument.field-0 c.loop-argument.copies c.loop-argument-test.true c.argument-item.is c.loop-argument.invariant c.in_ok-copy_argument.ensures)
