use Rattle.std.proofs.Common.{take}
use Rattle.cxx_model.specs.Types.Copies.{CopiesArguments}
use Rattle.cxx_model.proofs.copies.copy_arguments.Given as goal

abbrev pub invariant-loop-argument : goal.invariant-loop-argument
invariant-loop-argument l = CopiesArguments (take l.argument-index l.arguments) l.copies
