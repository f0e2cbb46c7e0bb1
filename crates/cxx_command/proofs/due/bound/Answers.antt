use Rattle.std.proofs.Common.{Bool, cond, subst, sym}
use Rattle.cxx_form.specs.Printed.{IsPrinted}
use Rattle.cxx_model.specs.declared.stop.LimitKind.TheVariants.{Output}
use Rattle.cxx_reading.specs.Units.{CxxReading}
use Rattle.cxx_units.specs.Read.{reading_of}
use Rattle.cxx_command.specs.Again.{read_again}
use Rattle.cxx_command.specs.Answers.{IsUnitAnswer}
use Rattle.cxx_command.specs.Run.{due_again, Names}
use Rattle.cxx_command.proofs.due.bound.Goals as goal

pub returns-in-Ok : goal.returns-in-Ok
returns-in-Ok c =
    let reading : CxxReading = reading_of c.args.options c.args.state in
    let printed : IsPrinted reading c.in-Ok.printed = c.in-Ok.ensures.is c.args.options in
    subst (λ (b : Bool). IsUnitAnswer (cond b (Names Output) (due_again reading (read_again c.args.options reading))) c.read_back.result) (sym printed.within) (c.read_back.ensures reading printed)
