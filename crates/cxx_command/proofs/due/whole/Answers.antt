use Rattle.std.proofs.Common.{subst, sym}
use Rattle.cxx_units.specs.Read.{reading_of}
use Rattle.cxx_words.specs.declared.job.Mode.{Mode}
use Rattle.cxx_command.specs.Answers.{IsUnitAnswer}
use Rattle.cxx_command.specs.Run.{due_whole}
use Rattle.cxx_command.proofs.due.whole.Goals as goal

pub returns-in-Calls : goal.returns-in-Calls
returns-in-Calls c = subst (λ (m : Mode). IsUnitAnswer (due_whole m c.args.options (reading_of c.args.options c.args.state)) c.listed.result) (sym c.in-Calls.is) (c.listed.ensures c.args.options)
