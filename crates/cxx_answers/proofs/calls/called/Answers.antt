use Rattle.cxx_overload.specs.Choosers.{told_by}
use Rattle.cxx_answers.proofs.Taken.{taken_called, taken_told}
use Rattle.cxx_answers.proofs.calls.called.Goals as goal

pub called_by-requires-clause-told : goal.called_by-requires-clause-told
called_by-requires-clause-told c = taken_told c.args.state.now c.take_chooser.new.self (told_by c.in-Some.chooser) c.take_chooser.ensures.held c.in-Some.ensures.told

pub returns-in-Some : goal.returns-in-Some
returns-in-Some c = λ functions. taken_called c.args.state.now c.take_chooser.new.self c.called_by.new.state c.called_by.result c.args.place c.args.is_bare c.args.word.now functions c.args.all.now c.args.object c.args.operands c.take_chooser.ensures.held (c.called_by.ensures functions)
