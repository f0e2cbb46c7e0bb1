use Rattle.cxx_command.proofs.Showing.{unread_bad}
use Rattle.cxx_command.proofs.unit.unread.Goals as goal

pub returns-in-Bad : goal.returns-in-Bad
returns-in-Bad c options bytes found is = unread_bad options bytes c.args.fault found c.in-Bad.place c.in-Bad.reason c.bad.result c.in-Bad.is is (c.bad.ensures options)
