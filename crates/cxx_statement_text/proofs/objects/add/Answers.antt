use Rattle.cxx_statement_text.proofs.Printing.{one_added}
use Rattle.cxx_statement_text.proofs.objects.add.Goals as goal

pub returns : goal.returns
returns c = one_added c.args.state.now c.args.number c.args.found.now.items c.push.new.self.items c.in_ok-push.ensures.items c.requires
