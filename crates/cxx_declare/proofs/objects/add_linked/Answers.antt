use Rattle.cxx_declare.proofs.objects.add_linked.Goals as goal

pub returns-in-Ok : goal.returns-in-Ok
returns-in-Ok c = c.link.ensures c.args.state.now _ c.in-Ok.ensures.answered
