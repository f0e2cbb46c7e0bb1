use Rattle.std.proofs.Common.{sym, subst}
use Rattle.cxx_defined.specs.Defined.{IsOwn}
use Rattle.cxx_declare.proofs.Making.{added_there}
use Rattle.cxx_declare.proofs.objects.add_defined.Goals as goal

pub noted-requires : goal.noted-requires
noted-requires c = subst (λ o. IsOwn o) (sym (added_there c.args.state.now c.add.new.self c.args.fact _ c.in-Ok.number c.in-Ok.ensures.answered c.in-Ok.ensures.held)) c.requires.own
