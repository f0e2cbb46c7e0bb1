use Rattle.cxx_declare.proofs.Spacing.{scope_still}
use Rattle.cxx_declare.proofs.spaces.add_within.Goals as goal

pub set_scope-requires : goal.set_scope-requires
set_scope-requires c = scope_still c.args.state.now c.add.new.self c.args.fact c.args.inner.0 c.in-Ok.ensures.held c.requires.there
