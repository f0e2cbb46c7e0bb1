use Rattle.cxx_reading.specs.Spaces.{declare_alias}
use Rattle.cxx_cursor.specs.Asking.{AnyKnown, itself}
use Rattle.cxx_cursor.specs.Views.{lexeme_at}
use Rattle.cxx_tree.specs.Held.{meaning}
use Rattle.cxx_declaring.proofs.Answering.{asked}
use Rattle.cxx_declaring.proofs.declares.DeclaringDeclares.declare_alias.Goals as goal

pub returns : goal.returns
returns c = asked itself AnyKnown c.args.state.now c.declare_alias.new.state c.declare_alias.result (declare_alias (lexeme_at c.args.name) c.args.inner.0 (meaning c.args.state.now)) (c.declare_alias.ensures c.args.name.kind)
