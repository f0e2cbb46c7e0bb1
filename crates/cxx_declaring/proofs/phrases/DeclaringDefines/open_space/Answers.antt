use Rattle.cxx_reading.specs.Spaces.{open_space}
use Rattle.cxx_cursor.specs.Asking.{AnyKnown, itself}
use Rattle.cxx_cursor.specs.Views.{lexeme_at}
use Rattle.cxx_tree.specs.Held.{meaning}
use Rattle.cxx_declaring.proofs.Answering.{asked}
use Rattle.cxx_declaring.proofs.phrases.DeclaringDefines.open_space.Goals as goal

pub returns : goal.returns
returns c = asked itself AnyKnown c.args.state.now c.open_space.new.state c.open_space.result (open_space (lexeme_at c.args.name) (meaning c.args.state.now)) (c.open_space.ensures c.args.name.kind)
