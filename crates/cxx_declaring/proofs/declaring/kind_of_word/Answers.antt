use Rattle.cxx_reading.specs.Declaring.{kind_here}
use Rattle.cxx_cursor.specs.Asking.{AnyKnown, itself}
use Rattle.cxx_tree.specs.Held.{meaning}
use Rattle.cxx_declaring.proofs.Answering.{plain_asked}
use Rattle.cxx_declaring.proofs.declaring.kind_of_word.Goals as goal

pub returns : goal.returns
returns c = plain_asked itself AnyKnown c.args.state.now c.args.state.now c.kind.result (λ path. kind_here path (meaning c.args.state.now)) c.args.ahead.now c.spelling.result.now c.requires c.spelling.ensures c.kind.ensures
