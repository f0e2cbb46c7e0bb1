use Rattle.cxx_reading.specs.Declaring.{type_here}
use Rattle.cxx_cursor.specs.Asking.{IsTypeKnown}
use Rattle.cxx_tree.specs.Held.{meaning, type_of}
use Rattle.cxx_declaring.proofs.Answering.{plain_asked}
use Rattle.cxx_declaring.proofs.declaring.type_of_word.Goals as goal

pub returns : goal.returns
returns c = plain_asked type_of IsTypeKnown c.args.state.now c.type_named.new.state c.type_named.result (λ path. type_here path (meaning c.args.state.now)) c.args.ahead.now c.spelling.result.now c.requires c.spelling.ensures c.type_named.ensures
