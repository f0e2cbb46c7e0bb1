use Rattle.cxx_reading.specs.Declaring as definition
use Rattle.cxx_cursor.specs.Views.{name_at}
use Rattle.cxx_tree.specs.Answered.{AnyKnown, itself}
use Rattle.cxx_tree.specs.Held.{meaning}
use Rattle.cxx_declaring.proofs.Answering.{named_asked}
use Rattle.cxx_declaring.proofs.declares.DeclaringDeclares.define_declared.Goals as goal

pub returns : goal.returns
returns c = named_asked itself AnyKnown c.args.state.now c.define_declared.new.state c.define_declared.result (λ name. definition.define_declared name c.args.number.0 (meaning c.args.state.now)) (name_at c.args.name.now) c.as_slice.result.now c.as_slice.ensures c.define_declared.ensures
